-- A joint event by its stages: what the state says between them, and that the step from the state met is the event's.
use Prim.Native.Nat.{ℕ, ◌≤◌}
use mathlib.Core.Path.{◌≡◌, refl, sym, ap, subst, ◌∙◌}
use mathlib.Core.Bool.{Bool}
use mathlib.Core.List.{List, [], ◌++◌, map, append_assoc}
use mathlib.Core.Option.{some}
use native.Mathlib.Omega.{arith}
use lib.ListN.{length, drop, length-append}
use lib.Seq.{drop-length}
use Rattle.base.specs.Bytes.{joined, over}
use Rattle.base.proofs.ListLaws.{drop_same}
use Rattle.base.proofs.Prefixes.{drop_beginning, begins_gained}
use Rattle.format.specs.Types.{Action, Record, says}
use Rattle.format.specs.Read.{read}
use Rattle.format.specs.Write.{write}
use Rattle.replication.specs.Machine.Types.{Server, Outcome, refused, taken, with_white, context_of}
use Rattle.replication.specs.Machine.Rules.{Rule, rule_for}
use Rattle.replication.specs.Machine.White.{took_white, white_after}
use Rattle.replication.specs.Machine.Step.{greened, step}
use Rattle.replication.proofs.Step.Growth.{green_gained}
use Rattle.replication.proofs.WellFormed.Facts.{well_formed_facts}
use Rattle.replication.proofs.WellFormed.Places.{took_low}
use Rattle.image.specs.Image.{image}
use Rattle.image.specs.Decode.{blanks, greens_in, white_in}
use Rattle.image.specs.Holding.{Holds, blanked}
use Rattle.image.specs.Outcome.{Result, refusal, result_of, word, image_after, state_number}
use Rattle.image.proofs.Blanks.{behind_blanks, blanked_length}
use Rattle.image.proofs.Refusals.{number_read, whole_read, holds_whole}
use Rattle.image.specs.Layout.{out_length}
use Rattle.daemons.proofs.Keeping.{holds_long}
use Rattle.queue.specs.Queue.{QueueIn}
use Rattle.queue.proofs.ReadLaws.{holds_queue}
use Rattle.step.specs.Stages.{unraised, is_taken, core_images, unraised_step}
use Rattle.step.specs.Meeting.{met}
use Rattle.step.proofs.StageEnds.{Stage, stage}
use Rattle.step.proofs.RaiseLaws.{core_holds, result_told}
use Rattle.step.proofs.MetLaws.{met_step, met_images, met_holds, met_grows, met_kept, met_rule, met_refused}
use Rattle.register_step.proofs.MetCarry.{held_greens, held_white}

-- What an outcome names as newly green.
unfoldable pub greens_of : Outcome (List ℕ) → List Action
greens_of (refused k) = []
greens_of (taken t rs w g) = g

-- Behind blank actions.
behind_some : (w m : ℕ) (l : List Action) → w ≤ m → drop m (blanks w ++ drop w l) ≡ drop m l
behind_some w m l h = drop_same w m (blanks w ++ drop w l) l h (behind_blanks w (drop w l))

-- The buffer d shows the actions g behind the first m of its history, none of them white.
pub record Shows (d : List ℕ) (m : ℕ) (g : List Action) : Type 0 where
  pub queue : QueueIn d
  pub low : white_in d ≤ m
  pub inside : m ≤ length (greens_in d)
  pub gained : drop m (greens_in d) ≡ g

module _ (s : Server) (e b : List ℕ) (held : Holds s b) where
  abbrev m : Server
  m = met s e

  -- ---- from the state met

  module _ (b₁ : List ℕ) (is : b₁ ≡ image (met s e) b) where
    pub there : Holds (met s e) b₁
    there = met_holds s e held.formed b b₁ held is

    pub there_number : (o : List ℕ) → out_length s.servers s.quota ≤ length o → state_number b₁ o ≡ 0
    there_number o room =
        let kept = met_kept s e held.formed in
        let long : out_length m.servers m.quota ≤ length o
        = subst (λ (k : ℕ). k ≤ length o) (λ i. out_length (sym kept.0 i) (sym kept.1 i)) room in
        number_read b₁ o (holds_long m b₁ there o long) (whole_read b₁ (holds_whole m b₁ there)).1

    -- ---- after the first stage

    unchanged : Shows b₁ (length m.log.green) []
    unchanged =
        let greens = held_greens m b₁ there in
        record {
          queue = holds_queue m b₁ there;
          low = omega (arith, held_white m b₁ there, (well_formed_facts m there.formed).white);
          inside = omega (arith, ap length greens);
          gained = ap (drop (length m.log.green)) greens ∙ drop-length m.log.green;
        }

    module _ (k : Rule) (r : Record) (core : Server) (rs : List Record) (z : Bool) (g : List Action) (f : read (context_of m) e ≡ says r)
        (rule : rule_for m.membership.mode r ≡ some k) (u : unraised m r ≡ taken core rs z g)
        (h : step m e ≡ taken (with_white (white_after k m core) core) (map write rs) z g) where
      abbrev w : ℕ
      w = took_white k m

      -- Nothing that it turned green is white.
      took_below : w ≤ length m.log.green
      unfolding is_taken
      took_below =
          subst (λ l. w ≤ length l.green) (met_rule s e held.formed r k f rule (ap is_taken u)) (took_low k m (well_formed_facts m there.formed).white)

      grown : core.log.green ≡ m.log.green ++ g
      grown = green_gained m e (with_white (white_after k m core) core) (map write rs) z g h

      changed : (d : List ℕ) → d ≡ core_images k m core b₁ → Shows d (length m.log.green) g
      unfolding blanked
      changed d q =
          let v : Server = with_white w core in
          let here : Holds (blanked v) d = subst (Holds (blanked v)) (sym q) (core_holds m e b₁ there k r core rs z g f rule u h) in
          let greens : greens_in d ≡ blanks w ++ drop w core.log.green = held_greens (blanked v) d here in
          let long = ap length grown ∙ length-append m.log.green g in
          let below = took_below in
          record {
            queue = holds_queue (blanked v) d here;
            low = omega (arith, held_white (blanked v) d here, below);
            inside = omega (arith, ap length (held_greens (blanked v) d here), blanked_length v (omega (arith, long, below)), long);
            gained =
                ap (drop (length m.log.green)) greens
                ∙ behind_some w (length m.log.green) core.log.green below
                ∙ ap (drop (length m.log.green)) grown
                ∙ drop_beginning m.log.green g;
          }

    pub first_shows : (o : List ℕ) → Shows (unraised_step m e b₁ o).state (length m.log.green) (greens_of (step m e))
    unfolding refusal greens_of
    first_shows o = go (stage m e)
      where
        go : Stage m e → Shows (unraised_step m e b₁ o).state (length m.log.green) (greens_of (step m e))
        go (Stage.refuses j f n h) =
            subst (λ (x : Outcome (List ℕ)). Shows (unraised_step m e b₁ o).state (length m.log.green) (greens_of x)) (sym h)
            (subst (λ (x : Result). Shows x.state (length m.log.green) []) (sym (f b₁ o)) unchanged)
        go (Stage.takes k r core rs z g f rule u h) =
            subst (λ (x : Outcome (List ℕ)). Shows (unraised_step m e b₁ o).state (length m.log.green) (greens_of x)) (sym h)
            (changed k r core rs z g f rule u h (unraised_step m e b₁ o).state
            (ap (λ (x : Result). x.state) (result_told m e b₁ there k r core rs z g f rule u h o)))

    -- A refusal comes in the first stage.
    pub first_refuses : (o : List ℕ) → ((unraised_step m e b₁ o).number ≡ 0 → ⊥)
        → (j : ℕ) × (unraised_step m e b₁ o ≡ refusal j b₁ o) × (step m e ≡ refused j)
    first_refuses o n = go (stage m e)
      where
        go : Stage m e → (j : ℕ) × (unraised_step m e b₁ o ≡ refusal j b₁ o) × (step m e ≡ refused j)
        go (Stage.refuses j f r h) = (j, f b₁ o, h)
        go (Stage.takes k r core rs z g f rule u h) =
            absurd (n (ap (λ (x : Result). x.number) (result_told m e b₁ there k r core rs z g f rule u h o)))

    -- ---- the whole event

    pub same_step : (o : List ℕ) → result_of (image_after m e) (step m e) b₁ o ≡ result_of (image_after s e) (step s e) b o
    unfolding result_of refusal
    same_step o = go (step s e) refl
      where
        go : (x : Outcome (List ℕ)) → step s e ≡ x → result_of (image_after m e) (step m e) b₁ o ≡ result_of (image_after s e) x b o
        go (refused k) h =
            let q = met_refused s e k h in
            let back : b₁ ≡ b = is ∙ ap (λ (t : Server). image t b) q ∙ held.written in
            (λ i. result_of (image_after (q i) e) (step (q i) e) (back i) o) ∙ ap (λ (x : Outcome (List ℕ)). result_of (image_after s e) x b o) h
        go (taken t rs w g) h =
            let images : image_after m e t b₁ ≡ image_after s e t b = ap (image_after m e t) is ∙ met_images s e held.formed t b held in
            ap (λ (x : Outcome (List ℕ)). result_of (image_after m e) x b₁ o) (met_step s e held.formed t rs w g h)
            ∙ ap (λ (c : List ℕ). record { number = 0; store = word w; sent = length (joined rs); state = c; out = over (joined rs) o }) images

  -- What it turns green: first what the state met has, then the rest.
  pub greens_split : greens_of (step s e) ≡ greened s (met s e) ++ greens_of (step (met s e) e)
  unfolding greens_of greened
  greens_split = go (step s e) refl
    where
      go : (x : Outcome (List ℕ)) → step s e ≡ x → greens_of x ≡ greened s m ++ greens_of (step m e)
      go (refused k) h =
          let q = met_refused s e k h in
          sym
          ((λ i. drop (length s.log.green) (q i).log.green ++ greens_of (step (q i) e))
          ∙ (λ i. drop-length s.log.green i ++ greens_of (h i)))
      go (taken t rs w g) h =
          let x : List Action = s.log.green in
          let g₁ : List Action = greened s m in
          let g₂ : List Action = drop (length m.log.green) t.log.green in
          let next = met_step s e held.formed t rs w g h in
          let first : m.log.green ≡ x ++ g₁ = begins_gained x m.log.green (met_grows s e held.formed) in
          let all : t.log.green ≡ x ++ (g₁ ++ g₂)
          = green_gained m e t rs w g₂ next ∙ ap (λ (l : List Action). l ++ g₂) first ∙ append_assoc x g₁ g₂ in
          sym (drop_beginning x g)
          ∙ ap (drop (length x)) (sym (green_gained s e t rs w g h) ∙ all)
          ∙ drop_beginning x (g₁ ++ g₂)
          ∙ ap (λ (o : Outcome (List ℕ)). g₁ ++ greens_of o) (sym next)

  -- Where nothing is taken, nothing is met.
  pub refused_unmet : (j : ℕ) → step (met s e) e ≡ refused j → (met s e ≡ s) × (step s e ≡ refused j)
  refused_unmet j h = go (step s e) refl
    where
      go : (x : Outcome (List ℕ)) → step s e ≡ x → (m ≡ s) × (step s e ≡ refused j)
      go (refused k) f = let q = met_refused s e k f in (q, ap (λ (t : Server). step t e) (sym q) ∙ h)
      go (taken t rs w g) f = absurd (never (sym h ∙ met_step s e held.formed t rs w g f))
        where
          kind : Outcome (List ℕ) → Type 0
          kind (refused i) = Unit {0}
          kind (taken a c d l) = ⊥

          never : {t : Server} {rs : List (List ℕ)} {w : Bool} {g : List Action} → ◌≡◌ {A = Outcome (List ℕ)} (refused j) (taken t rs w g) → ⊥
          never q = subst kind q tt
