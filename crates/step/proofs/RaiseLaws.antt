-- The raise behind the first stage makes it the machine's step.
use Prim.Native.Nat.{ℕ, ◌≤◌, max, min}
use mathlib.Core.Path.{◌≡◌, refl, sym, ap, subst, ◌∙◌}
use mathlib.Core.Bool.{Bool, true, false, not}
use mathlib.Core.List.{List, map}
use mathlib.Core.Option.{Option, some, some-injective}
use native.Mathlib.Omega.{arith}
use lib.ListN.{length}
use Rattle.base.specs.Bytes.{joined, over}
use Rattle.base.specs.Tests.{◌and◌, pick}
use Rattle.base.proofs.TestLaws.{Known, holds, fails, known, not_both, pick_yes, pick_no}
use Rattle.format.specs.Types.{Action, Record, Reading, says}
use Rattle.format.specs.Read.{read}
use Rattle.format.proofs.Reading.{says_same}
use Rattle.format.specs.Write.{write}
use Rattle.replication.specs.Machine.Types.{Server, Outcome, taken, context_of, with_log, with_white}
use Rattle.replication.specs.Machine.Rules.{Rule, ignoring, reddening, greening, yellowing, late_installing, exchanging, collecting_state, collecting_cpc, collecting_late_cpc, joining, joining_unmarked, joining_yellow, leaving, requesting, recovering}
use Rattle.replication.specs.Machine.Rules.{rule_for, is_ignored}
use Rattle.replication.specs.Machine.Step.{in_bytes, step}
use Rattle.replication.specs.Machine.White.{least, entrant, met_log, taken_from, is_recovering, took_white, white_after}
use Rattle.replication.specs.Machine.WellFormed.{well_formed}
use Rattle.replication.specs.Laws.Transitions.{TakenBy}
use Rattle.replication.proofs.Step.Identity.{taken_identity}
use Rattle.replication.proofs.Step.Inversion.{taken_by}
use Rattle.replication.proofs.WellFormed.Facts.{well_formed_facts}
use Rattle.replication.proofs.WellFormed.Stages.{met_formed, took_formed, core_formed}
use Rattle.image.specs.Image.{image}
use Rattle.image.specs.Layout.{state_length}
use Rattle.image.specs.Holding.{Holds, HoldsSome, blanked}
use Rattle.image.specs.Decode.{decoded}
use Rattle.image.specs.Outcome.{Result, refusal, result_of, word, images_by, images_on, image_after, state_number, step_on}
use Rattle.image.proofs.Refusals.{zero_read, zero_ready, step_read}
use Rattle.image.proofs.Blanks.{image_blanked, blanked_length}
use Rattle.image.proofs.ImageLaws.{image_length}
use Rattle.image.proofs.InPlace.{holds_some}
use Rattle.image.proofs.Raising.{raised_image}
use Rattle.image.proofs.Taken.{image_held}
use Rattle.updates.specs.White.{whitened}
use Rattle.step.specs.declared.Answer.{Answer}
use Rattle.step.specs.Answers.{answered}
use Rattle.step.specs.Stages.{unraised, core_images, images_before, unraised_on, unraised_by, unraised_step, is_taken, ignored_by, raises_by, raises}
use Rattle.step.proofs.StageEnds.{Stage, stage}

-- ---- an event that is taken

-- What is ignored takes no white length.
ignored_took : (k : Rule) (s : Server) → is_ignored k ≡ true → took_white k s ≡ s.white
unfolding is_ignored took_white is_recovering entrant taken_from pick
ignored_took ignoring s e = refl
ignored_took (reddening a) s e = not_both e
ignored_took (greening a) s e = not_both e
ignored_took (yellowing a) s e = not_both e
ignored_took (late_installing a) s e = not_both e
ignored_took (exchanging p a) s e = not_both e
ignored_took (collecting_state x) s e = not_both e
ignored_took (collecting_cpc k) s e = not_both e
ignored_took (collecting_late_cpc k) s e = not_both e
ignored_took (joining c) s e = not_both e
ignored_took (joining_unmarked c) s e = not_both e
ignored_took (joining_yellow c) s e = not_both e
ignored_took (leaving m t) s e = not_both e
ignored_took (requesting p) s e = not_both e
ignored_took recovering s e = not_both e

module _ (s : Server) (e b : List ℕ) (held : Holds s b) (k : Rule) (r : Record) (core : Server) (rs : List Record) (z : Bool) (g : List Action)
    (f : read (context_of s) e ≡ says r) (rule : rule_for s.membership.mode r ≡ some k) (u : unraised s r ≡ taken core rs z g)
    (h : step s e ≡ taken (with_white (white_after k s core) core) (map write rs) z g) where
  abbrev t : Server
  t = with_white (white_after k s core) core

  abbrev w : ℕ
  w = took_white k s

  by : TakenBy s e t (map write rs) z g
  by = taken_by s e t (map write rs) z g h

  same_rule : by.rule ≡ k
  same_rule =
      let event : by.event ≡ r = says_same by.event r (sym by.reads ∙ f) in
      some-injective by.rule k (sym by.ruled ∙ ap (rule_for s.membership.mode) event ∙ rule)

  core_well : well_formed (with_white w core) ≡ true
  core_well = subst (λ (j : Rule). well_formed (with_white (took_white j s) t) ≡ true) same_rule (core_formed s e t (map write rs) z g held.formed by)

  room : state_length core.servers core.quota ≤ length b
  room =
      let same = taken_identity s e t (map write rs) z g h in
      subst (λ (n : ℕ). n ≤ length b) (λ i. state_length (sym same.servers i) (sym same.quota i)) held.long

  -- The bytes that the core's image is put over are as many.
  under_length : length (image (with_white w (with_log (met_log k s) s)) (image (with_log (met_log k s) s) b)) ≡ length b
  under_length =
      let one = image_length (with_log (met_log k s) s) b (met_formed s held.formed k) held.long in
      let long = held.long in
      image_length (with_white w (with_log (met_log k s) s)) (image (with_log (met_log k s) s) b) (took_formed s held.formed k) (omega arith) ∙ one

  pub core_holds : Holds (blanked (with_white w core)) (core_images k s core b)
  unfolding core_images
  core_holds = image_held (with_white w core) _ core_well (omega (arith, under_length, room))

  raises_told : raises s e ≡ not (is_ignored k)
  unfolding raises raises_by is_taken ignored_by ◌and◌ not
  raises_told = ap (raises_by s) f ∙ (λ i. not (ignored_by (rule i)) and is_taken (u i)) ∙ kept (is_ignored k)
    where
      kept : (x : Bool) → (not x and true) ≡ not x
      kept true = refl
      kept false = refl

  images_told : image_after s e t b ≡ image t (core_images k s core b)
  unfolding image_after images_on images_by core_images
  images_told = ap (λ (x : Reading Record). images_on s x t b) f ∙ ap (λ (x : Option Rule). images_by x s t b) rule

  pub result_told : (o : List ℕ) → unraised_step s e b o
      ≡ record { number = 0; store = word z; sent = length (joined (map write rs)); state = core_images k s core b; out = over (joined (map write rs)) o }
  unfolding unraised_step unraised_by unraised_on result_of in_bytes images_before
  result_told o =
      ap (λ (x : Reading Record). unraised_by s x b o) f
      ∙ (λ i. result_of (images_before (rule i) s) (in_bytes (u i)) b o)

  -- ---- the raise

  ignored_after : is_ignored k ≡ true → s.white ≡ white_after k s core
  unfolding white_after
  ignored_after i = pick_yes (is_ignored k) s.white _ _ i refl

  heard_after : is_ignored k ≡ false → max w (min (length core.log.green) (least core.noted)) ≡ white_after k s core
  unfolding white_after
  heard_after i = pick_no (is_ignored k) (max w (min (length core.log.green) (least core.noted))) _ _ i refl

  whitened_image : image (whitened (blanked (with_white w core))) (core_images k s core b)
      ≡ image (with_white (max w (min (length core.log.green) (least core.noted))) core) (core_images k s core b)
  unfolding whitened blanked
  whitened_image =
      ap (λ (n : ℕ). image (with_white (max w (min n (least core.noted))) (blanked (with_white w core))) (core_images k s core b))
      (blanked_length (with_white w core) (well_formed_facts (with_white w core) core_well).white)
      ∙ raised_image (max w (min (length core.log.green) (least core.noted))) (with_white w core) (core_images k s core b) (omega arith)

  pub core_raised : (c : List ℕ)
      → c ≡ image (pick (raises s e) (whitened (blanked (with_white w core))) (blanked (with_white w core))) (core_images k s core b)
      → c ≡ image_after s e t b
  core_raised c l = l ∙ go (known (is_ignored k)) ∙ sym images_told
    where
      go : Known (is_ignored k)
          → image (pick (raises s e) (whitened (blanked (with_white w core))) (blanked (with_white w core))) (core_images k s core b)
          ≡ image t (core_images k s core b)
      go (holds i) =
          ap (λ (y : Server). image y (core_images k s core b))
          (sym (pick_no (raises s e) (blanked (with_white w core)) (whitened (blanked (with_white w core))) _ (raises_told ∙ ap not i) refl))
          ∙ image_blanked (with_white w core) (core_images k s core b)
          ∙ ap (λ (n : ℕ). image (with_white n core) (core_images k s core b)) (ignored_took k s i ∙ ignored_after i)
      go (fails i) =
          ap (λ (y : Server). image y (core_images k s core b))
          (sym (pick_yes (raises s e) (whitened (blanked (with_white w core))) _ (blanked (with_white w core)) (raises_told ∙ ap not i) refl))
          ∙ whitened_image
          ∙ ap (λ (n : ℕ). image (with_white n core) (core_images k s core b)) (heard_after i)

-- ---- both stages

-- The result x with the state c.
abbrev pub with_state : List ℕ → Result → Result
with_state c x = record { number = x.number; store = x.store; sent = x.sent; state = c; out = x.out }

module _ (s : Server) (e b o : List ℕ) (held : Holds s b) where
  pub stage_some : HoldsSome (unraised_step s e b o).state
  unfolding refusal
  stage_some = go (stage s e)
    where
      go : Stage s e → HoldsSome (unraised_step s e b o).state
      go (Stage.refuses j f n h) = subst (λ (x : Result). HoldsSome x.state) (sym (f b o)) (holds_some s b held)
      go (Stage.takes k r core rs z g f rule u h) =
          subst (λ (x : Result). HoldsSome x.state) (sym (result_told s e b held k r core rs z g f rule u h o))
          (holds_some (blanked (with_white (took_white k s) core)) (core_images k s core b) (core_holds s e b held k r core rs z g f rule u h))

  -- A refusal leaves the state, and no raise follows.
  stays : (j : ℕ) (c : List ℕ) → ((b o : List ℕ) → unraised_step s e b o ≡ refusal j b o) → raises s e ≡ false
      → ((t : Server) → Holds t (unraised_step s e b o).state → c ≡ image (pick (raises s e) (whitened t) t) (unraised_step s e b o).state) → c ≡ b
  unfolding refusal pick
  stays j c f n l =
      let same : (unraised_step s e b o).state ≡ b = ap (λ (x : Result). x.state) (f b o) in
      l s (subst (Holds s) (sym same) held) ∙ (λ i. image (pick (n i) (whitened s) s) (same i)) ∙ held.written

  pub stage_raised : (c : List ℕ)
      → ((t : Server) → Holds t (unraised_step s e b o).state → c ≡ image (pick (raises s e) (whitened t) t) (unraised_step s e b o).state)
      → with_state c (unraised_step s e b o) ≡ result_of (image_after s e) (step s e) b o
  unfolding refusal result_of pick
  stage_raised c l = go (stage s e)
    where
      go : Stage s e → with_state c (unraised_step s e b o) ≡ result_of (image_after s e) (step s e) b o
      go (Stage.refuses j f n h) =
          ap (with_state c) (f b o)
          ∙ ap (λ (d : List ℕ). refusal j d o) (stays j c f n l)
          ∙ ap (λ (x : Outcome (List ℕ)). result_of (image_after s e) x b o) (sym h)
      go (Stage.takes k r core rs z g f rule u h) =
          let told = result_told s e b held k r core rs z g f rule u h o in
          let v : Server = blanked (with_white (took_white k s) core) in
          let there : Holds v (unraised_step s e b o).state
          = subst (λ (x : Result). Holds v x.state) (sym told) (core_holds s e b held k r core rs z g f rule u h) in
          let made : c ≡ image_after s e (with_white (white_after k s core) core) b
          = core_raised s e b held k r core rs z g f rule u h c (l v there ∙ ap (λ (x : Result). image (pick (raises s e) (whitened v) v) x.state) told) in
          ap (with_state c) told
          ∙ ap (λ (d : List ℕ). record { number = 0; store = word z; sent = length (joined (map write rs)); state = d; out = over (joined (map write rs)) o }) made
          ∙ ap (λ (x : Outcome (List ℕ)). result_of (image_after s e) x b o) (sym h)

-- ---- as the code makes them

pub raise_due : (x : Bool) (b c : List ℕ) → x ≡ true → ((s : Server) → Holds s b → c ≡ image (whitened s) b)
    → (s : Server) → Holds s b → c ≡ image (pick x (whitened s) s) b
unfolding pick
raise_due x b c e f s r = rw e (f s r)

pub raise_none : (x : Bool) (b : List ℕ) → x ≡ false → (s : Server) → Holds s b → b ≡ image (pick x (whitened s) s) b
unfolding pick
raise_none x b e s r = rw e (sym r.written)

module _ (b e o : List ℕ) (zero : state_number b o ≡ 0) (a : Answer) (g : Bool) (b₁ o₁ : List ℕ)
    (y : (s : Server) → Holds s b → (answered a b₁ o₁ ≡ unraised_step s e b o) × (g ≡ raises s e)) where
  abbrev s : Server
  s = decoded b

  holds_here : Holds s b
  holds_here = (zero_ready b o zero).image

  state_there : b₁ ≡ (unraised_step s e b o).state
  unfolding answered
  state_there = ap (λ (x : Result). x.state) (y s holds_here).0

  pub raise_ready : HoldsSome b₁
  raise_ready = subst HoldsSome (sym state_there) (stage_some s e b o holds_here)

  pub step_raised : (b₂ : List ℕ) → ((t : Server) → Holds t b₁ → b₂ ≡ image (pick g (whitened t) t) b₁) → answered a b₂ o₁ ≡ step_on b e o
  unfolding answered
  step_raised b₂ l =
      let due : g ≡ raises s e = (y s holds_here).1 in
      ap (with_state b₂) (y s holds_here).0
      ∙ stage_raised s e b o holds_here b₂
      (λ t i. l t (subst (Holds t) (sym state_there) i) ∙ (λ j. image (pick (due j) (whitened t) t) (state_there j)))
      ∙ sym (step_read b e o s (zero_read b o zero).0 (zero_ready b o zero).read)

  -- A refusal.
  pub step_unraised : g ≡ false → answered a b₁ o₁ ≡ step_on b e o
  step_unraised n = step_raised b₁ (raise_none g b₁ n)
