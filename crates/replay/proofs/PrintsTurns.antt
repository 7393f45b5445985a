-- Where the program stands, and what one turn makes of that.
use Prim.Native.Nat.{ℕ, zero, suc, ◌+◌, ◌-◌, ◌%◌, ◌^◌, ◌≤◌, ◌<◌}
use mathlib.Core.Path.{◌≡◌, refl, sym, ap, subst, ◌∙◌}
use mathlib.Core.Bool.{Bool, true}
use mathlib.Core.List.{List, [], ◌∷◌, ◌++◌, append_assoc}
use mathlib.Core.Option.{Option, none, some}
use native.Mathlib.Nat.{mod-eq_of_lt}
use native.Mathlib.Omega.{arith}
use lib.ListN.{length, get_or, drop, length-append, length-drop, length-set}
use lib.Seq.{drop-drop}
use Rattle.base.specs.Bytes.{part_at}
use Rattle.base.specs.Lists.{at}
use Rattle.replication.specs.Images.{Images, arrive, left_by}
use Rattle.replication.specs.Replay.{table_after, events}
use Rattle.replay_servers.specs.declared.Server.{Server}
use Rattle.replay_servers.proofs.Tabled.{Tabled}
use Rattle.replay_lines.specs.declared.input.Next.{Next}
use Rattle.replay_lines.specs.declared.input.Next.TheVariants.{Event, More, Done}
use Rattle.refusals.specs.declared.Refusal.{Refusal}
use Rattle.std.specs.Prelude.{Result, Ok, Err}
use Rattle.replay_turns.specs.declared.Going.TheVariants.{On, Read, Stop}
use Rattle.replay_lines.specs.Input.{next_of}
use Rattle.replay_turns.specs.Turns.{Turned, turn_by, turn_of}
use Rattle.replay_turns.specs.Passes as passes
use Rattle.replay_turns.specs.Passes.{Progress, behind, next_event}
use Rattle.replay_turns.proofs.Goings.{on_read, on_stop, read_stop}
use Rattle.replay_lines.proofs.InputLaws.{whole_event}
use Rattle.replay.proofs.PrintsLaws.{prints_event, keeps_event, prints_stop}

-- ---- where the program stands

-- The table s keeps what the n servers t have; the bytes p and then f are to come; d bounds their events, and 64 bits hold their numbers.
pub record Stands (n : ℕ) (f : List ℕ) (t : List Images) (s : List Server) (d event : ℕ) (p : List ℕ) : Type 0 where
  pub tabled : Tabled t s
  pub count : length t ≡ n
  pub bound : length (p ++ f) ≤ d
  pub small : event + length (p ++ f) < 2 ^ 64

-- The lines of the events to come are those of r, and those of the events that r leaves.
pub record Leads (n : ℕ) (f : List ℕ) (t : List Images) (d event : ℕ) (p : List ℕ) (r : Progress) : Type 0 where
  pub servers : List Images
  pub limit : ℕ
  pub stands : Stands n f servers r.table limit r.event (drop r.taken p)
  pub prints : events d event t (p ++ f) ≡ r.text ++ events limit r.event servers (drop r.taken p ++ f)

pub data Right (n : ℕ) (f : List ℕ) (t : List Images) (d event : ℕ) (p : List ℕ) (r : Progress) : Type 0 where
  stops : r.going ≡ Stop → events d event t (p ++ f) ≡ r.text → Right n f t d event p r
  leads : (r.going ≡ Stop → ⊥) → Leads n f t d event p r → Right n f t d event p r

pub right_none : (n : ℕ) (f : List ℕ) (t : List Images) (s : List Server) (d event : ℕ) (p : List ℕ) → Stands n f t s d event p
    → Right n f t d event p (passes.none s event)
unfolding passes.none
right_none n f t s d event p h = leads (λ e. on_stop On refl e) (record { servers = t; limit = d; stands = h; prints = refl })

-- Turns, and others behind them.
pub right_behind : (n : ℕ) (f : List ℕ) (t t₁ : List Images) (d d₁ event event₁ k : ℕ) (p w : List ℕ) (r : Progress)
    → events d event t (p ++ f) ≡ w ++ events d₁ event₁ t₁ (drop k p ++ f) → Right n f t₁ d₁ event₁ (drop k p) r → Right n f t d event p (behind k w r)
unfolding behind
right_behind n f t t₁ d d₁ event event₁ k p w r e (stops g x) = stops g (e ∙ ap (λ (y : List ℕ). w ++ y) x)
right_behind n f t t₁ d d₁ event event₁ k p w r e (leads g x) =
    let there : drop r.taken (drop k p) ≡ drop (k + r.taken) p = drop-drop r.taken k p in
    leads g (record {
      servers = x.servers;
      limit = x.limit;
      stands = subst (Stands n f x.servers r.table x.limit r.event) there x.stands;
      prints =
          e ∙ ap (λ (y : List ℕ). w ++ y) x.prints
          ∙ sym (append_assoc w r.text (events x.limit r.event x.servers (drop r.taken (drop k p) ++ f)))
          ∙ ap (λ (y : List ℕ). (w ++ r.text) ++ events x.limit r.event x.servers (y ++ f)) there;
    })

-- ---- one turn

after_length : (k : ℕ) (e : List ℕ) (o : Option Images) (t : List Images) → length (table_after k e o t) ≡ length t
unfolding table_after
after_length k e none t = refl
after_length k e (some i) t = length-set t k (left_by (arrive i e) i)

-- A turn that the next one follows has an event.
pub has_event : (s : List Server) (n event : ℕ) (p : List ℕ) (ended : Bool) → (turn_of s n event p ended).going ≡ On
    → (m : ℕ) × (next_of n p ended ≡ Ok (Event m)) × ((turn_of s n event p ended).taken ≡ m + 1)
unfolding turn_of turn_by
has_event s n event p ended g = go (next_of n p ended) refl g
  where
    go : (x : Result Next Refusal) → next_of n p ended ≡ x → (turn_by x s event p).going ≡ On
        → (m : ℕ) × (next_of n p ended ≡ Ok (Event m)) × ((turn_by (next_of n p ended) s event p).taken ≡ m + 1)
    go (Ok (Event m)) e h = (m, e, ap (λ (y : Result Next Refusal). (turn_by y s event p).taken) e)
    go (Err k) e h = on_stop Stop h refl
    go (Ok More) e h = on_read Read h refl
    go (Ok Done) e h = on_stop Stop h refl

-- A turn after which more input is asked for changes nothing.
pub waits : (s : List Server) (n event : ℕ) (p : List ℕ) (ended : Bool) → (turn_of s n event p ended).going ≡ Read
    → turn_of s n event p ended ≡ record { table = s; taken = 0; text = []; going = Read }
unfolding turn_of turn_by
waits s n event p ended g = go (next_of n p ended) refl g
  where
    go : (x : Result Next Refusal) → next_of n p ended ≡ x → (turn_by x s event p).going ≡ Read
        → turn_by (next_of n p ended) s event p ≡ record { table = s; taken = 0; text = []; going = Read }
    go (Ok (Event m)) e h = on_read On refl h
    go (Err k) e h = read_stop Stop h refl
    go (Ok More) e h = ap (λ (y : Result Next Refusal). turn_by y s event p) e
    go (Ok Done) e h = read_stop Stop h refl

module _ (f : List ℕ) (t : List Images) (s : List Server) (event : ℕ) (p : List ℕ) (ended : Bool) (kept : Tabled t s) where
  abbrev pub turn : Turned
  turn = turn_of s (length t) event p ended

  -- The turn, and the number of the next event.
  abbrev pub step : Progress
  step = record { table = turn.table; event = next_event event; taken = turn.taken; text = turn.text; going = turn.going }

  pub step_leads : (d : ℕ) → length (p ++ f) ≤ d → event + length (p ++ f) < 2 ^ 64
      → (m : ℕ) × (next_of (length t) p ended ≡ Ok (Event m)) × (turn.taken ≡ m + 1) → Leads (length t) f t d event p step
  unfolding next_event
  step_leads zero h l (m, e, k) =
      absurd (omega (arith, (whole_event (length t) p ended m e).inside, length-append p f))
  step_leads (suc d) h l (m, e, k) =
      let w = whole_event (length t) p ended m e in
      let long : length (p ++ f) ≡ length p + length f = length-append p f in
      let left : length (drop turn.taken p ++ f) ≡ length p - (m + 1) + length f
      = length-append (drop turn.taken p) f ∙ ap (λ (j : ℕ). j + length f) (length-drop turn.taken p ∙ ap (λ (j : ℕ). length p - j) k) in
      let number : event + 1 ≡ (event + 1) % 2 ^ 64 = sym (mod-eq_of_lt (omega (arith, w.inside))) in
      record {
        servers = table_after (get_or p 0 0) (part_at m p 1) (at t (get_or p 0 0)) t;
        limit = d;
        stands = record {
          tabled = keeps_event t s kept event ended m p e;
          count = after_length (get_or p 0 0) (part_at m p 1) (at t (get_or p 0 0)) t;
          bound = omega (arith, w.inside);
          small = omega (arith, w.inside);
        };
        prints =
            prints_event t s kept event ended d m p f e
            ∙ (λ i. turn.text ++ events d (number i) (table_after (get_or p 0 0) (part_at m p 1) (at t (get_or p 0 0)) t) (drop (sym k i) p ++ f));
      }

  -- The turn's lines are all.
  pub turn_stops : (d : ℕ) → length (p ++ f) ≤ d → (ended ≡ true → f ≡ []) → turn.going ≡ Stop → events d event t (p ++ f) ≡ turn.text
  unfolding events
  turn_stops (suc d) h last g = prints_stop t s kept event ended d f last p g
  turn_stops zero h last g =
      sym (ap (events (suc zero) event t) (nothing (p ++ f) h)) ∙ prints_stop t s kept event ended zero f last p g
    where
      nothing : (x : List ℕ) → length x ≤ 0 → x ≡ []
      nothing [] l = refl
      nothing (y ∷ x) l = absurd (omega arith)
