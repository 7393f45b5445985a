-- What is green on every server, by the noted lengths, is white, in every run.
use Prim.Native.Nat.{ℕ, suc, min, ◌≤◌, ◌<◌}
use mathlib.Core.Path.{◌≡◌, refl, sym, subst, ◌∙◌}
use mathlib.Core.Bool.{Bool, false}
use mathlib.Core.List.{List, [], ◌∷◌}
use native.Mathlib.Omega.{arith}
use lib.ListN.{length, get_or}
use Rattle.base.specs.Tests.{pick}
use Rattle.format.specs.Types.{Action, Record}
use Rattle.replication.specs.Machine.Types.{Server, taken, start, with_white}
use Rattle.replication.specs.Machine.Rules.{Rule, ignoring, reddening, greening, yellowing, late_installing, exchanging, collecting_state}
use Rattle.replication.specs.Machine.Rules.{collecting_cpc, collecting_late_cpc, joining, joining_unmarked, joining_yellow, leaving, requesting}
use Rattle.replication.specs.Machine.Rules.{recovering, is_ignored}
use Rattle.replication.specs.Machine.White.{least, full, sieved, white_after}
use Rattle.replication.specs.Machine.Step.{quiet, apply, step}
use Rattle.replication.specs.Runs.Run.{world_at}
use Rattle.replication.specs.Runs.Whites.{NotedGreenIsWhite}
use Rattle.replication.proofs.Step.Inversion.{taken_by}
use Rattle.replication.proofs.Runs.Lived.{each_at_place}
use Rattle.replication.proofs.Runs.Numbers.{numbers, invariant_at}

abbrev Whitened : Server → Type 0
Whitened s = min (length s.log.green) (least s.noted) ≤ s.white

-- Every rule but that of an ignored record raises the white length so far ..
by_raise : (k : Rule) (s t : Server) → is_ignored k ≡ false → Whitened (with_white (white_after k s t) t)
unfolding white_after pick
by_raise k s t h = rw h (omega arith)

-- .. and that one leaves the state.
outcome_same : {s t : Server} {rs us : List Record} {b c : Bool} {g h : List Action} → taken s rs b g ≡ taken t us c h → s ≡ t
outcome_same e = cc

by_rule : (k : Rule) (s t : Server) (rs : List Record) (b : Bool) (g : List Action) (f : Bool) → apply (sieved f k) s ≡ taken t rs b g → Whitened s
    → Whitened (with_white (white_after k s t) t)
unfolding apply sieved quiet is_ignored white_after pick
by_rule ignoring s t rs b g f e w = subst (λ u. Whitened (with_white s.white u)) (outcome_same e) w
by_rule (reddening a) s t rs b g f e w = by_raise (reddening a) s t refl
by_rule (greening a) s t rs b g f e w = by_raise (greening a) s t refl
by_rule (yellowing a) s t rs b g f e w = by_raise (yellowing a) s t refl
by_rule (late_installing a) s t rs b g f e w = by_raise (late_installing a) s t refl
by_rule (exchanging p a) s t rs b g f e w = by_raise (exchanging p a) s t refl
by_rule (collecting_state x) s t rs b g f e w = by_raise (collecting_state x) s t refl
by_rule (collecting_cpc k) s t rs b g f e w = by_raise (collecting_cpc k) s t refl
by_rule (collecting_late_cpc k) s t rs b g f e w = by_raise (collecting_late_cpc k) s t refl
by_rule (joining c) s t rs b g f e w = by_raise (joining c) s t refl
by_rule (joining_unmarked c) s t rs b g f e w = by_raise (joining_unmarked c) s t refl
by_rule (joining_yellow c) s t rs b g f e w = by_raise (joining_yellow c) s t refl
by_rule (leaving m u) s t rs b g f e w = by_raise (leaving m u) s t refl
by_rule (requesting p) s t rs b g f e w = by_raise (requesting p) s t refl
by_rule recovering s t rs b g f e w = by_raise recovering s t refl

taken_whitened : (s : Server) (e : List ℕ) (t : Server) (bs : List (List ℕ)) (b : Bool) (g : List Action) → step s e ≡ taken t bs b g → Whitened s → Whitened t
taken_whitened s e t bs b g h w =
    let x = taken_by s e t bs b g h in
    subst Whitened (sym x.raise) (by_rule x.rule s x.core x.records b g (full x.rule s) x.applied w)

-- ---- the least noted length

-- What is at most each of these numbers is at most the lowest.
least_high : (xs : List ℕ) (k : ℕ) → 0 < length xs → ((c : ℕ) → c < length xs → k ≤ get_or xs c 0) → k ≤ least xs
unfolding least
least_high [] k h f = absurd (omega arith)
least_high (x ∷ []) k h f = f 0 h
least_high (x ∷ y ∷ ys) k h f = omega (arith, f 0 h, least_high (y ∷ ys) k (omega arith) (λ c d. f (suc c) (omega arith)))

white_known : (n k : ℕ) (s : Server) → 0 < n → length s.noted ≡ n → Whitened s → k ≤ length s.log.green
    → ((c : ℕ) → c < n → k ≤ get_or s.noted c 0) → k ≤ s.white
white_known n k s h e w g f = omega (arith, w, least_high s.noted k (omega arith) (λ c d. f c (omega arith)))

pub noted_green_is_white : NotedGreenIsWhite
unfolding NotedGreenIsWhite start
noted_green_is_white n q ok l p i k h =
    let w = each_at_place n q l Whitened taken_whitened i (omega arith) p in
    let f = invariant_at n q i ok h l p in
    let m = numbers n q i l p in
    record {
      memory = white_known n k ((world_at n q l p).images i).memory (omega arith) (f.memory.well_formed_lem.noted_length ∙ m.memory.servers) w.memory;
      store = white_known n k ((world_at n q l p).images i).store (omega arith) (f.store.well_formed_lem.noted_length ∙ m.store.servers) w.store;
    }
