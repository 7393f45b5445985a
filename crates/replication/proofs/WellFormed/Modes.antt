-- Row 8's clauses on the eight states hold exactly if `ModeFits` does.
use Prim.Native.Nat.{ℕ, zero, suc, ◌+◌, ◌<◌}
use mathlib.Core.Path.{◌≡◌, refl, ap}
use mathlib.Core.Bool.{Bool, true, false, not}
use mathlib.Core.List.{List, [], ◌∷◌}
use mathlib.Core.Option.{Option, none}
use native.Mathlib.Omega.{arith}
use lib.ListN.{length, get_or}
use Rattle.base.specs.Tests.{◌or◌}
use Rattle.base.proofs.TestLaws.{not_both, not_holds, and_holds, both_yes, le_no, le_fails, lt_yes, lt_holds}
use Rattle.base.specs.Lists.{is_there}
use Rattle.base.proofs.ListLaws.{there, is_there_lem}
use Rattle.base.specs.Sets.{in_set}
use Rattle.format.specs.Types.{State}
use Rattle.replication.specs.Machine.Types.{Mode, Non_prim, Reg_prim, Trans_prim, Exchange_states, Exchange_actions, Construct, No, Un, Server}
use Rattle.replication.specs.Machine.Step.{all_from, all_states_in, all_come_of, here_set, planned_now}
use Rattle.replication.specs.Machine.WellFormed.{mode_fits}
use Rattle.replication.specs.Machine.WellFormedFacts.{Configured, StatesIn, ModeFits}

-- ---- every member's State is in

in_at : (t u : Bool) → (not t or u) ≡ true → t ≡ true → u ≡ true
unfolding ◌or◌
in_at true u h m = h
in_at false u h m = not_both m

in_ok : (t u : Bool) → (t ≡ true → u ≡ true) → (not t or u) ≡ true
unfolding ◌or◌
in_ok true u h = h refl
in_ok false u h = refl

pub from_facts : (here k : ℕ) (xs : List (Option State)) → all_from here k xs ≡ true → (j : ℕ) → j < length xs → in_set (k + j) here ≡ true
    → is_there (get_or xs j none) ≡ true
unfolding all_from
from_facts here k [] h j l m = absurd (omega arith)
from_facts here k (x ∷ xs) h zero l m = let z : k + 0 ≡ k = omega arith in in_at (in_set k here) (is_there x) (and_holds _ _ h).0 (rw z at m)
from_facts here k (x ∷ xs) h (suc j) l m =
    let z : k + suc j ≡ k + 1 + j = omega arith in
    from_facts here (k + 1) xs (and_holds _ _ h).1 j (omega arith) (rw z at m)

pub from_ok : (here k : ℕ) (xs : List (Option State)) → ((j : ℕ) → j < length xs → in_set (k + j) here ≡ true → is_there (get_or xs j none) ≡ true)
    → all_from here k xs ≡ true
unfolding all_from
from_ok here k [] f = refl
from_ok here k (x ∷ xs) f =
    both_yes _ _ (in_ok (in_set k here) (is_there x) (λ m. f 0 (omega arith) (let z : k + 0 ≡ k = omega arith in rw z m)))
    (from_ok here (k + 1) xs (λ j l m. f (suc j) (omega arith) (let z : k + suc j ≡ k + 1 + j = omega arith in rw z m)))

pub all_in_facts : (s : Server) → length s.membership.states ≡ s.servers → all_states_in s ≡ true → StatesIn s
unfolding all_states_in
all_in_facts s e h k l m =
    from_facts (here_set s) 0 s.membership.states h k (omega arith) (let z : 0 + k ≡ k = omega arith in rw z m)

pub all_in_ok : (s : Server) → length s.membership.states ≡ s.servers → StatesIn s → all_states_in s ≡ true
unfolding all_states_in
all_in_ok s e f =
    from_ok (here_set s) 0 s.membership.states (λ k l m. f k (omega arith) (let z : 0 + k ≡ k = omega arith in rw z at m))

-- ---- by state

configured : (s : Server) → is_there s.membership.configuration ≡ true → Configured s
configured s h = there s.membership.configuration h

configured_ok : (s : Server) → Configured s → is_there s.membership.configuration ≡ true
configured_ok s f = is_there_lem s.membership.configuration f.0 f.1

coming_ok : (s : Server) → s.membership.come < planned_now s → not (all_come_of s) ≡ true
unfolding all_come_of
coming_ok s h = ap not (le_no _ _ h)

pub mode_facts : (m : Mode) (s : Server) → length s.membership.states ≡ s.servers → mode_fits m s ≡ true → ModeFits m s
unfolding mode_fits all_come_of
mode_facts Non_prim s e h = tt
mode_facts Reg_prim s e h = configured s h
mode_facts Trans_prim s e h = configured s h
mode_facts Exchange_states s e h = configured s h
mode_facts Exchange_actions s e h =
    let a = and_holds _ _ h in
    let b = and_holds _ _ a.1 in
    (configured s a.0, all_in_facts s e b.0, le_fails _ _ (not_holds _ b.1))
mode_facts Construct s e h = let a = and_holds _ _ h in (configured s a.0, lt_holds _ _ a.1)
mode_facts No s e h = let a = and_holds _ _ h in (configured s a.0, lt_holds _ _ a.1)
mode_facts Un s e h = let a = and_holds _ _ h in (configured s a.0, lt_holds _ _ a.1)

pub mode_ok_lem : (m : Mode) (s : Server) → length s.membership.states ≡ s.servers → ModeFits m s → mode_fits m s ≡ true
unfolding mode_fits
mode_ok_lem Non_prim s e f = refl
mode_ok_lem Reg_prim s e f = configured_ok s f
mode_ok_lem Trans_prim s e f = configured_ok s f
mode_ok_lem Exchange_states s e f = configured_ok s f
mode_ok_lem Exchange_actions s e f = both_yes _ _ (configured_ok s f.0) (both_yes _ _ (all_in_ok s e f.1) (coming_ok s f.2))
mode_ok_lem Construct s e f = both_yes _ _ (configured_ok s f.0) (lt_yes _ _ f.1)
mode_ok_lem No s e f = both_yes _ _ (configured_ok s f.0) (lt_yes _ _ f.1)
mode_ok_lem Un s e f = both_yes _ _ (configured_ok s f.0) (lt_yes _ _ f.1)
