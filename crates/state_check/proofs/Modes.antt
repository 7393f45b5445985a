-- The state's number: the code's test of it, and row 8's clauses on the eight states.
use Prim.Native.Nat.{ℕ, zero, suc, ◌+◌, ◌<◌, ◌^◌}
use mathlib.Core.Path.{◌≡◌, refl, sym, ap, ◌∙◌}
use mathlib.Core.Bool.{Bool, true, false}
use mathlib.Core.List.{List}
use mathlib.Core.Option.{Option, none, some}
use native.Mathlib.Nat.{zero-add}
use native.Mathlib.Omega.{arith}
use lib.ListN.{get_or}
use Rattle.base.specs.Tests.{◌and◌, ◌≤?◌, ◌=?◌, pick}
use Rattle.base.proofs.TestLaws.{not_both, and_holds, both_yes, eq_no, le_no}
use Rattle.base.specs.Lists.{is_there}
use Rattle.base.specs.Sets.{in_set, inside}
use Rattle.base.proofs.SetLaws.{inside_member, members_inside, same_sets}
use Rattle.format.specs.Limits.{most_index_limit}
use Rattle.format.specs.Types.{State}
use Rattle.replication.specs.Machine.Types.{Mode, Non_prim, Reg_prim, Trans_prim, Exchange_states, Exchange_actions, Construct, No, Un, Server}
use Rattle.replication.specs.Machine.Step.{here_set, planned_now}
use Rattle.replication.specs.Machine.WellFormedFacts.{Configured, StatesIn, ModeFits}
use Rattle.image.specs.Header.{mode_number, senders}
use Rattle.image.specs.Decode.{mode_named, states_at}
use Rattle.image.proofs.Slots.{in_senders, senders_below}
use Rattle.state_check.specs.Checks.{mode_test}
use Rattle.exchange.proofs.RoomLaws.{states_at_lem}
use Rattle.state_check.proofs.StateLists.{states_number}

-- ---- by the number

none_above : {X : Type 0} (k : ℕ) (configured exchange below : Bool) → 7 < k → mode_test k configured exchange below ≡ true → X
unfolding mode_test pick mode_number
none_above k configured exchange below h t =
    let u : (configured and (false and below)) ≡ true = rw (eq_no k 0 (λ e. omega arith), le_no k 3 (omega arith), eq_no k 4 (λ e. omega arith), le_no k 7 h) at t in
    not_both (and_holds false below (and_holds configured _ u).1).0

module _ (s : Server) (configured exchange below : Bool) (conf : configured ≡ true → Configured s)
    (ends : exchange ≡ true → StatesIn s × (s.membership.come < planned_now s)) (low : below ≡ true → s.votes.last.index < most_index_limit) where
  pub mode_in : (k : ℕ) → mode_test k configured exchange below ≡ true → ModeFits (mode_named k) s × (mode_number (mode_named k) ≡ k)
  unfolding mode_test mode_named mode_number pick ◌=?◌ ◌≤?◌
  mode_in zero t = (tt, refl)
  mode_in (suc zero) t = (conf (and_holds _ _ t).0, refl)
  mode_in (suc (suc zero)) t = (conf (and_holds _ _ t).0, refl)
  mode_in (suc (suc (suc zero))) t = (conf (and_holds _ _ t).0, refl)
  mode_in (suc (suc (suc (suc zero)))) t = let a = and_holds _ _ t in let e = ends a.1 in ((conf a.0, e.0, e.1), refl)
  mode_in (suc (suc (suc (suc (suc zero))))) t = let a = and_holds _ _ t in ((conf a.0, low (and_holds _ _ a.1).1), refl)
  mode_in (suc (suc (suc (suc (suc (suc zero)))))) t = let a = and_holds _ _ t in ((conf a.0, low (and_holds _ _ a.1).1), refl)
  mode_in (suc (suc (suc (suc (suc (suc (suc zero))))))) t = let a = and_holds _ _ t in ((conf a.0, low (and_holds _ _ a.1).1), refl)
  mode_in (suc (suc (suc (suc (suc (suc (suc (suc k)))))))) t = none_above (suc (suc (suc (suc (suc (suc (suc (suc k)))))))) configured exchange below (omega arith) t

module _ (s : Server) (configured exchange below : Bool) (conf : Configured s → configured ≡ true)
    (ends : StatesIn s → s.membership.come < planned_now s → exchange ≡ true) (low : s.votes.last.index < most_index_limit → below ≡ true) where
  pub mode_out : (m : Mode) → ModeFits m s → mode_test (mode_number m) configured exchange below ≡ true
  unfolding mode_test mode_number pick ◌=?◌ ◌≤?◌
  mode_out Non_prim f = refl
  mode_out Reg_prim f = both_yes _ _ (conf f) refl
  mode_out Trans_prim f = both_yes _ _ (conf f) refl
  mode_out Exchange_states f = both_yes _ _ (conf f) refl
  mode_out Exchange_actions f = both_yes _ _ (conf f.0) (ends f.1 f.2)
  mode_out Construct f = both_yes _ _ (conf f.0) (both_yes true _ refl (low f.1))
  mode_out No f = both_yes _ _ (conf f.0) (both_yes true _ refl (low f.1))
  mode_out Un f = both_yes _ _ (conf f.0) (both_yes true _ refl (low f.1))

-- ---- the set of those whose State is in

is_picked : (t : Bool) (x : State) → is_there (pick t (some x) none) ≡ t
unfolding pick is_there
is_picked true x = refl
is_picked false x = refl

pub in_states : (n q here : ℕ) (b : List ℕ) (at j : ℕ) → j < n → is_there (get_or (states_at n q here n 0 b at) j none) ≡ in_set j here
in_states n q here b at j h =
    ap is_there (states_at_lem n q here b n 0 at j h) ∙ is_picked (in_set (0 + j) here) _ ∙ ap (λ (i : ℕ). in_set i here) (zero-add j)

pub senders_are : (n q here : ℕ) (b : List ℕ) (at : ℕ) → here < 2 ^ n → senders 0 (states_at n q here n 0 b at) ≡ here
senders_are n q here b at h =
    same_sets n _ here (senders_below n 0 (states_at n q here n 0 b at) (omega (arith, states_number n q here n 0 b at))) h same
  where
    same : (k : ℕ) → k < n → in_set k (senders 0 (states_at n q here n 0 b at)) ≡ in_set k here
    same k l =
        ap (λ (i : ℕ). in_set i (senders 0 (states_at n q here n 0 b at))) (sym (zero-add k))
        ∙ in_senders 0 (states_at n q here n 0 b at) k
        ∙ in_states n q here b at k l

-- Every member's State is in exactly if the members are among their senders.
module _ (s : Server) (q here : ℕ) (b : List ℕ) (at : ℕ) (e : s.membership.states ≡ states_at s.servers q here s.servers 0 b at) where
  at_place : (k : ℕ) → k < s.servers → is_there (get_or s.membership.states k none) ≡ in_set k here
  at_place k l =
      ap (λ (xs : List (Option State)). is_there (get_or xs k none)) e ∙ in_states s.servers q here b at k l

  pub inside_all_in : inside (here_set s) here ≡ true → StatesIn s
  inside_all_in h k l m = at_place k l ∙ inside_member (here_set s) here k h m

  pub all_in_inside : here_set s < 2 ^ s.servers → StatesIn s → inside (here_set s) here ≡ true
  all_in_inside h f = members_inside s.servers (here_set s) here h (λ k l m. sym (at_place k l) ∙ f k l m)
