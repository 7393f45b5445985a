-- A turn of a loop over the slots takes one State, or none, off the front of those that are left.
use Prim.Native.Nat.{ℕ, suc, ◌+◌, ◌*◌, ◌-◌, ◌≤◌, ◌<◌}
use mathlib.Core.Path.{◌≡◌, refl, sym, ap, ◌∙◌}
use mathlib.Core.Bool.{true, false}
use mathlib.Core.List.{List, [], ◌∷◌}
use native.Mathlib.Nat.{mul-le-mul_right}
use native.Mathlib.Omega.{arith}
use lib.ListN.{length}
use Rattle.base.specs.Tests.{pick}
use Rattle.base.proofs.TestLaws.{pick_yes, pick_no}
use Rattle.base.specs.Sets.{in_set}
use Rattle.exchange.specs.declared.slots.Slots.{Slots}
use Rattle.exchange.specs.Slots.{Space, state_in, states_from, states_of}

-- ---- the slot k lies in the buffer

pub slot_inside : (v : Slots) (b : List ℕ) (k : ℕ) → Space v b → k < v.servers → v.at + k * v.size + v.size ≤ length b
slot_inside v b k r h =
    let z : suc k * v.size ≤ v.servers * v.size = mul-le-mul_right v.size h in
    omega (arith, r.inside)

-- ---- turns

pub states_turn : (v : Slots) (b : List ℕ) (k : ℕ) → k < v.servers
    → states_from v b (v.servers - k) k
    ≡ pick (in_set k v.here) (state_in v b k ∷ states_from v b (v.servers - (k + 1)) (k + 1)) (states_from v b (v.servers - (k + 1)) (k + 1))
unfolding states_from
states_turn v b k h =
    let a : v.servers - k ≡ suc (v.servers - (k + 1)) = omega arith in
    ap (λ (m : ℕ). states_from v b m k) a

pub states_in_lem : (v : Slots) (b : List ℕ) (k : ℕ) → k < v.servers → in_set k v.here ≡ true
    → states_from v b (v.servers - k) k ≡ state_in v b k ∷ states_from v b (v.servers - (k + 1)) (k + 1)
states_in_lem v b k h e = states_turn v b k h ∙ sym (pick_yes (in_set k v.here) _ _ _ e refl)

pub states_out : (v : Slots) (b : List ℕ) (k : ℕ) → k < v.servers → in_set k v.here ≡ false
    → states_from v b (v.servers - k) k ≡ states_from v b (v.servers - (k + 1)) (k + 1)
states_out v b k h e = states_turn v b k h ∙ sym (pick_no (in_set k v.here) _ _ _ e refl)

pub states_end : (v : Slots) (b : List ℕ) (k : ℕ) → v.servers ≤ k → states_from v b (v.servers - k) k ≡ []
unfolding states_from
states_end v b k h =
    let a : v.servers - k ≡ 0 = omega arith in
    ap (λ (m : ℕ). states_from v b m k) a

pub states_start : (v : Slots) (b : List ℕ) → states_of v b ≡ states_from v b (v.servers - 0) 0
unfolding states_of
states_start v b =
    let a : v.servers ≡ v.servers - 0 = omega arith in
    ap (λ (m : ℕ). states_from v b m 0) a
