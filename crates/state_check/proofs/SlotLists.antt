-- Lists of actions in slots: the code's tests of them, and what they say of the lists that are read of them.
use Prim.Native.Nat.{ℕ, zero, suc, ◌+◌, ◌*◌, ◌≤◌}
use mathlib.Core.Path.{◌≡◌, refl, ap}
use mathlib.Core.Bool.{true}
use mathlib.Core.List.{List, ◌∷◌}
use native.Mathlib.Omega.{arith}
use lib.ListN.{length}
use Rattle.base.proofs.TestLaws.{and_holds, both_yes}
use Rattle.base.specs.Bytes.{Bytes, number_at, joined, slot}
use Rattle.base.specs.Lists.{every_at, all, Each}
use Rattle.base.proofs.Occurs.{Occurs, occurs_nil, occurs_append, occurs_first, occurs_second}
use Rattle.format.specs.Places.{action_green_at, action_white_at, action_payload_at}
use Rattle.format.specs.Types.{Id, Context}
use Rattle.format.specs.Range.{id_ok, action_ok, ids_in_range}
use Rattle.format.specs.Read.{id_at, action_at}
use Rattle.format.specs.Write.{action_bytes}
use Rattle.format.proofs.Ranges.{ContextRange, length_range, action_range}
use Rattle.format.proofs.Fields.{action_read}
use Rattle.record.specs.Values.{ids_by}
use Rattle.replication.specs.Machine.WellFormed.{ids_in}
use Rattle.replication.specs.Machine.WellFormedRanges.{ActionFits}
use Rattle.replication.proofs.WellFormed.Ranges.{id_facts}
use Rattle.image.specs.Layout.{slot_size}
use Rattle.image.specs.Image.{action_slots}
use Rattle.image.specs.Decode.{actions_at}
use Rattle.image.proofs.Used.{action_slot_length}
use Rattle.state_check.specs.Slots.{slot_fits}
use Rattle.state_check.proofs.Filled.{payload_in_range, action_occurs, occurring_action}

pub ids_by_number : (w m : ℕ) (b : List ℕ) (at : ℕ) → length (ids_by w m b at) ≡ m
unfolding ids_by
ids_by_number w zero b at = refl
ids_by_number w (suc m) b at = ap suc (ids_by_number w m b (at + w))

pub ids_of_actions : (m : ℕ) (b : List ℕ) (at : ℕ) → ids_in (actions_at m b at) ≡ ids_by slot_size m b at
unfolding ids_in actions_at ids_by action_at
ids_of_actions zero b at = refl
ids_of_actions (suc m) b at = ap (λ (l : List Id). id_at b at ∷ l) (ids_of_actions m b (at + slot_size))

module _ (c : Context) (b : List ℕ) where
  action_fits : Bytes b → (at : ℕ) → at + slot_size ≤ length b → id_ok c (id_at b at) ≡ true → slot_fits b at ≡ true → ActionFits c.servers c.quota (action_at b at)
  unfolding slot_fits action_at
  action_fits k at h i t =
      let u = and_holds _ _ t in
      let w = and_holds _ _ u.1 in
      let r = payload_in_range b k (at + action_payload_at) (omega arith) w.1 in
      record {
        id = id_facts c (id_at b at) i;
        green_length = length_range (number_at 4 b (at + action_green_at)) u.0;
        white_length = length_range (number_at 4 b (at + action_white_at)) w.0;
        payload = record { most = r.most; bytes = r.bytes };
      }

  pub actions_in : Bytes b → (m at : ℕ) → at + slot_size * m ≤ length b → ids_in_range c (ids_by slot_size m b at) ≡ true → every_at (slot_fits b) slot_size m at ≡ true
      → Each (ActionFits c.servers c.quota) (actions_at m b at) × Occurs (action_slots (actions_at m b at)) b at
  unfolding actions_at action_at every_at action_slots joined ids_in_range ids_by slot_fits
  actions_in k zero at h i t = (tt, occurs_nil b at)
  actions_in k (suc m) at h i t =
      let u = and_holds _ _ t in
      let j = and_holds _ _ i in
      let p = (and_holds _ _ (and_holds _ _ u.0).1).1 in
      let r = payload_in_range b k (at + action_payload_at) (omega arith) p in
      let more = actions_in k m (at + slot_size) (omega arith) j.1 u.1 in
      let place : at + length (slot slot_size (action_bytes (action_at b at))) ≡ at + slot_size = ap (λ (n : ℕ). at + n) (action_slot_length (action_at b at) r) in (
        (action_fits k at (omega arith) j.0 u.0, more.0),
        occurs_append _ _ b at (at + slot_size) place (action_occurs b k at (omega arith) p) more.1,
      )

  pub actions_out : ContextRange c → (m at : ℕ) → all (action_ok c) (actions_at m b at) ≡ true → Occurs (action_slots (actions_at m b at)) b at
      → (ids_in_range c (ids_by slot_size m b at) ≡ true) × (every_at (slot_fits b) slot_size m at ≡ true)
  unfolding actions_at action_at every_at slot action_slots joined all ids_in_range ids_by slot_fits action_ok
  actions_out s zero at t o = (refl, refl)
  actions_out s (suc m) at t o =
      let u = and_holds _ _ t in
      let a = and_holds _ _ u.0 in
      let g = and_holds _ _ a.1 in
      let r = action_range c (action_at b at) s u.0 in
      let place : at + length (slot slot_size (action_bytes (action_at b at))) ≡ at + slot_size = ap (λ (n : ℕ). at + n) (action_slot_length (action_at b at) r.payload) in
      let first = occurs_first (slot slot_size (action_bytes (action_at b at))) _ b at o in
      let long = (action_read c (action_at b at) b at s r (occurs_first (action_bytes (action_at b at)) _ b at first)).0 in
      let more = actions_out s m (at + slot_size) u.1 (occurs_second (slot slot_size (action_bytes (action_at b at))) _ b at (at + slot_size) place o) in (
        both_yes _ _ a.0 more.0,
        both_yes _ _ (both_yes _ _ g.0 (both_yes _ _ (and_holds _ _ g.1).0 (occurring_action b at (action_at b at) r.payload long first))) more.1,
      )
