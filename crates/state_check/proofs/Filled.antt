-- Slots filled up with zeros: the code's tests of them say that their entries, written again, occur where they stand.
use Prim.Native.Nat.{ℕ, zero, suc, ◌+◌, ◌-◌, ◌≤◌, ◌<◌}
use mathlib.Core.Path.{◌≡◌, refl, sym, ap, subst, ◌∙◌}
use mathlib.Core.Bool.{true}
use mathlib.Core.List.{List, [], ◌∷◌}
use native.Mathlib.Nat.{add-zero}
use native.Mathlib.Omega.{arith}
use lib.ListN.{length, get_or, take, drop}
use lib.Seq.{drop-cons, get_or-take, get_or-drop}
use Rattle.format.specs.Places.{action_payload_at, action_head_size}
use Rattle.base.proofs.TestLaws.{and_holds, both_yes, le_yes, le_holds, eq_yes, eq_holds}
use Rattle.base.specs.Bytes.{Bytes, number_at, part_at, zeros, slot, zero_at}
use Rattle.base.proofs.BytesLaws.{part_length, bytes_part}
use Rattle.base.specs.Lists.{every_at}
use Rattle.base.proofs.Occurs.{Occurs, occurs_nil, occurs_append, occurs_second}
use Rattle.format.specs.Limits.{most_payload_limit}
use Rattle.format.specs.Types.{Action}
use Rattle.format.specs.Write.{action_bytes}
use Rattle.format.specs.Read.{payload_at, action_at}
use Rattle.format.proofs.Lengths.{action_length}
use Rattle.format.proofs.Ranges.{PayloadRange}
use Rattle.format.proofs.Writing.{action_written}
use Rattle.image.specs.Layout.{slot_size}
use Rattle.state_check.specs.Slots.{payload_fits, payload_room}

-- ---- zeros

one_occurs : (b : List ℕ) (at : ℕ) → at < length b → get_or b at 0 ≡ 0 → Occurs (0 ∷ []) b at
unfolding part_at
one_occurs b at h e = record { part = ap (λ (l : List ℕ). take 1 l) (drop-cons b at 0 h) ∙ ap (λ (x : ℕ). x ∷ []) e }

pub zeros_occur : (m : ℕ) (b : List ℕ) (at : ℕ) → at + m ≤ length b → every_at (zero_at b) 1 m at ≡ true → Occurs (zeros m) b at
unfolding every_at zero_at zeros
zeros_occur zero b at h k = occurs_nil b at
zeros_occur (suc m) b at h k =
    let t = and_holds _ _ k in
    occurs_append (0 ∷ []) (zeros m) b at (at + 1) refl (one_occurs b at (omega arith) (eq_holds _ 0 t.0)) (zeros_occur m b (at + 1) (omega arith) t.1)

zero_read : (b l : List ℕ) (at : ℕ) → Occurs (0 ∷ l) b at → get_or b at 0 ≡ 0
unfolding part_at
zero_read b l at o =
    let here : get_or b (at + 0) 0 ≡ 0 = sym (get_or-drop at b 0 0) ∙ sym (get_or-take (suc (length l)) (drop at b) 0 0 (omega arith)) ∙ ap (λ (x : List ℕ). get_or x 0 0) o.part in
    ap (λ (i : ℕ). get_or b i 0) (sym (add-zero at)) ∙ here

pub occurring_zeros : (m : ℕ) (b : List ℕ) (at : ℕ) → Occurs (zeros m) b at → every_at (zero_at b) 1 m at ≡ true
unfolding every_at zero_at zeros
occurring_zeros zero b at o = refl
occurring_zeros (suc m) b at o =
    both_yes _ _ (eq_yes _ 0 (zero_read b (zeros m) at o)) (occurring_zeros m b (at + 1) (occurs_second (0 ∷ []) (zeros m) b at (at + 1) refl o))

-- ---- x filled up to the size of a slot; k bytes of it are in use

filled : (size k : ℕ) (x b : List ℕ) (at : ℕ) → length x ≡ k → at + size ≤ length b → k ≤ size → Occurs x b at → every_at (zero_at b) 1 (size - k) (at + k) ≡ true
    → Occurs (slot size x) b at
unfolding slot
filled size k x b at e h l o z =
    let rest : Occurs (zeros (size - length x)) b (at + length x) = subst (λ (m : ℕ). Occurs (zeros (size - m)) b (at + m)) (sym e) (zeros_occur (size - k) b (at + k) (omega arith) z) in
    occurs_append x (zeros (size - length x)) b at (at + length x) refl o rest

filled_zeros : (size k : ℕ) (x b : List ℕ) (at : ℕ) → length x ≡ k → Occurs (slot size x) b at → every_at (zero_at b) 1 (size - k) (at + k) ≡ true
unfolding slot
filled_zeros size k x b at e o =
    let rest = occurring_zeros (size - length x) b (at + length x) (occurs_second x (zeros (size - length x)) b at (at + length x) refl o) in
    subst (λ (m : ℕ). every_at (zero_at b) 1 (size - m) (at + m) ≡ true) e rest

-- ---- payloads

-- d bytes of a slot stand before the length of the payload, m.
moved : (size d m : ℕ) (b : List ℕ) (at : ℕ)
    → every_at (zero_at b) 1 (size - d - (1 + m)) (at + d + (1 + m)) ≡ every_at (zero_at b) 1 (size - (d + 1 + m)) (at + (d + 1 + m))
moved size d m b at =
    let p : size - d - (1 + m) ≡ size - (d + 1 + m) = omega arith in
    let q : at + d + (1 + m) ≡ at + (d + 1 + m) = omega arith in
    rw (p, q)

module _ (b : List ℕ) (k : Bytes b) where
  payload_long : (at : ℕ) → number_at 1 b at ≤ most_payload_limit → at + payload_room ≤ length b → length (payload_at b at) ≡ number_at 1 b at
  unfolding payload_at
  payload_long at l h = part_length (number_at 1 b at) b (at + 1) (omega arith)

  payload_bytes_lem : (at : ℕ) → Bytes (payload_at b at)
  unfolding payload_at
  payload_bytes_lem at = bytes_part (number_at 1 b at) b (at + 1) k

  -- A slot's payload, of the length that it says.
  pub payload_in_range : (at : ℕ) → at + payload_room ≤ length b → payload_fits b at ≡ true → PayloadRange (payload_at b at)
  unfolding payload_fits
  payload_in_range at h t =
      let l : number_at 1 b at ≤ most_payload_limit = le_holds _ _ (and_holds _ _ t).0 in
      record { most = omega (arith, payload_long at l h); bytes = payload_bytes_lem at }

  pub action_occurs : (at : ℕ) → at + slot_size ≤ length b → payload_fits b (at + action_payload_at) ≡ true → Occurs (slot slot_size (action_bytes (action_at b at))) b at
  unfolding payload_fits action_at
  action_occurs at h t =
      let m : ℕ = number_at 1 b (at + action_payload_at) in
      let u = and_holds _ _ t in
      let l : m ≤ most_payload_limit = le_holds _ _ u.0 in
      let long : length (action_bytes (action_at b at)) ≡ action_head_size + m = omega (arith, action_length (action_at b at), payload_long (at + action_payload_at) l (omega arith)) in
      filled slot_size (action_head_size + m) (action_bytes (action_at b at)) b at long h (omega arith) (action_written b at k (omega arith)) (sym (moved slot_size action_payload_at m b at) ∙ u.1)

-- ---- and back

payload_fits_lem : (b : List ℕ) (at : ℕ) (p : List ℕ) → PayloadRange p → number_at 1 b at ≡ length p → every_at (zero_at b) 1 (payload_room - (1 + length p)) (at + (1 + length p)) ≡ true
    → payload_fits b at ≡ true
unfolding payload_fits
payload_fits_lem b at p r e z =
    both_yes _ _ (le_yes _ _ (omega (arith, r.most))) (subst (λ (m : ℕ). every_at (zero_at b) 1 (payload_room - (1 + m)) (at + (1 + m)) ≡ true) (sym e) z)

pub occurring_action : (b : List ℕ) (at : ℕ) (a : Action) → PayloadRange a.payload → number_at 1 b (at + action_payload_at) ≡ length a.payload
    → Occurs (slot slot_size (action_bytes a)) b at → payload_fits b (at + action_payload_at) ≡ true
occurring_action b at a r e o =
    let m : ℕ = length a.payload in
    let z = filled_zeros slot_size (action_head_size + m) (action_bytes a) b at (omega (arith, action_length a)) o in
    payload_fits_lem b (at + action_payload_at) a.payload r e (moved slot_size action_payload_at m b at ∙ z)
