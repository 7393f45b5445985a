-- The slots of collected States: the code reads the record in each, and that says what the slot holds.
use Prim.Native.Nat.{ℕ, ◌+◌, ◌*◌, ◌≤◌}
use mathlib.Core.Path.{◌≡◌, refl, sym, ap, ap₂, subst, ◌∙◌}
use mathlib.Core.Bool.{true}
use mathlib.Core.List.{List}
use native.Mathlib.Omega.{arith}
use lib.ListN.{length, drop}
use Rattle.base.proofs.TestLaws.{not_both, and_holds, both_yes, le_yes, le_holds, eq_yes, eq_holds}
use Rattle.base.specs.Bytes.{Bytes, bytes_of, number_at, part_at}
use Rattle.base.proofs.BytesLaws.{part_length, bytes_part, numbers_length, number_drop}
use Rattle.base.proofs.Occurs.{Occurs, occurs_at, occurs_drop, joined_parts}
use Rattle.format.specs.Types.{State, Record, action, retransmission, state, cpc, regular, transitional, request, recovery, Context, Reading, says, refused, kind_number, kind_of}
use Rattle.format.specs.Range.{context_ok, state_ok, fields_ok, record_ok}
use Rattle.format.specs.Read.{state_at, yellow_at_of, read}
use Rattle.format.specs.Write.{write, framed, body_of, state_bytes, length_of}
use Rattle.format.proofs.Ranges.{ContextRange, state_range}
use Rattle.format.proofs.Fields.{state_read}
use Rattle.format.proofs.Lengths.{write_length}
use Rattle.format.proofs.Writing.{ids_number}
use Rattle.format.proofs.Reading.{read_in_range}
use Rattle.format.proofs.RoundTrip.{read_written, written_read}
use Rattle.image.specs.Layout.{state_size}
use Rattle.state_check.specs.Numbers.{yellow_count_ok}
use Rattle.state_check.specs.Collected.{is_state, says_state, ids_in_slot, slot_record, holds_state}
use Rattle.format.specs.Places.{state_head_size, state_count_at, state_yellow_at, id_size, state_cuts_at}

-- What is known of the State x in the slot at `at`.
pub record Slot (c : Context) (k i : ℕ) (b : List ℕ) (at : ℕ) (x : State) : Type 0 where
  pub fits : state_ok c x ≡ true
  pub sender : x.sender ≡ k
  pub configuration : x.configuration ≡ i
  pub occurs : Occurs (write (state x)) b at

-- ---- a reading that says such a State

record Said (k i : ℕ) (r : Reading Record) : Type 0 where
  what : State
  says_it : r ≡ says (state what)
  from : what.sender ≡ k
  of : what.configuration ≡ i

is_said : (k i : ℕ) (r : Record) → is_state k i r ≡ true → Said k i (says r)
unfolding is_state
is_said k i (action a) h = not_both h
is_said k i (retransmission s p a) h = not_both h
is_said k i (state x) h = let t = and_holds _ _ h in record { what = x; says_it = refl; from = eq_holds _ _ t.0; of = eq_holds _ _ t.1 }
is_said k i (cpc s j) h = not_both h
is_said k i (regular j s) h = not_both h
is_said k i (transitional s) h = not_both h
is_said k i (request p) h = not_both h
is_said k i recovery h = not_both h

said : (k i : ℕ) (r : Reading Record) → says_state k i r ≡ true → Said k i r
unfolding says_state
said k i (says r) h = is_said k i r h
said k i (refused m) h = not_both h

module _ (c : Context) (s : ContextRange c) (ok : context_ok c ≡ true) (b : List ℕ) (at : ℕ) where
  -- ---- the State that is read back

  read_back : (x : State) → state_ok c x ≡ true → Occurs (write (state x)) b at → state_at c.servers (drop at b) ≡ x
  unfolding write framed body_of kind_number kind_of bytes_of
  read_back x f o =
      let body = (joined_parts _ b at o).1.1.1.0 in
      let behind : Occurs (state_bytes x) (drop at b) 4 = occurs_drop at 4 (occurs_at body (omega arith)) in
      (state_read c x (drop at b) s (state_range c x s f) behind).1

  pub slot_in : Bytes b → (k i : ℕ) → at + state_size c.servers c.quota ≤ length b → holds_state c k i b at ≡ true
      → Slot c k i b at (state_at c.servers (drop at b))
  unfolding holds_state yellow_count_ok slot_record record_ok fields_ok state_size
  slot_in y k i h t =
      let n : ℕ = c.servers in
      let u = and_holds _ _ t in
      let count : ids_in_slot n b at ≤ n * c.quota = le_holds _ _ u.0 in
      let m : ℕ = state_head_size + 2 * n + id_size * ids_in_slot n b at in
      let e : List ℕ = part_at m b at in
      let d = said k i (read c e) u.1 in
      let x : State = d.what in
      let long : length e ≡ m = part_length m b at (omega arith) in
      let w : write (state x) ≡ e = written_read c e (state x) (bytes_part m b at y) d.says_it in
      let there : Occurs (write (state x)) b at = record { part = ap (λ (j : ℕ). part_at j b at) (ap length w ∙ long) ∙ sym w } in
      let f : state_ok c x ≡ true = (and_holds _ _ (read_in_range c e (state x) d.says_it)).1 in
      let back = read_back x f there in
      subst (Slot c k i b at) (sym back) (record { fits = f; sender = d.from; configuration = d.of; occurs = there })

  -- ---- and back

  ids_of_state : length (state_at c.servers (drop at b)).yellow.ids ≡ ids_in_slot c.servers b at
  unfolding state_at yellow_at_of ids_in_slot
  ids_of_state =
      let n : ℕ = c.servers in
      let place : state_yellow_at + 2 * n + 1 ≡ state_count_at + 2 * n = omega arith in
      ids_number _ (drop at b) _ ∙ ap (number_at 2 (drop at b)) place ∙ number_drop 2 b at (state_count_at + 2 * n)

  cuts_of_state : length (state_at c.servers (drop at b)).cuts ≡ c.servers
  unfolding state_at
  cuts_of_state = numbers_length 2 c.servers (drop at b) state_cuts_at

  pub state_ids_few : state_ok c (state_at c.servers (drop at b)) ≡ true → ids_in_slot c.servers b at ≤ c.servers * c.quota
  state_ids_few f =
      let x : State = state_at c.servers (drop at b) in
      let r = state_range c x s f in
      omega (arith, ids_of_state, r.yellow.few)

  record-length : length (write (state (state_at c.servers (drop at b)))) ≡ state_head_size + 2 * c.servers + id_size * ids_in_slot c.servers b at
  unfolding length_of
  record-length = write_length (state (state_at c.servers (drop at b))) ∙ ap₂ {A = ℕ} {B = ℕ} {C = ℕ} (λ m j. state_head_size + 2 * m + id_size * j) cuts_of_state ids_of_state

  pub slot_short : state_ok c (state_at c.servers (drop at b)) ≡ true → length (write (state (state_at c.servers (drop at b)))) ≤ state_size c.servers c.quota
  unfolding state_size
  slot_short f = omega (arith, record-length, state_ids_few f)

  pub slot_out : (k i : ℕ) → Slot c k i b at (state_at c.servers (drop at b)) → holds_state c k i b at ≡ true
  unfolding holds_state yellow_count_ok slot_record record_ok fields_ok says_state is_state
  slot_out k i d =
      let n : ℕ = c.servers in
      let x : State = state_at n (drop at b) in
      let e : slot_record n b at ≡ write (state x) = ap (λ (j : ℕ). part_at j b at) (sym record-length) ∙ d.occurs.part in
      let r : read c (slot_record n b at) ≡ says (state x) = ap (read c) e ∙ read_written c (state x) (both_yes _ _ ok d.fits) in
      both_yes _ _ (le_yes _ _ (state_ids_few d.fits))
      (ap (says_state k i) r ∙ both_yes _ _ (eq_yes _ _ d.sender) (eq_yes _ _ d.configuration))
