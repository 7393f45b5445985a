-- The two laws of the record format: what is written is read back, and what is read is written back.
use Prim.Native.Nat.{ℕ, ◌+◌, ◌*◌, ◌≤◌, ◌<◌}
use mathlib.Core.Path.{◌≡◌, refl, sym, ap, ◌∙◌}
use mathlib.Core.Bool.{true}
use mathlib.Core.List.{List}
use native.Mathlib.Omega.{arith}
use lib.ListN.{length}
use Rattle.base.proofs.TestLaws.{and_holds, both_yes, eq_yes, eq_holds, lt_holds}
use Rattle.base.specs.Bytes.{Bytes, bytes_of, number_at}
use Rattle.base.proofs.BytesLaws.{part_length, numbers_length}
use Rattle.base.proofs.Occurs.{Occurs, joined_parts, parts_joined, occurs_nil, number_read, number_occurs}
use Rattle.format.specs.Places.{length_size, at_kind, at_body, sender_at, action_payload_at, action_size, position_at, resent_at, retransmission_size, configuration_id_at}
use Rattle.format.specs.Places.{state_cuts_at, state_yellow_at, state_count_at, yellow_count_at, yellow_head_size, regular_set_at, request_size}
use Rattle.format.specs.Types.{Record, action, retransmission, state, cpc, regular, transitional, request, recovery, Kind, of_action, of_retransmission, of_state, of_cpc, of_regular, of_transitional, of_request, of_recovery, kind_number, kind_of, Context, says}
use Rattle.format.specs.Range.{fields_ok, record_ok, own_set_ok}
use Rattle.format.specs.Write.{body_of, write, length_of}
use Rattle.format.specs.Read.{payload_at, action_at, state_at, yellow_at_of, kind_named, length_for, frame_ok, record_in, read}
use Rattle.format.proofs.Ranges.{ContextRange, context_range, length_range, set_range, configuration_range, payload_range, action_range, state_range}
use Rattle.format.proofs.Lengths.{most_state, framed_length, body_length, write_length, write_short}
use Rattle.format.proofs.Fields.{payload_read, action_read, state_read}
use Rattle.format.proofs.Writing.{payload_written, action_written, state_written, ids_number}
use Rattle.format.proofs.Frame.{frame_read, frame_written}
use Rattle.format.proofs.Reading.{kind_named_lem, kind_number_lem, record-kind, read_says, says_read}

-- ---- written, then read

-- e, with the body of r behind its frame, is read as r, and its length is tested for that of r.
record Back (c : Context) (e : List ℕ) (r : Record) : Type 0 where
  long : length_for (kind_of r) c.servers e ≡ length_of r
  same : record_in (kind_of r) c.servers e ≡ r

body_read : (c : Context) (r : Record) (e : List ℕ) → ContextRange c → fields_ok c r ≡ true → Occurs (body_of r) e at_body → Back c e r
unfolding fields_ok body_of bytes_of kind_of record_in length_for length_of own_set_ok
body_read c (action a) e s ok o =
    let x = action_read c a e at_body s (action_range c a s ok) o in
    record { long = ap (λ (m : ℕ). action_size + m) x.0; same = ap action x.1 }
body_read c (retransmission i p a) e s ok o =
    let t = and_holds _ _ ok in
    let u = and_holds _ _ t.1 in
    let parts = joined_parts _ e at_body o in
    let sender : number_at 1 e sender_at ≡ i = number_read 1 sender_at parts.0 refl (omega (arith, lt_holds i c.servers t.0)) in
    let position : number_at 4 e position_at ≡ p = number_read 4 position_at parts.1.0 refl (omega (arith, length_range p u.0)) in
    let x = action_read c a e resent_at s (action_range c a s u.1) parts.1.1.0 in
    record { long = ap (λ (m : ℕ). retransmission_size + m) x.0; same = λ i. retransmission (sender i) (position i) (x.1 i) }
body_read c (state x) e s ok o =
    let r = state_range c x s ok in
    let y = state_read c x e s r o in
    record { long = omega (arith, y.0, r.count); same = ap state y.1 }
body_read c (cpc i x) e s ok o =
    let t = and_holds _ _ ok in
    let parts = joined_parts _ e at_body o in
    let sender : number_at 1 e sender_at ≡ i = number_read 1 sender_at parts.0 refl (omega (arith, lt_holds i c.servers t.0)) in
    let configuration : number_at 4 e configuration_id_at ≡ x = number_read 4 configuration_id_at parts.1.0 refl (configuration_range x t.1) in
    record { long = refl; same = λ i. cpc (sender i) (configuration i) }
body_read c (regular x i) e s ok o =
    let t = and_holds _ _ ok in
    let parts = joined_parts _ e at_body o in
    let configuration : number_at 4 e at_body ≡ x = number_read 4 at_body parts.0 refl (configuration_range x t.0) in
    let set : number_at 1 e regular_set_at ≡ i = number_read 1 regular_set_at parts.1.0 refl (set_range c i s (and_holds _ _ t.1).0) in
    record { long = refl; same = λ i. regular (configuration i) (set i) }
body_read c (transitional i) e s ok o =
    let set : number_at 1 e at_body ≡ i = number_read 1 at_body o refl (set_range c i s (and_holds _ _ (and_holds _ _ ok).0).0) in
    record { long = refl; same = ap transitional set }
body_read c (request p) e s ok o =
    let x = payload_read p e at_body (payload_range p ok) o in
    record { long = ap (λ (m : ℕ). request_size + m) x.0; same = ap request x.1 }
body_read c recovery e s ok o = record { long = refl; same = refl }

kind_small : (k : Kind) → kind_number k < 256
unfolding kind_number
kind_small of_action = omega arith
kind_small of_retransmission = omega arith
kind_small of_state = omega arith
kind_small of_cpc = omega arith
kind_small of_regular = omega arith
kind_small of_transitional = omega arith
kind_small of_request = omega arith
kind_small of_recovery = omega arith

pub read_written : (c : Context) (r : Record) → record_ok c r ≡ true → read c (write r) ≡ says r
unfolding write record_ok frame_ok
read_written c r ok =
    let t = and_holds _ _ ok in
    let e : List ℕ = write r in
    let size : length e ≡ at_body + length (body_of r) = framed_length (kind_number (kind_of r)) (body_of r) in
    let short : length e ≤ most_state = write_short c r ok in
    let f = frame_read (kind_number (kind_of r)) (body_of r) (kind_small (kind_of r)) (omega arith) in
    let b = body_read c r e (context_range c t.0) t.1 f.body in
    read_says c e r
    (record {
      kind = kind_of r;
      named = ap kind_named f.kind_byte ∙ kind_named_lem (kind_of r);
      frame = both_yes _ _ (eq_yes _ _ (omega (arith, f.long))) (both_yes _ _ (rw f.version_byte (eq_yes _ _ refl)) (eq_yes _ _ (b.long ∙ sym (write_length r))));
      same = b.same;
      range = ok;
    })

-- ---- read, then written

-- The record that is read of e, written again: its body occurs behind the frame.
body_written : (k : Kind) (n : ℕ) (e : List ℕ) → Bytes e → length_for k n e ≤ length e → Occurs (body_of (record_in k n e)) e at_body
unfolding body_of record_in length_for bytes_of
body_written of_action n e b h = action_written e at_body b h
body_written of_retransmission n e b h =
    parts_joined _ e at_body (
      number_occurs 1 e sender_at refl b (omega arith),
      (number_occurs 4 e position_at refl b (omega arith), (action_written e resent_at b h, tt)),
    )
body_written of_state n e b h = state_written n e b h
body_written of_cpc n e b h = parts_joined _ e at_body (number_occurs 1 e sender_at refl b (omega arith), (number_occurs 4 e configuration_id_at refl b (omega arith), tt))
body_written of_regular n e b h = parts_joined _ e at_body (number_occurs 4 e at_body refl b (omega arith), (number_occurs 1 e regular_set_at refl b (omega arith), tt))
body_written of_transitional n e b h = number_occurs 1 e at_body refl b (omega arith)
body_written of_request n e b h = payload_written e at_body b h
body_written of_recovery n e b h = occurs_nil e at_body

-- Its length is the one that e was tested for.
length_written : (k : Kind) (n : ℕ) (e : List ℕ) → length_for k n e ≤ length e → length_of (record_in k n e) ≡ length_for k n e
unfolding length_of record_in length_for action_at payload_at state_at yellow_at_of
length_written of_action n e h = ap (λ (m : ℕ). action_size + m) (part_length (number_at 1 e (at_body + action_payload_at)) e action_size h)
length_written of_retransmission n e h = ap (λ (m : ℕ). retransmission_size + m) (part_length (number_at 1 e (resent_at + action_payload_at)) e retransmission_size h)
length_written of_state n e h =
    let place : state_yellow_at + 2 * n + yellow_count_at ≡ state_count_at + 2 * n = omega arith in
    omega (arith, numbers_length 2 n e state_cuts_at, ids_number (number_at 2 e (state_yellow_at + 2 * n + yellow_count_at)) e (state_yellow_at + 2 * n + yellow_head_size), ap (number_at 2 e) place)
length_written of_cpc n e h = refl
length_written of_regular n e h = refl
length_written of_transitional n e h = refl
length_written of_request n e h = ap (λ (m : ℕ). request_size + m) (part_length (number_at 1 e at_body) e request_size h)
length_written of_recovery n e h = refl

kind_written : (k : Kind) (n : ℕ) (e : List ℕ) → Bytes e → kind_number k ≡ number_at 1 e at_kind → frame_ok k n e ≡ true → write (record_in k n e) ≡ e
unfolding write frame_ok
kind_written k n e b p ok =
    let t = and_holds _ _ ok in
    let u = and_holds _ _ t.1 in
    let r : Record = record_in k n e in
    let long : number_at 2 e 0 + length_size ≡ length e = eq_holds _ _ t.0 in
    let fits : length_for k n e ≡ length e = eq_holds _ _ u.1 in
    let size : at_body + length (body_of r) ≡ length e = body_length r ∙ length_written k n e (omega arith) ∙ fits in
    frame_written (kind_number (kind_of r)) (body_of r) e b
    (record {
      long = omega arith;
      version_byte = eq_holds _ _ u.0;
      kind_byte = sym p ∙ ap kind_number (sym (record-kind k n e));
      body = body_written k n e b (omega arith);
    })
    size

pub written_read : (c : Context) (e : List ℕ) (r : Record) → Bytes e → read c e ≡ says r → write r ≡ e
written_read c e r b h =
    let x = says_read c e r h in
    ap write (sym x.same) ∙ kind_written x.kind c.servers e b (kind_number_lem (number_at 1 e at_kind) x.kind x.named) x.frame
