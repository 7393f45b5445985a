-- How long the bytes of a record are.
use Prim.Native.Nat.{ℕ, ◌+◌, ◌*◌, ◌-◌, ◌≤◌}
use mathlib.Core.Path.{◌≡◌, refl, ◌∙◌}
use mathlib.Core.Bool.{true}
use mathlib.Core.List.{List, [], ◌∷◌}
use native.Mathlib.Omega.{arith}
use native.Mathlib.Nat.{mul-le-mul}
use lib.ListN.{length, length-append}
use Rattle.base.proofs.TestLaws.{and_holds}
use Rattle.base.specs.Bytes.{bytes_of, joined}
use Rattle.format.specs.Limits.{most_servers_limit, most_ids}
use Rattle.format.specs.Places.{at_body, id_size, action_head_size, primary_size, mark_size, state_head_size}
use Rattle.format.specs.Types.{Id, Action, Primary, Mark, State, Record, action, retransmission, state, cpc, regular, transitional, request, recovery, kind_number, kind_of, Context}
use Rattle.format.specs.Range.{fields_ok, record_ok}
use Rattle.format.specs.Write.{framed, payload_bytes, id_bytes, action_bytes, cuts_bytes, primary_bytes, mark_bytes, ids_bytes, yellow_bytes, state_bytes, body_of, write, length_of}
use Rattle.format.proofs.Ranges.{ContextRange, context_range, payload_range, action_range, state_range}

pub framed_length : (kind : ℕ) (body : List ℕ) → length (framed kind body) ≡ at_body + length body
unfolding framed joined bytes_of
framed_length kind body = simp length-append (omega arith)

pub payload_length : (p : List ℕ) → length (payload_bytes p) ≡ 1 + length p
unfolding payload_bytes joined bytes_of
payload_length p = simp length-append (omega arith)

pub id_length : (d : Id) → length (id_bytes d) ≡ id_size
unfolding id_bytes joined bytes_of
id_length d = refl

pub primary_length : (p : Primary) → length (primary_bytes p) ≡ primary_size
unfolding primary_bytes joined bytes_of
primary_length p = refl

pub mark_length : (m : Mark) → length (mark_bytes m) ≡ mark_size
unfolding mark_bytes joined bytes_of
mark_length m = refl

pub action_length : (a : Action) → length (action_bytes a) ≡ action_head_size + length a.payload
unfolding action_bytes id_bytes joined bytes_of
action_length a = simp (length-append, payload_length) (omega arith)

pub cuts_length : (xs : List ℕ) → length (cuts_bytes xs) ≡ 2 * length xs
unfolding cuts_bytes joined bytes_of
cuts_length [] = refl
cuts_length (x ∷ xs) = simp (length-append, cuts_length xs) (omega arith)

pub ids_length : (xs : List Id) → length (ids_bytes xs) ≡ id_size * length xs
unfolding ids_bytes id_bytes joined bytes_of
ids_length [] = refl
ids_length (x ∷ xs) = simp (length-append, ids_length xs) (omega arith)

pub state_length_lem : (s : State) → length (state_bytes s) ≡ state_head_size - at_body + 2 * length s.cuts + id_size * length s.yellow.ids
unfolding state_bytes primary_bytes mark_bytes yellow_bytes joined bytes_of
state_length_lem s = simp (length-append, cuts_length, ids_length) (omega arith)

pub body_length : (r : Record) → at_body + length (body_of r) ≡ length_of r
unfolding body_of length_of joined bytes_of
body_length (action a) = rw action_length (omega arith)
body_length (retransmission s p a) = simp (length-append, action_length) (omega arith)
body_length (state s) = rw state_length_lem (omega arith)
body_length (cpc s i) = refl
body_length (regular i s) = refl
body_length (transitional s) = refl
body_length (request p) = rw payload_length (omega arith)
body_length recovery = refl

pub write_length : (r : Record) → length (write r) ≡ length_of r
unfolding write
write_length r = framed_length (kind_number (kind_of r)) (body_of r) ∙ body_length r

-- ---- a record in range is short

-- The longest one is a State.
abbrev pub most_state : ℕ
most_state = state_head_size + 2 * most_servers_limit + id_size * most_ids

ids_short : (c : Context) (s : State) → ContextRange c → fields_ok c (state s) ≡ true → length s.yellow.ids ≤ most_ids
unfolding fields_ok
ids_short c s r ok =
    let y = (state_range c s r ok).yellow in
    let product : c.servers * c.quota ≤ most_ids = mul-le-mul r.sizes.most r.sizes.highest in
    omega (arith, y.few)

length_short : (c : Context) (r : Record) → ContextRange c → fields_ok c r ≡ true → length_of r ≤ most_state
unfolding length_of fields_ok
length_short c (action a) s ok = omega (arith, (action_range c a s ok).payload.most)
length_short c (retransmission i p a) s ok = omega (arith, (action_range c a s (and_holds _ _ (and_holds _ _ ok).1).1).payload.most)
length_short c (state x) s ok = omega (arith, ids_short c x s ok, (state_range c x s ok).count)
length_short c (cpc i x) s ok = omega arith
length_short c (regular x i) s ok = omega arith
length_short c (transitional x) s ok = omega arith
length_short c (request p) s ok = omega (arith, (payload_range p ok).most)
length_short c recovery s ok = omega arith

pub write_short : (c : Context) (r : Record) → record_ok c r ≡ true → length (write r) ≤ most_state
unfolding record_ok
write_short c r ok =
    let a = and_holds _ _ ok in
    rw write_length (length_short c r (context_range c a.0) a.1)
