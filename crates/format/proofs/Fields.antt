-- The parts of a record, read where their bytes occur.
use Prim.Native.Nat.{ℕ, ◌+◌, ◌*◌, ◌≤◌}
use mathlib.Core.Path.{◌≡◌, refl, sym, ap, ap₂, ◌∙◌}
use mathlib.Core.Bool.{true}
use mathlib.Core.List.{List, [], ◌∷◌}
use native.Mathlib.Nat.{mul-le-mul}
use native.Mathlib.Omega.{arith}
use lib.ListN.{length}
use Rattle.base.proofs.TestLaws.{and_holds, le_holds}
use Rattle.base.specs.Bytes.{bytes_of, number_at, numbers_at, part_at}
use Rattle.base.proofs.BytesLaws.{bytes_length}
use Rattle.base.proofs.Occurs.{Occurs, joined_parts, occurs_at, number_read}
use Rattle.format.specs.Limits.{most_number_limit, most_ids}
use Rattle.format.specs.Places.{at_body, id_index_at, id_size, action_green_at, action_white_at, action_payload_at, primary_attempt_at, primary_set_at, primary_size, mark_index_at, mark_attempt_at, mark_set_at, mark_bits_at, mark_size}
use Rattle.format.specs.Places.{yellow_count_at, yellow_head_size, configuration_id_at, state_cuts_at, state_green_at, state_attempt_at, state_last_at, state_mark_at, state_yellow_at, state_count_at}
use Rattle.format.specs.Types.{Id, Action, Primary, Mark, Yellow, State, Context}
use Rattle.format.specs.Range.{cuts_ok, ids_in_range}
use Rattle.format.specs.Write.{payload_bytes, id_bytes, action_bytes, cuts_bytes, primary_bytes, mark_bytes, ids_bytes, yellow_bytes, state_bytes}
use Rattle.format.specs.Read.{payload_at, id_at, action_at, primary_at, mark_at, ids_at, yellow_at_of, state_at}
use Rattle.format.proofs.Ranges.{ContextRange, IdRange, id_range, PayloadRange, ActionRange, PrimaryRange, MarkRange, YellowRange, StateRange}
use Rattle.format.proofs.Lengths.{id_length, primary_length, mark_length, cuts_length}

pub payload_read : (p e : List ℕ) (at : ℕ) → PayloadRange p → Occurs (payload_bytes p) e at → (number_at 1 e at ≡ length p) × (payload_at e at ≡ p)
unfolding payload_bytes payload_at
payload_read p e at r o =
    let parts = joined_parts _ e at o in
    let long : number_at 1 e at ≡ length p = number_read 1 at parts.0 refl (omega arith) in
    let place : at + length (bytes_of 1 (length p)) ≡ at + 1 = omega (arith, bytes_length 1 (length p)) in
    (long, ap (λ (m : ℕ). part_at m e (at + 1)) long ∙ (occurs_at parts.1.0 place).part)

pub id_read : (c : Context) (d : Id) (e : List ℕ) (at : ℕ) → ContextRange c → IdRange c d → Occurs (id_bytes d) e at → id_at e at ≡ d
unfolding id_bytes id_at
id_read c d e at s r o =
    let parts = joined_parts _ e at o in
    let creator : number_at 1 e at ≡ d.creator = number_read 1 at parts.0 refl (omega arith) in
    let index : number_at 2 e (at + id_index_at) ≡ d.index = number_read 2 (at + id_index_at) parts.1.0 (omega (arith, bytes_length 1 d.creator)) (omega arith) in
    λ i. record { creator = creator i; index = index i }

pub action_read : (c : Context) (a : Action) (e : List ℕ) (at : ℕ) → ContextRange c → ActionRange c a → Occurs (action_bytes a) e at
    → (number_at 1 e (at + action_payload_at) ≡ length a.payload) × (action_at e at ≡ a)
unfolding action_bytes action_at bytes_of
action_read c a e at s r o =
    let parts = joined_parts _ e at o in
    let id : id_at e at ≡ a.id = id_read c a.id e at s r.id parts.0 in
    let green : number_at 4 e (at + action_green_at) ≡ a.green_length = number_read 4 (at + action_green_at) parts.1.0 (omega (arith, id_length a.id)) (omega arith) in
    let white : number_at 4 e (at + action_white_at) ≡ a.white_length = number_read 4 (at + action_white_at) parts.1.1.0 (omega (arith, id_length a.id)) (omega arith) in
    let payload = payload_read a.payload e (at + action_payload_at) r.payload (occurs_at parts.1.1.1.0 (omega (arith, id_length a.id))) in
    (payload.0, λ i. record { id = id i; green_length = green i; white_length = white i; payload = payload.1 i })

pub primary_read : (p : Primary) (e : List ℕ) (at : ℕ) → PrimaryRange p → Occurs (primary_bytes p) e at → primary_at e at ≡ p
unfolding primary_bytes primary_at bytes_of
primary_read p e at r o =
    let parts = joined_parts _ e at o in
    let index : number_at 4 e at ≡ p.index = number_read 4 at parts.0 refl (omega arith) in
    let attempt : number_at 4 e (at + primary_attempt_at) ≡ p.attempt = number_read 4 (at + primary_attempt_at) parts.1.0 (omega arith) (omega arith) in
    let set : number_at 1 e (at + primary_set_at) ≡ p.set = number_read 1 (at + primary_set_at) parts.1.1.0 (omega arith) (omega arith) in
    λ i. record { index = index i; attempt = attempt i; set = set i }

pub mark_read : (m : Mark) (e : List ℕ) (at : ℕ) → MarkRange m → Occurs (mark_bytes m) e at → mark_at e at ≡ m
unfolding mark_bytes mark_at bytes_of
mark_read m e at r o =
    let parts = joined_parts _ e at o in
    let status : number_at 1 e at ≡ m.status = number_read 1 at parts.0 refl (omega arith) in
    let index : number_at 4 e (at + mark_index_at) ≡ m.index = number_read 4 (at + mark_index_at) parts.1.0 (omega arith) (omega arith) in
    let attempt : number_at 4 e (at + mark_attempt_at) ≡ m.attempt = number_read 4 (at + mark_attempt_at) parts.1.1.0 (omega arith) (omega arith) in
    let set : number_at 1 e (at + mark_set_at) ≡ m.set = number_read 1 (at + mark_set_at) parts.1.1.1.0 (omega arith) (omega arith) in
    let bits : number_at 1 e (at + mark_bits_at) ≡ m.bits = number_read 1 (at + mark_bits_at) parts.1.1.1.1.0 (omega arith) (omega arith) in
    λ i. record { status = status i; index = index i; attempt = attempt i; set = set i; bits = bits i }

pub cuts_read : (q : ℕ) (xs e : List ℕ) (at : ℕ) → q ≤ most_number_limit → cuts_ok q xs ≡ true → Occurs (cuts_bytes xs) e at → numbers_at 2 (length xs) e at ≡ xs
unfolding cuts_bytes numbers_at cuts_ok bytes_of
cuts_read q [] e at h ok o = refl
cuts_read q (x ∷ xs) e at h ok o =
    let parts = joined_parts _ e at o in
    let tests = and_holds _ _ ok in
    let first : number_at 2 e at ≡ x = number_read 2 at parts.0 refl (omega (arith, le_holds x q tests.0)) in
    let rest = cuts_read q xs e (at + 2) h tests.1 parts.1.0 in
    ap₂ {A = ℕ} {B = List ℕ} {C = List ℕ} (λ y l. y ∷ l) first rest

pub ids_read : (c : Context) (xs : List Id) (e : List ℕ) (at : ℕ) → ContextRange c → ids_in_range c xs ≡ true → Occurs (ids_bytes xs) e at
    → ids_at (length xs) e at ≡ xs
unfolding ids_bytes ids_at ids_in_range
ids_read c [] e at s ok o = refl
ids_read c (x ∷ xs) e at s ok o =
    let parts = joined_parts _ e at o in
    let tests = and_holds _ _ ok in
    let first : id_at e at ≡ x = id_read c x e at s (id_range c x tests.0) parts.0 in
    let rest = ids_read c xs e (at + id_size) s tests.1 (occurs_at parts.1.0 (omega (arith, id_length x))) in
    ap₂ {A = Id} {B = List Id} {C = List Id} (λ y l. y ∷ l) first rest

pub yellow_read : (c : Context) (y : Yellow) (e : List ℕ) (at : ℕ) → ContextRange c → YellowRange c y → Occurs (yellow_bytes y) e at
    → (number_at 2 e (at + yellow_count_at) ≡ length y.ids) × (yellow_at_of e at ≡ y)
unfolding yellow_bytes yellow_at_of bytes_of
yellow_read c y e at s r o =
    let parts = joined_parts _ e at o in
    let few = r.few in
    let product : c.servers * c.quota ≤ most_ids = mul-le-mul s.sizes.most s.sizes.highest in
    let status : number_at 1 e at ≡ y.status = number_read 1 at parts.0 refl (omega arith) in
    let count : number_at 2 e (at + yellow_count_at) ≡ length y.ids = number_read 2 (at + yellow_count_at) parts.1.0 (omega arith) (omega arith) in
    let ids = ids_read c y.ids e (at + yellow_head_size) s r.ids (occurs_at parts.1.1.0 (omega arith)) in
    (count, λ i. record { status = status i; ids = (ap (λ (m : ℕ). ids_at m e (at + yellow_head_size)) count ∙ ids) i })

pub state_read : (c : Context) (x : State) (e : List ℕ) → ContextRange c → StateRange c x → Occurs (state_bytes x) e at_body
    → (number_at 2 e (state_count_at + 2 * c.servers) ≡ length x.yellow.ids) × (state_at c.servers e ≡ x)
unfolding state_bytes state_at bytes_of
state_read c x e s r o =
    let parts = joined_parts _ e at_body o in
    let n : ℕ = c.servers in
    let after : length (cuts_bytes x.cuts) ≡ 2 * n = omega (arith, cuts_length x.cuts) in
    let pair : (length (primary_bytes x.last) ≡ primary_size) × (length (mark_bytes x.mark) ≡ mark_size) = (primary_length x.last, mark_length x.mark) in
    let sender : number_at 1 e at_body ≡ x.sender = number_read 1 at_body parts.0 refl (omega arith) in
    let configuration : number_at 4 e configuration_id_at ≡ x.configuration = number_read 4 configuration_id_at parts.1.0 refl (omega arith) in
    let cuts : numbers_at 2 (length x.cuts) e state_cuts_at ≡ x.cuts = cuts_read most_number_limit x.cuts e state_cuts_at (omega arith) r.cuts parts.1.1.0 in
    let green : number_at 4 e (state_green_at + 2 * n) ≡ x.green_length = number_read 4 (state_green_at + 2 * n) parts.1.1.1.0 (omega arith) (omega arith) in
    let attempt : number_at 4 e (state_attempt_at + 2 * n) ≡ x.attempt = number_read 4 (state_attempt_at + 2 * n) parts.1.1.1.1.0 (omega arith) (omega arith) in
    let last : primary_at e (state_last_at + 2 * n) ≡ x.last =
    primary_read x.last e (state_last_at + 2 * n) r.last (occurs_at parts.1.1.1.1.1.0 (omega arith)) in
    let mark : mark_at e (state_mark_at + 2 * n) ≡ x.mark = mark_read x.mark e (state_mark_at + 2 * n) r.mark (occurs_at parts.1.1.1.1.1.1.0 (omega arith)) in
    let yellow = yellow_read c x.yellow e (state_yellow_at + 2 * n) s r.yellow (occurs_at parts.1.1.1.1.1.1.1.0 (omega arith)) in
    let place : state_count_at + 2 * n ≡ state_yellow_at + 2 * n + yellow_count_at = omega arith in (
      ap (number_at 2 e) place ∙ yellow.0,
      λ i. record {
        sender = sender i;
        configuration = configuration i;
        cuts = (ap (λ (m : ℕ). numbers_at 2 m e state_cuts_at) (sym r.count) ∙ cuts) i;
        green_length = green i;
        attempt = attempt i;
        last = last i;
        mark = mark i;
        yellow = yellow.1 i;
      },
    )
