-- The parts that are read of bytes, written again, occur where they were read.
use Prim.Native.Nat.{ℕ, zero, suc, ◌+◌, ◌*◌, ◌-◌, ◌≤◌, ◌<◌}
use mathlib.Core.Path.{◌≡◌, refl, sym, ap, subst, ◌∙◌}
use mathlib.Core.List.{List, ◌∷◌}
use native.Mathlib.Omega.{arith}
use lib.ListN.{length}
use Rattle.base.specs.Bytes.{Bytes, bytes_of, number_at, numbers_at, part_at}
use Rattle.base.proofs.BytesLaws.{part_length, numbers_length}
use Rattle.base.proofs.Occurs.{Occurs, parts_joined, occurs_nil, occurs_at, number_occurs, part_occurs}
use Rattle.format.specs.Places.{at_body, id_index_at, id_size, action_green_at, action_white_at, action_payload_at, action_head_size, primary_attempt_at, primary_set_at, primary_size, mark_index_at, mark_attempt_at, mark_set_at, mark_bits_at, mark_size}
use Rattle.format.specs.Places.{yellow_count_at, yellow_head_size, configuration_id_at, state_cuts_at, state_green_at, state_attempt_at, state_last_at, state_mark_at, state_yellow_at, state_count_at, state_head_size}
use Rattle.format.specs.Write.{payload_bytes, id_bytes, action_bytes, cuts_bytes, primary_bytes, mark_bytes, ids_bytes, yellow_bytes, state_bytes}
use Rattle.format.specs.Read.{payload_at, id_at, action_at, primary_at, mark_at, ids_at, yellow_at_of, state_at}
use Rattle.format.proofs.Lengths.{id_length, primary_length, mark_length, cuts_length}

pub payload_written : (e : List ℕ) (at : ℕ) → Bytes e → at + 1 + number_at 1 e at ≤ length e → Occurs (payload_bytes (payload_at e at)) e at
unfolding payload_bytes payload_at bytes_of
payload_written e at b h =
    let m : ℕ = number_at 1 e at in
    let long : length (part_at m e (at + 1)) ≡ m = part_length m e (at + 1) h in
    let count : Occurs (bytes_of 1 (length (part_at m e (at + 1)))) e at =
    subst (λ (v : ℕ). Occurs (bytes_of 1 v) e at) (sym long) (number_occurs 1 e at refl b (omega arith)) in
    parts_joined _ e at (count, (part_occurs m e (at + 1) refl h, tt))

pub id_written : (e : List ℕ) (at : ℕ) → Bytes e → at + id_size ≤ length e → Occurs (id_bytes (id_at e at)) e at
unfolding id_bytes id_at bytes_of
id_written e at b h = parts_joined _ e at (number_occurs 1 e at refl b (omega arith), (number_occurs 2 e (at + id_index_at) (omega arith) b (omega arith), tt))

pub action_written : (e : List ℕ) (at : ℕ) → Bytes e → at + action_head_size + number_at 1 e (at + action_payload_at) ≤ length e → Occurs (action_bytes (action_at e at)) e at
unfolding action_bytes action_at bytes_of
action_written e at b h =
    parts_joined _ e at (
      id_written e at b (omega arith),
      (
        number_occurs 4 e (at + action_green_at) (omega (arith, id_length (id_at e at))) b (omega arith),
        (
          number_occurs 4 e (at + action_white_at) (omega (arith, id_length (id_at e at))) b (omega arith),
          (occurs_at (payload_written e (at + action_payload_at) b (omega arith)) (omega (arith, id_length (id_at e at))), tt),
        ),
      ),
    )

pub primary_written : (e : List ℕ) (at : ℕ) → Bytes e → at + primary_size ≤ length e → Occurs (primary_bytes (primary_at e at)) e at
unfolding primary_bytes primary_at bytes_of
primary_written e at b h =
    parts_joined _ e at (
      number_occurs 4 e at refl b (omega arith),
      (number_occurs 4 e (at + primary_attempt_at) (omega arith) b (omega arith), (number_occurs 1 e (at + primary_set_at) (omega arith) b (omega arith), tt)),
    )

pub mark_written : (e : List ℕ) (at : ℕ) → Bytes e → at + mark_size ≤ length e → Occurs (mark_bytes (mark_at e at)) e at
unfolding mark_bytes mark_at bytes_of
mark_written e at b h =
    parts_joined _ e at (
      number_occurs 1 e at refl b (omega arith),
      (
        number_occurs 4 e (at + mark_index_at) (omega arith) b (omega arith),
        (
          number_occurs 4 e (at + mark_attempt_at) (omega arith) b (omega arith),
          (number_occurs 1 e (at + mark_set_at) (omega arith) b (omega arith), (number_occurs 1 e (at + mark_bits_at) (omega arith) b (omega arith), tt)),
        ),
      ),
    )

pub cuts_written : (m : ℕ) (e : List ℕ) (at : ℕ) → Bytes e → at + 2 * m ≤ length e → Occurs (cuts_bytes (numbers_at 2 m e at)) e at
unfolding cuts_bytes numbers_at bytes_of
cuts_written zero e at b h = occurs_nil e at
cuts_written (suc m) e at b h =
    parts_joined _ e at (number_occurs 2 e at refl b (omega arith), (cuts_written m e (at + 2) b (omega arith), tt))

pub ids_written : (m : ℕ) (e : List ℕ) (at : ℕ) → Bytes e → at + id_size * m ≤ length e → Occurs (ids_bytes (ids_at m e at)) e at
unfolding ids_bytes ids_at
ids_written zero e at b h = occurs_nil e at
ids_written (suc m) e at b h =
    parts_joined _ e at
    (id_written e at b (omega arith), (occurs_at (ids_written m e (at + id_size) b (omega arith)) (omega (arith, id_length (id_at e at))), tt))

pub ids_number : (m : ℕ) (e : List ℕ) (at : ℕ) → length (ids_at m e at) ≡ m
unfolding ids_at
ids_number zero e at = refl
ids_number (suc m) e at = ap suc (ids_number m e (at + id_size))

-- The first of those that are left.
pub ids_more : (e : List ℕ) (at k m : ℕ) → k < m → ids_at (m - k) e (at + id_size * k) ≡ id_at e (at + id_size * k) ∷ ids_at (m - (k + 1)) e (at + id_size * (k + 1))
unfolding ids_at
ids_more e at k m h =
    let a : m - k ≡ suc (m - (k + 1)) = omega arith in
    let b : at + id_size * (k + 1) ≡ at + id_size * k + id_size = omega arith in
    ap (λ (i : ℕ). ids_at i e (at + id_size * k)) a ∙ rw b

pub yellow_written : (e : List ℕ) (at : ℕ) → Bytes e → at + yellow_head_size + id_size * number_at 2 e (at + yellow_count_at) ≤ length e → Occurs (yellow_bytes (yellow_at_of e at)) e at
unfolding yellow_bytes yellow_at_of bytes_of
yellow_written e at b h =
    let m : ℕ = number_at 2 e (at + yellow_count_at) in
    let count : Occurs (bytes_of 2 (length (ids_at m e (at + yellow_head_size)))) e (at + yellow_count_at) =
    subst (λ (v : ℕ). Occurs (bytes_of 2 v) e (at + yellow_count_at)) (sym (ids_number m e (at + yellow_head_size))) (number_occurs 2 e (at + yellow_count_at) refl b (omega arith)) in
    parts_joined _ e at
    (number_occurs 1 e at refl b (omega arith), (occurs_at count (omega arith), (occurs_at (ids_written m e (at + yellow_head_size) b h) (omega arith), tt)))

pub state_written : (n : ℕ) (e : List ℕ) → Bytes e → state_head_size + 2 * n + id_size * number_at 2 e (state_count_at + 2 * n) ≤ length e
    → Occurs (state_bytes (state_at n e)) e at_body
unfolding state_bytes state_at bytes_of
state_written n e b h =
    let place : state_count_at + 2 * n ≡ state_yellow_at + 2 * n + yellow_count_at = omega arith in
    let room : state_head_size + 2 * n + id_size * number_at 2 e (state_yellow_at + 2 * n + yellow_count_at) ≤ length e = rw place at h in
    let cuts : length (cuts_bytes (numbers_at 2 n e state_cuts_at)) ≡ 2 * n =
    cuts_length (numbers_at 2 n e state_cuts_at) ∙ ap (λ (m : ℕ). 2 * m) (numbers_length 2 n e state_cuts_at) in
    let last : length (primary_bytes (primary_at e (state_last_at + 2 * n))) ≡ primary_size = primary_length (primary_at e (state_last_at + 2 * n)) in
    let mark : length (mark_bytes (mark_at e (state_mark_at + 2 * n))) ≡ mark_size = mark_length (mark_at e (state_mark_at + 2 * n)) in
    parts_joined _ e at_body (
      number_occurs 1 e at_body refl b (omega arith),
      (
        number_occurs 4 e configuration_id_at refl b (omega arith),
        (
          cuts_written n e state_cuts_at b (omega arith),
          (
            number_occurs 4 e (state_green_at + 2 * n) (omega arith) b (omega arith),
            (
              number_occurs 4 e (state_attempt_at + 2 * n) (omega arith) b (omega arith),
              (
                occurs_at (primary_written e (state_last_at + 2 * n) b (omega arith)) (omega arith),
                (
                  occurs_at (mark_written e (state_mark_at + 2 * n) b (omega arith)) (omega arith),
                  (occurs_at (yellow_written e (state_yellow_at + 2 * n) b (omega arith)) (omega arith), tt),
                ),
              ),
            ),
          ),
        ),
      ),
    )
