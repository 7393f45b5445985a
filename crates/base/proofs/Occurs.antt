-- Where bytes occur in other bytes: what a record's parts are written to and read from.
use Prim.Native.Nat.{ℕ, ◌+◌, ◌^◌, ◌≤◌, ◌<◌}
use mathlib.Core.Path.{◌≡◌, refl, sym, ap, ap₂, subst, ◌∙◌}
use mathlib.Core.List.{List, [], ◌∷◌, ◌++◌, append-nil}
use native.Mathlib.Omega.{arith}
use lib.ListN.{length, take, drop, length-append}
use lib.Seq.{take_all, take-length, take-take, take-add, take-append_seam, drop-append_seam, drop-drop}
use Rattle.base.specs.Bytes.{Bytes, bytes_of, number_at, part_at, joined}
use Rattle.base.proofs.BytesLaws.{bytes_length, bytes_number, number_bytes, number_part, part_length}

-- x occurs in e at `at`.
pub record Occurs (x e : List ℕ) (at : ℕ) : Type 0 where
  pub part : part_at (length x) e at ≡ x

pub occurs_whole : (e : List ℕ) → Occurs e e 0
unfolding part_at
occurs_whole e = record { part = take-length e }

pub occurs_all : (x e : List ℕ) → Occurs x e 0 → length x ≡ length e → x ≡ e
unfolding part_at
occurs_all x e o h = sym o.part ∙ take_all (length x) e (omega arith)

pub occurs_nil : (e : List ℕ) (at : ℕ) → Occurs [] e at
unfolding part_at
occurs_nil e at = record { part = refl }

-- Two parts, one after the other: the second begins at k.
pub occurs_append : (x y e : List ℕ) (at k : ℕ) → at + length x ≡ k → Occurs x e at → Occurs y e k → Occurs (x ++ y) e at
unfolding part_at
occurs_append x y e at k h a b =
    let behind : drop (length x) (drop at e) ≡ drop k e = drop-drop (length x) at e ∙ ap (λ (n : ℕ). drop n e) h in
    record {
      part =
          ap (λ (n : ℕ). take n (drop at e)) (length-append x y)
          ∙ take-add (length x) (length y) (drop at e)
          ∙ ap₂ {A = List ℕ} {B = List ℕ} {C = List ℕ} (λ u v. u ++ v) a.part (ap (take (length y)) behind ∙ b.part);
    }

pub occurs_first : (x y e : List ℕ) (at : ℕ) → Occurs (x ++ y) e at → Occurs x e at
unfolding part_at
occurs_first x y e at o =
    let shorter : length x ≤ length (x ++ y) = simp length-append (omega arith) in
    record { part = sym (take-take (length x) (length (x ++ y)) (drop at e) shorter) ∙ ap (take (length x)) o.part ∙ take-append_seam x y }

pub occurs_second : (x y e : List ℕ) (at k : ℕ) → at + length x ≡ k → Occurs (x ++ y) e at → Occurs y e k
unfolding part_at
occurs_second x y e at k h o =
    let behind : drop (length x) (drop at e) ≡ drop k e = drop-drop (length x) at e ∙ ap (λ (n : ℕ). drop n e) h in
    let both : x ++ take (length y) (drop k e) ≡ x ++ y =
    ap₂ {A = List ℕ} {B = List ℕ} {C = List ℕ} (λ u v. u ++ v) (sym (occurs_first x y e at o).part) (ap (take (length y)) (sym behind))
    ∙ sym (take-add (length x) (length y) (drop at e))
    ∙ ap (λ (n : ℕ). take n (drop at e)) (sym (length-append x y))
    ∙ o.part in
    record { part = sym (drop-append_seam x (take (length y) (drop k e))) ∙ ap (drop (length x)) both ∙ drop-append_seam x y }

-- Each part occurs where the one before it ends.
abbrev pub Parts : List (List ℕ) → List ℕ → ℕ → Type 0
Parts [] e at = Unit {0}
Parts (x ∷ xs) e at = Occurs x e at × Parts xs e (at + length x)

pub joined_parts : (xs : List (List ℕ)) (e : List ℕ) (at : ℕ) → Occurs (joined xs) e at → Parts xs e at
unfolding joined
joined_parts [] e at o = tt
joined_parts (x ∷ xs) e at o =
    (occurs_first x (joined xs) e at o, joined_parts xs e (at + length x) (occurs_second x (joined xs) e at (at + length x) refl o))

pub parts_joined : (xs : List (List ℕ)) (e : List ℕ) (at : ℕ) → Parts xs e at → Occurs (joined xs) e at
unfolding joined
parts_joined [] e at o = occurs_nil e at
parts_joined (x ∷ xs) e at o = occurs_append x (joined xs) e at (at + length x) refl o.0 (parts_joined xs e (at + length x) o.1)

-- Elsewhere by an equation of the places, since a place in `Parts` is a sum of lengths.
pub occurs_at : {x e : List ℕ} {at k : ℕ} → Occurs x e at → at ≡ k → Occurs x e k
occurs_at {x} {e} o h = subst (Occurs x e) h o

-- Without what lies in front.
pub occurs_drop : {x e : List ℕ} (at k : ℕ) → Occurs x e (at + k) → Occurs x (drop at e) k
unfolding part_at
occurs_drop {x} {e} at k o = record { part = ap (take (length x)) (drop-drop k at e) ∙ o.part }

-- ---- a number where its bytes occur, and the bytes of a number that is read

pub number_read : (w : ℕ) {v : ℕ} {e : List ℕ} {at : ℕ} (k : ℕ) → Occurs (bytes_of w v) e at → at ≡ k → v < 256 ^ w → number_at w e k ≡ v
number_read w {v} {e} {at} k o p h =
    let whole : bytes_of w v ++ [] ≡ bytes_of w v = append-nil (bytes_of w v) in
    let same : part_at w e at ≡ bytes_of w v = ap (λ (m : ℕ). part_at m e at) (sym (bytes_length w v)) ∙ o.part in
    ap (number_at w e) (sym p)
    ∙ sym (number_part w e at w (omega arith))
    ∙ ap (λ (l : List ℕ). number_at w l 0) (same ∙ sym whole)
    ∙ number_bytes w v h [] [] 0 refl

pub number_occurs : (w : ℕ) (e : List ℕ) (at : ℕ) {k : ℕ} → at ≡ k → Bytes e → at + w ≤ length e → Occurs (bytes_of w (number_at w e at)) e k
number_occurs w e at p b h =
    occurs_at (record { part = ap (λ (m : ℕ). part_at m e at) (bytes_length w (number_at w e at)) ∙ sym (bytes_number w e at b h) }) p

pub part_occurs : (m : ℕ) (e : List ℕ) (at : ℕ) {k : ℕ} → at ≡ k → at + m ≤ length e → Occurs (part_at m e at) e k
part_occurs m e at p h = occurs_at (record { part = ap (λ (n : ℕ). part_at n e at) (part_length m e at h) }) p
