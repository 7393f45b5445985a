-- What a payload is, as the code tests it.
use Prim.Native.Nat.{ℕ, ◌+◌, ◌-◌, ◌≤◌, ◌<◌}
use mathlib.Core.Path.{◌≡◌, sym, ap, ap₂, ◌∙◌, refl}
use mathlib.Core.Bool.{Bool, true, false, not}
use mathlib.Core.List.{List}
use mathlib.Core.Option.{Option, none, some}
use native.Mathlib.Omega.{arith}
use lib.ListN.{length, take, drop}
use borrow.Author.Tests.{not-true, not-false}
use Rattle.base.specs.Tests.{◌and◌, ◌≤?◌, ◌=?◌, pick}
use Rattle.base.specs.Bytes.{number_at, part_at}
use Rattle.base.proofs.BytesLaws.{part_length}
use Rattle.base.proofs.TestLaws.{Known, known, holds, fails, le_holds, eq_yes, eq_no, le_yes, le_no, and_holds, and_no, both_yes, pick_yes, pick_no}
use Rattle.pegs.specs.Operations.{Place, Operation, set, move, retire, set_byte, move_byte, retire_byte, most_name, at_name_length, at_name, coordinate_size, place_size, place_at, name_fits, operation_as, operation_of}

module _ (p : List ℕ) where
  pub payload_short : length p < at_name → none ≡ operation_of p
  unfolding operation_of
  payload_short h = pick_no _ _ _ _ (sym (and_no _ _ (le_no at_name (length p) h))) refl

  module _ (k : ℕ) (e : k ≡ number_at 1 p at_name_length) (u : Bool) (h : u ≡ name_fits k) where
    pub name_unfit : not u ≡ true → none ≡ operation_of p
    unfolding operation_of ◌and◌
    name_unfit n = pick_no _ _ _ _ (go (known (at_name ≤? length p))) refl
      where
        go : Known (at_name ≤? length p) → (at_name ≤? length p and name_fits (number_at 1 p at_name_length)) ≡ false
        go (holds t) = rw t (ap name_fits (sym e) ∙ sym h ∙ not-true u n)
        go (fails t) = sym (and_no _ _ t)

    module _ (y : not u ≡ false) (long : at_name ≤ length p) where
      name_most : k ≤ most_name
      unfolding name_fits
      name_most = le_holds k most_name (and_holds (1 ≤? k) (k ≤? most_name) (sym h ∙ not-false u y)).1

      -- The name, as the code cuts it.
      name_cut : take (at_name + k - at_name) (drop at_name p) ≡ part_at k p at_name
      unfolding part_at
      name_cut = let e : at_name + k - at_name ≡ k = omega arith in ap (λ (i : ℕ). take i (drop at_name p)) e

      pub name_long : at_name + k ≤ length p → length (take (at_name + k - at_name) (drop at_name p)) ≤ most_name
      name_long l = omega (arith, ap length name_cut, part_length k p at_name l, name_most)

      as_it_is : (o : ℕ) → o ≡ number_at 1 p 0 → operation_of p ≡ operation_as o k p
      unfolding operation_of
      as_it_is o f =
          sym (pick_yes _ _ _ _ (both_yes _ _ (le_yes at_name (length p) long) (ap name_fits (sym e) ∙ sym h ∙ not-false u y)) refl)
          ∙ ap₂ {A = ℕ} {B = ℕ} {C = Option Operation} (λ i j. operation_as i j p) (sym f) (sym e)

      module _ (o : ℕ) (f : o ≡ number_at 1 p 0) where
        pub a_retire : length p ≡ at_name + k → o ≡ retire_byte → some (retire (take (at_name + k - at_name) (drop at_name p))) ≡ operation_of p
        unfolding operation_as pick ◌and◌
        a_retire l r =
            sym (as_it_is o f ∙ rw (eq_no o set_byte (λ z. omega arith), eq_no o move_byte (λ z. omega arith), eq_yes o retire_byte r, eq_yes (length p) (at_name + k) l)
            (ap (λ (x : List ℕ). some (retire x)) (sym name_cut)))

        module _ (i j : ℕ) (g : i ≡ number_at coordinate_size p (at_name + k)) (n : j ≡ number_at coordinate_size p (at_name + k + coordinate_size)) where
          abbrev given : Place
          given = record { easting = i; northing = j }

          place_is : place_at p (at_name + k) ≡ given
          unfolding place_at
          place_is = λ x. record { easting = sym g x; northing = sym n x }

          pub a_set : length p ≡ at_name + k + place_size → o ≡ set_byte → some (set (take (at_name + k - at_name) (drop at_name p)) given) ≡ operation_of p
          unfolding operation_as pick ◌and◌
          a_set l r =
              sym (as_it_is o f ∙ rw (eq_yes o set_byte r, eq_yes (length p) (at_name + k + place_size) l)
              (λ x. some (set (sym name_cut x) (place_is x))))

          pub a_move : length p ≡ at_name + k + place_size → o ≡ move_byte → some (move (take (at_name + k - at_name) (drop at_name p)) given) ≡ operation_of p
          unfolding operation_as pick ◌and◌
          a_move l r =
              sym (as_it_is o f ∙ rw (eq_no o set_byte (λ z. omega arith), eq_yes o move_byte r, eq_yes (length p) (at_name + k + place_size) l)
              (λ x. some (move (sym name_cut x) (place_is x))))

        pub other_retire : o ≡ retire_byte → (length p ≡ at_name + k → ⊥) → none ≡ operation_of p
        unfolding operation_as pick ◌and◌
        other_retire r l =
            sym (as_it_is o f ∙ rw (eq_no o set_byte (λ z. omega arith), eq_no o move_byte (λ z. omega arith), eq_yes o retire_byte r, eq_no (length p) (at_name + k) l))

        pub other_byte : (o ≡ retire_byte → ⊥) → (o ≡ set_byte → ⊥) → (o ≡ move_byte → ⊥) → none ≡ operation_of p
        unfolding operation_as pick ◌and◌
        other_byte r s m = sym (as_it_is o f ∙ rw (eq_no o set_byte s, eq_no o move_byte m, eq_no o retire_byte r))

        pub other_size : (o ≡ retire_byte → ⊥) → (length p ≡ at_name + k + place_size → ⊥) → none ≡ operation_of p
        unfolding operation_as pick ◌and◌
        other_size r l = sym (as_it_is o f ∙ go (known (o =? set_byte)) (known (o =? move_byte)))
          where
            size : (length p =? at_name + k + place_size) ≡ false
            size = eq_no _ _ l

            go : Known (o =? set_byte) → Known (o =? move_byte) → operation_as o k p ≡ none
            go (holds a) (holds b) = rw (a, b, size, eq_no o retire_byte r)
            go (holds a) (fails b) = rw (a, b, size, eq_no o retire_byte r)
            go (fails a) (holds b) = rw (a, b, size, eq_no o retire_byte r)
            go (fails a) (fails b) = rw (a, b, eq_no o retire_byte r)
