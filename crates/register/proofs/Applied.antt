-- One operation: the number answered and the bytes left are those of the definition.
use Prim.Native.Nat.{ℕ, ◌≤◌, ◌<◌}
use mathlib.Core.Path.{◌≡◌, sym, ap, ◌∙◌}
use mathlib.Core.Bool.{true, false}
use mathlib.Core.List.{List, ◌∷◌, ◌++◌}
use mathlib.Core.Option.{none, some}
use native.Mathlib.Omega.{arith}
use native.Mathlib.Numerals.{add-one}
use lib.ListN.{length, take, drop}
use Rattle.std.specs.Prelude.{Ok, Err}
use Rattle.base.specs.Tests.{◌=?◌, pick}
use Rattle.base.specs.Lists.{is_there}
use Rattle.base.proofs.TestLaws.{le_no, eq_yes, eq_no, pick_yes, pick_no}
use Rattle.pegs.specs.Operations.{Place, Peg, Operation, set, move, retire, most_name, operation_of}
use Rattle.pegs.specs.Register.{most_pegs, find, number_of, number_if, payload_number, done, after_if, after_payload}
use Rattle.pegs.specs.Image.{register_image, peg_count, pegs_in}
use Rattle.pegs.specs.Outcome.{register_number, Changed, changed, applied, position}
use Rattle.pegs.proofs.Numbers.{set_there as number_there, set_full as number_full, set_taken as number_taken, move_absent, retire_absent, after_taken}
use Rattle.pegs.proofs.Places.{formed_most, formed_sorted, position_most, insert_at, replace_at, remove_at, found_low}
use Rattle.pegs.proofs.ImageLaws.{Holds, number_zero, slots_count}
use Rattle.register_check.specs.Search.{search_in}
use Rattle.register_check.proofs.Searched.{found, absent, belongs}
use Rattle.register.specs.Changes.{RoomFor, SlotsIn, place_bytes, inserted, removed, replaced, operated}
use Rattle.register.proofs.Images.{insert_image, remove_image, replace_image, name_occurs}

-- ---- by the payload

pub none_applied : (p b : List ℕ) → none ≡ operation_of p → changed 11 b ≡ applied p (pegs_in b) b
unfolding applied payload_number number_if pick ◌=?◌
none_applied p b e = rw (← e)

pub some_applied : (p b : List ℕ) (o : Operation) (r : Changed) → some o ≡ operation_of p → r ≡ operated o b → r ≡ applied p (pegs_in b) b
unfolding applied operated payload_number number_if after_payload after_if
some_applied p b o r e h = h ∙ rw (← e)

-- ---- refused, and taken

module _ (o : Operation) (b : List ℕ) where
  refused_as : (k : ℕ) → number_of o (pegs_in b) ≡ k → (k ≡ 0 → ⊥) → changed k b ≡ operated o b
  unfolding operated
  refused_as k f n = pick_no _ _ _ _ (eq_no (number_of o (pegs_in b)) 0 (λ g. n (sym f ∙ g))) (ap (λ (j : ℕ). changed j b) (sym f))

  taken_as : (c : List ℕ) → number_of o (pegs_in b) ≡ 0 → c ≡ register_image (done o (pegs_in b)) b → changed 0 c ≡ operated o b
  unfolding operated
  taken_as c f g =
      pick_yes _ _ _ _ (eq_yes (number_of o (pegs_in b)) 0 f)
      (ap (changed 0) (g ∙ ap (λ (x : List Peg). register_image x b) (sym (after_taken o (pegs_in b) (eq_yes (number_of o (pegs_in b)) 0 f)))))

number_moved : (m : List ℕ) (q : Place) (l : List Peg) → is_there (find m l) ≡ true → number_of (move m q) l ≡ 0
unfolding number_of pick
number_moved m q l e = rw e

number_retired : (m : List ℕ) (l : List Peg) → is_there (find m l) ≡ true → number_of (retire m) l ≡ 0
unfolding number_of pick
number_retired m l e = rw e

-- ---- the code's returns

module _ (b : List ℕ) (z : register_number b ≡ 0) (m : List ℕ) (i : ℕ) where
  abbrev l : List Peg
  l = pegs_in b

  held : Holds b
  held = number_zero b z

  module _ (e : Ok i ≡ search_in m (pegs_in b)) where
    there : is_there (find m l) ≡ true
    there = (found b z m i e).there

    at : i ≡ position m l
    at = (found b z m i e).index

    low : position m l < length l
    low = found_low m l (formed_sorted l held.formed) there

    pub set_there : (q : Place) → changed 9 b ≡ operated (set m q) b
    set_there q = refused_as (set m q) b 9 (number_there m q l there) (λ f. absurd (omega arith))

    pub slots_in_lem : (n : ℕ) → n ≡ peg_count b → SlotsIn i n b
    slots_in_lem n c = record {
      place = omega (arith, (found b z m i e).inside);
      most = omega (arith, slots_count b, formed_most l held.formed);
      long = held.long;
    }

    pub retire_taken : (n : ℕ) → n ≡ peg_count b → (d : List ℕ) → d ≡ removed i n b → changed 0 d ≡ operated (retire m) b
    unfolding done
    retire_taken n c d f =
        taken_as (retire m) b d (number_retired m l there)
        (f ∙ (λ j. removed (at j) ((c ∙ sym (slots_count b)) j) b)
        ∙ remove_image b held (position m l) low
        ∙ ap (λ (k : ℕ). register_image (take (position m l) l ++ drop k l) b) (add-one (position m l))
        ∙ ap (λ (x : List Peg). register_image x b) (sym (remove_at m l (formed_sorted l held.formed) there)))

    pub move_taken : length m ≤ most_name → (q : Place) (c : List ℕ) → c ≡ replaced i (place_bytes q) b → changed 0 c ≡ operated (move m q) b
    unfolding done
    move_taken h q c f =
        let g : Peg = record { name = m; place = q } in
        taken_as (move m q) b c (number_moved m q l there)
        (f ∙ ap (λ (k : ℕ). replaced k (place_bytes q) b) at
        ∙ replace_image b held (position m l) g low h (name_occurs b held m there)
        ∙ ap (λ (k : ℕ). register_image (take (position m l) l ++ (g ∷ drop k l)) b) (add-one (position m l))
        ∙ ap (λ (x : List Peg). register_image x b) (sym (replace_at g l (formed_sorted l held.formed) there)))

  module _ (e : Err i ≡ search_in m (pegs_in b)) where
    none_there : is_there (find m l) ≡ false
    none_there = absent b z m i e

    pub move_missing : (q : Place) → changed 10 b ≡ operated (move m q) b
    move_missing q = refused_as (move m q) b 10 (move_absent m q l none_there) (λ f. absurd (omega arith))

    pub retire_missing : changed 10 b ≡ operated (retire m) b
    retire_missing = refused_as (retire m) b 10 (retire_absent m l none_there) (λ f. absurd (omega arith))

    module _ (q : Place) (n : ℕ) (c : n ≡ peg_count b) where
      pub set_full : most_pegs ≤ n → changed 13 b ≡ operated (set m q) b
      set_full h = refused_as (set m q) b 13 (number_full m q l none_there (omega (arith, slots_count b))) (λ f. absurd (omega arith))

      pub set_taken : n < most_pegs → length m ≤ most_name → (d : List ℕ) → d ≡ inserted i n m (place_bytes q) b → changed 0 d ≡ operated (set m q) b
      unfolding done
      set_taken h k d f =
          let g : Peg = record { name = m; place = q } in
          let room : length l < most_pegs = omega (arith, slots_count b) in
          taken_as (set m q) b d (number_taken m q l none_there (le_no most_pegs (length l) room))
          (f ∙ (λ j. inserted (belongs b z m i e j) ((c ∙ sym (slots_count b)) j) m (place_bytes q) b)
          ∙ insert_image b held (position m l) g (position_most m l) room k
          ∙ ap (λ (x : List Peg). register_image x b) (sym (insert_at g l)))

    pub set_room : (n : ℕ) → n ≡ peg_count b → n < most_pegs → RoomFor i n b
    set_room n c h =
        record { place = omega (arith, belongs b z m i e, position_most m l, slots_count b); room = omega arith; long = held.long }
