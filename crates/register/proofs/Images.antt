-- The bytes after a change are the image of the new register.
use Prim.Native.Nat.{ℕ, zero, suc, ◌+◌, ◌*◌, ◌-◌, ◌≤◌, ◌<◌}
use mathlib.Core.Path.{◌≡◌, refl, sym, ap, ap₂, subst, ◌∙◌}
use mathlib.Core.Bool.{true}
use mathlib.Core.List.{List, [], ◌∷◌, ◌++◌, append_assoc, append-nil}
use native.Mathlib.Omega.{arith}
use native.Mathlib.Nat.{zero-add}
use lib.ListN.{length, take, drop, get_or, length-append, length-drop, take-append-drop}
use lib.Seq.{length-take-le}
use Rattle.base.specs.Bytes.{bytes_of, part_at, joined, over, slot}
use Rattle.base.specs.Lists.{is_there, sum, Each}
use Rattle.base.proofs.AtLaws.{some_same}
use Rattle.base.proofs.BytesLaws.{bytes_length}
use Rattle.base.proofs.ListLaws.{each_first, each_second}
use Rattle.base.proofs.Occurs.{Occurs, occurs_first, occurs_second}
use Rattle.base.proofs.SameLaws.{same_holds}
use Rattle.base.proofs.Sections.{Sized, cut_by, NoneOf, patched_all, sized_length, laid_cut, all_patched}
use Rattle.base.specs.Patched.{patched}
use Rattle.pegs.specs.Operations.{Place, Peg, most_name, coordinate_size, place_size}
use Rattle.pegs.specs.Register.{most_pegs, find}
use Rattle.pegs.specs.Image.{count_size, at_place, peg_size, peg_bytes, register_bytes, register_image, peg_at, peg_count, pegs_in}
use Rattle.pegs.specs.Outcome.{position}
use Rattle.pegs.proofs.Places.{formed_most, formed_sorted, found_at, found_low}
use Rattle.pegs.proofs.PegLaws.{PegRange, peg_length, pegs_length, slots, slots_append}
use Rattle.pegs.proofs.ImageLaws.{Holds, formed_range, used_occurs, slots_count, slot_at_lem, slot_occurs}
use Rattle.register_check.specs.Slots.{slot_at}
use Rattle.register.specs.Changes.{place_bytes, named_bytes, slot_bytes, widened, inserted, removed, replaced}
use Rattle.register.proofs.Made.{named_size}

-- ---- slots

place_size_lem : (p : Place) → length (place_bytes p) ≡ place_size
place_size_lem p =
    length-append (bytes_of coordinate_size p.easting) (bytes_of coordinate_size p.northing)
    ∙ omega (arith, bytes_length coordinate_size p.easting, bytes_length coordinate_size p.northing)

-- A slot is the name, and the place behind it.
slot_parts : (g : Peg) → peg_bytes g ≡ named_bytes g.name ++ place_bytes g.place
unfolding peg_bytes named_bytes joined
slot_parts g =
    let a : List ℕ = bytes_of 1 (length g.name) in
    let s : List ℕ = slot most_name g.name in
    let e : List ℕ = bytes_of coordinate_size g.place.easting in
    let n : List ℕ = bytes_of coordinate_size g.place.northing in
    ap (λ (l : List ℕ). a ++ (s ++ (e ++ l))) (append-nil n)
    ∙ sym (append_assoc a s (e ++ n))
    ∙ ap (λ (l : List ℕ). (a ++ l) ++ (e ++ n)) (sym (append-nil s))

slot_whole : (g : Peg) → slot_bytes g.name (place_bytes g.place) ≡ peg_bytes g
unfolding slot_bytes joined
slot_whole g = ap (λ (l : List ℕ). named_bytes g.name ++ l) (append-nil (place_bytes g.place)) ∙ sym (slot_parts g)

-- ---- an image in parts

image_of : (l : List Peg) (ws : List ℕ) (ts : List (List ℕ)) (b : List ℕ) → Sized ws ts → joined ts ≡ register_bytes l → joined ts ++ drop (sum ws) b ≡ register_image l b
unfolding register_image over
image_of l ws ts b f e =
    ap (λ (k : ℕ). joined ts ++ drop k b) (sym (sized_length ws ts f)) ∙ ap (λ (y : List ℕ). y ++ drop (length y) b) e

module _ (b : List ℕ) (h : Holds b) where
  abbrev l : List Peg
  l = pegs_in b

  each_split : (i : ℕ) → Each PegRange (take i l ++ drop i l)
  each_split i = subst (λ (x : List Peg). Each PegRange x) (sym (take-append-drop i l)) (formed_range l h.formed)

  front_size : (i : ℕ) → i ≤ length l → length (slots (take i l)) ≡ peg_size * i
  front_size i r = pegs_length (take i l) (each_first PegRange (take i l) (drop i l) (each_split i)) ∙ ap (λ (k : ℕ). peg_size * k) (length-take-le i l r)

  rest_size : (i : ℕ) → length (slots (drop i l)) ≡ peg_size * (length l - i)
  rest_size i = pegs_length (drop i l) (each_second PegRange (take i l) (drop i l) (each_split i)) ∙ ap (λ (k : ℕ). peg_size * k) (length-drop i l)

  both_occur : (i : ℕ) → Occurs (slots (take i l) ++ slots (drop i l)) b count_size
  unfolding register_bytes joined
  both_occur i =
      let all : Occurs (slots l) b count_size =
      occurs_second (bytes_of count_size (length l)) (slots l) b 0 count_size (omega (arith, bytes_length count_size (length l))) (used_occurs b h) in
      subst (λ (x : List ℕ). Occurs x b count_size) (ap slots (sym (take-append-drop i l)) ∙ slots_append (take i l) (drop i l)) all

  front_part : (i : ℕ) → i ≤ length l → part_at (peg_size * i) b count_size ≡ slots (take i l)
  front_part i r = ap (λ (k : ℕ). part_at k b count_size) (sym (front_size i r)) ∙ (occurs_first (slots (take i l)) (slots (drop i l)) b count_size (both_occur i)).part

  rest_part : (i : ℕ) → i ≤ length l → part_at (peg_size * (length l - i)) b (slot_at i) ≡ slots (drop i l)
  rest_part i r =
      ap (λ (k : ℕ). part_at k b (slot_at i)) (sym (rest_size i))
      ∙ (occurs_second (slots (take i l)) (slots (drop i l)) b count_size (slot_at i) (omega (arith, front_size i r)) (both_occur i)).part

  -- ---- a peg more

  module _ (i : ℕ) (g : Peg) (r : i ≤ length l) (m : length l < most_pegs) (s : length g.name ≤ most_name) where
    abbrev insert_sizes : List ℕ
    insert_sizes = count_size ∷ peg_size * i ∷ peg_size ∷ peg_size * (length l - i) ∷ []

    abbrev insert_parts : List (List ℕ)
    insert_parts = bytes_of count_size (length l + 1) ∷ slots (take i l) ∷ peg_bytes g ∷ slots (drop i l) ∷ []

    insert_agrees : (j : ℕ) → j < 4 → NoneOf (3 ∷ 0 ∷ 2 ∷ []) j → get_or (cut_by insert_sizes 0 b) j [] ≡ get_or insert_parts j []
    unfolding cut_by
    insert_agrees zero u n = absurd (n.1.0 refl)
    insert_agrees (suc zero) u n = ap (part_at (peg_size * i) b) (zero-add count_size) ∙ front_part i r
    insert_agrees (suc (suc zero)) u n = absurd (n.1.1.0 refl)
    insert_agrees (suc (suc (suc zero))) u n = absurd (n.0 refl)
    insert_agrees (suc (suc (suc (suc j)))) u n = absurd (omega arith)

    insert_whole : joined insert_parts ≡ register_bytes (take i l ++ (g ∷ drop i l))
    unfolding register_bytes joined
    insert_whole =
        let count : length l + 1 ≡ length (take i l ++ (g ∷ drop i l)) = sym (length-append (take i l) (g ∷ drop i l) ∙ omega (arith, length-take-le i l r, length-drop i l)) in
        ap₂ {A = ℕ} {B = List ℕ} {C = List ℕ} (λ k y. bytes_of count_size k ++ y) count
        (ap (λ (y : List ℕ). slots (take i l) ++ (peg_bytes g ++ y)) (append-nil (slots (drop i l))) ∙ sym (slots_append (take i l) (g ∷ drop i l)))

    pub insert_image : inserted i (length l) g.name (place_bytes g.place) b ≡ register_image (take i l ++ (g ∷ drop i l)) b
    unfolding inserted widened patched_all sum
    insert_image =
        let sized : Sized insert_sizes insert_parts = (bytes_length count_size (length l + 1), (front_size i r, (peg_length g s, (rest_size i, tt)))) in
        let long : sum insert_sizes ≤ length b = omega (arith, h.long) in
        let second : slot_at i ≡ count_size + (peg_size * i + 0) = omega arith in
        let third : slot_at i + peg_size ≡ count_size + (peg_size * i + (peg_size + 0)) = omega arith in
        (λ j. patched (second j) (slot_whole g j) (patched 0 (bytes_of count_size (length l + 1)) (patched (third j) (rest_part i r j) b)))
        ∙ all_patched insert_sizes (3 ∷ 0 ∷ 2 ∷ []) (cut_by insert_sizes 0 b) insert_parts b (laid_cut insert_sizes b long) sized (omega arith, (omega arith, (omega arith, tt))) insert_agrees
        ∙ image_of (take i l ++ (g ∷ drop i l)) insert_sizes insert_parts b sized insert_whole

  -- ---- a peg less

  module _ (i : ℕ) (r : i < length l) where
    abbrev remove_sizes : List ℕ
    remove_sizes = count_size ∷ peg_size * i ∷ peg_size * (length l - (i + 1)) ∷ []

    abbrev remove_parts : List (List ℕ)
    remove_parts = bytes_of count_size (length l - 1) ∷ slots (take i l) ∷ slots (drop (i + 1) l) ∷ []

    remove_agrees : (j : ℕ) → j < 3 → NoneOf (2 ∷ 0 ∷ []) j → get_or (cut_by remove_sizes 0 b) j [] ≡ get_or remove_parts j []
    unfolding cut_by
    remove_agrees zero u n = absurd (n.1.0 refl)
    remove_agrees (suc zero) u n = ap (part_at (peg_size * i) b) (zero-add count_size) ∙ front_part i (omega arith)
    remove_agrees (suc (suc zero)) u n = absurd (n.0 refl)
    remove_agrees (suc (suc (suc j))) u n = absurd (omega arith)

    remove_whole : joined remove_parts ≡ register_bytes (take i l ++ drop (i + 1) l)
    unfolding register_bytes joined
    remove_whole =
        let count : length l - 1 ≡ length (take i l ++ drop (i + 1) l) = sym (length-append (take i l) (drop (i + 1) l) ∙ omega (arith, length-take-le i l (omega arith), length-drop (i + 1) l)) in
        ap₂ {A = ℕ} {B = List ℕ} {C = List ℕ} (λ k y. bytes_of count_size k ++ y) count
        (ap (λ (y : List ℕ). slots (take i l) ++ y) (append-nil (slots (drop (i + 1) l))) ∙ sym (slots_append (take i l) (drop (i + 1) l)))

    pub remove_image : removed i (length l) b ≡ register_image (take i l ++ drop (i + 1) l) b
    unfolding removed patched_all sum
    remove_image =
        let most = formed_most l h.formed in
        let sized : Sized remove_sizes remove_parts = (bytes_length count_size (length l - 1), (front_size i (omega arith), (rest_size (i + 1), tt))) in
        let long : sum remove_sizes ≤ length b = omega (arith, h.long) in
        let second : slot_at i ≡ count_size + (peg_size * i + 0) = omega arith in
        let next : slot_at i + peg_size ≡ slot_at (i + 1) = omega arith in
        let rest : part_at (peg_size * (length l - (i + 1))) b (slot_at i + peg_size) ≡ slots (drop (i + 1) l) =
        ap (part_at (peg_size * (length l - (i + 1))) b) next ∙ rest_part (i + 1) (omega arith) in
        (λ j. patched 0 (bytes_of count_size (length l - 1)) (patched (second j) (rest j) b))
        ∙ all_patched remove_sizes (2 ∷ 0 ∷ []) (cut_by remove_sizes 0 b) remove_parts b (laid_cut remove_sizes b long) sized (omega arith, (omega arith, tt)) remove_agrees
        ∙ image_of (take i l ++ drop (i + 1) l) remove_sizes remove_parts b sized remove_whole

  -- ---- a peg at another place

  module _ (i : ℕ) (g : Peg) (r : i < length l) (s : length g.name ≤ most_name) (named : Occurs (named_bytes g.name) b (slot_at i)) where
    abbrev replace_sizes : List ℕ
    replace_sizes = count_size ∷ peg_size * i ∷ at_place ∷ place_size ∷ peg_size * (length l - (i + 1)) ∷ []

    abbrev replace_parts : List (List ℕ)
    replace_parts = bytes_of count_size (length l) ∷ slots (take i l) ∷ named_bytes g.name ∷ place_bytes g.place ∷ slots (drop (i + 1) l) ∷ []

    replace_agrees : (j : ℕ) → j < 5 → NoneOf (3 ∷ []) j → get_or (cut_by replace_sizes 0 b) j [] ≡ get_or replace_parts j []
    unfolding cut_by register_bytes joined
    replace_agrees zero u n =
        ap (λ (k : ℕ). part_at k b 0) (sym (bytes_length count_size (length l)))
        ∙ (occurs_first (bytes_of count_size (length l)) (slots l) b 0 (used_occurs b h)).part
    replace_agrees (suc zero) u n = ap (part_at (peg_size * i) b) (zero-add count_size) ∙ front_part i (omega arith)
    replace_agrees (suc (suc zero)) u n =
        let there : 0 + count_size + peg_size * i ≡ slot_at i = omega arith in
        ap₂ {A = ℕ} {B = ℕ} {C = List ℕ} (λ k a. part_at k b a) (sym (named_size g.name s)) there ∙ named.part
    replace_agrees (suc (suc (suc zero))) u n = absurd (n.0 refl)
    replace_agrees (suc (suc (suc (suc zero)))) u n =
        let there : 0 + count_size + peg_size * i + at_place + place_size ≡ slot_at (i + 1) = omega arith in
        ap (part_at (peg_size * (length l - (i + 1))) b) there ∙ rest_part (i + 1) (omega arith)
    replace_agrees (suc (suc (suc (suc (suc j))))) u n = absurd (omega arith)

    replace_whole : joined replace_parts ≡ register_bytes (take i l ++ (g ∷ drop (i + 1) l))
    unfolding register_bytes joined
    replace_whole =
        let count : length l ≡ length (take i l ++ (g ∷ drop (i + 1) l)) = sym (length-append (take i l) (g ∷ drop (i + 1) l) ∙ omega (arith, length-take-le i l (omega arith), length-drop (i + 1) l)) in
        let y : List ℕ = slots (drop (i + 1) l) in
        ap₂ {A = ℕ} {B = List ℕ} {C = List ℕ} (λ k z. bytes_of count_size k ++ z) count
        (ap (λ (z : List ℕ). slots (take i l) ++ z)
        (ap (λ (z : List ℕ). named_bytes g.name ++ (place_bytes g.place ++ z)) (append-nil y)
        ∙ sym (append_assoc (named_bytes g.name) (place_bytes g.place) y)
        ∙ ap (λ (z : List ℕ). z ++ y) (sym (slot_parts g)))
        ∙ sym (slots_append (take i l) (g ∷ drop (i + 1) l)))

    pub replace_image : replaced i (place_bytes g.place) b ≡ register_image (take i l ++ (g ∷ drop (i + 1) l)) b
    unfolding replaced patched_all sum
    replace_image =
        let most = formed_most l h.formed in
        let sized : Sized replace_sizes replace_parts =
        (bytes_length count_size (length l), (front_size i (omega arith), (named_size g.name s, (place_size_lem g.place, (rest_size (i + 1), tt))))) in
        let long : sum replace_sizes ≤ length b = omega (arith, h.long) in
        let third : slot_at i + at_place ≡ count_size + (peg_size * i + (at_place + 0)) = omega arith in
        (λ j. patched (third j) (place_bytes g.place) b)
        ∙ all_patched replace_sizes (3 ∷ []) (cut_by replace_sizes 0 b) replace_parts b (laid_cut replace_sizes b long) sized (omega arith, tt) replace_agrees
        ∙ image_of (take i l ++ (g ∷ drop (i + 1) l)) replace_sizes replace_parts b sized replace_whole

  -- The name of a peg that is there, in its slot.
  pub name_occurs : (m : List ℕ) → is_there (find m l) ≡ true → Occurs (named_bytes m) b (slot_at (position m l))
  name_occurs m t =
      let i : ℕ = position m l in
      let here = found_at m l (formed_sorted l h.formed) t in
      let low : i < peg_count b = omega (arith, found_low m l (formed_sorted l h.formed) t, slots_count b) in
      let it : here.peg ≡ peg_at b (slot_at i) = some_same (sym here.stands ∙ slot_at_lem b i low) in
      let same_name : (peg_at b (slot_at i)).name ≡ m = ap (λ (g : Peg). g.name) (sym it) ∙ sym (same_holds m here.peg.name here.named) in
      let whole = subst (λ (y : List ℕ). Occurs y b (slot_at i)) (slot_parts (peg_at b (slot_at i))) (slot_occurs b h i low) in
      subst (λ (x : List ℕ). Occurs (named_bytes x) b (slot_at i)) same_name
      (occurs_first (named_bytes (peg_at b (slot_at i)).name) (place_bytes (peg_at b (slot_at i)).place) b (slot_at i) whole)
