-- The pegs of a region, as the code collects them.
use Prim.Native.Nat.{ℕ, suc, ◌+◌, ◌*◌, ◌≤◌, ◌<◌}
use mathlib.Core.Path.{◌≡◌, refl, sym, ap, ap₂, subst, ◌∙◌}
use mathlib.Core.Bool.{Bool, true, false}
use mathlib.Core.List.{List, [], ◌∷◌, ◌++◌, append_assoc, append-nil}
use native.Mathlib.Omega.{arith}
use lib.ListN.{length, take, drop, length-append, take-append-drop}
use lib.Seq.{take_all}
use Rattle.base.specs.Bytes.{bytes_of, part_at, joined, over}
use Rattle.base.specs.Lists.{filter, Each}
use Rattle.base.specs.Patched.{patched}
use Rattle.base.proofs.AtLaws.{take_next}
use Rattle.base.proofs.BytesLaws.{bytes_length, part_length}
use Rattle.base.proofs.Filters.{filter_yes, filter_no, filter_append}
use Rattle.base.proofs.ListLaws.{each_filter, each_first}
use Rattle.base.proofs.Over.{over_front}
use Rattle.base.proofs.PatchedLaws.{patched_length, patched_next, patched_none, patched_from}
use Rattle.plane.specs.declared.Point.{Point}
use Rattle.plane.specs.declared.Region.{Region}
use Rattle.plane.specs.Plane.{in_region}
use Rattle.pegs.specs.Operations.{Peg}
use Rattle.pegs.specs.Register.{most_pegs}
use Rattle.pegs.specs.Image.{count_size, peg_size, register_length, peg_bytes, register_bytes, register_image, peg_at, peg_count, pegs_in}
use Rattle.pegs.specs.Outcome.{register_number}
use Rattle.pegs.specs.Regions.{point_of, peg_inside, pegs_inside}
use Rattle.register_check.proofs.Held.{held_room}
use Rattle.pegs.proofs.PegLaws.{PegRange, peg_length, pegs_length, slots, slots_append}
use Rattle.pegs.proofs.ImageLaws.{Holds, number_zero, formed_range, slots_count, slot_at_lem, slot_occurs, slot_range, count_most}

slots_next : (l : List Peg) (g : Peg) → slots (l ++ (g ∷ [])) ≡ slots l ++ peg_bytes g
unfolding joined
slots_next l g = slots_append l (g ∷ []) ∙ ap (λ (x : List ℕ). slots l ++ x) (append-nil (peg_bytes g))

module _ (b : List ℕ) (a : Region) where
  -- Of the first k pegs those of the region.
  abbrev in_first : ℕ → List Peg
  in_first k = filter (peg_inside a) (take k (pegs_in b))

  -- So many are found among the first k, and their slots stand behind the count.
  pub record Collected (c₀ c : List ℕ) (k found : ℕ) : Type 0 where
    pub size : length c ≡ length c₀
    pub most : k ≤ peg_count b
    pub pegs : peg_count b ≤ most_pegs
    pub long : register_length ≤ length c₀
    pub count : found ≡ length (in_first k)
    pub few : found ≤ k
    pub bytes : c ≡ patched count_size (slots (in_first k)) c₀

  pub none_collected : (c : List ℕ) → register_number b ≡ 0 → register_length ≤ length c → Collected c c 0 0
  unfolding filter joined
  none_collected c ok h = record {
    size = refl;
    most = omega arith;
    pegs = count_most b (number_zero b ok);
    long = h;
    count = refl;
    few = omega arith;
    bytes = sym (patched_none count_size c);
  }

  module _ (ok : register_number b ≡ 0) where
    holds : Holds b
    holds = number_zero b ok

    first_size_lem : (k : ℕ) → length (slots (in_first k)) ≡ peg_size * length (in_first k)
    first_size_lem k =
        let all : Each PegRange (take k (pegs_in b) ++ drop k (pegs_in b)) =
        subst (λ (x : List Peg). Each PegRange x) (sym (take-append-drop k (pegs_in b))) (formed_range (pegs_in b) holds.formed) in
        pegs_length (in_first k) (each_filter PegRange (peg_inside a) (take k (pegs_in b)) (each_first PegRange (take k (pegs_in b)) (drop k (pegs_in b)) all))

    module _ (c₀ c : List ℕ) (k found n : ℕ) (s : Collected c₀ c k found) (is-n : n ≡ peg_count b) (low : k < n) where
      l : k < peg_count b
      l = omega arith

      abbrev from : ℕ
      from = count_size + peg_size * k

      abbrev peg : Peg
      peg = peg_at b from

      next_one : k + 1 ≡ suc k
      next_one = omega arith

      first_next : in_first (k + 1) ≡ in_first k ++ filter (peg_inside a) (peg ∷ [])
      first_next =
          ap (λ (n : ℕ). in_first n) next_one
          ∙ ap (filter (peg_inside a)) (take_next (pegs_in b) k peg (slot_at_lem b k l))
          ∙ filter_append (peg_inside a) (take k (pegs_in b)) (peg ∷ [])

      -- ---- it is not in the region

      pub passed_over : (q : Point) (t : Bool) → q ≡ point_of peg.place → t ≡ in_region a q → t ≡ false → Collected c₀ c (k + 1) found
      unfolding peg_inside filter
      passed_over q t e f out_of_lem =
          let out : peg_inside a peg ≡ false = ap (in_region a) (sym e) ∙ sym f ∙ out_of_lem in
          let same : in_first (k + 1) ≡ in_first k = first_next ∙ ap (λ (x : List Peg). in_first k ++ x) (filter_no (peg_inside a) peg [] out) ∙ append-nil (in_first k) in
          record {
            size = s.size;
            most = omega arith;
            pegs = s.pegs;
            long = s.long;
            count = s.count ∙ ap length (sym same);
            few = omega (arith, s.few);
            bytes = s.bytes ∙ ap (λ (x : List Peg). patched count_size (slots x) c₀) (sym same);
          }

      -- ---- it is

      copy_space : count_size + peg_size * found + peg_size ≤ length c
      copy_space = omega (arith, s.size, s.few, s.pegs, s.long)

      -- y is the slot, and m the number found, as the code has it.
      pub copy_room : (y : List ℕ) (m : ℕ) → m ≡ found → y ≡ part_at peg_size b from → count_size + peg_size * m + length y ≤ length c
      copy_room y m e f = omega (arith, copy_space, ap length f, part_length peg_size b from (held_room b ok k l))

      pub collected_next : (q : Point) (t : Bool) (c₁ y : List ℕ) (m : ℕ) → m ≡ found → q ≡ point_of peg.place → t ≡ in_region a q → t ≡ true
          → y ≡ part_at peg_size b from → c₁ ≡ patched (count_size + peg_size * m) y c → Collected c₀ c₁ (k + 1) (found + 1)
      unfolding peg_inside filter
      collected_next q t c₁ y m is-m e f in-it i made =
          let j : c₁ ≡ patched (count_size + peg_size * found) y c = made ∙ ap (λ (v : ℕ). patched (count_size + peg_size * v) y c) is-m in
          let inn : peg_inside a peg ≡ true = ap (in_region a) (sym e) ∙ sym f ∙ in-it in
          let grown : in_first (k + 1) ≡ in_first k ++ (peg ∷ []) = first_next ∙ ap (λ (x : List Peg). in_first k ++ x) (filter_yes (peg_inside a) peg [] inn) in
          let long : length (peg_bytes peg) ≡ peg_size = peg_length peg (slot_range b holds k l).most in
          let slot : y ≡ peg_bytes peg = i ∙ ap (λ (m : ℕ). part_at m b from) (sym long) ∙ (slot_occurs b holds k l).part in
          let behind : count_size + peg_size * found ≡ count_size + length (slots (in_first k)) = omega (arith, first_size_lem k, s.count) in
          record {
            size = ap length j ∙ patched_length (count_size + peg_size * found) y c (omega (arith, copy_space, ap length slot, long)) ∙ s.size;
            most = omega arith;
            pegs = s.pegs;
            long = s.long;
            count = omega (arith, s.count, ap length grown ∙ length-append (in_first k) (peg ∷ []));
            few = omega (arith, s.few);
            bytes =
                j
                ∙ (λ z. patched (behind z) (slot z) (s.bytes z))
                ∙ patched_next count_size (slots (in_first k)) (peg_bytes peg) c₀ (omega (arith, s.long))
                ∙ ap (λ (x : List ℕ). patched count_size x c₀) (sym (slots_next (in_first k) peg) ∙ ap slots (sym grown));
          }

  -- ---- the count in front

  pub collected_all : (c₀ c c₁ : List ℕ) (k found n : ℕ) → Collected c₀ c k found → n ≡ peg_count b → n ≤ k
      → c₁ ≡ patched 0 (bytes_of count_size found) c → c₁ ≡ register_image (pegs_inside a (pegs_in b)) c₀
  unfolding pegs_inside register_image register_bytes over joined
  collected_all c₀ c c₁ k found n s is-n l e =
      let all : in_first k ≡ pegs_inside a (pegs_in b) = ap (filter (peg_inside a)) (take_all k (pegs_in b) (omega (arith, slots_count b))) in
      let x : List ℕ = bytes_of count_size found in
      let y : List ℕ = slots (in_first k) in
      let two : length x ≡ count_size = bytes_length count_size found in
      let rest : drop (length x) c ≡ y ++ drop (count_size + length y) c₀ =
      ap (λ (m : ℕ). drop m c) two ∙ ap (drop count_size) s.bytes ∙ patched_from count_size y c₀ (omega (arith, s.long)) in
      let whole : count_size + length y ≡ length (x ++ y) = omega (arith, two, length-append x y) in
      let used : x ++ y ≡ register_bytes (pegs_inside a (pegs_in b)) =
      ap₂ {A = ℕ} {B = List ℕ} {C = List ℕ} (λ m z. bytes_of count_size m ++ z) (s.count ∙ ap length all) (ap slots all) in
      e ∙ over_front x c
      ∙ ap (λ (z : List ℕ). x ++ z) (rest ∙ ap (λ (m : ℕ). y ++ drop m c₀) whole)
      ∙ sym (append_assoc x y (drop (length (x ++ y)) c₀))
      ∙ ap (λ (z : List ℕ). z ++ drop (length z) c₀) used
