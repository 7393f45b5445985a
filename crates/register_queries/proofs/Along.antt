-- The nearest peg, as the code comes to it.
use Prim.Native.Nat.{ℕ, suc, ◌+◌, ◌*◌, ◌≤◌, ◌<◌}
use mathlib.Core.Path.{◌≡◌, sym, ap, subst, ◌∙◌}
use mathlib.Core.List.{List}
use mathlib.Core.Option.{some}
use native.Mathlib.Omega.{arith}
use lib.ListN.{take}
use Rattle.plane.specs.declared.Point.{Point}
use Rattle.plane.specs.Plane.{squared_distance}
use Rattle.pegs.specs.Operations.{Peg}
use Rattle.pegs.specs.Register.{most_pegs}
use Rattle.pegs.specs.Image.{count_size, peg_size, peg_at, peg_count, pegs_in}
use Rattle.pegs.specs.Outcome.{register_number}
use Rattle.pegs.specs.Regions.{point_of, distance_to, nearest}
use Rattle.pegs.proofs.ImageLaws.{number_zero, count_most, slots_count, slot_at_lem}
use Rattle.pegs.proofs.Nearest.{Closest, closest_one, closest_nearer, closest_still, closest_all}

module _ (b : List ℕ) (p : Point) where
  -- Of the first k pegs the one at `best` is nearest, at this distance.
  pub record Along (best least k : ℕ) : Type 0 where
    pub most : k ≤ peg_count b
    pub pegs : peg_count b ≤ most_pegs
    pub peg : Peg
    pub closest : Closest p (take k (pegs_in b)) best peg
    pub is : least ≡ distance_to p peg

  module _ (ok : register_number b ≡ 0) (n : ℕ) (is-n : n ≡ peg_count b) where
    pub along_first : (s : ℕ) (q : Point) → (n ≡ 0 → ⊥) → q ≡ point_of (peg_at b count_size).place → s ≡ squared_distance p q → Along 0 s 1
    unfolding distance_to
    along_first s q h e d =
        let here : count_size + peg_size * 0 ≡ count_size = omega arith in
        record {
          most = omega arith;
          pegs = count_most b (number_zero b ok);
          peg = peg_at b count_size;
          closest = closest_one p (pegs_in b) (peg_at b count_size) (slot_at_lem b 0 (omega arith) ∙ ap (λ (n : ℕ). some (peg_at b n)) here);
          is = d ∙ ap (squared_distance p) e;
        }

  module _ (best least k : ℕ) (a : Along best least k) (n : ℕ) (is-n : n ≡ peg_count b) (low : k < n) (s : ℕ) (q : Point)
      (e : q ≡ point_of (peg_at b (count_size + peg_size * k)).place) (d : s ≡ squared_distance p q) where
    l : k < peg_count b
    l = omega arith

    next_one : k + 1 ≡ suc k
    next_one = omega arith

    there : s ≡ distance_to p (peg_at b (count_size + peg_size * k))
    unfolding distance_to
    there = d ∙ ap (squared_distance p) e

    pub along_nearer : s < least → Along k s (k + 1)
    along_nearer y = record {
      most = omega arith;
      pegs = a.pegs;
      peg = peg_at b (count_size + peg_size * k);
      closest =
          subst (λ (m : ℕ). Closest p (take m (pegs_in b)) k (peg_at b (count_size + peg_size * k))) (sym next_one)
          (closest_nearer p (pegs_in b) k best a.peg (peg_at b (count_size + peg_size * k)) a.closest (slot_at_lem b k l)
          (omega (arith, y, there, a.is)));
      is = there;
    }

    pub along_still : least ≤ s → Along best least (k + 1)
    along_still y = record {
      most = omega arith;
      pegs = a.pegs;
      peg = a.peg;
      closest =
          subst (λ (m : ℕ). Closest p (take m (pegs_in b)) best a.peg) (sym next_one)
          (closest_still p (pegs_in b) k best a.peg (peg_at b (count_size + peg_size * k)) a.closest (slot_at_lem b k l)
          (omega (arith, y, there, a.is)));
      is = a.is;
    }

  pub along_end : (best least k n : ℕ) → Along best least k → n ≡ peg_count b → n ≤ k → some best ≡ nearest p (pegs_in b)
  along_end best least k n a e h = sym (closest_all p (pegs_in b) k best a.peg (omega (arith, slots_count b)) a.closest)
