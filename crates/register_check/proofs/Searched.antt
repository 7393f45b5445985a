-- The position of a name in a register's buffer, by halving.
use Prim.Native.Nat.{ℕ, ◌+◌, ◌*◌, ◌-◌, ◌/◌, ◌≤◌, ◌<◌}
use mathlib.Core.Path.{◌≡◌, sym, ap, ap₂, ◌∙◌}
use mathlib.Core.Bool.{Bool, true, false}
use mathlib.Core.List.{List}
use mathlib.Core.Option.{some}
use native.Mathlib.Omega.{arith}
use lib.ListN.{length, take, drop}
use Rattle.std.specs.Prelude.{Result, Ok, Err}
use Rattle.base.specs.Bytes.{number_at, part_at}
use Rattle.base.specs.Lists.{is_there, same, at}
use Rattle.base.proofs.TestLaws.{Known, known, holds, fails}
use Rattle.pegs.specs.Names.{before}
use Rattle.pegs.specs.Operations.{Peg, most_name}
use Rattle.pegs.specs.Register.{most_pegs, find}
use Rattle.pegs.specs.Image.{count_size, at_slot_name, peg_size, peg_at, peg_count, pegs_in}
use Rattle.pegs.specs.Outcome.{register_number, position}
use Rattle.pegs.proofs.Places.{position_most, position_above, position_below, at_found, at_other, found_low}
use Rattle.pegs.proofs.ImageLaws.{number_zero, slots_count, slot_at_lem, count_most}
use Rattle.register_check.specs.Search.{there_or_not, search_in}
use Rattle.register_check.proofs.Held.{held_sorted}

-- ---- a name in its slot, as a part of the buffer

pub named_part : (b : List ℕ) (p k : ℕ) → k ≡ number_at 1 b p → take (p + at_slot_name + k - (p + at_slot_name)) (drop (p + at_slot_name) b) ≡ (peg_at b p).name
unfolding peg_at part_at
named_part b p k e =
    let n : p + at_slot_name + k - (p + at_slot_name) ≡ number_at 1 b p = omega arith in
    ap (λ (i : ℕ). take i (drop (p + at_slot_name) b)) n

-- ---- halving

-- The position lies between low and high.
pub record Between (b m : List ℕ) (low high : ℕ) : Type 0 where
  pub order : low ≤ high
  pub inside : high ≤ peg_count b
  pub few : high ≤ most_pegs
  pub above : low ≤ position m (pegs_in b)
  pub below : position m (pegs_in b) ≤ high

pub count_room : (b : List ℕ) → register_number b ≡ 0 → 0 + count_size ≤ length b
count_room b ok = omega (arith, (number_zero b ok).long)

module _ (b : List ℕ) (ok : register_number b ≡ 0) (m : List ℕ) where
  pub between_first : (n : ℕ) → n ≡ peg_count b → Between b m 0 n
  between_first n e = record {
    order = omega arith;
    inside = omega arith;
    few = omega (arith, count_most b (number_zero b ok));
    above = omega arith;
    below = omega (arith, position_most m (pegs_in b), slots_count b);
  }

  module _ (low high : ℕ) (h : low < high) (t : Between b m low high) where
    pub middle_held : low + (high - low) / 2 < peg_count b
    middle_held = omega (arith, t.inside)

    module _ (x : List ℕ) (r : Bool) (n : x ≡ (peg_at b (count_size + peg_size * (low + (high - low) / 2))).name) (e : r ≡ before x m) where
      pub upper_half : r ≡ true → Between b m (low + (high - low) / 2 + 1) high
      upper_half f =
          let k : ℕ = low + (high - low) / 2 in
          let l : k < high = omega arith in
          let u : k < position m (pegs_in b) =
          position_above m (pegs_in b) (held_sorted b ok) k (peg_at b (count_size + peg_size * k)) (slot_at_lem b k (omega (arith, t.inside)))
          (ap (λ (y : List ℕ). before y m) (sym n) ∙ sym e ∙ f) in
          record { order = omega arith; inside = t.inside; few = t.few; above = omega arith; below = t.below }

      pub lower_half : r ≡ false → Between b m low (low + (high - low) / 2)
      lower_half f =
          let k : ℕ = low + (high - low) / 2 in
          let l : k < high = omega arith in
          let u : position m (pegs_in b) ≤ k =
          position_below m (pegs_in b) k (peg_at b (count_size + peg_size * k)) (slot_at_lem b k (omega (arith, t.inside)))
          (ap (λ (y : List ℕ). before y m) (sym n) ∙ sym e ∙ f) in
          record { order = omega arith; inside = omega (arith, t.inside); few = omega (arith, t.few); above = t.above; below = u }

  -- ---- whether the name is there

  past_end : (k n : ℕ) → k ≡ position m (pegs_in b) → n ≡ peg_count b → n ≤ k → is_there (find m (pegs_in b)) ≡ false
  past_end k n e f h = go (known (is_there (find m (pegs_in b))))
    where
      go : Known (is_there (find m (pegs_in b))) → is_there (find m (pegs_in b)) ≡ false
      go (holds t) = absurd (omega (arith, found_low m (pegs_in b) (held_sorted b ok) t, slots_count b))
      go (fails t) = t

  module _ (k n : ℕ) (e : k ≡ position m (pegs_in b)) (c : n ≡ peg_count b) where
    pub behind_all : n ≤ k → Err k ≡ search_in m (pegs_in b)
    behind_all h = ap₂ {A = Bool} {B = ℕ} {C = Result ℕ ℕ} there_or_not (sym (past_end k n e c h)) e

    module _ (h : k < n) (x : List ℕ) (r : Bool) (i : x ≡ (peg_at b (count_size + peg_size * k)).name) (f : r ≡ same m x) where
      at_place_lem : r ≡ is_there (find m (pegs_in b))
      unfolding is_there
      at_place_lem = f ∙ ap (same m) i ∙ go (known (same m g.name))
        where
          g : Peg
          g = peg_at b (count_size + peg_size * k)

          stands : at (pegs_in b) (position m (pegs_in b)) ≡ some g
          stands = ap (at (pegs_in b)) (sym e) ∙ slot_at_lem b k (omega arith)

          go : Known (same m g.name) → same m g.name ≡ is_there (find m (pegs_in b))
          go (holds t) = t ∙ sym (ap is_there (at_found m (pegs_in b) (held_sorted b ok) g stands t))
          go (fails t) = t ∙ sym (ap is_there (at_other m (pegs_in b) (held_sorted b ok) g stands t))

      pub found_here : r ≡ true → Ok k ≡ search_in m (pegs_in b)
      found_here y = ap₂ {A = Bool} {B = ℕ} {C = Result ℕ ℕ} there_or_not (sym y ∙ at_place_lem) e

      pub other_here : r ≡ false → Err k ≡ search_in m (pegs_in b)
      other_here y = ap₂ {A = Bool} {B = ℕ} {C = Result ℕ ℕ} there_or_not (sym y ∙ at_place_lem) e

  -- ---- what its answer says

  pub record Found (k : ℕ) : Type 0 where
    pub there : is_there (find m (pegs_in b)) ≡ true
    pub index : k ≡ position m (pegs_in b)
    pub inside : k < peg_count b

  pub found : (k : ℕ) → Ok k ≡ search_in m (pegs_in b) → Found k
  found k e = go (known (is_there (find m (pegs_in b))))
    where
      go : Known (is_there (find m (pegs_in b))) → Found k
      go (holds t) =
          let f : ◌≡◌ {A = Result ℕ ℕ} (Ok k) (Ok (position m (pegs_in b))) = e ∙ ap (λ (x : Bool). there_or_not x (position m (pegs_in b))) t in
          let i : k ≡ position m (pegs_in b) = cc in
          record { there = t; index = i; inside = omega (arith, found_low m (pegs_in b) (held_sorted b ok) t, slots_count b) }
      go (fails t) =
          let f : ◌≡◌ {A = Result ℕ ℕ} (Ok k) (Err (position m (pegs_in b))) = e ∙ ap (λ (x : Bool). there_or_not x (position m (pegs_in b))) t in
          cc

  pub found_inside : (k : ℕ) → Ok k ≡ search_in m (pegs_in b) → k < peg_count b
  found_inside k e = (found k e).inside

  pub absent : (k : ℕ) → Err k ≡ search_in m (pegs_in b) → is_there (find m (pegs_in b)) ≡ false
  absent k e = go (known (is_there (find m (pegs_in b))))
    where
      go : Known (is_there (find m (pegs_in b))) → is_there (find m (pegs_in b)) ≡ false
      go (holds t) =
          let f : ◌≡◌ {A = Result ℕ ℕ} (Err k) (Ok (position m (pegs_in b))) = e ∙ ap (λ (x : Bool). there_or_not x (position m (pegs_in b))) t in
          cc
      go (fails t) = t

  pub belongs : (k : ℕ) → Err k ≡ search_in m (pegs_in b) → k ≡ position m (pegs_in b)
  belongs k e =
      let f : ◌≡◌ {A = Result ℕ ℕ} (Err k) (Err (position m (pegs_in b))) = e ∙ ap (λ (x : Bool). there_or_not x (position m (pegs_in b))) (absent k e) in
      cc
