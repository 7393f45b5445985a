-- The bytes of pegs, and the pegs that bytes hold.
use Prim.Native.Nat.{ℕ, zero, suc, ◌+◌, ◌*◌, ◌-◌, ◌^◌, ◌≤◌, ◌<◌}
use mathlib.Core.Path.{◌≡◌, refl, ap, ap₂, subst, ◌∙◌}
use mathlib.Core.Bool.{true}
use mathlib.Core.List.{List, [], ◌∷◌, ◌++◌, map, map-append}
use mathlib.Core.Option.{some}
use native.Mathlib.Omega.{arith}
use lib.ListN.{length, length-append}
use Rattle.base.specs.Bytes.{bytes_of, number_at, part_at, joined, zeros, slot}
use Rattle.base.specs.Lists.{at, Each}
use Rattle.base.proofs.AtLaws.{none_some, some_same}
use Rattle.base.proofs.BytesLaws.{bytes_length, joined_append}
use Rattle.base.proofs.Occurs.{Occurs, occurs_first, occurs_second, occurs_at, joined_parts, number_read}
use Rattle.base.proofs.TestLaws.{le_holds, lt_holds, le_yes, lt_yes, and_holds, both_yes}
use Rattle.base.proofs.Over.{slot_length}
use Rattle.pegs.specs.Operations.{Peg, most_name, coordinate_size, place_at, name_fits}
use Rattle.pegs.specs.Image.{at_slot_name, at_place, peg_size, peg_bytes, peg_at, pegs_at, peg_fits}

-- ---- a peg in range

pub record PegRange (g : Peg) : Type 0 where
  pub low : 1 ≤ length g.name
  pub most : length g.name ≤ most_name
  pub easting : g.place.easting < 256 ^ coordinate_size
  pub northing : g.place.northing < 256 ^ coordinate_size

pub peg_range : (g : Peg) → peg_fits g ≡ true → PegRange g
unfolding peg_fits name_fits
peg_range g h =
    let t = and_holds _ _ h in
    let n = and_holds _ _ t.0 in
    let p = and_holds _ _ t.1 in
    record { low = le_holds 1 _ n.0; most = le_holds _ most_name n.1; easting = lt_holds _ _ p.0; northing = lt_holds _ _ p.1 }

pub range_fits : (g : Peg) → PegRange g → peg_fits g ≡ true
unfolding peg_fits name_fits
range_fits g r =
    both_yes _ _ (both_yes _ _ (le_yes 1 _ r.low) (le_yes _ most_name r.most))
    (both_yes _ _ (lt_yes _ _ r.easting) (lt_yes _ _ r.northing))

-- ---- lengths

pub peg_length : (g : Peg) → length g.name ≤ most_name → length (peg_bytes g) ≡ peg_size
unfolding peg_bytes joined
peg_length g h =
    simp (length-append, bytes_length, slot_length most_name g.name h) (omega arith)

pub pegs_length : (l : List Peg) → Each PegRange l → length (joined (map peg_bytes l)) ≡ peg_size * length l
unfolding joined
pegs_length [] f = refl
pegs_length (g ∷ l) f =
    length-append (peg_bytes g) (joined (map peg_bytes l)) ∙ omega (arith, peg_length g f.0.most, pegs_length l f.1)

-- ---- one behind another

abbrev pub slots : List Peg → List ℕ
slots l = joined (map peg_bytes l)

pub slots_append : (x y : List Peg) → slots (x ++ y) ≡ slots x ++ slots y
slots_append x y = ap joined (map-append peg_bytes x y) ∙ joined_append (map peg_bytes x) (map peg_bytes y)

-- ---- reading

pub peg_read : (g : Peg) (b : List ℕ) (at : ℕ) → PegRange g → Occurs (peg_bytes g) b at → peg_at b at ≡ g
unfolding peg_bytes peg_at place_at slot
peg_read g b at r o =
    let size : List ℕ = bytes_of 1 (length g.name) in
    let name : List ℕ = slot most_name g.name in
    let east : List ℕ = bytes_of coordinate_size g.place.easting in
    let north : List ℕ = bytes_of coordinate_size g.place.northing in
    let parts = joined_parts (size ∷ name ∷ east ∷ north ∷ []) b at o in
    let one : length size ≡ 1 = bytes_length 1 (length g.name) in
    let slots : length name ≡ most_name = slot_length most_name g.name r.most in
    let four : length east ≡ coordinate_size = bytes_length coordinate_size g.place.easting in
    let count : number_at 1 b at ≡ length g.name = number_read 1 at parts.0 refl (omega (arith, r.most)) in
    let named : Occurs g.name b (at + at_slot_name) =
    occurs_at (occurs_first g.name (zeros (most_name - length g.name)) b (at + length size) parts.1.0) (omega arith) in
    let n : part_at (number_at 1 b at) b (at + at_slot_name) ≡ g.name = ap (λ (m : ℕ). part_at m b (at + at_slot_name)) count ∙ named.part in
    let e : number_at coordinate_size b (at + at_place) ≡ g.place.easting =
    number_read coordinate_size (at + at_place) parts.1.1.0 (omega arith) r.easting in
    let h : number_at coordinate_size b (at + at_place + coordinate_size) ≡ g.place.northing =
    number_read coordinate_size (at + at_place + coordinate_size) parts.1.1.1.0 (omega arith) r.northing in
    λ i. record { name = n i; place = record { easting = e i; northing = h i } }

pub pegs_read : (l : List Peg) (b : List ℕ) (at : ℕ) → Each PegRange l → Occurs (joined (map peg_bytes l)) b at → pegs_at (length l) b at ≡ l
unfolding joined pegs_at
pegs_read [] b at f o = refl
pegs_read (g ∷ l) b at f o =
    ap₂ {A = Peg} {B = List Peg} {C = List Peg} (λ x y. x ∷ y) (peg_read g b at f.0 (occurs_first (peg_bytes g) (joined (map peg_bytes l)) b at o))
    (pegs_read l b (at + peg_size) f.1
    (occurs_second (peg_bytes g) (joined (map peg_bytes l)) b at (at + peg_size) (ap (λ (k : ℕ). at + k) (peg_length g f.0.most)) o))

pub pegs_occur : (l : List Peg) (b : List ℕ) (from k : ℕ) (g : Peg) → Each PegRange l → Occurs (joined (map peg_bytes l)) b from → at l k ≡ some g
    → Occurs (peg_bytes g) b (from + peg_size * k)
unfolding joined at
pegs_occur [] b from k g f o e = none_some e
pegs_occur (h ∷ l) b from zero g f o e =
    subst (λ (x : Peg). Occurs (peg_bytes x) b (from + peg_size * 0)) (some_same e)
    (occurs_at (occurs_first (peg_bytes h) (joined (map peg_bytes l)) b from o) (omega arith))
pegs_occur (h ∷ l) b from (suc k) g f o e =
    occurs_at
    (pegs_occur l b (from + peg_size) k g f.1
    (occurs_second (peg_bytes h) (joined (map peg_bytes l)) b from (from + peg_size) (ap (λ (m : ℕ). from + m) (peg_length h f.0.most)) o) e)
    (omega arith)

-- ---- slots

pub pegs_count : (m : ℕ) (b : List ℕ) (at : ℕ) → length (pegs_at m b at) ≡ m
unfolding pegs_at
pegs_count zero b at = refl
pegs_count (suc m) b at = ap suc (pegs_count m b (at + peg_size))

pub pegs_at_lem : (m : ℕ) (b : List ℕ) (from k : ℕ) → k < m → at (pegs_at m b from) k ≡ some (peg_at b (from + peg_size * k))
unfolding pegs_at at
pegs_at_lem zero b from k h = absurd (omega arith)
pegs_at_lem (suc m) b from zero h = let e : from ≡ from + peg_size * 0 = omega arith in ap (λ (i : ℕ). some (peg_at b i)) e
pegs_at_lem (suc m) b from (suc k) h =
    let e : from + peg_size + peg_size * k ≡ from + peg_size * suc k = omega arith in
    pegs_at_lem m b (from + peg_size) k (omega arith) ∙ ap (λ (i : ℕ). some (peg_at b i)) e
