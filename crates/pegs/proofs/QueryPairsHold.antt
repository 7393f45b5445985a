-- The pairs hold: what lent buffers get by laws, the others by computation.
use Prim.Native.Nat.{ℕ}
use mathlib.Core.Path.{◌≡◌, refl, ap, ◌∙◌}
use mathlib.Core.List.{List, [], ◌∷◌}
use native.Mathlib.Omega.{arith}
use Rattle.base.specs.Opened.{opened}
use Rattle.plane.specs.declared.Region.TheVariants.{Inside}
use Rattle.plane.specs.Plane.{between, in_rectangle, sides_rise, squared, squared_distance, within_radius, in_region}
use Rattle.pegs.specs.Operations.{Peg, coordinate}
use Rattle.pegs.specs.Image.{peg_bytes, register_bytes, register_image, pegs_in}
use Rattle.pegs.specs.Outcome.{changed}
use Rattle.pegs.specs.Regions.{point_of, peg_inside, pegs_inside, distance_to, no_nearer, is_nearest, nearest}
use Rattle.pegs.specs.Queries.{region_on}
use Rattle.pegs.specs.Pairs.{peg, short}
use Rattle.pegs.specs.QueryPairs.{sheet, crossed, blank, one_peg, nameless, too_short, QueryPairs}
use Rattle.pegs.proofs.Refusals.{one_pegs, seven, eight, twelve, zero_blank, zero_nameless, seven_answer}
use Rattle.pegs.proofs.Regions.{region_taken, region_refused}

-- ---- what is answered on the table's rectangles

seven_first : region_on (Inside crossed) [] [] ≡ changed 7 []
seven_first = region_refused _ _ _ (λ e. omega (arith, e, seven)) ∙ ap (λ (k : ℕ). changed k []) seven

then_eight : region_on (Inside crossed) nameless blank ≡ changed 8 blank
then_eight = region_refused _ _ _ (λ e. omega (arith, e, eight)) ∙ ap (λ (k : ℕ). changed k blank) eight

then_twelve : region_on (Inside crossed) one_peg blank ≡ changed 12 blank
then_twelve = region_refused _ _ _ (λ e. omega (arith, e, twelve)) ∙ ap (λ (k : ℕ). changed k blank) twelve

answer_short : region_on (Inside sheet) one_peg too_short ≡ changed 7 too_short
answer_short = region_refused _ _ _ (λ e. omega (arith, e, seven_answer)) ∙ ap (λ (k : ℕ). changed k too_short) seven_answer

one_inside : pegs_inside (Inside sheet) (pegs_in one_peg) ≡ peg short 1 2 ∷ []
unfolding opened between in_rectangle in_region coordinate point_of peg_inside pegs_inside
one_inside = ap (pegs_inside (Inside sheet)) one_pegs

taken : region_on (Inside sheet) one_peg blank ≡ changed 0 one_peg
taken = region_taken _ _ _ zero_blank ∙ ap (λ (l : List Peg). changed 0 (register_image l blank)) one_inside

-- Both buffers hold zeros behind the peg.
one_over : register_image (peg short 1 2 ∷ []) nameless ≡ one_peg
unfolding opened peg_bytes register_bytes register_image
one_over = refl

answer_nameless : region_on (Inside sheet) one_peg nameless ≡ changed 0 one_peg
answer_nameless =
    region_taken _ _ _ zero_nameless ∙ ap (λ (l : List Peg). changed 0 (register_image l nameless)) one_inside ∙ ap (changed 0) one_over

-- ---- the table

pub query_pairs_hold : QueryPairs
unfolding
    opened
    between in_rectangle sides_rise squared squared_distance within_radius
    coordinate point_of distance_to no_nearer is_nearest nearest
query_pairs_hold = record {
  south_west = refl;
  north_east = refl;
  beside_west = refl;
  beside_south = refl;
  beside_east = refl;
  beside_north = refl;
  one_point = refl;
  west_of_east = refl;
  south_of_north = refl;
  seven_first = seven_first;
  then_eight = then_eight;
  then_twelve = then_twelve;
  taken = taken;
  answer_short = answer_short;
  answer_nameless = answer_nameless;
  across = refl;
  at_edge = refl;
  beyond_edge = refl;
  same_point = refl;
  largest = refl;
  larger_by_1 = refl;
  of_none = refl;
  of_one = refl;
  tie = refl;
  second = refl;
  second_by_1 = refl;
  second_across = refl;
}
