-- The table's buffers, and the numbers of its rectangles over them: 7, then 8, then 12.
use Prim.Native.Nat.{◌-◌, ◌*◌}
use mathlib.Core.Path.{◌≡◌, refl, sym}
use mathlib.Core.Bool.{true, false}
use mathlib.Core.List.{[], ◌∷◌}
use native.Mathlib.Omega.{arith}
use lib.ListN.{length}
use Rattle.base.specs.Opened.{opened}
use Rattle.base.specs.Tests.{◌and◌, ◌=?◌, pick}
use Rattle.base.proofs.Over.{zeros_length}
use Rattle.base.proofs.TestLaws.{lt_yes, lt_no, pick_no}
use Rattle.plane.specs.declared.Region.TheVariants.{Inside}
use Rattle.plane.specs.Plane.{sides_rise}
use Rattle.pegs.specs.Operations.{name_fits}
use Rattle.pegs.specs.Register.{most_pegs}
use Rattle.pegs.specs.Image.{peg_size, register_length, peg_at, pegs_at, pegs_in, leads, rising, peg_fits, formed, register_reads}
use Rattle.pegs.specs.Outcome.{register_short, register_number}
use Rattle.pegs.specs.Queries.{both_number, sides_number, region_number}
use Rattle.pegs.specs.Pairs.{peg, short}
use Rattle.pegs.specs.QueryPairs.{sheet, crossed, blank, one_peg, nameless, too_short}
use Rattle.pegs.proofs.ImageLaws.{image_length, image_number_lem, pegs_image}

-- ---- the buffers

blank_size : length blank ≡ register_length
blank_size = zeros_length register_length

nameless_size : length nameless ≡ register_length
nameless_size = omega (arith, zeros_length (peg_size * most_pegs))

one_formed : formed (peg short 1 2 ∷ []) ≡ true
unfolding opened name_fits leads rising peg_fits formed
one_formed = refl

blank_long : register_short blank ≡ false
unfolding register_short
blank_long = lt_no _ _ (omega (arith, blank_size))

one_long : register_short one_peg ≡ false
unfolding register_short
one_long = lt_no _ _ (omega (arith, image_length (peg short 1 2 ∷ []) blank one_formed (omega (arith, blank_size)), blank_size))

nameless_long : register_short nameless ≡ false
unfolding register_short
nameless_long = lt_no _ _ (omega (arith, nameless_size))

too_short_lem : register_short too_short ≡ true
unfolding register_short
too_short_lem = lt_yes _ _ (omega (arith, zeros_length (register_length - 1)))

one_number : register_number one_peg ≡ 0
one_number = image_number_lem (peg short 1 2 ∷ []) blank one_formed (omega (arith, blank_size))

pub one_pegs : pegs_in one_peg ≡ peg short 1 2 ∷ []
one_pegs = pegs_image (peg short 1 2 ∷ []) blank one_formed (omega (arith, blank_size))

nameless_reads : register_reads nameless ≡ false
unfolding opened name_fits peg_at pegs_at pegs_in peg_fits formed register_reads
nameless_reads = refl

nameless_number : register_number nameless ≡ 8
unfolding register_number
nameless_number = sym (pick_no _ 8 7 _ nameless_long (pick_no _ 8 0 8 nameless_reads refl))

-- ---- the numbers

pub seven : region_number (Inside crossed) [] [] ≡ 7
unfolding opened sides_rise register_short sides_number both_number region_number
seven = refl

-- What is known of the buffers.
ruleset buffers = (blank_long, one_long, nameless_long, too_short_lem, one_number, nameless_number)

pub eight : region_number (Inside crossed) nameless blank ≡ 8
unfolding ◌=?◌ ◌and◌ pick sides_rise sides_number both_number region_number
eight = simp buffers refl

pub twelve : region_number (Inside crossed) one_peg blank ≡ 12
unfolding ◌=?◌ ◌and◌ pick sides_rise sides_number both_number region_number
twelve = simp buffers refl

pub zero_blank : region_number (Inside sheet) one_peg blank ≡ 0
unfolding ◌=?◌ ◌and◌ pick sides_rise sides_number both_number region_number
zero_blank = simp buffers refl

pub zero_nameless : region_number (Inside sheet) one_peg nameless ≡ 0
unfolding ◌=?◌ ◌and◌ pick sides_rise sides_number both_number region_number
zero_nameless = simp buffers refl

pub seven_answer : region_number (Inside sheet) one_peg too_short ≡ 7
unfolding ◌=?◌ ◌and◌ pick sides_rise sides_number both_number region_number
seven_answer = simp buffers refl
