-- Document 02, K13, is met: regular configurations of allowed runs that reach all their members and are quorums, with what is asked for in each. A
-- member is in Reg_prim with the delivery that completes it, and before that in Construct.
use mathlib.Core.Path.{◌≡◌, refl}
use mathlib.Core.Bool.{true, false}
use mathlib.Core.List.{[], ◌∷◌, map, Memᴰ}
use native.Mathlib.Omega.{arith}
use lib.ListN.{replicate}
use Rattle.format.specs.Types.{Action, retransmission}
use Rattle.format.specs.Write.{write}
use Rattle.replication.specs.Machine.Exchange.{taken_primary, is_marked, more_than_half, half_with_lowest}
use Rattle.replication.specs.Runs.Run.{put_out}
use Rattle.examples.proofs.Records.{made}
use Rattle.examples.proofs.Meetings.{Meeting, meeting, counts, states_of, is_quorum, coloured, green_of, LastAt, Arrives, arriving, settled}
use Rattle.examples.proofs.Meetings.{opened}
use Rattle.examples.proofs.Stores as S
use Rattle.examples.proofs.CornerRun as CR
use Rattle.examples.proofs.Corner as C
use Rattle.examples.proofs.HalvesRun as HR
use Rattle.examples.proofs.Halves as H
use Rattle.examples.proofs.ReunionRun as RR
use Rattle.examples.proofs.Reunion as R

-- ---- Stores: {0,1} from the start; nothing is planned

unfoldable pub pair : Meeting
unfolding opened S.run
pair = meeting S.allowed (record { id = 1; set = 3 }) (0 ∷ 1 ∷ []) (omega arith) refl

pair_quorum : is_quorum pair ≡ true
unfolding opened pair S.run
pair_quorum = refl

-- 2 States, 0 resent, 2 CPCs.
pair_0 : LastAt pair 0 8 (counts 2 0 2)
unfolding opened pair S.run
pair_0 = record { within = refl; all_asked = refl; but_one = refl; all_there = refl; before = refl; after = refl }

pair_1 : LastAt pair 1 9 (counts 2 0 2)
unfolding opened pair S.run
pair_1 = record { within = refl; all_asked = refl; but_one = refl; all_there = refl; before = refl; after = refl }

pair_arrives : Arrives pair 0 8 × Arrives pair 1 9
pair_arrives = (arriving pair pair_0, arriving pair pair_1)

pair_equal : green_of pair 0 9 ≡ green_of pair 1 10
unfolding green_of
pair_equal = (settled pair pair_quorum).greens_equal 0 1 8 9 pair_arrives.0 pair_arrives.1

-- ---- Halves: {0,1}, two of the four of the last primary component; nothing is planned

unfoldable pub half : Meeting
unfolding opened HR.rows H.run
half = meeting H.allowed (record { id = 2; set = 3 }) (45 ∷ 46 ∷ []) (omega arith) refl

half_quorum : is_quorum half ≡ true
unfolding opened half HR.rows H.run
half_quorum = refl

-- Document 02, K1: not by more than half, but with the lowest-numbered member.
half_by_lowest : (more_than_half (taken_primary (states_of half)) 3 ≡ false) × (half_with_lowest (taken_primary (states_of half)) 3 ≡ true)
unfolding opened half HR.rows H.run
half_by_lowest = (refl, refl)

-- 2 States, 0 resent, 2 CPCs.
half_0 : LastAt half 0 52 (counts 2 0 2)
unfolding opened half HR.rows H.run
half_0 = record { within = refl; all_asked = refl; but_one = refl; all_there = refl; before = refl; after = refl }

half_1 : LastAt half 1 54 (counts 2 0 2)
unfolding opened half HR.rows H.run
half_1 = record { within = refl; all_asked = refl; but_one = refl; all_there = refl; before = refl; after = refl }

half_arrives : Arrives half 0 52 × Arrives half 1 54
half_arrives = (arriving half half_0, arriving half half_1)

half_equal : green_of half 0 53 ≡ green_of half 1 55
unfolding green_of
half_equal = (settled half half_quorum).greens_equal 0 1 52 54 half_arrives.0 half_arrives.1

-- ---- Corner: {0,1,2} for the third time; K, which 1 alone holds, is resent as red

unfoldable pub third : Meeting
unfolding opened CR.rows C.run
third = meeting C.allowed (record { id = 3; set = 7 }) (37 ∷ 38 ∷ 39 ∷ []) (omega arith) refl

third_quorum : is_quorum third ≡ true
unfolding opened third CR.rows C.run
third_quorum = refl

-- 3 States, 1 resent, 3 CPCs.
third_0 : LastAt third 0 55 (counts 3 1 3)
unfolding opened third CR.rows C.run
third_0 = record { within = refl; all_asked = refl; but_one = refl; all_there = refl; before = refl; after = refl }

third_2 : LastAt third 2 61 (counts 3 1 3)
unfolding opened third CR.rows C.run
third_2 = record { within = refl; all_asked = refl; but_one = refl; all_there = refl; before = refl; after = refl }

third_arrives : Arrives third 0 55 × Arrives third 2 61
third_arrives = (arriving third third_0, arriving third third_2)

third_equal : green_of third 0 56 ≡ green_of third 2 62
unfolding green_of
third_equal = (settled third third_quorum).greens_equal 0 2 55 61 third_arrives.0 third_arrives.1

-- ---- Reunion: {0,1,2} again after a crash; a green one that 1 and 2 lack as green, and a red one that 2 alone holds

unfoldable pub reunited : Meeting
unfolding opened RR.rows R.run
reunited = meeting R.allowed (record { id = 4; set = 7 }) (49 ∷ 50 ∷ 51 ∷ []) (omega arith) refl

reunited_quorum : is_quorum reunited ≡ true
unfolding opened reunited RR.rows R.run
reunited_quorum = refl

-- Server 1 comes with a mark, and none is left.
reunited_marks : map is_marked (states_of reunited) ≡ false ∷ true ∷ false ∷ []
unfolding opened reunited RR.rows R.run
reunited_marks = refl

abbrev P1 : Action
P1 = made 0 1 0 (80 ∷ 49 ∷ [])

abbrev P2 : Action
P2 = made 1 1 1 (80 ∷ 50 ∷ [])

abbrev P3 : Action
P3 = made 2 1 1 (80 ∷ 51 ∷ [])

reunited_coloured : map (coloured reunited) (0 ∷ 1 ∷ 2 ∷ []) ≡ (P1 ∷ P2 ∷ []) ∷ (P1 ∷ P2 ∷ []) ∷ (P1 ∷ P3 ∷ []) ∷ []
unfolding opened reunited RR.rows R.run
reunited_coloured = refl

-- With the last State 0 resends P2 by its position, 2, and by its creator's cut, as red; 2 resends P3 by its creator's cut.
reunited_parts : map (put_out 3 16 R.run) (54 ∷ 57 ∷ 60 ∷ [])
    ≡ map (map write) ((retransmission 0 2 P2 ∷ retransmission 0 0 P2 ∷ []) ∷ [] ∷ (retransmission 2 0 P3 ∷ []) ∷ [])
unfolding opened RR.rows R.run
reunited_parts = refl

-- 3 States, 3 resent, 3 CPCs.
reunited_0 : LastAt reunited 0 72 (counts 3 3 3)
unfolding opened reunited RR.rows R.run
reunited_0 = record { within = refl; all_asked = refl; but_one = refl; all_there = refl; before = refl; after = refl }

reunited_1 : LastAt reunited 1 75 (counts 3 3 3)
unfolding opened reunited RR.rows R.run
reunited_1 = record { within = refl; all_asked = refl; but_one = refl; all_there = refl; before = refl; after = refl }

reunited_2 : LastAt reunited 2 78 (counts 3 3 3)
unfolding opened reunited RR.rows R.run
reunited_2 = record { within = refl; all_asked = refl; but_one = refl; all_there = refl; before = refl; after = refl }

reunited_arrives : Arrives reunited 0 72 × Arrives reunited 1 75 × Arrives reunited 2 78
reunited_arrives = (arriving reunited reunited_0, arriving reunited reunited_1, arriving reunited reunited_2)

reunited_equal : (green_of reunited 0 73 ≡ green_of reunited 1 76) × (green_of reunited 0 73 ≡ green_of reunited 2 79)
unfolding green_of
reunited_equal =
    let s = settled reunited reunited_quorum in
    (s.greens_equal 0 1 72 75 reunited_arrives.0 reunited_arrives.1, s.greens_equal 0 2 72 78 reunited_arrives.0 reunited_arrives.2)

-- Before these deliveries the three lists are equal too, and lack P3.
reunited_greens : (green_of reunited 0 72 ∷ green_of reunited 1 75 ∷ green_of reunited 2 78 ∷ [] ≡ replicate 3 (P1 ∷ P2 ∷ []))
    × (green_of reunited 0 73 ∷ green_of reunited 1 76 ∷ green_of reunited 2 79 ∷ [] ≡ replicate 3 (P1 ∷ P2 ∷ P3 ∷ []))
unfolding opened reunited RR.rows R.run
reunited_greens = (refl, refl)

-- P3, which 2 alone had coloured, is in all three.
P3Coloured : Memᴰ P3 (coloured reunited 2)
unfolding opened reunited RR.rows R.run
P3Coloured = Memᴰ.tail (Memᴰ.head refl)

reunited_hold : Memᴰ P3 (green_of reunited 0 73) × Memᴰ P3 (green_of reunited 1 76) × Memᴰ P3 (green_of reunited 2 79)
unfolding green_of coloured
reunited_hold =
    let s = settled reunited reunited_quorum in
    let m = reunited_arrives.2.undisturbed.member in (
      s.greens_hold 2 0 72 reunited_arrives.0 m P3 P3Coloured,
      s.greens_hold 2 1 75 reunited_arrives.1 m P3 P3Coloured,
      s.greens_hold 2 2 78 reunited_arrives.2 m P3 P3Coloured,
    )
