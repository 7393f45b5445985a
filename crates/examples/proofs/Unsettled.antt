-- Document 02, K13, where one premise fails: members that have all States and the planned retransmissions, and yet are not in Reg_prim.
use mathlib.Core.Path.{◌≡◌, refl}
use mathlib.Core.Bool.{true, false}
use mathlib.Core.List.{[], ◌∷◌, map}
use native.Mathlib.Omega.{arith}
use Rattle.replication.specs.Machine.Types.{Non_prim, Exchange_states, Construct, No, Un}
use Rattle.replication.specs.Machine.Exchange.{taken_primary, mark_left, linear_vote}
use Rattle.examples.proofs.Meetings.{Meeting, meeting, counts, states_of, is_quorum, asked, delivered, mode_at, is_within, Within, within_no}
use Rattle.examples.proofs.Meetings.{LastAt, StandsAt, HasExchanged, standing, opened}
use Rattle.examples.proofs.HalvesRun as HR
use Rattle.examples.proofs.Halves as H
use Rattle.examples.proofs.MarkLeft as M
use Rattle.examples.proofs.OutsidersMark as O

-- ---- MarkLeft, {1,2}: more than half of the last primary component, and a mark is left

unfoldable pub marked : Meeting
unfolding opened M.run
marked = meeting M.allowed (record { id = 2; set = 6 }) (0 ∷ 23 ∷ 24 ∷ []) (omega arith) refl

marked_no_quorum : is_quorum marked ≡ false
unfolding opened marked M.run
marked_no_quorum = refl

-- By the mark alone.
marked_left : (mark_left (states_of marked) ≡ true) × (linear_vote (taken_primary (states_of marked)) 6 ≡ true)
unfolding opened marked M.run
marked_left = (refl, refl)

-- 2 States, 0 resent, and no CPC: in Non_prim to the end.
marked_1 : StandsAt marked 1 29 (counts 2 0 0) Non_prim
unfolding opened marked M.run
marked_1 = record { within = refl; all_states_lem = refl; all_resent = refl; there = refl; stands = refl }

marked_2 : StandsAt marked 2 29 (counts 2 0 0) Non_prim
unfolding opened marked M.run
marked_2 = record { within = refl; all_states_lem = refl; all_resent = refl; there = refl; stands = refl }

marked_exchanged : Within marked 1 29 × HasExchanged marked 1 29
marked_exchanged = standing marked marked_1

-- ---- Halves, {2,3}: half of the last primary component, without its lowest-numbered member

unfoldable pub others : Meeting
unfolding opened HR.rows H.run
others = meeting H.allowed (record { id = 3; set = 12 }) (0 ∷ 0 ∷ 58 ∷ 59 ∷ []) (omega arith) refl

others_no_quorum : is_quorum others ≡ false
unfolding opened others HR.rows H.run
others_no_quorum = refl

-- By the vote alone.
others_vote : (mark_left (states_of others) ≡ false) × (linear_vote (taken_primary (states_of others)) 12 ≡ false)
unfolding opened others HR.rows H.run
others_vote = (refl, refl)

-- 2 States, 0 resent, and no CPC: in Non_prim until the transitional configuration comes.
others_2 : StandsAt others 2 69 (counts 2 0 0) Non_prim
unfolding opened others HR.rows H.run
others_2 = record { within = refl; all_states_lem = refl; all_resent = refl; there = refl; stands = refl }

others_3 : StandsAt others 3 70 (counts 2 0 0) Non_prim
unfolding opened others HR.rows H.run
others_3 = record { within = refl; all_states_lem = refl; all_resent = refl; there = refl; stands = refl }

others_exchanged : Within others 2 69 × HasExchanged others 2 69
others_exchanged = standing others others_2

-- ---- MarkLeft, {0,1,2}: a quorum, and 1 gets a transitional configuration before its last CPC

unfoldable pub parted : Meeting
unfolding opened M.run
parted = meeting M.allowed (record { id = 1; set = 7 }) (0 ∷ 1 ∷ 2 ∷ []) (omega arith) refl

parted_quorum : is_quorum parted ≡ true
unfolding opened parted M.run
parted_quorum = refl

-- 3 States, 0 resent, 3 CPCs at 0: in Reg_prim.
parted_0 : LastAt parted 0 14 (counts 3 0 3)
unfolding opened parted M.run
parted_0 = record { within = refl; all_asked = refl; but_one = refl; all_there = refl; before = refl; after = refl }

-- 3 States, 0 resent, 2 CPCs at 1: in Construct ..
parted_1 : StandsAt parted 1 19 (counts 3 0 2) Construct
unfolding opened parted M.run
parted_1 = record { within = refl; all_states_lem = refl; all_resent = refl; there = refl; stands = refl }

-- .. then in No; the third comes in the transitional configuration, is not counted, and leads to Un.
parted_then : (map (mode_at parted 1) (20 ∷ 22 ∷ []) ≡ No ∷ Un ∷ []) × (delivered parted 1 22 ≡ counts 3 0 2)
unfolding opened parted M.run
parted_then = (refl, refl)

parted_out : is_within parted 1 20 ≡ false
unfolding opened parted M.run
parted_out = refl

parted_disturbed : Within parted 1 20 → ⊥
parted_disturbed = within_no parted 1 20 parted_out

-- ---- OutsidersMark, {1,2}: a quorum, and 1 gets a transitional configuration before its States

unfoldable pub early : Meeting
unfolding opened O.run
early = meeting O.allowed (record { id = 1; set = 6 }) (0 ∷ 0 ∷ 1 ∷ []) (omega arith) refl

early_quorum : is_quorum early ≡ true
unfolding opened early O.run
early_quorum = refl

-- 0 States at 1: in Non_prim; both come in the transitional configuration, and are not counted.
early_1 : (map (mode_at early 1) (5 ∷ 6 ∷ 8 ∷ []) ≡ Exchange_states ∷ Non_prim ∷ Non_prim ∷ [])
    × (asked early ≡ counts 2 0 2) × (delivered early 1 8 ≡ counts 0 0 0)
unfolding opened early O.run
early_1 = (refl, refl, refl)
