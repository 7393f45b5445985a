-- What the program prints of an input that comes in parts.
use Rattle.std.specs.Prelude.{ℕ, zero, suc, ◌^◌, ◌≤◌, ◌<◌, ◌≡◌, Bool, true, false, Option, Some, None, List, [], ◌∷◌, ◌++◌, length, take, drop}
use Rattle.format.specs.Places.{setup_size}
use Rattle.format.specs.Types.{Reading, says, refused}
use Rattle.format.specs.Setup.{Setup, read_setup}
use Rattle.base.specs.Tests.{◌=?◌, pick}
use Rattle.base.specs.Bytes.{joined}
use Rattle.base.specs.Lists.{Each}
use Rattle.replication.specs.Replay.{header, setup_line, replay}
use Rattle.replay_servers.specs.Core.{table_servers, table_quota}
use Rattle.replay_servers.specs.declared.Server.{Server}
use Rattle.replay_servers.specs.Starting.{fresh_table}
use Rattle.replay_turns.specs.declared.Going.{Going}
use Rattle.replay_turns.specs.declared.Going.TheVariants.{On, Read, Stop}
use Rattle.replay_lines.specs.Lines.{line_room}
use Rattle.replay_turns.specs.Passes.{Progress, none, behind, if_on, pass_of}

-- ---- one part of the input

-- Passes, each with the same room for its lines, while they stop for lack of room; the first argument bounds how many.
unfoldable pub part_from : ℕ → (room : ℕ) → List Server → (n event : ℕ) → List ℕ → Bool → Progress
part_from zero room t n event input ended = none t event
part_from (suc d) room t n event input ended =
    let r : Progress = pass_of t n event input ended room in
    if_on r.going (behind r.taken r.text (part_from d room r.table n r.event (drop r.taken input) ended)) r

unfoldable pub part_of : (room : ℕ) → List Server → (n event : ℕ) → List ℕ → Bool → Progress
part_of room t n event input ended = part_from (suc (length input)) room t n event input ended

-- More input is asked for.
unfoldable pub asks_more : Going → Bool
asks_more On = false
asks_more Read = true
asks_more Stop = false

-- Once the lines are written: table and number are those of w, and r says how many bytes were taken where more input is asked for.
unfoldable pub left_of : Progress → Option ℕ
left_of w = pick (asks_more w.going) (Some w.taken) None

pub record Printed (w : Progress) (t : List Server) (k : ℕ) (r : Option ℕ) : Type 0 where
  pub table : t ≡ w.table
  pub event : k ≡ w.event
  pub left : r ≡ left_of w

-- ---- the whole input

-- Each part is put behind the bytes that are left; an empty one is the input's end.
unfoldable pub parts_from : (room : ℕ) → List Server → (n event : ℕ) → (left : List ℕ) → List (List ℕ) → List ℕ
parts_from room t n event left [] = []
parts_from room t n event left (x ∷ xs) =
    let r : Progress = part_of room t n event (left ++ x) (length x =? 0) in
    r.text ++ pick (asks_more r.going) (parts_from room r.table n r.event (drop r.taken (left ++ x)) xs) []

-- What the program prints, of its set-up as it was read and the parts behind it.
unfoldable pub printed_behind : (room : ℕ) → Reading Setup → List (List ℕ) → List ℕ
printed_behind room (says s) parts = header ++ parts_from room (fresh_table s.servers s.quota) s.servers 1 [] parts
printed_behind room (refused k) parts = setup_line k

-- The same, of its first bytes.
unfoldable pub printed_of : (room : ℕ) → (first : List ℕ) → List (List ℕ) → List ℕ
printed_of room first parts = printed_behind room (read_setup table_servers table_quota first) parts

-- However the input behind its set-up record is cut into parts, and whatever room lines have, one at least: the program prints what
-- document 01 says. Events are numbered in 64 bits: the input has fewer than 2 ^ 64 bytes.
unfoldable pub PrintsReplay : Type 0
PrintsReplay =
    (room : ℕ) (input : List ℕ) (parts : List (List ℕ)) → line_room ≤ room → length input < 2 ^ 64 → Each (λ x. 1 ≤ length x) parts
    → joined parts ≡ drop setup_size input
    → printed_of room (take setup_size input) (parts ++ ([] ∷ [])) ≡ replay table_servers table_quota input
