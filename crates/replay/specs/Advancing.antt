-- What the program does between two reads.
use Rattle.std.specs.Prelude.{ℕ, ◌^◌, ◌≤◌, ◌<◌, ◌≡◌, Bool, true, false, refl, List, [], ◌∷◌, ◌++◌, length, take, drop}
use Rattle.format.specs.Places.{setup_size}
use Rattle.format.specs.Types.{says}
use Rattle.format.specs.Setup.{Setup, read_setup}
use Rattle.base.specs.Bytes.{joined}
use Rattle.base.specs.Lists.{Each}
use Rattle.replication.specs.Replay.{header, replay}
use Rattle.replay_servers.specs.Core.{table_servers, table_quota}
use Rattle.replay_servers.specs.Starting.{fresh_table}
use Rattle.replay.specs.declared.Standing.{Standing}
use Rattle.replay_turns.specs.Passes.{Progress}
use Rattle.replay.specs.Parts.{part_of, asks_more}
use Rattle.replay.specs.Reading.{lines_room, Refilled}

-- The bytes that are there.
unfoldable pub there : Standing → List ℕ
there s = take s.input.count s.input.bytes

-- All passes over them.
unfoldable pub passes_at : Standing → Progress
passes_at s = part_of lines_room s.replay.table s.replay.servers s.replay.event (there s) s.input.ended

-- Table and number are those that the passes leave; where these ask for more, the bytes that they leave stand in front of what was read.
pub record Advanced (s r : Standing) (more : Bool) : Type 0 where
  pub table : r.replay.table ≡ (passes_at s).table
  pub servers : r.replay.servers ≡ s.replay.servers
  pub event : r.replay.event ≡ (passes_at s).event
  pub asks : more ≡ asks_more (passes_at s).going
  pub refilled : more ≡ true → Refilled (drop (passes_at s).taken (there s)) r.input

-- Where the program can stand, with the parts of the input that it has read and the lines that it has printed, and whether there may be more:
-- at the start it has read one part; then it advances, and reads another where more is asked for.
pub data Reached (servers quota : ℕ) : (parts : List (List ℕ)) → (text : List ℕ) → Standing → (more : Bool) → Type 0 where
  starts : (s : Standing) → s.replay.table ≡ fresh_table servers quota → s.replay.servers ≡ servers → s.replay.event ≡ 1 → (f : Refilled [] s.input)
      → Reached servers quota (f.read ∷ []) [] s true
  goes_on : (parts : List (List ℕ)) (text : List ℕ) (s r : Standing) → Reached servers quota parts text s true → (a : Advanced s r true)
      → Reached servers quota (parts ++ ((a.refilled refl).read ∷ [])) (text ++ (passes_at s).text) r true
  ends : (parts : List (List ℕ)) (text : List ℕ) (s r : Standing) → Reached servers quota parts text s true → Advanced s r false
      → Reached servers quota parts (text ++ (passes_at s).text) r false

-- What `serve` has come to.
pub record Served (servers quota : ℕ) (s : Standing) (more : Bool) : Type 0 where
  pub parts : List (List ℕ)
  pub text : List ℕ
  pub reached : Reached servers quota parts text s more

-- Where the program ends after a good set-up, the header and the lines that it has printed are what document 01 says. The parts that it has
-- read are the first of those that the input is cut into, the last of which is its end.
unfoldable pub ServesReplay : Type 0
ServesReplay =
    (input : List ℕ) (s : Setup) (cut parts others : List (List ℕ)) (text : List ℕ) (r : Standing) → length input < 2 ^ 64
    → Each (λ x. 1 ≤ length x) cut → joined cut ≡ drop setup_size input → cut ++ ([] ∷ []) ≡ parts ++ others
    → read_setup table_servers table_quota (take setup_size input) ≡ says s → Reached s.servers s.quota parts text r false
    → header ++ text ≡ replay table_servers table_quota input
