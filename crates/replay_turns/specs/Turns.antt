-- One event of the input at the table of servers, and its line.
use Rattle.std.specs.Prelude.{ℕ, ◌+◌, ◌-◌, ◌≤◌, ◌≡◌, Bool, List, [], ◌++◌, length, slice_index, slice_index_or, Result, Ok, Err}
use Rattle.base.specs.Bytes.{number_at, part_at}
use Rattle.image.specs.Layout.{at_mode, at_last}
use Rattle.image.specs.Decode.{white_in}
use Rattle.image.specs.Counts.{queue_count, green_count}
use Rattle.replay_servers.specs.declared.Server.{Server}
use Rattle.replay_servers.specs.declared.Reply.{Reply}
use Rattle.replay_servers.specs.Table.{none, altered, replied}
use Rattle.replication.specs.Replay.{input_line}
use Rattle.replay_lines.specs.declared.line.Shown.{Shown}
use Rattle.replay_lines.specs.declared.input.Next.{Next}
use Rattle.replay_lines.specs.declared.input.Next.TheVariants.{Event, More, Done}
use Rattle.refusals.specs.declared.Refusal.{Refusal}
use Rattle.refusals.specs.Numbers.{refusal_number}
use Rattle.replay_turns.specs.declared.Going.{Going}
use Rattle.replay_turns.specs.declared.Going.TheVariants.{On, Read, Stop}
use Rattle.replay_turns.specs.declared.Turn.{Turn}
use Rattle.replay_lines.specs.Input.{next_of}
use Rattle.replay_lines.specs.Lines.{shown_line, line_room}

-- What a line shows of a reply and of the state whose bytes are b. K6: "`replay` counts white ones as green", and these have no slot.
unfoldable pub shown_of : (event server : ℕ) → Reply → List ℕ → Shown
shown_of event server reply b = record {
  number = event;
  server = server;
  returned = reply.number;
  mode = number_at 1 b at_mode;
  red = queue_count b - green_count b;
  green = white_in b + green_count b;
  prim = number_at 4 b at_last;
  sent = reply.sent;
}

-- The line of the event e at the server k.
unfoldable pub line_at : List Server → (event k : ℕ) → List ℕ → List ℕ
line_at t event k e = shown_line (shown_of event k (replied t k e) (slice_index_or (altered t k e) k none).state)

-- ---- one turn

-- The table after it, how many bytes of the input it took, its line, and what comes after it.
pub record Turned : Type 0 where
  pub table : List Server
  pub taken : ℕ
  pub text : List ℕ
  pub going : Going

-- The turn w is taken: t is its table, its line stands behind the text o, and r says how many bytes it took and what comes after it.
pub record Took (w : Turned) (t : List Server) (r : Turn) (o o' : List ℕ) : Type 0 where
  pub table : t ≡ w.table
  pub taken : r.taken ≡ w.taken
  pub going : r.going ≡ w.going
  pub text : o' ≡ o ++ w.text
  pub most : length o' ≤ length o + line_room

unfoldable pub turn_by : Result Next Refusal → List Server → (event : ℕ) → List ℕ → Turned
turn_by (Ok (Event m)) t event input = record {
  table = altered t (slice_index input 0) (part_at m input 1);
  taken = m + 1;
  text = line_at t event (slice_index input 0) (part_at m input 1);
  going = On;
}
turn_by (Err r) t event input = record { table = t; taken = 0; text = input_line (refusal_number r); going = Stop }
turn_by (Ok More) t event input = record { table = t; taken = 0; text = []; going = Read }
turn_by (Ok Done) t event input = record { table = t; taken = 0; text = []; going = Stop }

-- Of n servers; whether the input has ended with these bytes.
unfoldable pub turn_of : List Server → (n event : ℕ) → List ℕ → Bool → Turned
turn_of t n event input ended = turn_by (next_of n input ended) t event input
