-- Document 01, 'What `replay` prints': from the bytes on standard input to the bytes printed.
use Rattle.std.specs.Prelude.{ℕ, zero, suc, ◌+◌, true, false, List, [], ◌∷◌, ◌++◌, map, length, take, drop, set}
use Rattle.std.proofs.Math.Option.{Option, none, some}
use Rattle.base.specs.Tests.{◌≤?◌, ◌<?◌}
use Rattle.base.specs.Bytes.{number_at}
use Rattle.base.specs.Lists.{below, at}
use Rattle.base.specs.Text.{ascii, decimal}
use Rattle.format.specs.Types.{Reading, says, refused}
use Rattle.format.specs.Setup.{Setup, read_setup}
use Rattle.replication.specs.Machine.Types.{Mode, Non_prim, Reg_prim, Trans_prim, Exchange_states, Exchange_actions, Construct, No, Un}
use Rattle.replication.specs.Machine.Types.{Server, Outcome, taken, start}
use Rattle.replication.specs.Images.{Images, arrive, left_by, started}

-- ---- lines

unfoldable pub mode_name : Mode → List ℕ
mode_name Non_prim = ascii "Non_prim"
mode_name Reg_prim = ascii "Reg_prim"
mode_name Trans_prim = ascii "Trans_prim"
mode_name Exchange_states = ascii "Exchange_states"
mode_name Exchange_actions = ascii "Exchange_actions"
mode_name Construct = ascii "Construct"
mode_name No = ascii "No"
mode_name Un = ascii "Un"

-- The words with single spaces between, and a newline.
unfoldable pub line : List (List ℕ) → List ℕ
line [] = ascii "\n"
line (w ∷ []) = w ++ ascii "\n"
line (w ∷ v ∷ ws) = w ++ (ascii " " ++ line (v ∷ ws))

unfoldable pub header : List ℕ
header = ascii "event server returned state red green prim sent\n"

unfoldable pub returned : Outcome (List ℕ) → ℕ
returned (Outcome.refused k) = k
returned (taken t r b g) = 0

unfoldable pub sent_count : Outcome (List ℕ) → ℕ
sent_count (Outcome.refused k) = 0
sent_count (taken t r b g) = length r

-- "Red counts held actions not green; prim is the primary index; sent counts records put out."
unfoldable pub event_line : ℕ → ℕ → Outcome (List ℕ) → Server → List ℕ
event_line number server o s =
    line
    (decimal number
    ∷ decimal server
    ∷ decimal (returned o)
    ∷ mode_name s.membership.mode
    ∷ decimal (length s.log.red)
    ∷ decimal (length s.log.green)
    ∷ decimal s.votes.last.index
    ∷ decimal (sent_count o)
    ∷ [])

-- "A server byte from n up, or an event cut short by the input's end, prints `input` and 2 or 1, and stops."
unfoldable pub input_line : ℕ → List ℕ
input_line k = line (ascii "input" ∷ decimal k ∷ [])

-- "another set-up prints `setup` and its number (1 or 2), and stops"
unfoldable pub setup_line : ℕ → List ℕ
setup_line k = line (ascii "setup" ∷ decimal k ∷ [])

-- ---- the input

-- How long the record at the front says that it is, with its length bytes.
unfoldable pub record_length : List ℕ → ℕ
record_length input = number_at 2 input 0 + 2

-- One event: its line, and the table afterwards.
unfoldable pub table_after : ℕ → List ℕ → Option Images → List Images → List Images
table_after k e none table = table
table_after k e (some i) table = set table k (left_by (arrive i e) i)

unfoldable pub line_for : ℕ → ℕ → List ℕ → Option Images → List ℕ
line_for number k e none = []
line_for number k e (some i) = event_line number k (arrive i e) (left_by (arrive i e) i).memory

-- "then server byte and event, repeated": the first argument bounds how many there are. A server byte is tested before its event.
unfoldable pub events : ℕ → ℕ → List Images → List ℕ → List ℕ
events zero number table input = []
events (suc d) number table [] = []
events (suc d) number table (k ∷ input) =
    elim (k <? length table) [
      | false ↦ input_line 2
      | true ↦
          elim (record_length input ≤? length input) [
            | false ↦ input_line 1
            | true ↦
                line_for number k (take (record_length input) input) (at table k)
                ++ events d (number + 1) (table_after k (take (record_length input) input) (at table k) table) (drop (record_length input) input)
          ]
    ]

unfoldable pub after_setup : Reading Setup → List ℕ → List ℕ
after_setup (refused k) input = setup_line k
after_setup (says s) input = header ++ events (length input) 1 (map (λ k. started (start s.servers s.quota k)) (below s.servers)) input

-- "Standard input: a set-up record .., then server byte and event, repeated." It takes n to `servers` and q to `quota`.
unfoldable pub replay : (servers quota : ℕ) → List ℕ → List ℕ
replay servers quota input = after_setup (read_setup servers quota (take 7 input)) (drop 7 input)
