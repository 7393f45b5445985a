-- Turns one after another, as far as the input and the room for lines go.
use Rattle.std.specs.Prelude.{ℕ, zero, suc, ◌+◌, ◌-◌, ◌%◌, ◌^◌, ◌≡◌, Bool, List, [], ◌++◌, length, drop}
use Rattle.base.specs.Tests.{◌<?◌, pick}
use Rattle.replay_servers.specs.declared.Server.{Server}
use Rattle.replay_turns.specs.declared.Going.{Going}
use Rattle.replay_turns.specs.declared.Going.TheVariants.{On, Read, Stop}
use Rattle.replay_turns.specs.declared.Turn.{Turn}
use Rattle.replay_lines.specs.Lines.{line_room}
use Rattle.replay_turns.specs.Turns.{Turned, turn_of}

-- The table after some turns, the number of the next event, how many bytes of the input they took, their lines, and what comes after them.
pub record Progress : Type 0 where
  pub table : List Server
  pub event : ℕ
  pub taken : ℕ
  pub text : List ℕ
  pub going : Going

-- No turn.
unfoldable pub none : List Server → (event : ℕ) → Progress
none t event = record { table = t; event = event; taken = 0; text = []; going = On }

-- r, behind turns that took k bytes and had the lines w.
unfoldable pub behind : (k : ℕ) → List ℕ → Progress → Progress
behind k w r = record { table = r.table; event = r.event; taken = k + r.taken; text = w ++ r.text; going = r.going }

-- a where the next turn follows at once, else b
unfoldable pub if_on : Going → Progress → Progress → Progress
if_on On a b = a
if_on Read a b = b
if_on Stop a b = b

-- ---- one pass

-- One turn, and `rest` where the next one follows at once.
unfoldable pub after_turn : Turned → (event : ℕ) → (rest : Progress) → Progress
after_turn r event rest =
    if_on r.going (behind r.taken r.text rest)
    (record { table = r.table; event = event; taken = r.taken; text = r.text; going = r.going })

-- The number of the event behind this one, in 64 bits.
unfoldable pub next_event : ℕ → ℕ
next_event event = (event + 1) % 2 ^ 64

-- Turns until the input needs more, the program ends, or there is no room for another line; the first argument bounds how many.
unfoldable pub pass_from : ℕ → List Server → (n event : ℕ) → List ℕ → Bool → (room : ℕ) → Progress
pass_from zero t n event input ended room = none t event
pass_from (suc d) t n event input ended room =
    let r : Turned = turn_of t n event input ended in
    pick (room <? line_room) (none t event)
    (after_turn r event (pass_from d r.table n (next_event event) (drop r.taken input) ended (room - length r.text)))

-- A turn that the next one follows takes at least one byte.
unfoldable pub pass_of : List Server → (n event : ℕ) → List ℕ → Bool → (room : ℕ) → Progress
pass_of t n event input ended room = pass_from (suc (length input)) t n event input ended room

-- The turns w are taken: t and k are their table and number, their lines stand behind the text o, and r says how many bytes they took and
-- what comes after them.
pub record Passed (w : Progress) (t : List Server) (k : ℕ) (r : Turn) (o o' : List ℕ) : Type 0 where
  pub table : t ≡ w.table
  pub event : k ≡ w.event
  pub taken : r.taken ≡ w.taken
  pub going : r.going ≡ w.going
  pub text : o' ≡ o ++ w.text
