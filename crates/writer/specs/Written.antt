-- What a writer leaves in the outgoing buffer's unused rest: a record's bytes at its front.
-- Document 02, K3: "writing one changes only its own bytes there".
use Rattle.std.specs.Prelude.{ℕ, ◌*◌, ◌≡◌, Bool, List, length, Option, Some, None}
use Rattle.base.specs.Tests.{◌and◌, ◌≤?◌, pick}
use Rattle.base.specs.Bytes.{over}
use Rattle.format.specs.Places.{cut_size, id_size}
use Rattle.format.specs.Types.{State, state}
use Rattle.format.specs.Write.{write}
use Rattle.record.specs.declared.events.StateHead.{StateHead}
use Rattle.record.specs.Values.{state_of}

-- A rest after a writer: how many bytes the record has, so that the next one goes behind them, or no room.
pub data Put : Type 0 where
  next : (size : ℕ) → List ℕ → Put
  full : List ℕ → Put

-- The bytes b at the front of the rest and all behind them unchanged, if there is room.
unfoldable pub put : (b rest : List ℕ) → Put
put b rest = pick (length b ≤? length rest) (next (length b) (over b rest)) (full rest)

-- A writer's answer, with the rest that it leaves.
unfoldable pub put_of : Option ℕ → List ℕ → Put
put_of (Some n) s = next n s
put_of None s = full s

-- What a writer of the bytes b answers, and the rest before and after.
abbrev pub Puts : List ℕ → Option ℕ → (old new : List ℕ) → Type 0
Puts b r old new = put_of r new ≡ put b old

-- A State whose cuts and ids are the first bytes given.
abbrev pub given_state : StateHead → (cuts ids : List ℕ) → State
given_state h cuts ids = state_of h cuts 0 ids 0

-- Its record.
abbrev pub given_bytes : StateHead → (cuts ids : List ℕ) → List ℕ
given_bytes h cuts ids = write (state (given_state h cuts ids))

-- The bytes given, so many for cuts and so many for ids, hold all of a State's.
abbrev pub enough : StateHead → (cuts ids : ℕ) → Bool
enough h cuts ids = cut_size * h.servers ≤? cuts and id_size * h.yellow_count ≤? ids

-- A State is written only then.
unfoldable pub put_state : StateHead → (cuts ids rest : List ℕ) → Put
put_state h cuts ids rest = pick (enough h (length cuts) (length ids)) (put (given_bytes h cuts ids) rest) (full rest)
