-- The collected States' green lengths noted, slot by slot.
use Rattle.std.specs.Prelude.{ℕ, ◌+◌, ◌*◌, List, take, get_or}
use Rattle.std.proofs.Math.Option.{Option, none, some}
use Rattle.base.specs.Bytes.{number_at}
use Rattle.base.specs.Lists.{present}
use Rattle.format.specs.Places.{cut_size, state_cuts_at}
use Rattle.format.specs.Types.{State}
use Rattle.replication.specs.Machine.Colours.{note}
use Rattle.replication.specs.Machine.Exchange.{note_all}
use Rattle.image.specs.Decode.{servers_in}
use Rattle.updates.specs.Lists.{state_place}
use Rattle.replication.specs.Machine.Types.{Server, with_noted}

-- Of a slot's State, if one is in.
unfoldable pub note_slot : Option State → List ℕ → List ℕ
note_slot none noted = noted
note_slot (some x) noted = note x.sender x.green_length noted

-- Of the slot of server k.
abbrev pub noted_slot : (k : ℕ) → Server → Server
noted_slot k s = with_noted (note_slot (get_or s.membership.states k none) s.noted) s

-- Of the first k slots.
unfoldable pub note_first : ℕ → List (Option State) → List ℕ → List ℕ
note_first k xs noted = note_all (present (take k xs)) noted

-- The green length in the State of server k in the buffer b: behind the cuts.
unfoldable pub sent_length : (k : ℕ) → List ℕ → ℕ
sent_length k b = number_at 4 b (state_place k b + (state_cuts_at + cut_size * servers_in b))
