-- What the bytes of the input say.
use Rattle.std.specs.Prelude.{ℕ, ◌+◌, ◌-◌, Bool, List, length, get_or, Result, Ok, Err}
use Rattle.base.specs.Tests.{◌<?◌, pick}
use Rattle.base.specs.Bytes.{number_at}
use Rattle.format.specs.Places.{length_size}
use Rattle.format.specs.Types.{Reading, says, refused}
use Rattle.format.specs.Setup as format
use Rattle.refusals.specs.Numbers.{refusal_number}
use Rattle.refusals.specs.declared.Refusal.{Refusal}
use Rattle.refusals.specs.declared.Refusal.TheVariants.{BadRecord, OutOfRange}
use Rattle.replay_lines.specs.declared.setup.Setup.{Setup}
use Rattle.replay_lines.specs.declared.input.Next.{Next}
use Rattle.replay_lines.specs.declared.input.Next.TheVariants.{Event, More, Done}

-- What the answer says of a set-up record.
unfoldable pub meaning : Result Setup Refusal → Reading format.Setup
meaning (Ok s) = says (record { servers = s.servers; quota = s.quota })
meaning (Err r) = refused (refusal_number r)

unfoldable pub cut_short : Bool → Result Next Refusal
cut_short ended = pick ended (Err BadRecord) (Ok More)

-- The size of the event behind the server byte, by its length bytes.
abbrev pub event_size : List ℕ → ℕ
event_size input = number_at length_size input 1 + length_size

-- What comes next of n servers; whether the input has ended with these bytes. "A server byte from n up, or an event cut short by the input's end".
unfoldable pub next_of : (n : ℕ) → List ℕ → Bool → Result Next Refusal
next_of n input ended =
    pick (length input <? 1) (pick ended (Ok Done) (Ok More))
    (pick (get_or input 0 0 <? n)
    (pick (length input <? 1 + length_size) (cut_short ended)
    (pick (length input - 1 <? event_size input) (cut_short ended) (Ok (Event (event_size input)))))
    (Err OutOfRange))

-- A server byte and the longest event: 2 bytes that say a length, and as many as these can say.
abbrev pub event_room : ℕ
event_room = 65538
