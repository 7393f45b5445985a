-- The reading of an event before its ranges are looked at: the record that its bytes frame, if any.
use Rattle.std.specs.Prelude.{ℕ, ◌+◌, ◌≡◌, Bool, List, length, Option, Some, None}
use Rattle.std.proofs.Math.Option.{Option as FormatOption, none, some}
use Rattle.base.specs.Tests.{◌and◌, ◌≤?◌, ◌=?◌, pick}
use Rattle.base.specs.Bytes.{number_at}
use Rattle.format.specs.Limits.{version}
use Rattle.format.specs.Places.{length_size, at_version, at_kind, at_body}
use Rattle.format.specs.Types.{Record, Kind}
use Rattle.format.specs.Read.{kind_named, length_for, record_in}
use Rattle.record.specs.Events.{record_of, Inside}
use Rattle.record.specs.declared.events.Event.{Event}

-- Length bytes, version, and a kind byte.
unfoldable pub head_ok : List ℕ → Bool
head_ok e = at_body ≤? length e and number_at 2 e 0 + length_size =? length e and number_at 1 e at_version =? version

-- The record of kind k in bytes with a good head, if they are as long as it.
unfoldable pub body_in : Kind → ℕ → List ℕ → FormatOption Record
body_in k n e = pick (length_for k n e =? length e) (some (record_in k n e)) none

unfoldable pub body_as : FormatOption Kind → ℕ → List ℕ → FormatOption Record
body_as none n e = none
body_as (some k) n e = body_in k n e

unfoldable pub framed_in : ℕ → List ℕ → FormatOption Record
framed_in n e = pick (head_ok e) (body_as (kind_named (number_at 1 e at_kind)) n e) none

-- What the code's answer stands for.
unfoldable pub found : Option Event → List ℕ → FormatOption Record
found (Some v) e = some (record_of v e)
found None e = none

unfoldable pub FoundInside : ℕ → Option Event → List ℕ → Type 0
FoundInside n (Some v) e = Inside n v e
FoundInside n None e = Unit {0}

-- The code's answer is w, and its lists lie inside the bytes.
pub record Answers (w : FormatOption Record) (n : ℕ) (r : Option Event) (e : List ℕ) : Type 0 where
  pub is : found r e ≡ w
  pub within : FoundInside n r e
