-- Document 01, 'Returned numbers': the rows from 1 on, each as a test of a state and an event, and the table's claim. Document 02, K4:
-- "4 never occurs", so it has no row here.
use Rattle.std.specs.Prelude.{ℕ, ◌≡◌, Bool, true, false, not, List}
use Rattle.std.proofs.Math.Option.{Option, none, some}
use Rattle.base.specs.Tests.{◌and◌, pick}
use Rattle.base.specs.Bytes.{number_at}
use Rattle.base.specs.Lists.{is_there}
use Rattle.format.specs.Types.{Record, Kind}
use Rattle.format.specs.Range.{record_ok}
use Rattle.format.specs.Read.{kind_named, frame_ok, record_in}
use Rattle.replication.specs.Machine.Types.{Server, context_of, mode_of}
use Rattle.replication.specs.Machine.Rules.{Rule, rule_for, possible, from_member, is_ignored, within_quota}

-- ---- the event

unfoldable pub kind_in : List ℕ → Option Kind
kind_in e = kind_named (number_at 1 e 3)

unfoldable pub frame_fits : Option Kind → ℕ → List ℕ → Bool
frame_fits none n e = false
frame_fits (some k) n e = frame_ok k n e

unfoldable pub record_named : Option Kind → ℕ → List ℕ → Option Record
record_named none n e = none
record_named (some k) n e = some (record_in k n e)

-- What the event's fields say, in range or not, if its kind byte names a kind.
unfoldable pub record_of : Server → List ℕ → Option Record
record_of s e = record_named (kind_in e) s.servers e

unfoldable pub tested : (Record → Bool) → Option Record → Bool
tested f none = false
tested f (some r) = f r

-- ---- the rows

-- "bad length, version or kind"
unfoldable pub row1 : Server → List ℕ → Bool
row1 s e = not (frame_fits (kind_in e) s.servers e)

-- "a number, set or list out of range"
unfoldable pub row2 : Server → List ℕ → Bool
row2 s e = tested (λ r. not (record_ok (context_of s) r)) (record_of s e)

-- "event impossible in this state, or an action or retransmission of this server's own action above those it has numbered"
unfoldable pub row5 : Server → List ℕ → Bool
row5 s e = tested (λ r. not (is_there (rule_for (mode_of s) r) and possible s r)) (record_of s e)

unfoldable pub ignores : Option Rule → Bool
ignores none = false
ignores (some k) = is_ignored k

-- "record's sender outside the last regular set .., a State or CPC whose id is not that configuration's, or second State or CPC of that sender";
-- "Ignored State and CPC skip 6."
unfoldable pub row6 : Server → List ℕ → Bool
row6 s e = tested (λ r. not (ignores (rule_for (mode_of s) r)) and not (from_member s.membership r)) (record_of s e)

-- K6: "Number 3 is given when either bound is reached, not before."
unfoldable pub row3 : Server → List ℕ → Bool
row3 s e = tested (λ r. not (within_quota s r)) (record_of s e)

-- ---- "Checked in this order.": the row applies and none before it does

pub data Refuses (s : Server) (e : List ℕ) : ℕ → Type 0 where
  by_row1 : row1 s e ≡ true → Refuses s e 1
  by_row2 : row1 s e ≡ false → row2 s e ≡ true → Refuses s e 2
  by_row5 : row1 s e ≡ false → row2 s e ≡ false → row5 s e ≡ true → Refuses s e 5
  by_row6 : row1 s e ≡ false → row2 s e ≡ false → row5 s e ≡ false → row6 s e ≡ true → Refuses s e 6
  by_row3 : row1 s e ≡ false → row2 s e ≡ false → row5 s e ≡ false → row6 s e ≡ false → row3 s e ≡ true → Refuses s e 3

-- The number of the first row that applies, 0 if none does.
unfoldable pub first_row : Server → List ℕ → ℕ
first_row s e =
    pick (row1 s e) 1
    (pick (row2 s e) 2
    (pick (row5 s e) 5
    (pick (row6 s e) 6
    (pick (row3 s e) 3 0))))

pub record NoRow (s : Server) (e : List ℕ) : Type 0 where
  pub not1 : row1 s e ≡ false
  pub not2 : row2 s e ≡ false
  pub not5 : row5 s e ≡ false
  pub not6 : row6 s e ≡ false
  pub not3 : row3 s e ≡ false
