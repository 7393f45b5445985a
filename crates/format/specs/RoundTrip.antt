-- Demand 2: "each record written reads back the same, and each record read writes back the same bytes."
use Rattle.std.specs.Prelude.{ℕ, ◌≡◌, true, List}
use Rattle.base.specs.Bytes.{Bytes}
use Rattle.format.specs.Types.{Record, Context, says}
use Rattle.format.specs.Range.{record_ok}
use Rattle.format.specs.Write.{write}
use Rattle.format.specs.Read.{read}
use Rattle.format.specs.Setup.{Setup, write_setup, setup_ok, read_setup}

pub record RoundTrip : Type 0 where
  -- Kinds 1 to 8. "each record written reads back the same": by every reader that has it in range
  pub read_written : (c : Context) (r : Record) → record_ok c r ≡ true → read c (write r) ≡ says r
  -- "each record read writes back the same bytes"
  pub written_read : (c : Context) (e : List ℕ) (r : Record) → Bytes e → read c e ≡ says r → write r ≡ e
  -- What is read is in range.
  pub read_in_range : (c : Context) (e : List ℕ) (r : Record) → read c e ≡ says r → record_ok c r ≡ true
  -- Kind 9, the set-up record, by every reader that takes n to `servers` and q to `quota`. "each record written reads back the same"
  pub setup_read_written : (servers quota : ℕ) (s : Setup) → setup_ok servers quota s ≡ true
      → read_setup servers quota (write_setup s) ≡ says s
  -- "each record read writes back the same bytes"
  pub setup_written_read : (servers quota : ℕ) (e : List ℕ) (s : Setup) → Bytes e → read_setup servers quota e ≡ says s
      → write_setup s ≡ e
  -- What is read is in range.
  pub setup_in_range : (servers quota : ℕ) (e : List ℕ) (s : Setup) → read_setup servers quota e ≡ says s → setup_ok servers quota s ≡ true
