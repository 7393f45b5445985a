-- What a run chooses (`Allowed`'s first three fields), as lists that can be recorded with it.
use Rattle.std.specs.Prelude.{ℕ, List, [], get_or}
use Rattle.replication.specs.Runs.Happenings.{Message, Happening, entry_at, sending_of}

-- By place: the message delivered there; the name of the transitional configuration that comes there; the ord of what stands there; and the
-- ords of the sendings of its records. Beyond the lists' ends, and where a place has no such thing, any number will do.
pub record Witness : Type 0 where
  pub sources : List Message
  pub names : List ℕ
  pub ords : List ℕ
  pub sending_ords : List (List ℕ)

unfoldable pub source_in : Witness → ℕ → Message
source_in w p = get_or w.sources p (record { sending = 0; number = 0 })

unfoldable pub name_in : Witness → ℕ → ℕ
name_in w p = get_or w.names p 0

unfoldable pub entry_ord : Witness → ℕ → ℕ
entry_ord w p = get_or w.ords p 0

unfoldable pub sending_ords_at : Witness → ℕ → List ℕ
sending_ords_at w p = get_or w.sending_ords p []

unfoldable pub ord_in : Witness → Happening → ℕ
ord_in w (entry_at p) = entry_ord w p
ord_in w (sending_of m) = get_or (sending_ords_at w m.sending) m.number 0
