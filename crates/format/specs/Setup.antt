-- Document 01, 'What `replay` prints': "a set-up record (kind 9: n 1 byte, q 2 bytes)".
use Rattle.std.specs.Prelude.{ℕ, ◌+◌, Bool, List, [], ◌∷◌, length}
use Rattle.base.specs.Tests.{◌and◌, ◌≤?◌, ◌=?◌, pick}
use Rattle.base.specs.Bytes.{bytes_of, number_at, joined}
use Rattle.base.specs.Refusals.{bad_record, out_of_range_of}
use Rattle.format.specs.Limits.{version}
use Rattle.format.specs.Places.{length_size, at_version, at_kind, at_body, setup_quota_at, setup_size}
use Rattle.format.specs.Types.{Reading, says, refused}
use Rattle.format.specs.Range.{sizes_ok}
use Rattle.format.specs.Write.{framed}

pub record Setup : Type 0 where
  pub servers : ℕ
  pub quota : ℕ

-- Its kind byte; no event's.
abbrev pub setup_kind : ℕ
setup_kind = 9

unfoldable pub write_setup : Setup → List ℕ
write_setup s = framed setup_kind (joined (bytes_of 1 s.servers ∷ bytes_of 2 s.quota ∷ []))

unfoldable pub setup_in : List ℕ → Setup
setup_in e = record { servers = number_at 1 e at_body; quota = number_at 2 e setup_quota_at }

unfoldable pub setup_frame_ok : List ℕ → Bool
setup_frame_ok e =
    number_at 2 e 0 + length_size =? length e and number_at 1 e at_version =? version and number_at 1 e at_kind =? setup_kind and length e =? setup_size

-- In range for a reader that takes n to `servers` and q to `quota`, which lie inside the format's own limits.
unfoldable pub setup_ok : (servers quota : ℕ) → Setup → Bool
setup_ok servers quota s = sizes_ok s.servers s.quota and s.servers ≤? servers and s.quota ≤? quota

unfoldable pub read_setup : (servers quota : ℕ) → List ℕ → Reading Setup
read_setup servers quota e =
    pick (setup_frame_ok e) (pick (setup_ok servers quota (setup_in e)) (says (setup_in e)) (refused out_of_range_of)) (refused bad_record)
