-- One name for all definitions of this crate: whoever unfolds it unfolds them, so that closed instances compute.
use Rattle.std.specs.Prelude.{ℕ}
use Rattle.base.specs.Opened.{opened as opened_base}
use Rattle.format.specs.Range.{sizes_ok, context_ok, id_ok, length_ok, payload_ok, action_ok, cuts_ok, index_ok, set_ok, status_ok, primary_ok, mark_ok}
use Rattle.format.specs.Range.{same_id, has_id, ids_differ, ids_in_range, ids_ok, yellow_ok, configuration_ok, state_ok, own_set_ok, inside_last}
use Rattle.format.specs.Range.{fields_ok, record_ok}
use Rattle.format.specs.Read.{payload_at, id_at, action_at, primary_at, mark_at, ids_at, yellow_at_of, state_at, kind_named, length_for, frame_ok, record_in}
use Rattle.format.specs.Read.{read_as, read}
use Rattle.format.specs.Setup.{write_setup, setup_in, setup_frame_ok, setup_ok, read_setup}
use Rattle.format.specs.Types.{kind_number, kind_of}
use Rattle.format.specs.Write.{framed, payload_bytes, id_bytes, action_bytes, cuts_bytes, primary_bytes, mark_bytes, ids_bytes, yellow_bytes}
use Rattle.format.specs.Write.{state_bytes, body_of, write}

unfoldable opened_ranges : ℕ
unfolding sizes_ok context_ok id_ok length_ok payload_ok action_ok cuts_ok index_ok set_ok status_ok primary_ok mark_ok configuration_ok
opened_ranges = 0

unfoldable opened_lists : ℕ
unfolding same_id has_id ids_differ ids_in_range ids_ok yellow_ok state_ok own_set_ok inside_last fields_ok record_ok
opened_lists = 0

unfoldable opened_reading : ℕ
unfolding payload_at id_at action_at primary_at mark_at ids_at yellow_at_of state_at kind_named length_for frame_ok record_in read_as read
opened_reading = 0

unfoldable opened_setup : ℕ
unfolding write_setup setup_in setup_frame_ok setup_ok read_setup kind_number kind_of
opened_setup = 0

unfoldable opened_writing : ℕ
unfolding framed payload_bytes id_bytes action_bytes cuts_bytes primary_bytes mark_bytes ids_bytes yellow_bytes state_bytes body_of write
opened_writing = 0

unfoldable pub opened : ℕ
unfolding opened_base opened_ranges opened_lists opened_reading opened_setup opened_writing
opened = 0
