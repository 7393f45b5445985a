-- The numbers of a server's state at the start.
use Rattle.std.specs.Prelude.{ℕ}
use Rattle.base.specs.Sets.{everyone}
use Rattle.format.specs.Limits.{layout_number}
use Rattle.format.specs.Types.{first_primary}
use Rattle.record.specs.declared.State.{State}
use Rattle.record.specs.Values.{last_of}

-- "At the start: Non_prim, no configuration, nothing held or marked, yellow invalid, attempt 0, last primary (index 0, attempt 0, all servers)."
unfoldable pub start_of : (servers quota me : ℕ) → State
start_of n q i = record {
  layout = layout_number;
  servers = n;
  quota = q;
  me = i;
  mode = 0;
  configuration_status = 0;
  configuration_id = 0;
  configuration_set = 0;
  transitional_status = 0;
  transitional_set = 0;
  states = 0;
  cpcs = 0;
  come = 0;
  queue_length = 0;
  green_count = 0;
  numbered = 0;
  own_count = 0;
  sent = 0;
  attempt = record { 0 = 0 };
  last = last_of (first_primary (everyone n));
  mark = record { status = 0; index = record { 0 = 0 }; attempt = record { 0 = 0 }; set = 0; bits = 0 };
  yellow_status = 0;
  yellow_count = 0;
}
