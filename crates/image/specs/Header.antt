-- The numbers of a state, which the first section of its image holds: the struct that the code works on.
use Rattle.std.specs.Prelude.{ℕ, ◌+◌, List, [], ◌∷◌, ◌++◌, length}
use Rattle.std.proofs.Math.Option.{Option, none, some}
use Rattle.base.specs.Tests.{pick}
use Rattle.base.specs.Bytes.{bytes_of, number_at, joined}
use Rattle.base.specs.Lists.{is_there}
use Rattle.base.specs.Sets.{with_member}
use Rattle.format.specs.Limits.{layout_number}
use Rattle.format.specs.Types.{Mark, State as Collected}
use Rattle.format.specs.Write.{primary_bytes, mark_bytes}
use Rattle.record.specs.declared.State.{State}
use Rattle.record.specs.declared.Mark as declared
use Rattle.record.specs.Values.{primary_of, last_of, mark_of}
use Rattle.record.specs.Events.{last_in, mark_in}
use Rattle.writer.specs.Blocks.{yellow_head_bytes}
use Rattle.replication.specs.Machine.Types.{Mode, Non_prim, Reg_prim, Trans_prim, Exchange_states, Exchange_actions, Construct, No, Un}
use Rattle.replication.specs.Machine.Types.{Log, Configuration, Server}
use Rattle.replication.specs.Machine.Colours.{shown}
use Rattle.replication.specs.Machine.WellFormed.{queue}
use Rattle.image.specs.Layout.{at_layout, at_servers, at_quota, at_me, at_mode, at_configuration, at_configuration_id}
use Rattle.image.specs.Layout.{at_configuration_set, at_transitional, at_transitional_set, at_states, at_cpcs, at_come, at_queue_length, at_green_count}
use Rattle.image.specs.Layout.{at_numbered, at_own_count, at_sent, at_attempt, at_last, at_mark, at_yellow, at_yellow_count}

-- ---- of a state

-- The eight states' numbers.
unfoldable pub mode_number : Mode → ℕ
mode_number Non_prim = 0
mode_number Reg_prim = 1
mode_number Trans_prim = 2
mode_number Exchange_states = 3
mode_number Exchange_actions = 4
mode_number Construct = 5
mode_number No = 6
mode_number Un = 7

-- A field that may be absent: its status, and zeros where it is absent.
unfoldable pub status_of : {A : Type 0} → Option A → ℕ
status_of none = 0
status_of (some x) = 1

unfoldable pub id_of : Option Configuration → ℕ
id_of none = 0
id_of (some c) = c.id

unfoldable pub set_of : Option Configuration → ℕ
set_of none = 0
set_of (some c) = c.set

unfoldable pub transitional_of : Option ℕ → ℕ
transitional_of none = 0
transitional_of (some t) = t

-- The set of those, from the number k on, whose State is in.
unfoldable pub senders : ℕ → List (Option Collected) → ℕ
senders k [] = 0
senders k (x ∷ xs) = pick (is_there x) (with_member k (senders (k + 1) xs)) (senders (k + 1) xs)

unfoldable pub mark_numbers : Mark → declared.Mark
mark_numbers m = record { status = m.status; index = record { 0 = m.index }; attempt = record { 0 = m.attempt }; set = m.set; bits = m.bits }

-- The log as the image shows it: K6: white actions have no slot.
abbrev pub shown_log : Server → Log
shown_log s = shown s.white s.log

unfoldable pub header_of : Server → State
header_of s = record {
  layout = layout_number;
  servers = s.servers;
  quota = s.quota;
  me = s.me;
  mode = mode_number s.membership.mode;
  configuration_status = status_of s.membership.configuration;
  configuration_id = id_of s.membership.configuration;
  configuration_set = set_of s.membership.configuration;
  transitional_status = status_of s.membership.transitional;
  transitional_set = transitional_of s.membership.transitional;
  states = senders 0 s.membership.states;
  cpcs = s.membership.cpcs;
  come = s.membership.come;
  queue_length = length (queue (shown_log s));
  green_count = length (shown_log s).green;
  numbered = s.log.numbered;
  own_count = length s.log.own;
  sent = s.log.sent;
  attempt = record { 0 = s.votes.attempt };
  last = last_of s.votes.last;
  mark = mark_numbers s.votes.mark;
  yellow_status = s.votes.yellow.status;
  yellow_count = length s.votes.yellow.ids;
}

-- ---- written

-- Numbers one behind another: how many bytes each has, and its value.
unfoldable pub written : List (ℕ × ℕ) → List ℕ
written [] = []
written (f ∷ fs) = bytes_of f.0 f.1 ++ written fs

-- The first ones: layout, sizes, state and configurations.
abbrev pub membership_numbers : State → List (ℕ × ℕ)
membership_numbers h =
    (1, h.layout)
    ∷ (1, h.servers)
    ∷ (2, h.quota)
    ∷ (1, h.me)
    ∷ (1, h.mode)
    ∷ (1, h.configuration_status)
    ∷ (4, h.configuration_id)
    ∷ (1, h.configuration_set)
    ∷ (1, h.transitional_status)
    ∷ (1, h.transitional_set)
    ∷ (1, h.states)
    ∷ (1, h.cpcs)
    ∷ (4, h.come)
    ∷ []

-- The next ones: counts, and the attempt.
abbrev pub counts_numbers : State → List (ℕ × ℕ)
counts_numbers h =
    (4, h.queue_length)
    ∷ (4, h.green_count)
    ∷ (2, h.numbered)
    ∷ (2, h.own_count)
    ∷ (2, h.sent)
    ∷ (4, h.attempt.0)
    ∷ []

unfoldable pub membership_bytes : State → List ℕ
membership_bytes h = written (membership_numbers h)

unfoldable pub counts_bytes : State → List ℕ
counts_bytes h = written (counts_numbers h)

-- The first section of a state with these numbers.
unfoldable pub header_written : State → List ℕ
header_written h =
    joined
    (membership_bytes h
    ∷ counts_bytes h
    ∷ primary_bytes (primary_of h.last)
    ∷ mark_bytes (mark_of h.mark)
    ∷ yellow_head_bytes h.yellow_status h.yellow_count
    ∷ [])

-- ---- read

-- What the first section says.
unfoldable pub header_in : List ℕ → State
header_in b = record {
  layout = number_at 1 b at_layout;
  servers = number_at 1 b at_servers;
  quota = number_at 2 b at_quota;
  me = number_at 1 b at_me;
  mode = number_at 1 b at_mode;
  configuration_status = number_at 1 b at_configuration;
  configuration_id = number_at 4 b at_configuration_id;
  configuration_set = number_at 1 b at_configuration_set;
  transitional_status = number_at 1 b at_transitional;
  transitional_set = number_at 1 b at_transitional_set;
  states = number_at 1 b at_states;
  cpcs = number_at 1 b at_cpcs;
  come = number_at 4 b at_come;
  queue_length = number_at 4 b at_queue_length;
  green_count = number_at 4 b at_green_count;
  numbered = number_at 2 b at_numbered;
  own_count = number_at 2 b at_own_count;
  sent = number_at 2 b at_sent;
  attempt = record { 0 = number_at 4 b at_attempt };
  last = last_in b at_last;
  mark = mark_in b at_mark;
  yellow_status = number_at 1 b at_yellow;
  yellow_count = number_at 2 b at_yellow_count;
}
