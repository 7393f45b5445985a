-- The header's numbers, read where its bytes occur.
use Prim.Native.Nat.{ℕ, ◌*◌, ◌^◌, ◌≤◌, ◌<◌}
use mathlib.Core.Path.{◌≡◌, refl, sym, ap, ◌∙◌}
use mathlib.Core.List.{List, ◌++◌}
use mathlib.Core.Option.{Option, none, some}
use native.Mathlib.Nat.{mul-le-mul}
use native.Mathlib.Omega.{arith}
use lib.ListN.{length, drop, length-append, take-append-drop}
use Rattle.base.specs.Tests.{◌=?◌, pick}
use Rattle.base.specs.Bytes.{bytes_of, number_at, part_at, joined}
use Rattle.base.proofs.BytesLaws.{bytes_length}
use Rattle.base.proofs.Occurs.{Occurs, number_read}
use Rattle.format.specs.Limits.{most_servers_limit, most_ids}
use Rattle.format.specs.Write.{primary_bytes, mark_bytes}
use Rattle.format.specs.Read.{primary_at, mark_at}
use Rattle.format.proofs.Fields.{primary_read, mark_read}
use Rattle.record.specs.declared.State.{State}
use Rattle.record.specs.Values.{primary_of, last_of, mark_of}
use Rattle.record.specs.Events.{last_in, mark_in}
use Rattle.writer.specs.Blocks.{yellow_head_bytes}
use Rattle.replication.specs.Machine.Types.{Mode, Non_prim, Reg_prim, Trans_prim, Exchange_states, Exchange_actions, Construct, No, Un, Configuration, Server, context_of}
use Rattle.replication.specs.Machine.WellFormed.{queue}
use Rattle.image.specs.Header.{shown_log, mode_number, status_of, id_of, set_of, transitional_of, mark_numbers, header_of, written, membership_bytes, counts_bytes, header_written, header_in}
use Rattle.image.specs.Decode.{mode_named}
use Rattle.image.specs.Layout.{at_layout, at_servers, at_quota, at_me, at_mode, at_configuration, at_configuration_id, at_configuration_set, at_transitional, at_transitional_set, at_states, at_cpcs, at_come, at_queue_length, at_green_count, at_numbered, at_own_count, at_sent, at_attempt, at_last, at_mark, at_yellow, at_yellow_count}
use Rattle.image.proofs.InRange.{ConfigurationRange, TransitionalRange, InRange}
use Rattle.image.proofs.Slots.{senders_below}

pub mode_named_lem : (m : Mode) → mode_named (mode_number m) ≡ m
unfolding mode_named mode_number pick ◌=?◌
mode_named_lem Non_prim = refl
mode_named_lem Reg_prim = refl
mode_named_lem Trans_prim = refl
mode_named_lem Exchange_states = refl
mode_named_lem Exchange_actions = refl
mode_named_lem Construct = refl
mode_named_lem No = refl
mode_named_lem Un = refl

mode_small : (m : Mode) → mode_number m < 256
unfolding mode_number
mode_small Non_prim = omega arith
mode_small Reg_prim = omega arith
mode_small Trans_prim = omega arith
mode_small Exchange_states = omega arith
mode_small Exchange_actions = omega arith
mode_small Construct = omega arith
mode_small No = omega arith
mode_small Un = omega arith

-- A field that may be absent: its numbers fit, and say it.
status_small : {A : Type 0} (d : Option A) → status_of d < 256
unfolding status_of
status_small none = omega arith
status_small (some x) = omega arith

id_small : (d : Option Configuration) → ConfigurationRange d → id_of d < 2 ^ 32
unfolding id_of
id_small none r = omega arith
id_small (some d) r = r.0

set_small : (d : Option Configuration) → ConfigurationRange d → set_of d < 2 ^ most_servers_limit
unfolding set_of
set_small none r = omega arith
set_small (some d) r = r.1

inside_small : (t : Option ℕ) → TransitionalRange t → transitional_of t < 2 ^ most_servers_limit
unfolding transitional_of
inside_small none r = omega arith
inside_small (some t) r = r

pub regular_said : (d : Option Configuration) → pick (status_of d =? 1) (some (record { id = id_of d; set = set_of d })) none ≡ d
unfolding status_of id_of set_of pick ◌=?◌
regular_said none = refl
regular_said (some d) = refl

pub transitional_said : (t : Option ℕ) → pick (status_of t =? 1) (some (transitional_of t)) none ≡ t
unfolding status_of transitional_of pick ◌=?◌
transitional_said none = refl
transitional_said (some t) = refl

-- What the header of e says is what s has: where its bytes lie in front, each number is found at its place by computing.
module _ (s : Server) (r : InRange s) (rest : List ℕ) where
  abbrev e : List ℕ
  e = header_written (header_of s) ++ rest

  number : (w v at : ℕ) → part_at w e at ≡ bytes_of w v → v < 256 ^ w → number_at w e at ≡ v
  number w v at p h = number_read w at (record { part = ap (λ (m : ℕ). part_at m e at) (bytes_length w v) ∙ p }) refl h

  header_front : header_in e ≡ header_of s
  unfolding header_in header_of header_written membership_bytes counts_bytes written yellow_head_bytes last_in last_of primary_of primary_at mark_in mark_numbers mark_of mark_at bytes_of joined primary_bytes mark_bytes part_at context_of queue
  header_front =
      let h : State = header_of s in
      let sizes = r.context.sizes in
      let own = r.context.own in
      let product : s.servers * s.quota ≤ most_ids = mul-le-mul sizes.most sizes.highest in
      let few = r.yellow.few in
      λ i. record {
        layout = number 1 h.layout at_layout refl (omega arith) i;
        servers = number 1 h.servers at_servers refl (omega arith) i;
        quota = number 2 h.quota at_quota refl (omega arith) i;
        me = number 1 h.me at_me refl (omega arith) i;
        mode = number 1 h.mode at_mode refl (mode_small s.membership.mode) i;
        configuration_status = number 1 h.configuration_status at_configuration refl (status_small s.membership.configuration) i;
        configuration_id = number 4 h.configuration_id at_configuration_id refl (id_small s.membership.configuration r.configuration) i;
        configuration_set = number 1 h.configuration_set at_configuration_set refl (set_small s.membership.configuration r.configuration) i;
        transitional_status = number 1 h.transitional_status at_transitional refl (status_small s.membership.transitional) i;
        transitional_set = number 1 h.transitional_set at_transitional_set refl (inside_small s.membership.transitional r.transitional) i;
        states = number 1 h.states at_states refl (senders_below most_servers_limit 0 s.membership.states (omega (arith, r.states_count))) i;
        cpcs = number 1 h.cpcs at_cpcs refl r.cpcs i;
        come = number 4 h.come at_come refl (omega (arith, r.come)) i;
        queue_length = number 4 h.queue_length at_queue_length refl (omega (arith, r.queue_count)) i;
        green_count = number 4 h.green_count at_green_count refl (omega (arith, r.queue_count, length-append (shown_log s).green s.log.red)) i;
        numbered = number 2 h.numbered at_numbered refl (omega (arith, r.numbered)) i;
        own_count = number 2 h.own_count at_own_count refl (omega (arith, r.own_count_of)) i;
        sent = number 2 h.sent at_sent refl (omega (arith, r.sent, r.numbered, r.context.sizes.highest)) i;
        attempt = record { 0 = number 4 h.attempt.0 at_attempt refl (omega (arith, r.attempt)) i };
        last = last_of (primary_read s.votes.last e at_last r.last (record { part = refl }) i);
        mark = mark_numbers (mark_read s.votes.mark e at_mark r.mark (record { part = refl }) i);
        yellow_status = number 1 h.yellow_status at_yellow refl (omega (arith, r.yellow.status)) i;
        yellow_count = number 2 h.yellow_count at_yellow_count refl (omega (arith, few)) i;
      }

pub header_read : (s : Server) (e : List ℕ) → InRange s → Occurs (header_written (header_of s)) e 0 → header_in e ≡ header_of s
unfolding part_at
header_read s e r o =
    let front : e ≡ header_written (header_of s) ++ drop (length (header_written (header_of s))) e =
    sym (take-append-drop (length (header_written (header_of s))) e) ∙ ap (λ (l : List ℕ). l ++ drop (length (header_written (header_of s))) e) o.part in
    ap header_in front ∙ header_front s r (drop (length (header_written (header_of s))) e)
