-- One name for all definitions of this crate: whoever unfolds it unfolds them, so that closed instances compute.
use Rattle.std.specs.Prelude.{ℕ}
use Rattle.format.specs.Opened.{opened as opened_format}
use Rattle.replication.specs.Images.{started, is_recovery, source_of, arrive, left_by, lived}
use Rattle.replication.specs.Machine.Colours.{find, remove, cut, next_index, is_next, enter, red, reds, promote, promote_found, green_id}
use Rattle.replication.specs.Machine.Colours.{green_ids, green, add_id, add_within, join_yellow, yellow, note}
use Rattle.replication.specs.Machine.Exchange.{note_all, later, latest, taken_primary, same_pair, updated_group, taken_attempt, is_valid}
use Rattle.replication.specs.Machine.Exchange.{common_yellow, taken_yellow, is_marked, same_attempt_of, rule_a, rule_b, alike, join_bits, joined_bits}
use Rattle.replication.specs.Machine.Exchange.{rule_c, kept_mark, judged_mark, mark_left, own_mark, more_than_half, lowest_of, half_with_lowest}
use Rattle.replication.specs.Machine.Exchange.{linear_vote, quorum, taken_votes, attempted}
use Rattle.replication.specs.Machine.Install.{ids_up_to, install_log, install_votes, install}
use Rattle.replication.specs.Machine.Plan.{highest, lowest_from, lowest, first_with, resender, missing, cut_in, green_in, planned, is_me, resent}
use Rattle.replication.specs.Machine.Plan.{held_at, resend_green, resend_red, own_part}
use Rattle.replication.specs.Machine.Requests.{in_regular, sends_in, sends_now, quota_left, made_of, numbered, unsent, waiting}
use Rattle.replication.specs.Machine.Requests.{waiting_records, send_waiting, recovered}
use Rattle.replication.specs.Machine.Rules.{on_action, on_retransmission, on_state, on_cpc, on_regular, on_transitional, rule_for, numbered_own}
use Rattle.replication.specs.Machine.Rules.{regular_due, transitional_due, possible, member_of, is_of, state_in, cpc_in, from_member, is_ignored}
use Rattle.replication.specs.Machine.Rules.{within_quota}
use Rattle.replication.specs.Machine.Step.{greened, quiet, stored, sent, entering, own_state, join, unmarked, yellow_valid, the_set, the_id}
use Rattle.replication.specs.Machine.Step.{here_set, here_id, collected, decided, attempting, end_exchange, with_state, all_from, all_states_in}
use Rattle.replication.specs.Machine.Step.{planned_now, resending, after_states, collect_state, placed, one_more, exchanged, all_come_of, exchange}
use Rattle.replication.specs.Machine.Step.{with_cpc, all_cpcs_in, installing, collect_cpc, collect_late_cpc, leave, green_and_note, requested, apply}
use Rattle.replication.specs.Machine.White.{least, highest_white, entrant, met_log, taken_from, is_recovering, took_white}
use Rattle.replication.specs.Machine.Colours.{of_creator, places_of, unwhite}
use Rattle.replication.specs.Machine.White.{no_place, full, beyond, sifted, sieved, sieved_record, white_after, raised}
use Rattle.replication.specs.Machine.Step.{apply_rule, answer, on_reading, in_bytes, step, installs_by, installs_on, installs}
use Rattle.replication.specs.Machine.Types.{cleared_mark, no_yellow, no_states, start, set_of, context_of}
use Rattle.replication.specs.Machine.WellFormed.{log_ranges, votes_ranges, configuration_fits, transitional_fits, collected_fits, collected_fit}
use Rattle.replication.specs.Machine.WellFormed.{membership_ranges, ranges, ids_in, queue, within_cut, within_cuts, places_fit, same_ids}
use Rattle.replication.specs.Machine.WellFormed.{own_list_fits, mode_fits, well_formed}
use Rattle.replication.specs.Replay.{mode_name, line, header, returned, sent_count, event_line, input_line, setup_line, record_length, table_after}
use Rattle.replication.specs.Replay.{line_for, events, after_setup, replay}

unfoldable pub opened : ℕ
unfolding
    opened_format
    started is_recovery source_of arrive left_by lived
    find remove cut next_index is_next enter red reds promote promote_found green_id green_ids green add_id add_within join_yellow yellow note
    note_all later latest taken_primary same_pair updated_group taken_attempt is_valid common_yellow taken_yellow is_marked same_attempt_of rule_a rule_b alike
    join_bits joined_bits rule_c kept_mark judged_mark mark_left own_mark more_than_half lowest_of half_with_lowest linear_vote quorum taken_votes attempted
    ids_up_to install_log install_votes install
    highest lowest_from lowest first_with resender missing cut_in green_in planned is_me resent held_at resend_green resend_red own_part
    in_regular sends_in sends_now quota_left made_of numbered unsent waiting waiting_records send_waiting recovered
    on_action on_retransmission on_state on_cpc on_regular on_transitional rule_for numbered_own regular_due transitional_due possible member_of is_of state_in
    cpc_in from_member is_ignored within_quota
    greened quiet stored sent entering own_state join unmarked yellow_valid the_set the_id here_set here_id collected decided attempting end_exchange
    with_state all_from all_states_in planned_now resending after_states collect_state placed one_more exchanged all_come_of exchange with_cpc all_cpcs_in installing
    collect_cpc collect_late_cpc leave green_and_note requested apply apply_rule answer on_reading in_bytes step installs_by installs_on installs
    least highest_white of_creator places_of unwhite entrant met_log taken_from is_recovering took_white no_place full beyond sifted sieved sieved_record
    white_after raised
    cleared_mark no_yellow no_states start set_of context_of
    log_ranges votes_ranges configuration_fits transitional_fits collected_fits collected_fit membership_ranges ranges ids_in queue within_cut within_cuts
    places_fit same_ids own_list_fits mode_fits well_formed
    mode_name line header returned sent_count event_line input_line setup_line record_length table_after line_for events after_setup replay
opened = 0
