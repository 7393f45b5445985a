-- One name for all definitions that an audit needs: whoever unfolds it unfolds them, so that closed audits compute.
use Rattle.std.specs.Prelude.{ℕ}
use Rattle.base.specs.Quantifiers.{◌implies◌, pairs, add_new, each_once, with_number, same_option}
use Rattle.replication.specs.Opened.{opened as opened_machine}
use Rattle.replication.specs.Runs.Run.{server_of, beginning, down_after, world_after, world_through, nowhere, heard, moved, place_after}
use Rattle.replication.specs.Runs.Run.{place_through, members_in, members, records_of, world_at, place_at}
use Rattle.replication.specs.Runs.Strays.{unless, without}
use Rattle.replication.specs.Audit.Witness.{source_in, name_in, entry_ord, sending_ords_at, ord_in}
use Rattle.replication.specs.Audit.Same.{same_message, same_configuration, same_regular, same_place, same_configured}
use Rattle.replication.specs.Audit.Table.{role_in, row_of, rows_from, table}
use Rattle.replication.specs.Audit.Clocks.{join_clocks, raise, number_of, clock_at, clock_with, learnt, stamp_for, with_stamp, stamps_through}
use Rattle.replication.specs.Audit.Clocks.{no_stamps, stamps, knows}
use Rattle.replication.specs.Audit.Journal.{sending_in, sendings_of, delivery_of, delivery_by, taking_by, transition_by, change_by, settles_by}
use Rattle.replication.specs.Audit.Journal.{settles, next_by, next_change, crashes_by, crashes_next, has_left, passage_to, passage_from}
use Rattle.replication.specs.Audit.Journal.{per_configuration, configurations_of, sendings_in, deliveries_in, takings_in, leavings_in}
use Rattle.replication.specs.Audit.Journal.{transitions_in, changes_in, passages_in, sorted, journal_of}
use Rattle.replication.specs.Audit.Rules.{sizes, servers, one_set, once, between, one_transitional, genuine, cut_by_crash, brings_back}
use Rattle.replication.specs.Audit.Rules.{recovers, is_store, stores_up}
use Rattle.replication.specs.Audit.Specifications.{is_delivered, earlier, has_message, each_with_earlier, same_configuration_lem, is_again}
use Rattle.replication.specs.Audit.Specifications.{one_delivery, one_name, has_left_since, self_delivery, during, is_regular, is_over, same_way}
use Rattle.replication.specs.Audit.Specifications.{all_among, atomic, is_cause, causal, is_rising, last_of, own_sendings, in_turn, rises}
use Rattle.replication.specs.Audit.Specifications.{same_moment, same_message_lem, is_together, one_order, is_owed, agreed, is_shared_with, safe}
use Rattle.replication.specs.Audit.Verdict.{tests_of, tests, audit, report}
use Rattle.replication.specs.Audit.Strays.{is_refused, is_stray, strays_from, is_one_of, audit_with_strays}

unfoldable pub opened : ℕ
unfolding
    ◌implies◌ pairs add_new each_once with_number same_option
    opened_machine
    server_of beginning down_after world_after world_through nowhere heard moved place_after place_through members_in members records_of world_at place_at
    unless without
    source_in name_in entry_ord sending_ords_at ord_in
    same_message same_configuration same_regular same_place same_configured
    role_in row_of rows_from table
    join_clocks raise number_of clock_at clock_with learnt stamp_for with_stamp stamps_through no_stamps stamps knows
    sending_in sendings_of delivery_of delivery_by taking_by transition_by change_by settles_by settles next_by next_change crashes_by crashes_next has_left
    passage_to passage_from per_configuration configurations_of sendings_in deliveries_in takings_in leavings_in transitions_in changes_in passages_in sorted
    journal_of
    sizes servers one_set once between one_transitional genuine cut_by_crash brings_back recovers is_store stores_up
    is_delivered earlier has_message each_with_earlier same_configuration_lem is_again one_delivery one_name has_left_since self_delivery during is_regular is_over
    same_way all_among atomic is_cause causal is_rising last_of own_sendings in_turn rises same_moment same_message_lem is_together one_order is_owed agreed
    is_shared_with safe
    tests_of tests audit report
    is_refused is_stray strays_from is_one_of audit_with_strays
opened = 0
