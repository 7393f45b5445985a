-- The numbers that the States decide, as the code's structs.
use Rattle.replication.specs.Machine.Types.{Votes}
use Rattle.image.specs.Header.{mark_numbers}
use Rattle.record.specs.Values.{last_of}
use Rattle.exchange.specs.declared.decided.TakenVotes.{TakenVotes}

-- Votes but the yellow ids.
unfoldable pub votes_numbers : Votes → TakenVotes
votes_numbers v =
    record {
      last = last_of v.last;
      attempt = record { 0 = v.attempt };
      mark = mark_numbers v.mark;
      yellow_status = v.yellow.status;
    }
