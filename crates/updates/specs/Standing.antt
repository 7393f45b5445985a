-- Room in a buffer, and changes of whole parts of a state.
use Rattle.std.specs.Prelude.{ℕ, ◌+◌, ◌*◌, ◌≤◌, List, length, ◌≡◌}
use Rattle.std.proofs.Math.Option.{none}
use Rattle.base.specs.Bytes.{number_at}
use Rattle.replication.specs.Machine.Types.{Non_prim, Votes, Server, with_membership, no_states, with_votes}
use Rattle.format.specs.Places.{cut_size}
use Rattle.image.specs.Layout.{header_size, slot_size, at_me, the_queue}
use Rattle.image.specs.Header.{mark_numbers}
use Rattle.record.specs.Values.{last_of}
use Rattle.updates.specs.declared.votes.VoteNumbers.{VoteNumbers}
use Rattle.image.specs.Counts.{place, CountsIn, own_count_of, queue_count}
use Rattle.format.specs.Write.{ids_bytes}
use Rattle.replication.specs.Machine.Exchange.{taken_votes}
use Rattle.replication.specs.Machine.Step.{collected, decided}
use Rattle.image.specs.Image.{image}
use Rattle.image.specs.Holding.{Holds}

-- The own actions have room behind the queue.
pub record EnterRoom (b : List ℕ) : Type 0 where
  pub counts : CountsIn b
  pub room : place the_queue b + (slot_size * queue_count b + slot_size * own_count_of b) ≤ length b
  pub cut : header_size + cut_size * number_at 1 b at_me + cut_size ≤ length b

-- The numbers of votes: all but the yellow ids.
unfoldable pub vote_numbers : Votes → VoteNumbers
vote_numbers v = record {
  last = last_of v.last;
  attempt = record { 0 = v.attempt };
  mark = mark_numbers v.mark;
  yellow_status = v.yellow.status;
  yellow_count = length v.yellow.ids;
}

-- "Non_prim, no configuration, .. States dropped"
unfoldable pub dropped : Server → Server
dropped s =
    with_membership
    (record {
      mode = Non_prim;
      configuration = none;
      transitional = none;
      states = no_states s.servers;
      cpcs = s.membership.cpcs;
      come = s.membership.come;
    })
    s

-- Other votes, whose numbers are v and whose yellow ids' bytes are e.
abbrev pub BecomesVoted : VoteNumbers → (e b b' : List ℕ) → Type 0
BecomesVoted v e b b' =
    (s : Server) (w : Votes) → Holds s b → v ≡ vote_numbers w → ids_bytes w.yellow.ids ≡ e → b' ≡ image (with_votes w s) b

-- The votes that the collected States decide.
abbrev pub taken_in : Server → Votes
taken_in s = taken_votes s.me (collected s)

-- What they decide, where those votes' numbers are v and their yellow ids' bytes are e.
abbrev pub BecomesDecided : VoteNumbers → (e b b' : List ℕ) → Type 0
BecomesDecided v e b b' =
    (s : Server) → Holds s b → v ≡ vote_numbers (taken_in s) → ids_bytes (taken_in s).yellow.ids ≡ e → b' ≡ image (decided s) b
