-- Document 01, 'End of exchange': what the collected States decide, in the order of their senders.
use Rattle.std.specs.Prelude.{ℕ, ◌+◌, ◌*◌, Bool, not, List, [], ◌∷◌}
use Rattle.base.specs.Tests.{◌and◌, ◌or◌, ◌=?◌, ◌<?◌, pick}
use Rattle.base.specs.Lists.{all, any, filter}
use Rattle.base.specs.Sets.{in_set, inside, with_member, size, common, union, lowest_member}
use Rattle.format.specs.Limits.{most_servers_limit, most_index_limit}
use Rattle.format.specs.Types.{Primary, first_primary, Mark, Yellow, State}
use Rattle.format.specs.Range.{has_id}
use Rattle.replication.specs.Machine.Types.{Votes, cleared_mark, no_yellow}
use Rattle.replication.specs.Machine.Colours.{note}
use Rattle.replication.specs.Machine.Plan.{highest}

-- "note each State's green length; a noted length never falls."
unfoldable pub note_all : List State → List ℕ → List ℕ
note_all [] noted = noted
note_all (x ∷ xs) noted = note_all xs (note x.sender x.green_length noted)

-- ---- "Take the last primary with the highest (index, attempt), the lowest-numbered sender's if sets differ"

unfoldable pub later : Primary → Primary → Bool
later p r = p.index <? r.index or (p.index =? r.index and p.attempt <? r.attempt)

unfoldable pub latest : Primary → List State → Primary
latest p [] = p
latest p (x ∷ xs) = latest (pick (later p x.last) x.last p) xs

-- The members' States are never none at all.
unfoldable pub taken_primary : List State → Primary
taken_primary [] = first_primary 0
taken_primary (x ∷ xs) = latest x.last xs

-- "all who sent that pair are the updated group"
unfoldable pub same_pair : Primary → State → Bool
same_pair p x = x.last.index =? p.index and x.last.attempt =? p.attempt

unfoldable pub updated_group : List State → List State
updated_group xs = filter (same_pair (taken_primary xs)) xs

-- "the attempt is the highest they sent"
unfoldable pub taken_attempt : List State → ℕ
taken_attempt xs = highest (λ x. x.attempt) (updated_group xs)

-- ---- "Yellow is valid if any of them sent it valid: the ids common to all those valid lists, in the order of the lowest-numbered such sender's
-- list; else it is invalid and empty."

unfoldable pub is_valid : State → Bool
is_valid x = x.yellow.status =? 1

unfoldable pub common_yellow : List State → Yellow
common_yellow [] = no_yellow
common_yellow (x ∷ xs) = record { status = 1; ids = filter (λ d. all (λ y. has_id d y.yellow.ids) xs) x.yellow.ids }

unfoldable pub taken_yellow : List State → Yellow
taken_yellow xs = common_yellow (filter is_valid (updated_group xs))

-- ---- "Then marks, judged on the States as sent. A mark of server v is cleared if"

unfoldable pub is_marked : State → Bool
is_marked v = v.mark.status =? 1

unfoldable pub same_attempt_of : Mark → Mark → Bool
same_attempt_of m o = o.index =? m.index and o.attempt =? m.attempt

-- "(a) the taken primary's index exceeds the mark's and v is not in its set"
unfoldable pub rule_a : Primary → State → Bool
rule_a p v = v.mark.index <? p.index and not (in_set v.sender p.set)

-- "(b) a member of the mark's set, present here, sent no mark, or another (index, attempt)"
unfoldable pub rule_b : List State → State → Bool
rule_b xs v = any (λ x. in_set x.sender v.mark.set and (not (is_marked x) or not (same_attempt_of v.mark x.mark))) xs

-- "marks here alike in index, attempt and set"
unfoldable pub alike : State → State → Bool
alike v x = is_marked x and same_attempt_of v.mark x.mark and x.mark.set =? v.mark.set

unfoldable pub join_bits : List State → ℕ → ℕ
join_bits [] bits = bits
join_bits (x ∷ xs) bits = join_bits xs (with_member x.sender (union bits x.mark.bits))

-- The mark's bits, "joined with those of marks here alike .., and their senders".
unfoldable pub joined_bits : List State → State → ℕ
joined_bits xs v = join_bits (filter (alike v) xs) v.mark.bits

-- "(c) its bits, joined .., cover its set"
unfoldable pub rule_c : List State → State → Bool
rule_c xs v = inside v.mark.set (joined_bits xs v)

-- "Otherwise the joined bits are kept."
unfoldable pub kept_mark : List State → State → Mark
kept_mark xs v = record { status = v.mark.status; index = v.mark.index; attempt = v.mark.attempt; set = v.mark.set; bits = joined_bits xs v }

-- The server v's mark after judging.
unfoldable pub judged_mark : List State → State → Mark
judged_mark xs v =
    pick (is_marked v and not (rule_a (taken_primary xs) v) and not (rule_b xs v) and not (rule_c xs v)) (kept_mark xs v) cleared_mark

-- Some mark is left here.
unfoldable pub mark_left : List State → Bool
mark_left xs = any (λ v. (judged_mark xs v).status =? 1) xs

-- The own mark, judged on the own State as sent.
unfoldable pub own_mark : ℕ → List State → List State → Mark
own_mark me xs [] = cleared_mark
own_mark me xs (v ∷ vs) = pick (v.sender =? me) (judged_mark xs v) (own_mark me xs vs)

-- ---- "Quorum: no mark left here, more than half of the taken primary's members here, and both counters below 4,000,000,000."

unfoldable pub more_than_half : Primary → ℕ → Bool
more_than_half p here = size p.set <? 2 * size (common p.set here)

-- Document 02, K1: "Exactly half of the last primary now also makes a quorum if it holds that primary's lowest-numbered member."
unfoldable pub lowest_of : Primary → ℕ
lowest_of p = lowest_member most_servers_limit p.set

unfoldable pub half_with_lowest : Primary → ℕ → Bool
half_with_lowest p here = 2 * size (common p.set here) =? size p.set and in_set (lowest_of p) (common p.set here)

-- Dynamic linear voting: the members of p that are here win, or not.
unfoldable pub linear_vote : Primary → ℕ → Bool
linear_vote p here = more_than_half p here or half_with_lowest p here

unfoldable pub quorum : List State → ℕ → Bool
quorum xs here =
    not (mark_left xs) and linear_vote (taken_primary xs) here and (taken_primary xs).index <? most_index_limit and taken_attempt xs <? most_index_limit

-- ---- the votes afterwards

-- Primary, attempt, yellow and mark as taken.
unfoldable pub taken_votes : ℕ → List State → Votes
taken_votes me xs = record { last = taken_primary xs; attempt = taken_attempt xs; mark = own_mark me xs xs; yellow = taken_yellow xs }

-- "attempt + 1, mark (primary index, attempt, this set, no bits)"
unfoldable pub attempted : ℕ → Votes → Votes
attempted here v = record {
  last = v.last;
  attempt = v.attempt + 1;
  mark = record { status = 1; index = v.last.index; attempt = v.attempt + 1; set = here; bits = 0 };
  yellow = v.yellow;
}
