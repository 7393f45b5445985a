-- Tests of marks that the code makes of two marks, or of a mark and a State.
use Rattle.std.specs.Prelude.{ℕ, Bool, not, List}
use Rattle.base.specs.Tests.{◌and◌, ◌or◌, ◌=?◌, pick}
use Rattle.base.specs.Sets.{in_set, with_member, union}
use Rattle.format.specs.Types.{Mark, State}
use Rattle.replication.specs.Machine.Exchange.{is_marked, same_attempt_of, judged_mark}

-- By the State x, rule (b) clears the mark m: `rule_b xs v` is `any (against v.mark) xs`.
unfoldable pub against : Mark → State → Bool
against m x = in_set x.sender m.set and (not (is_marked x) or not (same_attempt_of m x.mark))

-- "alike in index, attempt and set": `alike v x` is `likewise v.mark x.mark`.
unfoldable pub likewise : Mark → Mark → Bool
likewise m o = o.status =? 1 and same_attempt_of m o and o.set =? m.set

-- The bits, joined with the State's and its sender if its mark is alike: a turn of `joined_bits`.
abbrev pub joined_with : Mark → ℕ → State → ℕ
joined_with m bits x = pick (likewise m x.mark) (with_member x.sender (union bits x.mark.bits)) bits

-- The mark with other bits: `kept_mark xs v` is `with_bits (joined_bits xs v) v.mark`.
unfoldable pub with_bits : ℕ → Mark → Mark
with_bits bits m = record { status = m.status; index = m.index; attempt = m.attempt; set = m.set; bits = bits }

-- The mark of v is left: `mark_left xs` is `any (is_left xs) xs`.
unfoldable pub is_left : List State → State → Bool
is_left xs v = (judged_mark xs v).status =? 1
