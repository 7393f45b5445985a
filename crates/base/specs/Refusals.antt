-- Document 01, 'Returned numbers': the refusals, each named once, by the words of include/guzbytor.h. 4 never occurs. `pegs` has the register's own.
use Rattle.std.specs.Prelude.{ℕ}

-- "bad length, version or kind"
abbrev pub bad_record : ℕ
bad_record = 1

-- "a number, set or list out of range"
abbrev pub out_of_range_of : ℕ
out_of_range_of = 2

-- "request, actions numbered so far .. already q"
abbrev pub quota_used : ℕ
quota_used = 3

-- "event impossible in this state, or an action or retransmission of this server's own action above those it has numbered"
abbrev pub not_now : ℕ
not_now = 5

-- "record's sender outside the last regular set .., a State or CPC whose id is not that configuration's, or second State or CPC of that sender"
abbrev pub not_from_here : ℕ
not_from_here = 6

-- "a buffer is shorter than its formula"; document 02, K2: "7 a buffer below its formula, ..
abbrev pub short_buffer : ℕ
short_buffer = 7

-- .. then 8 a register .. out of range or order or with a name twice"; of a state, document 01's row 8.
abbrev pub bad_state : ℕ
bad_state = 8
