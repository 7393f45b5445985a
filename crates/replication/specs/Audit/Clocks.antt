-- Causality by vector clocks, in one walk of the table: of which messages' sendings each entry and each sending comes after.
use Rattle.std.specs.Prelude.{ℕ, zero, suc, ◌+◌, max, Bool, List, [], ◌∷◌, length, get_or}
use Rattle.base.specs.Tests.{◌<?◌}
use Rattle.base.specs.Lists.{upd}
use Rattle.replication.specs.Runs.Happenings.{Message}
use Rattle.replication.specs.Audit.Table.{Role, delivers, takes, transits, goes_down, comes_back, saves, asks, neither, Row}

-- The messages of a run are numbered from 0 in the order of their sendings. A clock has, at each server's number, a bound: the messages of that
-- server with lower numbers are known.

-- What is known by the one or the other.
unfoldable pub join_clocks : List ℕ → List ℕ → List ℕ
join_clocks [] ys = ys
join_clocks (x ∷ xs) [] = x ∷ xs
join_clocks (x ∷ xs) (y ∷ ys) = max x y ∷ join_clocks xs ys

-- The messages of the server i below v are known too.
unfoldable pub raise : ℕ → ℕ → List ℕ → List ℕ
raise zero v [] = v ∷ []
raise zero v (x ∷ xs) = max x v ∷ xs
raise (suc i) v [] = 0 ∷ raise i v []
raise (suc i) v (x ∷ xs) = x ∷ raise i v xs

-- Of a place: its server, the number of the first message sent there, if any, and what is known there.
pub record Stamp : Type 0 where
  pub server : ℕ
  pub first : ℕ
  pub clock : List ℕ

-- The stamps so far, by place; what each server knows; how many messages there are so far.
pub record Stamps : Type 0 where
  pub stamp : ℕ → Stamp
  pub latest : ℕ → List ℕ
  pub count : ℕ

unfoldable pub number_of : Stamps → Message → ℕ
number_of s m = (s.stamp m.sending).first + m.number

-- What is known when m is sent: what was known at its place, and the messages sent there before it.
unfoldable pub clock_at : Stamps → Message → List ℕ
clock_at s m = raise (s.stamp m.sending).server (number_of s m) (s.stamp m.sending).clock

-- What whoever delivers m comes to know.
unfoldable pub clock_with : Stamps → Message → List ℕ
clock_with s m = raise (s.stamp m.sending).server (suc (number_of s m)) (s.stamp m.sending).clock

unfoldable pub learnt : Stamps → Role → Message → List ℕ
learnt s delivers m = clock_with s m
learnt s (takes c) m = []
learnt s (transits t) m = []
learnt s goes_down m = []
learnt s comes_back m = []
learnt s saves m = []
learnt s asks m = []
learnt s neither m = []

unfoldable pub stamp_for : Stamps → Row → Stamp
stamp_for s r = record { server = r.server; first = s.count; clock = join_clocks (s.latest r.server) (learnt s r.role r.source) }

unfoldable pub with_stamp : Stamps → Row → Stamp → Stamps
with_stamp s r t = record {
  stamp = upd s.stamp r.place t;
  latest = upd s.latest r.server (raise r.server (s.count + length r.sent) t.clock);
  count = s.count + length r.sent;
}

unfoldable pub stamps_through : Stamps → List Row → Stamps
stamps_through s [] = s
stamps_through s (r ∷ rs) = stamps_through (with_stamp s r (stamp_for s r)) rs

unfoldable pub no_stamps : Stamps
no_stamps = record { stamp = λ p. record { server = 0; first = 0; clock = [] }; latest = λ i. []; count = 0 }

unfoldable pub stamps : List Row → Stamps
stamps rs = stamps_through no_stamps rs

-- The message with this number, of the server i, is known.
unfoldable pub knows : List ℕ → ℕ → ℕ → Bool
knows clock i number = number <? get_or clock i 0
