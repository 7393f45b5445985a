-- The thesis's Specifications as tests: one for each field of `Allowed`, under its name.
use Rattle.std.specs.Prelude.{ℕ, suc, Bool, true, false, List, [], ◌∷◌, map, length, drop}
use Rattle.std.proofs.Math.Option.{some}
use Rattle.base.specs.Tests.{◌and◌, ◌or◌, ◌=?◌, ◌<?◌}
use Rattle.base.specs.Lists.{all, any, filter, is_there}
use Rattle.base.specs.Quantifiers.{◌implies◌, pairs}
use Rattle.base.specs.Sets.{in_set}
use Rattle.replication.specs.Runs.Run.{members}
use Rattle.replication.specs.Runs.Happenings.{Message, Configured, regularly, transitionally}
use Rattle.replication.specs.Audit.Same.{same_message, same_regular, same_place, same_configured}
use Rattle.replication.specs.Audit.Table.{Row}
use Rattle.replication.specs.Audit.Clocks.{knows}
use Rattle.replication.specs.Audit.Journal.{Sending, Delivery, Taking, Passage, Journal, settles}

-- The server i delivers m.
unfoldable pub is_delivered : List Delivery → ℕ → Message → Bool
is_delivered ds i m = any (λ d. d.server =? i and same_message d.sending.message m) ds

-- What the server of d delivers before it.
unfoldable pub earlier : List Delivery → Delivery → List Message
earlier ds d = map (λ (x : Delivery). x.sending.message) (filter (λ x. x.server =? d.server and x.place <? d.place) ds)

unfoldable pub has_message : Message → List Message → Bool
has_message m ms = any (same_message m) ms

-- Each delivery passes the test, with what its server delivers before it.
unfoldable pub each_with_earlier : (Delivery → List Message → Bool) → List Delivery → Bool
each_with_earlier t ds = all (λ d. t d (earlier ds d)) ds

-- ---- Specification 1

-- "1.3 If there exists deliver_p(m, c), then there exists send_q(m, reg(c))"
unfoldable pub same_configuration_lem : Journal → Bool
same_configuration_lem j = all (λ d. is_there d.before.regular and same_regular d.sending.regular d.before.regular) j.deliveries

-- One message at one server.
unfoldable pub is_again : Delivery → Delivery → Bool
is_again a b = a.server =? b.server and same_message a.sending.message b.sending.message

-- "1.4 .. if there exists deliver_p(m, c), then there does not exist deliver_p(m, c') where c ≠ c'."
unfoldable pub one_delivery : Journal → Bool
one_delivery j = all (λ c. pairs (λ a b. is_again a b implies same_place a.before b.before) c.deliveries) j.configurations

-- ---- Specification 2

-- A transitional configuration has one regular one before it, and one set.
unfoldable pub one_name : Journal → Bool
one_name j = pairs (λ a b. a.name =? b.name implies same_regular a.before.regular b.before.regular and a.set =? b.set) j.transitions

-- ---- Specification 3

-- The server of s has left the configuration in which it sent s.
unfoldable pub has_left_since : List Taking → Sending → Bool
has_left_since ts s = any (λ t. t.server =? s.server and same_regular (some t.configuration) s.regular) ts

-- "3. If there exist send_p(m, c) and deliver_conf_p(c') where c' ≠ trans_p(c) .. then there exists deliver_p(m, com_p(c))"
unfoldable pub self_delivery : Journal → Bool
self_delivery j =
    all
    (λ c. all (λ s. has_left_since c.leavings s implies is_delivered c.deliveries s.server s.message) c.sendings)
    j.configurations

-- ---- Specification 4

-- What is delivered on the way.
unfoldable pub during : List Delivery → Passage → List Delivery
during ds a = filter (λ d. d.server =? a.from.server and a.from.place <? d.place and d.place <? a.to.place) ds

unfoldable pub is_regular : Configured → Bool
is_regular (regularly c) = true
is_regular (transitionally x) = false

-- The server has left the configuration and its transitional one.
unfoldable pub is_over : List Row → Passage → Bool
is_over rs a = is_regular a.to.to or settles a.to.server (drop (suc a.to.place) rs)

unfoldable pub same_way : Passage → Passage → Bool
same_way a b = same_configured a.from.to b.from.to and same_configured a.to.to b.to.to

unfoldable pub all_among : List Delivery → List Delivery → Bool
all_among xs ys = all (λ x. any (λ y. same_message y.sending.message x.sending.message) ys) xs

-- "4. If there exist deliver_conf_p(c), deliver_conf_p(c''), deliver_conf_q(c), deliver_conf_q(c'') and deliver_p(m, c) .. then there exists
-- deliver_q(m, c)."
unfoldable pub atomic : Journal → Bool
atomic j =
    all
    (λ a.
    all (λ b. same_way a b and is_over j.rows b implies all_among (during j.deliveries a) (during j.deliveries b)) j.passages)
    j.passages

-- ---- Specification 5

unfoldable pub is_cause : Sending → Sending → Bool
is_cause s t = same_regular s.regular t.regular and knows t.clock s.server s.number

-- "5. If there exist send_p(m, c), send_q(m', c) and deliver_r(m', com_r(c)) such that send_p(m, c) → send_q(m', c)": "whoever delivers a
-- record has before it delivered every record sent in the same regular configuration that causally precedes it"
unfoldable pub causal : Journal → Bool
causal j =
    all
    (λ c. each_with_earlier (λ d ms. all (λ s. is_cause s d.sending implies has_message s.message ms) c.sendings) c.deliveries)
    j.configurations

-- ---- Specification 6

-- Each is above the one before it, the first above o.
unfoldable pub is_rising : ℕ → List ℕ → Bool
is_rising o [] = true
is_rising o (x ∷ xs) = o <? x and is_rising x xs

unfoldable pub last_of : ℕ → List ℕ → ℕ
last_of o [] = o
last_of o (x ∷ xs) = last_of x xs

-- An entry comes before its sendings, those in their order,
unfoldable pub own_sendings : Row → Bool
own_sendings r = length r.sending_ords =? length r.sent and is_rising r.ord r.sending_ords

-- and all of them before the server's later entries.
unfoldable pub in_turn : Row → Row → Bool
in_turn r x = x.server =? r.server implies last_of r.ord r.sending_ords <? x.ord

-- "6.1 If there exist events e and e' such that e → e', then ord(e) < ord(e').": the steps of causality; with 6.2 the rest follows.
unfoldable pub rises : Journal → Bool
rises j = all own_sendings j.rows and pairs in_turn j.rows and all (λ d. d.sending.ord <? d.ord) j.deliveries

-- "6.2 If there exist events e and e' that are either deliver_conf_p(c) and deliver_conf_q(c)"
unfoldable pub same_moment : Journal → Bool
same_moment j = pairs (λ a b. same_configured a.to b.to implies a.ord =? b.ord) j.changes

-- "or deliver_p(m, c) and deliver_q(m, c'), then ord(e) = ord(e')."
unfoldable pub same_message_lem : Journal → Bool
same_message_lem j =
    all (λ c. pairs (λ a b. same_message a.sending.message b.sending.message implies a.ord =? b.ord) c.deliveries) j.configurations

-- One moment in one regular configuration.
unfoldable pub is_together : Delivery → Delivery → Bool
is_together a b = a.ord =? b.ord and same_regular a.before.regular b.before.regular

-- "Specification 6's one order": two records of one regular configuration never share a moment.
unfoldable pub one_order : Journal → Bool
one_order j =
    all (λ c. pairs (λ a b. is_together a b implies same_message a.sending.message b.sending.message) c.deliveries) j.configurations

-- The delivery b must come after one of a's message at the same server.
unfoldable pub is_owed : Delivery → Delivery → Bool
is_owed a b = a.ord <? b.ord and same_regular a.sending.regular b.before.regular and in_set a.sending.server (members b.before)

-- 6.3, "at every moment: .. and every one sent there that is lower in Specification 6's one order, that any server delivers, and whose sender is in
-- the deliverer's configuration then"
unfoldable pub agreed : Journal → Bool
agreed j =
    all
    (λ c. each_with_earlier (λ b ms. all (λ a. is_owed a b implies has_message a.sending.message ms) c.deliveries) c.deliveries)
    j.configurations

-- ---- Specification 7

-- The server that left was in d's configuration.
unfoldable pub is_shared_with : Delivery → Taking → Bool
is_shared_with d t = same_regular (some t.configuration) d.before.regular and in_set t.server (members d.before)

-- "7.1 If there exists deliver_p(m, c) for a safe message m, then for every process q in c there exists either deliver_q(m, com_q(c)) or
-- crash_q(com_q(c))"; "all are safe".
unfoldable pub safe : Journal → Bool
safe j =
    all
    (λ c.
    all
    (λ d. all (λ t. is_shared_with d t implies is_delivered c.deliveries t.server d.sending.message) c.leavings)
    c.deliveries)
    j.configurations
