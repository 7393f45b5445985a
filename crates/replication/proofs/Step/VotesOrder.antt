-- (last primary's index, its attempt, attempt) never falls in a taken event, while the own State says what the server has.
use Prim.Native.Nat.{ℕ, ◌+◌}
use mathlib.Core.Path.{◌≡◌, refl, sym, ap, ◌∙◌}
use mathlib.Core.Bool.{Bool, true}
use mathlib.Core.List.{List, Memᴰ}
use native.Mathlib.Omega.{arith}
use Rattle.base.specs.Tests.{◌<?◌}
use Rattle.base.proofs.TestLaws.{lt_holds, lt_fails, Known, holds, fails, known}
use Rattle.base.proofs.Members.{present_has}
use Rattle.format.specs.Types.{State, Record, action, retransmission, state, cpc, regular, transitional, request, recovery}
use Rattle.replication.specs.Machine.Types.{Exchange_actions, Votes, Server}
use Rattle.replication.specs.Machine.Exchange.{taken_primary, taken_attempt}
use Rattle.replication.specs.Machine.Step.{collected, with_state, all_states_in}
use Rattle.replication.specs.Machine.White.{sieved_record}
use Rattle.replication.specs.Laws.Transitions.{Transition}
use Rattle.replication.specs.Laws.Order.{AtMost, by_index, by_primary, by_attempt, in_exchange, OwnStateTrue, hearing}
use Rattle.replication.specs.Laws.Votes as C
use Rattle.replication.specs.Laws.Votes.{EndsExchange, PrimaryChange}
use Rattle.replication.proofs.Step.Taken.{NotLater, lower, level, taken_covers, taken_attempt_covers}
use Rattle.replication.proofs.Step.Votes.{primary_changes}

-- ---- the order

pub at_most_same : {v w : Votes} → w.last ≡ v.last → w.attempt ≡ v.attempt → AtMost v w
at_most_same p q = by_attempt (ap (λ x. x.index) (sym p)) (ap (λ x. x.attempt) (sym p)) (omega (arith, q))

pub at_most_refl : (v : Votes) → AtMost v v
at_most_refl v = at_most_same refl refl

pub at_most_trans : {u v w : Votes} → AtMost u v → AtMost v w → AtMost u w
at_most_trans (by_index p) (by_index q) = by_index (omega arith)
at_most_trans (by_index p) (by_primary e q) = by_index (omega arith)
at_most_trans (by_index p) (by_attempt e f q) = by_index (omega arith)
at_most_trans (by_primary e p) (by_index q) = by_index (omega arith)
at_most_trans (by_primary e p) (by_primary f q) = by_primary (omega arith) (omega arith)
at_most_trans (by_primary e p) (by_attempt f g q) = by_primary (omega arith) (omega arith)
at_most_trans (by_attempt e f p) (by_index q) = by_index (omega arith)
at_most_trans (by_attempt e f p) (by_primary g q) = by_primary (omega arith) (omega arith)
at_most_trans (by_attempt e f p) (by_attempt g h q) = by_attempt (omega arith) (omega arith) (omega arith)

module _ (s t : Server) (r : Record) where
  -- What the States decide is at least what the server had, if the own one says that.
  own_at_most : (x : State) (k : ℕ) → Memᴰ x (collected (hearing r s)) → x.last ≡ s.votes.last → x.attempt ≡ s.votes.attempt
      → t.votes.last ≡ taken_primary (collected (hearing r s)) → t.votes.attempt ≡ taken_attempt (collected (hearing r s)) + k → AtMost s.votes t.votes
  own_at_most x k m p q f g = go (taken_covers x (collected (hearing r s)) m) (known (x.last.attempt <? (taken_primary (collected (hearing r s))).attempt))
    where
      go : NotLater x.last (taken_primary (collected (hearing r s))) → Known (x.last.attempt <? (taken_primary (collected (hearing r s))).attempt) → AtMost s.votes t.votes
      go (lower h) z = by_index (omega (arith, ap (λ w. w.index) p, ap (λ w. w.index) f))
      go (level h i) (holds z) =
          by_primary (omega (arith, ap (λ w. w.index) p, ap (λ w. w.index) f)) (omega (arith, lt_holds _ _ z, ap (λ w. w.attempt) p, ap (λ w. w.attempt) f))
      go (level h i) (fails z) =
          let j : x.last.attempt ≡ (taken_primary (collected (hearing r s))).attempt = omega (arith, lt_fails _ _ z) in
          by_attempt (omega (arith, ap (λ w. w.index) p, ap (λ w. w.index) f)) (omega (arith, ap (λ w. w.attempt) p, ap (λ w. w.attempt) f))
          (omega (arith, taken_attempt_covers x (collected (hearing r s)) m h j))

pub hearing_sieved : (b : Bool) (r : Record) (s : Server) → hearing (sieved_record b r) s ≡ hearing r s
unfolding hearing sieved_record
hearing_sieved b (action a) s = refl
hearing_sieved b (retransmission k p a) s = refl
hearing_sieved b (state x) s = refl
hearing_sieved b (cpc k i) s = refl
hearing_sieved b (regular i c) s = refl
hearing_sieved b (transitional c) s = refl
hearing_sieved b (request p) s = refl
hearing_sieved b recovery s = refl

pub hearing_keeps : (r : Record) (s : Server) → ((hearing r s).votes ≡ s.votes) × ((hearing r s).membership.mode ≡ s.membership.mode)
unfolding hearing with_state
hearing_keeps (action a) s = (refl, refl)
hearing_keeps (retransmission k p a) s = (refl, refl)
hearing_keeps (state x) s = (refl, refl)
hearing_keeps (cpc k i) s = (refl, refl)
hearing_keeps (regular i c) s = (refl, refl)
hearing_keeps (transitional c) s = (refl, refl)
hearing_keeps (request p) s = (refl, refl)
hearing_keeps recovery s = (refl, refl)

module _ (s t : Server) (r : Record) (complete : s.membership.mode ≡ Exchange_actions → all_states_in s ≡ true) (own : OwnStateTrue (hearing r s)) where
  ended : EndsExchange s r → (in_exchange s.membership.mode ≡ true) × (all_states_in (hearing r s) ≡ true)
  unfolding in_exchange
  ended (C.with_states e c) = (rw e, c)
  ended (C.with_actions e h) = (rw e, rw h (complete e))

  by_own : (k : ℕ) → EndsExchange s r → t.votes.last ≡ taken_primary (collected (hearing r s))
      → t.votes.attempt ≡ taken_attempt (collected (hearing r s)) + k → AtMost s.votes t.votes
  unfolding OwnStateTrue collected
  by_own k e f g =
      let v = hearing_keeps r s in
      let d = ended e in
      let o = own (rw v.1 d.0) d.1 in
      own_at_most s t r o.0 k (present_has o.0 (hearing r s).membership.states (hearing r s).me o.1) (o.2 ∙ ap (λ w. w.last) v.0)
      (o.3 ∙ ap (λ w. w.attempt) v.0) f g

  rising : PrimaryChange s r t → AtMost s.votes t.votes
  rising (C.PrimaryChange.kept p q) = at_most_same p q
  rising (C.PrimaryChange.installed m p q u v w) = by_index (omega arith)
  rising (C.PrimaryChange.decided e p q) = by_own 0 e p (omega arith)
  rising (C.PrimaryChange.attempted e p q) = by_own 1 e p q

-- (last primary's index, its attempt, attempt) never falls, if in an exchange the own State says what the server has.
pub votes_rise : {s : Server} {r : Record} {t : Server} {rs : List Record} {b : Bool} → Transition s r t rs b
    → (s.membership.mode ≡ Exchange_actions → all_states_in s ≡ true) → OwnStateTrue (hearing r s) → AtMost s.votes t.votes
votes_rise {s} {r} {t} x complete own = rising s t r complete own (primary_changes s x)
