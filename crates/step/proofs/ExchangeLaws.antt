-- A retransmission taken in, and the end after the last one.
use Prim.Native.Nat.{ℕ, ◌+◌, ◌≤◌, ◌<◌}
use mathlib.Core.Path.{◌≡◌, refl, ap, ◌∙◌}
use mathlib.Core.Bool.{true, false}
use mathlib.Core.List.{List}
use native.Mathlib.Omega.{arith}
use Rattle.base.specs.Bytes.{number_at}
use Rattle.base.proofs.TestLaws.{pick_yes, pick_no, le_yes, le_no}
use Rattle.format.specs.Types.{Action}
use Rattle.record.specs.declared.ActionHead.{ActionHead}
use Rattle.record.specs.declared.State.{State}
use Rattle.record.specs.Values.{action_of}
use Rattle.replication.specs.Machine.Types.{Non_prim, Server, in_mode}
use Rattle.replication.specs.Machine.Step.{collected, planned_now, placed, one_more, exchanged, all_come_of, end_exchange, exchange}
use Rattle.replication.specs.Machine.WellFormedFacts.{Configured}
use Rattle.image.specs.Image.{image}
use Rattle.image.specs.Header.{header_of, header_in}
use Rattle.image.proofs.HeaderLaws.{header_loaded}
use Rattle.image.specs.Holding.{Holds, HoldsSuch}
use Rattle.step.specs.declared.Answer.{Answer}
use Rattle.outgoing.specs.Lent.{LentSuch}
use Rattle.step.specs.Answers.{answered, outcome_on, quietly}
use Rattle.outgoing.proofs.LentFacts.{lent_fact}
use Rattle.image.proofs.Chained.{then_holds}
use Rattle.step.specs.Events.{Retransmitted, NotLast}
use Rattle.step.proofs.BlankLaws.{placed_begins, grown_still}
use Rattle.step.proofs.EndLaws.{Ends}
use Rattle.step.proofs.EndOverLaws.{end_mode, Before, end_over}
use Rattle.step.proofs.ExchangeStates.{awaiting, last_formed}
use Rattle.step.proofs.OutcomeLaws.{quiet_outcome}
use Rattle.image.specs.Layout.{at_come}

come_read : (s : Server) (b : List ℕ) → Holds s b → number_at 4 b at_come ≡ s.membership.come
unfolding header_in header_of
come_read s b r = ap (λ (h : State). h.come) (header_loaded s b r)

last_before : (k : ℕ) (a : Action) (s : Server) → Before s (in_mode Non_prim (exchanged k a s))
unfolding exchanged one_more
last_before k a s = record { servers = refl; quota = refl; ids = refl }

module _ (h : ActionHead) (p b o : List ℕ) (planned come k : ℕ) (m : LentSuch (Retransmitted k (action_of h p)) b o)
    (told : (s : Server) → Holds s b → planned ≡ planned_now s) (e : come ≡ number_at 4 b at_come) where
  taken : (s : Server) → Holds s b → Retransmitted k (action_of h p) s
  taken s r = lent_fact (Retransmitted k (action_of h p)) b o s m r

  all_come : planned ≤ come + 1 → (s : Server) → Holds s b → all_come_of (exchanged k (action_of h p) s) ≡ true
  unfolding all_come_of exchanged one_more planned_now collected
  all_come l s r = le_yes _ _ (omega (arith, told s r, e, come_read s b r))

  more_come : come + 1 < planned → (s : Server) → Holds s b → all_come_of (one_more s) ≡ false
  unfolding all_come_of one_more planned_now collected
  more_come l s r = le_no _ _ (omega (arith, told s r, e, come_read s b r))

  -- The log does not matter to it.
  not_all : come + 1 < planned → (s : Server) → Holds s b → all_come_of (exchanged k (action_of h p) s) ≡ false
  unfolding all_come_of exchanged one_more planned_now collected
  not_all l s r = le_no _ _ (omega (arith, told s r, e, come_read s b r))

  -- ---- the last one

  module _ (c : List ℕ) (f : (s : Server) → Holds s b → c ≡ image (in_mode Non_prim (exchanged k (action_of h p) s)) b) where
    last_holds : (s : Server) → Holds s b → Holds (in_mode Non_prim (exchanged k (action_of h p) s)) c
    unfolding exchanged one_more
    last_holds s r =
        then_holds s (in_mode Non_prim (exchanged k (action_of h p) s)) b c r (f s r) refl refl
        (last_formed s r.formed (taken s r).1 k (action_of h p) (taken s r).0)
        (grown_still s (placed k (action_of h p) s.log).green r.formed r.blank (placed_begins k (action_of h p) s.log))

    last_configured : (s : Server) → Holds s b → Configured (in_mode Non_prim (exchanged k (action_of h p) s))
    unfolding exchanged one_more
    last_configured s r = (awaiting s r.formed (taken s r).1).0

    pub last_ends : LentSuch Ends c o
    unfolding exchanged one_more
    last_ends = record {
      state = in_mode Non_prim (exchanged k (action_of h p) m.state);
      holds = last_holds m.state m.holds;
      fact = (last_configured m.state m.holds, refl);
      room = m.room;
    }

    pub last_ended : planned ≤ come + 1 → (d o₁ : List ℕ) (r : Answer)
        → ((s t : Server) → Holds t c → answered r d o₁ ≡ outcome_on (end_exchange s t) c o)
        → (s : Server) → Holds s b → answered r d o₁ ≡ outcome_on (exchange k (action_of h p) s) b o
    unfolding exchange
    last_ended l d o₁ r g s y =
        let t : Server = exchanged k (action_of h p) s in
        g s (in_mode Non_prim t) (last_holds s y)
        ∙ end_over s (in_mode Non_prim t) (last_before k (action_of h p) s) b c o y
        (last_formed s y.formed (taken s y).1 k (action_of h p) (taken s y).0)
        (last_configured s y) (f s y) s
        ∙ ap (λ v. outcome_on v b o) (end_mode s t ∙ pick_yes _ _ _ _ (all_come l s y) refl)

  -- ---- another

  pub more_such : come + 1 < planned
      → HoldsSuch (NotLast k (action_of h p)) b
  more_such l = record { state = m.state; holds = m.holds; fact = (m.fact.0, m.fact.1, more_come l m.state m.holds) }

  pub more_quiet : come + 1 < planned → (c : List ℕ) → ((s : Server) → Holds s b → c ≡ image (exchanged k (action_of h p) s) b) → (r : Answer)
      → r ≡ quietly
      → (s : Server) → Holds s b → answered r c o ≡ outcome_on (exchange k (action_of h p) s) b o
  unfolding exchange
  more_quiet l c f r a s y =
      quiet_outcome s (exchanged k (action_of h p) s) b o c r a (f s y)
      ∙ ap (λ v. outcome_on v b o) (pick_no _ _ _ _ (not_all l s y) refl)
