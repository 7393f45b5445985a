-- What a taken event puts out, and what it numbers.
use Prim.Native.Nat.{ℕ}
use mathlib.Core.Path.{◌≡◌, refl, ap, ◌∙◌}
use mathlib.Core.Bool.{Bool, true, false}
use mathlib.Core.List.{List, map}
use native.Mathlib.Omega.{arith}
use Rattle.format.specs.Types.{Record, action}
use Rattle.replication.specs.Machine.Types.{Server}
use Rattle.replication.specs.Machine.Colours.{yellow}
use Rattle.replication.specs.Machine.Install.{install}
use Rattle.replication.specs.Machine.Requests.{numbered, unsent, waiting, send_waiting, waiting_records, recovered}
use Rattle.replication.specs.Machine.Step.{entering, own_state, here_id, collected, decided, attempting, with_state, all_states_in, planned_now, resending, one_more, exchanged, with_cpc, leave, green_and_note, here_set}
use Rattle.replication.specs.Laws.Transitions as L
use Rattle.replication.specs.Laws.Transitions.{Ends, Transition}
use Rattle.replication.specs.Laws.Order.{SameNumbers, hearing}
use Rattle.replication.specs.Laws.Votes as C
use Rattle.replication.specs.Laws.Votes.{EndsExchange}
use Rattle.replication.specs.Laws.Sending as P
use Rattle.replication.specs.Laws.Sending.{SendsWaiting, PutsOut}
use Rattle.replication.proofs.Step.Votes.{same_quorum}
use Rattle.replication.proofs.Step.Numbered.{same_numbers, numbers_trans, numbers_red, numbers_reds, numbers_green, numbers_placed, numbers_install, numbers_yellow}

-- What waits at u, a state on the way to t, is what t has on its own list above those that u has sent.
waiting_sent : (k : ℕ) (u t : Server) → u.log.own ≡ t.log.own → u.log.sent ≡ k → t.log.sent ≡ t.log.numbered
    → SendsWaiting k t (waiting_records u)
unfolding waiting_records waiting
waiting_sent k u t o e f =
    record { records = ap (λ x. map action (unsent u.log.sent x)) o ∙ ap (λ j. map action (unsent j t.log.own)) e; sent = f }

module _ (s : Server) where
  ends_out : (r : Record) (t u : Server) (rs : List Record) → EndsExchange s r → SameNumbers s.log t.log → collected t ≡ collected (hearing r s)
      → here_set t ≡ here_set s → Ends t u rs → PutsOut s r u rs true
  unfolding attempting decided send_waiting here_id
  ends_out r t u rs e n c d (L.with_quorum q) =
      P.cpc_on_attempt e (same_quorum (collected t) (collected (hearing r s)) (here_set t) (here_set s) true c d q) refl n
  ends_out r t u rs e n c d (L.without_quorum q) =
      P.waiting_after_exchange rs e (same_quorum (collected t) (collected (hearing r s)) (here_set t) (here_set s) false c d q) refl n.numbered
      (waiting_sent _ _ _ refl (omega (arith, n.sent, n.numbered)) refl)

  pub puts_out : {r : Record} {t : Server} {rs : List Record} {b : Bool} → Transition s r t rs b → PutsOut s r t rs b
  unfolding green_and_note install exchanged one_more with_state resending with_cpc send_waiting entering own_state leave recovered hearing all_states_in here_set planned_now collected numbered
  puts_out (L.ignores_state x e) = P.nothing _ (same_numbers _)
  puts_out (L.ignores_cpc k i e) = P.nothing _ (same_numbers _)
  puts_out (L.reddens a e) = P.nothing _ (numbers_red a s.log)
  puts_out (L.reddens_resent k i a e) = P.nothing _ (numbers_red a s.log)
  puts_out (L.reddens_in_exchange a e) = P.nothing _ (numbers_red a s.log)
  puts_out (L.greens a e) = P.nothing _ (numbers_green a s.log)
  puts_out (L.yellows a e) = P.nothing _ (numbers_yellow a s)
  puts_out (L.installs_late a e) = P.nothing _ (numbers_trans s.log (install s).log (yellow a (install s)).log (numbers_install s.votes.yellow.ids s.log) (numbers_yellow a (install s)))
  puts_out (L.exchanges k i a e c) = P.nothing _ (numbers_placed i a s.log)
  puts_out (L.exchanges_last k i a u us e c x) = ends_out _ (exchanged i a s) u us (C.with_actions e refl) (numbers_placed i a s.log) refl refl x
  puts_out (L.collects x e c) = P.nothing _ (same_numbers _)
  puts_out (L.collects_last x e c d) = P.part_of_plan x refl e refl c d (same_numbers _)
  puts_out (L.collects_whole x u us e c d y) = ends_out _ (with_state x s) u us (C.with_states e c) (same_numbers _) refl refl y
  puts_out (L.counts k i e c) = P.nothing _ (same_numbers _)
  puts_out {rs = rs} (L.installs k i e c) =
      let n = numbers_install s.votes.yellow.ids s.log in
      P.waiting_after_install k i rs refl e c refl n.numbered (waiting_sent _ _ _ refl (omega (arith, n.sent, n.numbered)) refl)
  puts_out (L.counts_late k i e c) = P.nothing _ (same_numbers _)
  puts_out (L.counts_all_late k i e c) = P.nothing _ (same_numbers _)
  puts_out (L.joins c e) = P.state_on_entry c refl refl refl (same_numbers _)
  puts_out (L.joins_marked c e) = P.state_on_entry c refl refl refl (same_numbers _)
  puts_out (L.joins_unmarked c e) = P.state_on_entry c refl refl refl (same_numbers _)
  puts_out (L.joins_yellow c e) = P.state_on_entry c refl refl refl (same_numbers _)
  puts_out (L.leaves m n x e q) = P.nothing _ (same_numbers _)
  puts_out (L.sends q c) = P.request_at_once q _ refl c refl (record { numbered = refl; own = refl }) (waiting_sent _ (numbered q s) _ refl refl refl)
  puts_out (L.numbers q c) = P.request_waits q refl c (record { numbered = refl; own = refl }) refl
  puts_out L.recovers = P.nothing _ (numbers_reds s.log.own s.log)
