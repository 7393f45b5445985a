-- Where a noted length comes from: an action delivered in Reg_prim, or a State of an exchange that ends.
use Prim.Native.Nat.{ℕ, ◌≤◌}
use mathlib.Core.Path.{◌≡◌, refl, ap}
use mathlib.Core.Bool.{Bool, true}
use mathlib.Core.List.{List, [], ◌∷◌}
use native.Mathlib.Omega.{arith}
use lib.ListN.{get_or}
use Rattle.base.specs.Lists.{Each}
use Rattle.base.proofs.Prefixes.{set_most}
use Rattle.format.specs.Types.{Action, State, Record, action}
use Rattle.replication.specs.Machine.Types.{Server}
use Rattle.replication.specs.Machine.Colours.{yellow, note}
use Rattle.replication.specs.Machine.Exchange.{note_all}
use Rattle.replication.specs.Machine.Install.{install}
use Rattle.replication.specs.Machine.Requests.{numbered, send_waiting, recovered}
use Rattle.replication.specs.Machine.Step.{entering, collected, decided, attempting, with_state, all_states_in, resending, one_more, exchanged, with_cpc, leave, green_and_note, here_set}
use Rattle.replication.specs.Laws.Order.{in_exchange}
use Rattle.replication.specs.Laws.Transitions as L
use Rattle.replication.specs.Laws.Transitions.{Ends, Transition}
use Rattle.replication.proofs.Step.Logs.{yellow_as}
use Rattle.replication.proofs.Agreement.Votes.Changes.{Ending}

pub note_bound : (c g k h : ℕ) (noted : List ℕ) → get_or noted k 0 ≤ h → (k ≡ c → g ≤ h) → get_or (note c g noted) k 0 ≤ h
unfolding note
note_bound c g k h noted low f = set_most noted c _ k h low (λ e. omega (arith, f e, ap (λ z. get_or noted z 0) e))

pub note_all_bound : (xs : List State) (k h : ℕ) (noted : List ℕ) → get_or noted k 0 ≤ h → Each (λ x. k ≡ x.sender → x.green_length ≤ h) xs
    → get_or (note_all xs noted) k 0 ≤ h
unfolding note_all
note_all_bound [] k h noted low f = low
note_all_bound (x ∷ xs) k h noted low f = note_all_bound xs k h (note x.sender x.green_length noted) (note_bound x.sender x.green_length k h noted low f.0) f.1

pub data NotedStep (s : Server) (r : Record) (t : Server) (rs : List Record) (b : Bool) : Type 0 where
  same : t.noted ≡ s.noted → NotedStep s r t rs b
  greens : (a : Action) → r ≡ action a → t.noted ≡ note a.id.creator a.green_length s.noted → NotedStep s r t rs b
  ends : b ≡ true → (j : Ending s t rs) → t.noted ≡ note_all (collected j.judged) s.noted → NotedStep s r t rs b

yellow_noted : (a : Action) (s : Server) → (yellow a s).noted ≡ s.noted
yellow_noted a s = yellow_as (λ t. t.noted ≡ s.noted) a s (λ e. refl) (λ e. refl)

end_noted : (t u : Server) (rs : List Record) → Ends t u rs → u.noted ≡ note_all (collected t) t.noted
unfolding attempting decided send_waiting numbered
end_noted t u rs (L.with_quorum q) = refl
end_noted t u rs (L.without_quorum q) = refl

module _ (s : Server) where
  pub noted_step : {r : Record} {t : Server} {rs : List Record} {b : Bool} → Transition s r t rs b → NotedStep s r t rs b
  unfolding green_and_note install exchanged one_more with_state resending with_cpc send_waiting numbered entering leave recovered in_exchange here_set all_states_in
  noted_step (L.ignores_state x e) = same refl
  noted_step (L.ignores_cpc k i e) = same refl
  noted_step (L.reddens a e) = same refl
  noted_step (L.reddens_resent k i a e) = same refl
  noted_step (L.reddens_in_exchange a e) = same refl
  noted_step (L.greens a e) = greens a refl refl
  noted_step (L.yellows a e) = same (yellow_noted a s)
  noted_step (L.installs_late a e) = same (yellow_noted a (install s))
  noted_step (L.exchanges k i a e c) = same refl
  noted_step (L.exchanges_last k i a u us e c x) =
      ends refl (record { judged = exchanged i a s; ends = x; exchanging = ap in_exchange e; me = refl; votes = refl; configuration = refl; complete = λ f. f e })
      (end_noted (exchanged i a s) u us x)
  noted_step (L.collects x e c) = same refl
  noted_step (L.collects_last x e c d) = same refl
  noted_step (L.collects_whole x u us e c d y) =
      ends refl (record { judged = with_state x s; ends = y; exchanging = ap in_exchange e; me = refl; votes = refl; configuration = refl; complete = λ f. c })
      (end_noted (with_state x s) u us y)
  noted_step (L.counts k i e c) = same refl
  noted_step (L.installs k i e c) = same refl
  noted_step (L.counts_late k i e c) = same refl
  noted_step (L.counts_all_late k i e c) = same refl
  noted_step (L.joins c e) = same refl
  noted_step (L.joins_marked c e) = same refl
  noted_step (L.joins_unmarked c e) = same refl
  noted_step (L.joins_yellow c e) = same refl
  noted_step (L.leaves m n x e q) = same refl
  noted_step (L.sends q c) = same refl
  noted_step (L.numbers q c) = same refl
  noted_step L.recovers = same refl
