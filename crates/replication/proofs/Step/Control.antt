-- The control part (last primary, attempt, mark, numbered, sent) changes only in events that store, so memory and store agree on it.
use Prim.Native.Nat.{ℕ}
use mathlib.Core.Path.{◌≡◌, refl, sym, ap, subst, ◌∙◌}
use mathlib.Core.Bool.{false}
use mathlib.Core.List.{List}
use mathlib.Core.Option.{Option}
use Rattle.format.specs.Types.{Action, Record}
use Rattle.replication.specs.Machine.Types.{Server, taken, with_white}
use Rattle.replication.specs.Machine.Colours.{enter, join_yellow, yellow}
use Rattle.replication.specs.Machine.Step.{with_state, resending, one_more, exchanged, with_cpc, leave, green_and_note, step}
use Rattle.replication.specs.Images.{started, lived}
use Rattle.replication.specs.Laws.Transitions as L
use Rattle.replication.specs.Laws.Transitions.{Transition}
use Rattle.replication.specs.Laws.Order.{SameControl, SameNumbers}
use Rattle.replication.proofs.Step.Inversion.{taken_by}
use Rattle.replication.proofs.Step.Moves.{moved}
use Rattle.replication.proofs.Step.Logs.{yellow_as}
use Rattle.replication.proofs.Step.Numbered.{same_numbers, numbers_red, numbers_green, numbers_placed}
use Rattle.replication.proofs.Step.Lifts.{lived_pair}

-- ---- one event

pub same : {s t : Server} → t.votes ≡ s.votes → SameNumbers s.log t.log → SameControl s t
same p q = record { last = ap (λ v. v.last) p; attempt = ap (λ v. v.attempt) p; mark = ap (λ v. v.mark) p; numbered = q.numbered; sent = q.sent }

pub control_refl : (s : Server) → SameControl s s
control_refl s = same refl (same_numbers _)

pub control_trans : {s t u : Server} → SameControl s t → SameControl t u → SameControl s u
control_trans p q = record { last = q.last ∙ p.last; attempt = q.attempt ∙ p.attempt; mark = q.mark ∙ p.mark; numbered = q.numbered ∙ p.numbered; sent = q.sent ∙ p.sent }

pub control_yellow : (a : Action) (s : Server) → SameControl s (yellow a s)
unfolding join_yellow enter
control_yellow a s = yellow_as (SameControl s) a s (λ e. record { last = refl; attempt = refl; mark = refl; numbered = refl; sent = refl }) (λ e. control_refl s)

pub yellow_membership : (a : Action) (s : Server) → (yellow a s).membership ≡ s.membership
yellow_membership a s = yellow_as (λ t. t.membership ≡ s.membership) a s (λ e. refl) (λ e. refl)

pub unstored_keeps : {s : Server} {r : Record} {t : Server} {rs : List Record} → Transition s r t rs false → SameControl s t
unfolding green_and_note exchanged one_more with_state resending with_cpc leave
unstored_keeps {s} (L.ignores_state x e) = control_refl s
unstored_keeps {s} (L.ignores_cpc k i e) = control_refl s
unstored_keeps {s} (L.reddens a e) = same refl (numbers_red a s.log)
unstored_keeps {s} (L.reddens_resent k i a e) = same refl (numbers_red a s.log)
unstored_keeps {s} (L.reddens_in_exchange a e) = same refl (numbers_red a s.log)
unstored_keeps {s} (L.greens a e) = same refl (numbers_green a s.log)
unstored_keeps {s} (L.yellows a e) = control_yellow a s
unstored_keeps {s} (L.exchanges k i a e c) = same refl (numbers_placed i a s.log)
unstored_keeps {s} (L.collects x e c) = same refl (same_numbers _)
unstored_keeps {s} (L.collects_last x e c d) = same refl (same_numbers _)
unstored_keeps {s} (L.counts k i e c) = same refl (same_numbers _)
unstored_keeps {s} (L.counts_late k i e c) = same refl (same_numbers _)
unstored_keeps {s} (L.counts_all_late k i e c) = same refl (same_numbers _)
unstored_keeps {s} (L.leaves m n x e q) = same refl (same_numbers _)

pub control_raised : {s t : Server} (w : ℕ) → SameControl s t → SameControl s (with_white w t)
control_raised w k = record { last = k.last; attempt = k.attempt; mark = k.mark; numbered = k.numbered; sent = k.sent }

-- An event that does not store leaves the control part.
pub unstored_control : (s : Server) (e : List ℕ) (t : Server) (bs : List (List ℕ)) (g : List Action) → step s e ≡ taken t bs false g → SameControl s t
unstored_control s e t bs g h = let x = taken_by s e t bs false g h in subst (λ u. SameControl s u) (sym x.raise) (control_raised _ (unstored_keeps (moved x).0))

-- ---- over a run

pub control_stored : (s : Server) (es : List (Option (List ℕ))) → SameControl (lived (started s) es).store (lived (started s) es).memory
unfolding started
control_stored s es = lived_pair SameControl control_refl (λ u v e t bs g h p. control_trans p (unstored_control v e t bs g h)) (started s) es (control_refl s)
