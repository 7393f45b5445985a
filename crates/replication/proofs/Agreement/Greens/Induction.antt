-- The invariant of green lists holds at every place, and with it demand 3.
use Prim.Native.Nat.{ℕ, zero, suc, ◌≤◌, ◌<◌}
use mathlib.Core.Path.{◌≡◌, sym, ap, subst, ◌∙◌}
use mathlib.Core.List.{[]}
use native.Mathlib.Omega.{arith}
use Rattle.base.proofs.Chains.{strong}
use Rattle.base.specs.Lists.{Each}
use Rattle.replication.specs.Machine.Types.{Server, start, no_yellow, cleared_mark}
use Rattle.replication.specs.Machine.Colours.{cut}
use Rattle.replication.specs.Machine.WellFormed.{ids_in}
use Rattle.replication.specs.Images.{started}
use Rattle.replication.specs.Runs.Run.{Run, beginning}
use Rattle.replication.proofs.Runs.Roomy.{Roomy as Allowed}
use Rattle.replication.specs.Runs.Claim.{stored_green, Agreement, Consequences}
use Rattle.replication.proofs.Runs.Places.{world_at_start}
use Rattle.replication.proofs.Runs.ControlPart.{store_grows_between}
use Rattle.replication.proofs.Agreement.Terms.{Image, in_memory, in_store, ExchangeFacts}
use Rattle.replication.proofs.Agreement.Votes.Turns.{ended_last}
use Rattle.replication.proofs.Agreement.Votes.Primaries.{known_primaries}
use Rattle.replication.proofs.Agreement.Lists.Plus.{plus_nil}
use Rattle.replication.proofs.Agreement.Greens.Terms.{greens, plus, Fifo, settled, nothing}
use Rattle.replication.proofs.Agreement.Greens.Parts.{Parts}
use Rattle.replication.proofs.Agreement.Greens.Invariant.{Invariant, UpTo}
use Rattle.replication.proofs.Agreement.Greens.Taking.{same_install_next}
use Rattle.replication.proofs.Agreement.Greens.Reaching.{reached_after}
use Rattle.replication.proofs.Agreement.Greens.Bases.{has_base_after}
use Rattle.replication.proofs.Agreement.Greens.Covering.{base_fifo_after, next_covers_after}
use Rattle.replication.proofs.Agreement.Greens.Answering.{ExchangeCovers, answers_after}
use Rattle.replication.proofs.Agreement.Greens.Ordering.{fifo_nil, no_valid_yellow, fifo_after}
use Rattle.replication.proofs.Agreement.Greens.Entering.{yellow_entered_after}
use Rattle.replication.proofs.Agreement.Greens.Joined.{bits_after}
use Rattle.replication.proofs.Agreement.Greens.Deciding.{decided_covers}
use Rattle.replication.proofs.Agreement.Greens.Claim as C

module _ {n q : ℕ} {l : Run} (A : Allowed n q l) where
  at_start : {s : ℕ} {u : Server} → Image n q l 0 s u → u ≡ start n q s
  unfolding beginning started
  at_start {s} (in_memory h) = ap (λ w. (w.images s).memory) (world_at_start n q l)
  at_start {s} in_store = ap (λ w. (w.images s).store) (world_at_start n q l)

  -- Nothing is green, marked or yellow at the start.
  start_empty : {s : ℕ} {u : Server} → Image n q l 0 s u → (greens u ≡ []) × (u.votes.yellow.status ≡ 0) × (u.votes.mark.status ≡ 0)
  unfolding start no_yellow cleared_mark ids_in
  start_empty y = let e = at_start y in (ap greens e, ap (λ u. u.votes.yellow.status) e, ap (λ u. u.votes.mark.status) e)

  invariant_at_start : Invariant A 0
  invariant_at_start = record {
    reached = λ s u y. settled (nothing (start_empty y).0);
    same_install = λ p r i j c x y h k. absurd (omega arith);
    has_base = λ p i s c u x h y e. absurd (omega arith);
    next_covers = λ p r i j d c e x y h k f m. absurd (omega arith);
    answers = λ p i s d c u x h y e a m. absurd (omega arith);
    bits = λ p i s d c u x y h b. absurd (omega (arith, (start_empty y).2, h.status));
    base_fifo = λ p i c x h. absurd (omega arith);
    fifo = λ s u y. subst (λ z. Fifo z) (sym (ap (plus (greens u)) (no_valid_yellow u (start_empty y).1) ∙ plus_nil (greens u) ∙ (start_empty y).0)) fifo_nil;
    yellow_entered = λ s u y. subst (λ z. Each (λ d. d.index ≤ cut u.log d.creator) z) (sym (no_valid_yellow u (start_empty y).1)) tt;
  }

  module _ (X : ExchangeFacts n q l) (P : Parts A) where
    exchange_covers : {t : ℕ} (U : UpTo A t) → ExchangeCovers A X P U
    exchange_covers U p i s d c e x h y o f a m = decided_covers A X P U x h y o (ap (λ z. z.index) (sym (ended_last y)) ∙ f) d m a

    invariant_next : {t : ℕ} → UpTo A t → Invariant A (suc t)
    invariant_next {t} U = record {
      reached = reached_after A X P U;
      same_install = same_install_next A X P U;
      has_base = λ p i s c u x h y e. has_base_after A X P U x h s u y e;
      next_covers = next_covers_after A X P U;
      answers = λ p i s d c u x h y e a m. answers_after A X P U x h d m (exchange_covers U) s u y e a;
      bits = λ p i s d c u x y h b. bits_after A X P x U s d u y h b;
      base_fifo = base_fifo_after A X P U;
      fifo = fifo_after A X P U;
      yellow_entered = yellow_entered_after A X P U;
    }

    pub invariant : (t : ℕ) → Invariant A t
    invariant = strong (Invariant A) step
      where
        step : (t : ℕ) → ((y : ℕ) → y < t → Invariant A y) → Invariant A t
        step zero below = invariant_at_start
        step (suc t) below = invariant_next (λ y h. below y (omega arith))

    -- ---- demand 3

    pub agreement : Agreement n q l
    agreement = C.agreement A X P invariant

    pub consequences : Consequences n q l
    unfolding stored_green
    consequences = record {
      stored = C.stored_agree A X P invariant;
      later = C.later_agree A X P invariant;
      kept = λ p r i h x. (store_grows_between n q l i p r h).greens;
      known = known_primaries A X;
    }
