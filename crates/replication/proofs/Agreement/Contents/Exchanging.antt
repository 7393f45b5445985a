-- In Exchange_actions, and at the end of the exchange, a server has gained what has come; at the end all that is planned.
use Prim.Native.Nat.{ℕ, suc, ◌≤◌, ◌<◌}
use mathlib.Core.Path.{◌≡◌, refl, sym, ap, subst, ◌∙◌}
use mathlib.Core.Bool.{true}
use native.Mathlib.Omega.{arith}
use native.Mathlib.Decide.{dec_lt}
use Rattle.base.proofs.TestLaws.{not_both}
use Rattle.format.specs.Types.{Action, retransmission, says}
use Rattle.replication.specs.Machine.Types.{Mode, Non_prim, Reg_prim, Trans_prim, Exchange_states, Exchange_actions, Construct, No, Un, Configuration}
use Rattle.replication.proofs.WellFormed.Clauses.{Invariant}
use Rattle.replication.specs.Runs.Run.{Run}
use Rattle.replication.specs.Runs.Happenings.{is_message, Comes, Takes}
use Rattle.replication.proofs.Runs.Roomy.{Roomy as Allowed}
use Rattle.replication.proofs.Runs.Numbers.{numbers, invariant_at}
use Rattle.replication.proofs.Runs.Shifts.{comes_once}
use Rattle.replication.proofs.Runs.AllowedTurns.{memory_at}
use Rattle.replication.proofs.Runs.Memberships.{every_state_in}
use Rattle.replication.proofs.Runs.Stays.{membership_at, in_stay, entering_membership}
use Rattle.replication.proofs.Runs.Progress.{stay_member}
use Rattle.replication.proofs.Agreement.Exchange.Stages.{stage, first_stage, InCom, stage_onward}
use Rattle.replication.proofs.Agreement.Exchange.Retransmissions.{says_resent, resent_late}
use Rattle.replication.proofs.Agreement.Lists.Held.{held_exactly}
use Rattle.replication.proofs.Agreement.Contents.Agreeable.{Agreeable}
use Rattle.replication.proofs.Agreement.Contents.Logs.{LogMove, keeps, places, MemoryStep, still, moved, memory_step, acting, acts_log}
use Rattle.replication.proofs.Agreement.Contents.Sent.{inside_stay, collecting_log}
use Rattle.replication.proofs.Agreement.Contents.Collected.{took_it}
use Rattle.replication.proofs.Agreement.Contents.Come.{Came}
use Rattle.replication.proofs.Agreement.Contents.Gained.{Gained, gained_nothing, gained_still, gained_same, one_more_lem}

-- A server at the first two stages is in the exchange.
pub data Early : Mode → Type 0 where
  collects_states : Early Exchange_states
  collects_actions : Early Exchange_actions

pub early : (m : Mode) → stage m ≤ 1 → Early m
unfolding stage
early Non_prim h = absurd (omega arith)
early Reg_prim h = absurd (omega arith)
early Trans_prim h = absurd (omega arith)
early Exchange_states h = collects_states
early Exchange_actions h = collects_actions
early Construct h = absurd (omega arith)
early No h = absurd (omega arith)
early Un h = absurd (omega arith)

module _ {n q : ℕ} {l : Run} (A : Allowed n q l) (c : Configuration) (p0 i0 : ℕ) (here : InCom n q l p0 i0 c)
    (full : every_state_in (membership_at n q l p0 i0) ≡ true) (t : ℕ) (most : p0 ≤ suc t) (G : Agreeable n q l t c) (i : ℕ) where
  abbrev GainedBy : ℕ → Type 0
  GainedBy y = Gained A c p0 i0 here full t most G (memory_at n q l y i).log y i

  formed : (y : ℕ) → InCom n q l y i c → Invariant (memory_at n q l y i)
  formed y a = (invariant_at n q i A.allowed.sizes (stay_member A i y c a).0 l y).memory

  -- By the end of Exchange_states no retransmission has come.
  none_came : (y : ℕ) → InCom n q l y i c → (membership_at n q l y i).mode ≡ Exchange_states → (k p : ℕ) (a : Action) → Came A c (suc y) i (retransmission k p a) → ⊥
  unfolding stage
  none_came y b h k p a w =
      resent_late A w.place i k p a w.comes c w.inside
      (first_stage _ (omega (arith, stage_onward A i c w.place y w.inside b (omega (arith, w.earlier)), ap stage h)))

  -- What came by now, if nothing came now.
  came_before : {y : ℕ} → ((k p : ℕ) (a : Action) → Comes n q l y i (retransmission k p a) → ⊥) → (k p : ℕ) (a : Action)
      → Came A c (suc y) i (retransmission k p a) → Came A c y i (retransmission k p a)
  came_before {y} f k p a w = go (dec_lt w.place y)
    where
      go : Dec (w.place < y) → Came A c y i (retransmission k p a)
      go (yes h) = record { place = w.place; earlier = h; comes = w.comes; inside = w.inside }
      go (no h) = let e : w.place ≡ y = omega (arith, w.earlier) in absurd (f k p a (subst (λ x. Comes n q l x i (retransmission k p a)) e w.comes))

  module _ (y : ℕ) (a : InCom n q l y i c) (b : InCom n q l (suc y) i c) (late : 1 ≤ stage (membership_at n q l (suc y) i).mode) where
    from_states : (membership_at n q l y i).mode ≡ Exchange_states → MemoryStep A y i → GainedBy (suc y)
    unfolding stage
    from_states h (still m f) = absurd (omega (arith, ap (λ s. stage s.membership.mode) m, ap stage h))
    from_states h (moved x) = go (acts_log A a (omega (arith, ap stage h)) (inside_stay A a b).0 (inside_stay A a b).1 x)
      where
        w : (e : ℕ) × Takes n q l e i c × (e < y)
        w = took_it A a

        start : Gained A c p0 i0 here full t most G (memory_at n q l y i).log (suc y) i
        start =
            gained_same A c p0 i0 here full t most G (collecting_log A w.1 y a h)
            (gained_nothing A c p0 i0 here full t most G w.1 (none_came y a h))

        go : LogMove (memory_at n q l y i) x.by.event x.after → GainedBy (suc y)
        go (keeps u s) =
            subst (λ z. Gained A c p0 i0 here full t most G z.log (suc y) i) (sym x.memory_next) (gained_same A c p0 i0 here full t most G s start)
        go (places k p o u m s) = absurd (omega (arith, ap stage m, ap stage h))

    from_actions : (membership_at n q l y i).mode ≡ Exchange_actions → GainedBy y → MemoryStep A y i → GainedBy (suc y)
    unfolding stage is_message says_resent
    from_actions h g (still m f) =
        subst (λ z. Gained A c p0 i0 here full t most G z.log (suc y) i) (sym m)
        (gained_still A c p0 i0 here full t most G (came_before (λ k p o z. f (retransmission k p o) z refl)) g)
    from_actions h g (moved x) = go (acts_log A a (omega (arith, ap stage h)) (inside_stay A a b).0 (inside_stay A a b).1 x)
      where
        after : Gained A c p0 i0 here full t most G x.after.log (suc y) i → GainedBy (suc y)
        after z = subst (λ s. Gained A c p0 i0 here full t most G s.log (suc y) i) (sym x.memory_next) z

        go : LogMove (memory_at n q l y i) x.by.event x.after → GainedBy (suc y)
        go (keeps u s) =
            after
            (gained_same A c p0 i0 here full t most G s
            (gained_still A c p0 i0 here full t most G
            (came_before (λ k p o z. not_both (sym u ∙ ap (λ r. says_resent (says r)) (comes_once (acting A x) z)))) g))
        go (places k p o e m s) =
            after
            (gained_same A c p0 i0 here full t most G s
            (one_more_lem A c p0 i0 here full t most G (subst (λ r. Comes n q l y i r) e (acting A x)) a (held_exactly _ (formed y a))
            ((formed y a).well_formed_lem.log.cuts_length ∙ (numbers n q i l y).memory.servers) g))

    -- From a place in the exchange to the next.
    pub gained_next : stage (membership_at n q l y i).mode ≤ 1 → ((membership_at n q l y i).mode ≡ Exchange_actions → GainedBy y) → GainedBy (suc y)
    gained_next h g = go (membership_at n q l y i).mode refl (early _ h)
      where
        go : (m : Mode) → (membership_at n q l y i).mode ≡ m → Early m → GainedBy (suc y)
        go m e collects_states = from_states e (memory_step A y i (inside_stay A a b).1)
        go m e collects_actions = from_actions e (g e) (memory_step A y i (inside_stay A a b).1)

  -- In Exchange_actions.
  pub exchanging : (y : ℕ) → InCom n q l y i c → (membership_at n q l y i).mode ≡ Exchange_actions → GainedBy y
  unfolding stage
  exchanging =
      in_stay n q l i c (λ y. (membership_at n q l y i).mode ≡ Exchange_actions → GainedBy y)
      (λ e w h. absurd (omega (arith, ap stage h, ap (λ m. stage m.mode) (entering_membership A e i c w))))
      (λ y a b f g k h. gained_next y a b (omega (arith, ap stage h)) (omega (arith, ap stage h, stage_onward A i c y (suc y) a b (omega arith))) k)

  -- After the exchange's last event.
  pub ended : (y : ℕ) → InCom n q l y i c → InCom n q l (suc y) i c → stage (membership_at n q l y i).mode ≤ 1
      → 1 ≤ stage (membership_at n q l (suc y) i).mode → GainedBy (suc y)
  ended y a b h late = gained_next y a b late h (exchanging y a)
