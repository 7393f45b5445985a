-- In every state that a run reaches the held actions of each creator, white ones too, are those from 1 to its cut, each once.
use Prim.Native.Nat.{ℕ, ◌+◌, ◌≤◌, ◌<◌}
use mathlib.Core.Path.{◌≡◌, refl, sym, ap, subst, ◌∙◌}
use mathlib.Core.Bool.{Bool}
use mathlib.Core.List.{List, [], ◌∷◌, ◌++◌}
use native.Mathlib.Omega.{arith}
use lib.ListN.{length, get_or, length-set}
use Rattle.base.specs.Tests.{◌and◌, ◌=?◌, ◌≤?◌}
use Rattle.base.proofs.TestLaws.{pick_either, Known, holds, fails, known}
use Rattle.base.specs.Lists.{Each}
use Rattle.format.specs.Types.{Id, Action, Record}
use Rattle.replication.specs.Machine.Types.{Log, Server}
use Rattle.replication.specs.Machine.Colours.{cut, is_next, enter, red, reds, promote, green_id, green_ids, green}
use Rattle.replication.specs.Machine.Install.{install_log, install}
use Rattle.replication.specs.Machine.Requests.{numbered, send_waiting, recovered}
use Rattle.replication.specs.Machine.Step.{entering, decided, attempting, with_state, resending, placed, one_more, exchanged, with_cpc, leave, green_and_note}
use Rattle.replication.specs.Machine.WellFormed.{ids_in, queue}
use Rattle.replication.specs.Machine.WellFormedRanges.{id_count}
use Rattle.replication.specs.Laws.Transitions as L
use Rattle.replication.specs.Laws.Transitions.{Ends, Transition}
use Rattle.replication.proofs.Step.Logs.{red_entered, red_ignored, next_index_lem, yellow_log}
use Rattle.replication.proofs.WellFormed.Clauses.{held_count, Whole}
use Rattle.replication.proofs.WellFormed.Ids.{SameId, same, other, same-id?}
use Rattle.replication.proofs.WellFormed.Held.{held_enter, CutAfter, risen, left, cut-after?, Greened, unmoved, moved, greened?}
use Rattle.replication.proofs.WellFormed.Logs.{beyond_none}
use Rattle.replication.proofs.Runs.LogActions.{carried}

-- ---- a fact of logs that every transition keeps

-- Entering a server's action keeps it.
abbrev pub KeptByEntering : ℕ → (Log → Type 0) → Type 0
KeptByEntering n P = (a : Action) (l : Log) → P l → a.id.creator < n → a.id.index ≡ cut l a.id.creator + 1 → P (enter a l)

-- Logs that hold as often, to the same cuts, have it both.
abbrev pub KeptByHolding : (Log → Type 0) → Type 0
KeptByHolding P = (l m : Log) → m.cuts ≡ l.cuts → ((d : Id) → held_count d m ≡ held_count d l) → P l → P m

module _ (n : ℕ) (P : Log → Type 0) (enters : KeptByEntering n P) (same : KeptByHolding P) where
  red_kept : (a : Action) (l : Log) → a.id.creator < n → P l → P (red a l)
  red_kept a l c f = go (known (is_next l a))
    where
      go : Known (is_next l a) → P (red a l)
      go (holds e) = subst P (sym (red_entered a l e)) (enters a l f c (next_index_lem l a e))
      go (fails e) = subst P (sym (red_ignored a l e)) f

  reds_kept : (more : List Action) (l : Log) → Each (λ a. a.id.creator < n) more → P l → P (reds more l)
  unfolding reds
  reds_kept [] l c f = f
  reds_kept (a ∷ more) l c f = reds_kept more (red a l) c.1 (red_kept a l c.0 f)

  promote_kept : (x : Action) (l : Log) → ((e : Id) → held_count e (promote x l) ≡ held_count e l) → P l → P (promote x l)
  unfolding promote
  promote_kept x l kept f = same l (promote x l) refl kept f

  green_id_kept : (d : Id) (l : Log) → P l → P (green_id d l)
  green_id_kept d l f = go (greened? d l)
    where
      go : Greened d l → P (green_id d l)
      go (unmoved e) = rw e f
      go (moved x r e kept) = rw e (promote_kept x l kept f)

  green_ids_kept : (ds : List Id) (l : Log) → P l → P (green_ids ds l)
  unfolding green_ids
  green_ids_kept [] l f = f
  green_ids_kept (d ∷ ds) l f = green_ids_kept ds (green_id d l) (green_id_kept d l f)

  green_kept : (a : Action) (l : Log) → a.id.creator < n → P l → P (green a l)
  unfolding green
  green_kept a l c f = green_id_kept a.id (red a l) (red_kept a l c f)

  pub install_kept : (ds : List Id) (l : Log) → P l → P (install_log ds l)
  unfolding install_log
  install_kept ds l f = green_ids_kept _ (green_ids ds l) (green_ids_kept ds l f)

  placed_kept : (p : ℕ) (a : Action) (l : Log) → a.id.creator < n → P l → P (placed p a l)
  unfolding placed
  placed_kept p a l c f =
      pick_either P (p =? length l.green + 1) (green a l) _ (green_kept a l c f)
      (pick_either P (1 ≤? p and p ≤? length l.green) l (red a l) f (red_kept a l c f))

  same_kept : (s : Server) (t : Server) → t.log.green ≡ s.log.green → t.log.red ≡ s.log.red → t.log.cuts ≡ s.log.cuts → P s.log → P t.log
  unfolding queue
  same_kept s t g r c f = same s.log t.log c (λ d. (λ i. id_count d (ids_in (g i ++ r i)))) f

  end_kept : (t u : Server) (rs : List Record) → Ends t u rs → P t.log → P u.log
  unfolding attempting decided send_waiting
  end_kept t u rs (L.with_quorum c) f = f
  end_kept t u rs (L.without_quorum c) f = same_kept t u refl refl refl f

  pub kept_after_lem : {s : Server} {r : Record} {t : Server} {rs : List Record} {b : Bool} → Transition s r t rs b → Each (λ a. a.id.creator < n) (carried r)
      → Each (λ a. a.id.creator < n) s.log.own → P s.log → P t.log
  unfolding green_and_note install exchanged one_more with_state resending with_cpc entering leave recovered numbered send_waiting
  kept_after_lem (L.ignores_state x e) q o f = f
  kept_after_lem (L.ignores_cpc k i e) q o f = f
  kept_after_lem {s} (L.reddens a e) q o f = red_kept a s.log q.0 f
  kept_after_lem {s} (L.reddens_resent k i a e) q o f = red_kept a s.log q.0 f
  kept_after_lem {s} (L.reddens_in_exchange a e) q o f = red_kept a s.log q.0 f
  kept_after_lem {s} (L.greens a e) q o f = green_kept a s.log q.0 f
  kept_after_lem {s} (L.yellows a e) q o f = subst P (sym (yellow_log a s)) (red_kept a s.log q.0 f)
  kept_after_lem {s} (L.installs_late a e) q o f = subst P (sym (yellow_log a (install s))) (red_kept a _ q.0 (install_kept s.votes.yellow.ids s.log f))
  kept_after_lem {s} (L.exchanges k i a e c) q o f = placed_kept i a s.log q.0 f
  kept_after_lem {s} (L.exchanges_last k i a u us e c x) q o f = end_kept (exchanged i a s) u us x (placed_kept i a s.log q.0 f)
  kept_after_lem (L.collects x e c) q o f = f
  kept_after_lem (L.collects_last x e c d) q o f = f
  kept_after_lem {s} (L.collects_whole x u us e c d y) q o f = end_kept (with_state x s) u us y f
  kept_after_lem (L.counts k i e c) q o f = f
  kept_after_lem {s} {t = t} (L.installs k i e c) q o f = same_kept (install (with_cpc k s)) t refl refl refl (install_kept s.votes.yellow.ids s.log f)
  kept_after_lem (L.counts_late k i e c) q o f = f
  kept_after_lem (L.counts_all_late k i e c) q o f = f
  kept_after_lem (L.joins c e) q o f = f
  kept_after_lem (L.joins_marked c e) q o f = f
  kept_after_lem (L.joins_unmarked c e) q o f = f
  kept_after_lem (L.joins_yellow c e) q o f = f
  kept_after_lem (L.leaves m n x e y) q o f = f
  kept_after_lem {s} {t = t} (L.sends p c) q o f = same_kept s t refl refl refl f
  kept_after_lem {s} {t = t} (L.numbers p c) q o f = same_kept s t refl refl refl f
  kept_after_lem {s} L.recovers q o f = reds_kept s.log.own s.log o f

-- ---- what is held

-- With cuts of n creators.
pub record WholeOf (n : ℕ) (l : Log) : Type 0 where
  pub long : length l.cuts ≡ n
  pub whole : Whole l

-- The action with the id d is held if it was entered.
pub record HeldOf (n : ℕ) (d : Id) (l : Log) : Type 0 where
  pub long : length l.cuts ≡ n
  pub held : d.index ≤ cut l d.creator → 1 ≤ held_count d l

-- What is held beside the ids ws was entered.
pub record WithinBeside (n : ℕ) (ws : List Id) (l : Log) : Type 0 where
  pub long : length l.cuts ≡ n
  pub within : (d : Id) → id_count d ws < held_count d l → d.index ≤ cut l d.creator

module _ (n : ℕ) where
  module _ (a : Action) (l : Log) (long : length l.cuts ≡ n) (creator : a.id.creator < n) (next : a.id.index ≡ cut l a.id.creator + 1) where
    enters : a.id.creator < length l.cuts
    enters = omega (arith, long)

    long_after : length (enter a l).cuts ≡ n
    unfolding enter
    long_after = length-set l.cuts a.id.creator a.id.index ∙ long

    complete : (d : Id) → (d.index ≤ cut l d.creator → 1 ≤ held_count d l) → d.index ≤ cut (enter a l) d.creator → 1 ≤ held_count d (enter a l)
    complete d f high = go (same-id? d a.id) (cut-after? a l d.creator enters)
      where
        go : SameId d a.id → CutAfter a l d.creator → 1 ≤ held_count d (enter a l)
        go (same e p i t u) c = omega (arith, held_enter a l d)
        go (other m t u) (risen c k) =
            let apart : d.index ≡ a.id.index → ⊥ = m c in
            omega (arith, held_enter a l d, f (omega (arith, ap (cut l) c)))
        go (other m t u) (left c k) = omega (arith, held_enter a l d, f (omega arith))

    within_after : (d : Id) (k : ℕ) → (k < held_count d l → d.index ≤ cut l d.creator) → k < held_count d (enter a l) → d.index ≤ cut (enter a l) d.creator
    within_after d k f h = go (same-id? d a.id) (cut-after? a l d.creator enters)
      where
        go : SameId d a.id → CutAfter a l d.creator → d.index ≤ cut (enter a l) d.creator
        go (same e p i t u) (risen c z) = omega arith
        go (same e p i t u) (left c z) = absurd (c p)
        go (other m t u) (risen c z) = omega (arith, f (omega (arith, held_enter a l d)), ap (cut l) c)
        go (other m t u) (left c z) = omega (arith, f (omega (arith, held_enter a l d)))

  module _ (a : Action) (l : Log) (f : WholeOf n l) (creator : a.id.creator < n) (next : a.id.index ≡ cut l a.id.creator + 1) where
    pub enter_whole : WholeOf n (enter a l)
    enter_whole = record {
      long = long_after a l f.long creator next;
      whole = record {
        least = least;
        once = once;
        held_to_cuts = record { within = within; entered = λ d low high. complete a l f.long creator next d (f.whole.held_to_cuts.entered d low) high };
      };
    }
      where
        least : (d : Id) → 1 ≤ held_count d (enter a l) → 1 ≤ d.index
        least d h = go (same-id? d a.id)
          where
            go : SameId d a.id → 1 ≤ d.index
            go (same e p i t u) = omega arith
            go (other m t u) = f.whole.least d (omega (arith, held_enter a l d))

        once : (d : Id) → held_count d (enter a l) ≤ 1
        once d = go (same-id? d a.id)
          where
            go : SameId d a.id → held_count d (enter a l) ≤ 1
            go (same e p i t u) = omega (arith, held_enter a l d, beyond_none l f.whole.held_to_cuts.within d (omega (arith, ap (cut l) p)))
            go (other m t u) = omega (arith, held_enter a l d, f.whole.once d)

        within : (d : Id) → 1 ≤ held_count d (enter a l) → d.index ≤ cut (enter a l) d.creator
        within d h = within_after a l f.long creator next d 0 (λ z. f.whole.held_to_cuts.within d (omega arith)) (omega arith)

  pub held_whole : (l m : Log) → m.cuts ≡ l.cuts → ((d : Id) → held_count d m ≡ held_count d l) → WholeOf n l → WholeOf n m
  unfolding cut
  held_whole l m c kept f = record {
    long = ap length c ∙ f.long;
    whole = record {
      least = λ d h. f.whole.least d (omega (arith, kept d));
      once = λ d. omega (arith, kept d, f.whole.once d);
      held_to_cuts = record {
        within = λ d h. omega (arith, f.whole.held_to_cuts.within d (omega (arith, kept d)), ap (λ z. get_or z d.creator 0) c);
        entered = λ d low high. omega (arith, kept d, f.whole.held_to_cuts.entered d low (omega (arith, ap (λ z. get_or z d.creator 0) c)));
      };
    };
  }

  pub install_whole : (ds : List Id) (l : Log) → WholeOf n l → WholeOf n (install_log ds l)
  install_whole = install_kept n (WholeOf n) (λ a l p c h. enter_whole a l p c h) held_whole

  -- Of one action.
  pub enter_held : (d : Id) (a : Action) (l : Log) → HeldOf n d l → a.id.creator < n → a.id.index ≡ cut l a.id.creator + 1 → HeldOf n d (enter a l)
  enter_held d a l f c h = record { long = long_after a l f.long c h; held = complete a l f.long c h d f.held }

  pub held_held : (d : Id) (l m : Log) → m.cuts ≡ l.cuts → ((e : Id) → held_count e m ≡ held_count e l) → HeldOf n d l → HeldOf n d m
  unfolding cut
  held_held d l m c kept f =
      record { long = ap length c ∙ f.long; held = λ high. omega (arith, kept d, f.held (omega (arith, ap (λ z. get_or z d.creator 0) c))) }

  -- Beside some.
  pub enter_beside : (ws : List Id) (a : Action) (l : Log) → WithinBeside n ws l → a.id.creator < n → a.id.index ≡ cut l a.id.creator + 1
      → WithinBeside n ws (enter a l)
  enter_beside ws a l f c h =
      record { long = long_after a l f.long c h; within = λ d. within_after a l f.long c h d (id_count d ws) (f.within d) }

  pub held_beside : (ws : List Id) (l m : Log) → m.cuts ≡ l.cuts → ((e : Id) → held_count e m ≡ held_count e l) → WithinBeside n ws l → WithinBeside n ws m
  unfolding cut
  held_beside ws l m c kept f =
      record { long = ap length c ∙ f.long; within = λ d h. omega (arith, f.within d (omega (arith, kept d)), ap (λ z. get_or z d.creator 0) c) }
