-- What every transition keeps of a log, once for all facts that entering, greening and numbering keep.
use Prim.Native.Nat.{ℕ, ◌+◌, ◌*◌}
use mathlib.Core.Path.{◌≡◌, refl, sym}
use mathlib.Core.Bool.{Bool, true, false}
use mathlib.Core.List.{List, [], ◌∷◌}
use mathlib.Core.Option.{Option, none, some}
use lib.ListN.{length}
use Rattle.base.specs.Tests.{◌and◌, ◌=?◌, ◌≤?◌, pick}
use Rattle.base.proofs.TestLaws.{pick_as, eq_holds, Known, holds, fails, known}
use Rattle.format.specs.Types.{Id, Action, Record}
use Rattle.replication.specs.Machine.Types.{Log, Server, with_log, with_votes, with_own, with_sent}
use Rattle.replication.specs.Machine.Colours.{find, cut, next_index, is_next, enter, red, reds, promote, promote_found, green_id, green_ids, green, join_yellow, yellow}
use Rattle.replication.specs.Machine.Install.{install_log, install}
use Rattle.replication.specs.Machine.Requests.{numbered, made_of, send_waiting, recovered}
use Rattle.replication.specs.Machine.Step.{entering, decided, attempting, with_state, resending, placed, one_more, exchanged, with_cpc, leave, green_and_note}
use Rattle.replication.specs.Laws.Transitions as L
use Rattle.replication.specs.Laws.Transitions.{Ends, Transition}

-- ---- what each colour does to a log

-- An entered action has the index after its creator's cut.
pub next_index_lem : (l : Log) (a : Action) → is_next l a ≡ true → a.id.index ≡ cut l a.id.creator + 1
unfolding is_next next_index
next_index_lem l a e = eq_holds a.id.index (cut l a.id.creator + 1) e

pub red_entered : (a : Action) (l : Log) → is_next l a ≡ true → red a l ≡ enter a l
unfolding red pick
red_entered a l e = rw e

pub red_ignored : (a : Action) (l : Log) → is_next l a ≡ false → red a l ≡ l
unfolding red pick
red_ignored a l e = rw e

-- Yellow, by cases.
pub yellow_as : (P : Server → Type 0) (a : Action) (s : Server)
    → (is_next s.log a ≡ true → P (with_votes (join_yellow (s.servers * s.quota) a.id s.votes) (with_log (enter a s.log) s))) → (is_next s.log a ≡ false → P s) → P (yellow a s)
unfolding yellow
yellow_as P a s entered ignored = pick_as P (is_next s.log a) _ s entered ignored

-- The log of a server that colours an action yellow is as if red.
pub yellow_log : (a : Action) (s : Server) → (yellow a s).log ≡ red a s.log
yellow_log a s = yellow_as (λ t. t.log ≡ red a s.log) a s (λ e. sym (red_entered a s.log e)) (λ e. sym (red_ignored a s.log e))

-- What a retransmission does to a log, by cases.
pub placed_as : (P : Log → Type 0) (k : ℕ) (a : Action) (l : Log) → P (green a l) → P l → P (red a l) → P (placed k a l)
unfolding placed pick
placed_as P k a l g i r = go (k =? length l.green + 1) (1 ≤? k and k ≤? length l.green)
  where
    go : (t u : Bool) → P (pick t (green a l) (pick u l (red a l)))
    go true u = g
    go false true = i
    go false false = r

module _ (P : Log → Type 0)
    (on_enter : (a : Action) (l : Log) → is_next l a ≡ true → P l → P (enter a l))
    (on_promote : (d : Id) (x : Action) (l : Log) → find d l.red ≡ some x → P l → P (promote x l))
  where
    pub on_red : (a : Action) (l : Log) → P l → P (red a l)
    on_red a l p = go (known (is_next l a))
      where
        go : Known (is_next l a) → P (red a l)
        go (holds e) = rw (red_entered a l e) (on_enter a l e p)
        go (fails e) = rw (red_ignored a l e) p

    pub on_reds : (more : List Action) (l : Log) → P l → P (reds more l)
    unfolding reds
    on_reds [] l p = p
    on_reds (a ∷ more) l p = on_reds more (red a l) (on_red a l p)

    pub on_green_id : (d : Id) (l : Log) → P l → P (green_id d l)
    unfolding green_id promote_found
    on_green_id d l p = go (find d l.red) refl
      where
        go : (x : Option Action) → find d l.red ≡ x → P (promote_found x l)
        go none e = p
        go (some x) e = on_promote d x l e p

    pub on_green_ids : (ds : List Id) (l : Log) → P l → P (green_ids ds l)
    unfolding green_ids
    on_green_ids [] l p = p
    on_green_ids (d ∷ ds) l p = on_green_ids ds (green_id d l) (on_green_id d l p)

    pub on_green : (a : Action) (l : Log) → P l → P (green a l)
    unfolding green
    on_green a l p = on_green_id a.id (red a l) (on_red a l p)

    pub on_install : (ds : List Id) (l : Log) → P l → P (install_log ds l)
    unfolding install_log
    on_install ds l p = on_green_ids _ (green_ids ds l) (on_green_ids ds l p)

    pub on_placed : (k : ℕ) (a : Action) (l : Log) → P l → P (placed k a l)
    on_placed k a l p = placed_as P k a l (on_green a l p) p (on_red a l p)

    module _ (on-own : (a : Action) (l : Log) → P l → P (with_own a l)) (on-sent : (k : ℕ) (l : Log) → P l → P (with_sent k l)) where
      pub on_numbered : (p : List ℕ) (s : Server) → P s.log → P (numbered p s).log
      unfolding numbered send_waiting
      on_numbered p s h = on-own (made_of p s) s.log h

      pub on_waiting : (s : Server) → P s.log → P (send_waiting s).log
      unfolding send_waiting
      on_waiting s h = on-sent s.log.numbered s.log h

      on_end : (t u : Server) (rs : List Record) → Ends t u rs → P t.log → P u.log
      unfolding attempting decided
      on_end t u rs (L.with_quorum q) p = p
      on_end t u rs (L.without_quorum q) p = on_waiting _ p

      pub on_transition : (s : Server) (r : Record) (t : Server) (rs : List Record) (b : Bool) → Transition s r t rs b → P s.log → P t.log
      unfolding green_and_note install exchanged one_more with_state resending with_cpc entering leave recovered
      on_transition s r t rs b (L.ignores_state x e) p = p
      on_transition s r t rs b (L.ignores_cpc k i e) p = p
      on_transition s r t rs b (L.reddens a e) p = on_red a s.log p
      on_transition s r t rs b (L.reddens_resent k i a e) p = on_red a s.log p
      on_transition s r t rs b (L.reddens_in_exchange a e) p = on_red a s.log p
      on_transition s r t rs b (L.greens a e) p = on_green a s.log p
      on_transition s r t rs b (L.yellows a e) p = rw (yellow_log a s) (on_red a s.log p)
      on_transition s r t rs b (L.installs_late a e) p = rw (yellow_log a (install s)) (on_red a _ (on_install s.votes.yellow.ids s.log p))
      on_transition s r t rs b (L.exchanges k i a e c) p = on_placed i a s.log p
      on_transition s r t rs b (L.exchanges_last k i a u us e c x) p = on_end (exchanged i a s) u us x (on_placed i a s.log p)
      on_transition s r t rs b (L.collects x e c) p = p
      on_transition s r t rs b (L.collects_last x e c d) p = p
      on_transition s r t rs b (L.collects_whole x u us e c d y) p = on_end (with_state x s) u us y p
      on_transition s r t rs b (L.counts k i e c) p = p
      on_transition s r t rs b (L.installs k i e c) p = on_waiting _ (on_install s.votes.yellow.ids s.log p)
      on_transition s r t rs b (L.counts_late k i e c) p = p
      on_transition s r t rs b (L.counts_all_late k i e c) p = p
      on_transition s r t rs b (L.joins c e) p = p
      on_transition s r t rs b (L.joins_marked c e) p = p
      on_transition s r t rs b (L.joins_unmarked c e) p = p
      on_transition s r t rs b (L.joins_yellow c e) p = p
      on_transition s r t rs b (L.leaves m n x e q) p = p
      on_transition s r t rs b (L.sends q c) p = on_waiting (numbered q s) (on_numbered q s p)
      on_transition s r t rs b (L.numbers q c) p = on_numbered q s p
      on_transition s r t rs b L.recovers p = on_reds s.log.own s.log p
