-- The actions in a log: after a taken event each was there before, came with the event's record, or was made of the event's request.
use Prim.Native.Nat.{ℕ, ◌+◌}
use mathlib.Core.Path.{◌≡◌, refl, sym, subst}
use mathlib.Core.Bool.{Bool}
use mathlib.Core.List.{List, [], ◌∷◌, Memᴰ}
use mathlib.Core.Option.{Option, none, some}
use lib.ListN.{length}
use Rattle.base.specs.Tests.{◌=?◌, ◌≤?◌, ◌and◌}
use Rattle.base.proofs.TestLaws.{pick_either, Known, holds, fails, known}
use Rattle.base.specs.Lists.{Each}
use Rattle.base.proofs.ListLaws.{each_append, each_implied}
use Rattle.format.specs.Types.{Id, Action, Record, action, retransmission, state, cpc, regular, transitional, request, recovery}
use Rattle.replication.specs.Machine.Types.{Non_prim, Reg_prim, Log, Server, in_mode}
use Rattle.replication.specs.Machine.Colours.{find, is_next, enter, red, reds, promote, promote_found, green_id, green_ids, green}
use Rattle.replication.specs.Machine.Install.{install_log, install}
use Rattle.replication.specs.Machine.Requests.{made_of, numbered, send_waiting, recovered}
use Rattle.replication.specs.Machine.Step.{entering, decided, attempting, with_state, resending, placed, one_more, exchanged, with_cpc, leave, green_and_note}
use Rattle.replication.specs.Laws.Transitions as L
use Rattle.replication.specs.Laws.Transitions.{Ends, Transition}
use Rattle.replication.proofs.Step.Logs.{red_entered, red_ignored, yellow_log}
use Rattle.replication.proofs.WellFormed.Held.{found_fact, each_remove}

-- Each action of the log, held or on the own list.
pub record EachIn (Q : Action → Type 0) (l : Log) : Type 0 where
  pub green : Each Q l.green
  pub red : Each Q l.red
  pub own : Each Q l.own

-- The action that a record carries, if any.
abbrev pub carried : Record → List Action
carried (action a) = a ∷ []
carried (retransmission k p a) = a ∷ []
carried (state x) = []
carried (cpc k i) = []
carried (regular i c) = []
carried (transitional c) = []
carried (request p) = []
carried recovery = []

pub each_of : {A : Type 0} (P : A → Type 0) (xs : List A) → ((x : A) → Memᴰ x xs → P x) → Each P xs
each_of P [] f = tt
each_of P (x ∷ xs) f = (f x (Memᴰ.head refl), each_of P xs (λ y m. f y (Memᴰ.tail m)))

pub each_in : {A : Type 0} (P : A → Type 0) (xs : List A) → Each P xs → (x : A) → Memᴰ x xs → P x
each_in {A = A} P [] h x x4 = elim x4 [ ]
each_in P (y ∷ xs) h x (Memᴰ.head e) = subst P (sym e) h.0
each_in P (y ∷ xs) h x (Memᴰ.tail m) = each_in P xs h.1 x m

module _ (Q : Action → Type 0) where
  each_enter : (a : Action) (l : Log) → Q a → EachIn Q l → EachIn Q (enter a l)
  unfolding enter
  each_enter a l q h = record { green = h.green; red = each_append Q l.red (a ∷ []) h.red (q, tt); own = each_remove Q a.id l.own h.own }

  each_red : (a : Action) (l : Log) → Q a → EachIn Q l → EachIn Q (red a l)
  each_red a l q h = go (known (is_next l a))
    where
      go : Known (is_next l a) → EachIn Q (red a l)
      go (holds e) = subst (EachIn Q) (sym (red_entered a l e)) (each_enter a l q h)
      go (fails e) = subst (EachIn Q) (sym (red_ignored a l e)) h

  each_reds : (more : List Action) (l : Log) → Each Q more → EachIn Q l → EachIn Q (reds more l)
  unfolding reds
  each_reds [] l q h = h
  each_reds (a ∷ more) l q h = each_reds more (red a l) q.1 (each_red a l q.0 h)

  each_green_id : (d : Id) (l : Log) → EachIn Q l → EachIn Q (green_id d l)
  unfolding green_id promote_found promote
  each_green_id d l h = go (find d l.red) refl
    where
      go : (x : Option Action) → find d l.red ≡ x → EachIn Q (promote_found x l)
      go none e = h
      go (some x) e = record {
        green = each_append Q l.green (x ∷ []) h.green (found_fact Q d l.red x h.red e, tt);
        red = each_remove Q x.id l.red h.red;
        own = h.own;
      }

  each_green_ids : (ds : List Id) (l : Log) → EachIn Q l → EachIn Q (green_ids ds l)
  unfolding green_ids
  each_green_ids [] l h = h
  each_green_ids (d ∷ ds) l h = each_green_ids ds (green_id d l) (each_green_id d l h)

  each_green : (a : Action) (l : Log) → Q a → EachIn Q l → EachIn Q (green a l)
  unfolding green
  each_green a l q h = each_green_id a.id (red a l) (each_red a l q h)

  each_install : (ds : List Id) (l : Log) → EachIn Q l → EachIn Q (install_log ds l)
  unfolding install_log
  each_install ds l h = each_green_ids _ (green_ids ds l) (each_green_ids ds l h)

  each_placed : (p : ℕ) (a : Action) (l : Log) → Q a → EachIn Q l → EachIn Q (placed p a l)
  unfolding placed
  each_placed p a l q h =
      pick_either (EachIn Q) (p =? length l.green + 1) (green a l) _ (each_green a l q h)
      (pick_either (EachIn Q) (1 ≤? p and p ≤? length l.green) l (red a l) h (each_red a l q h))

  each_numbered : (p : List ℕ) (s : Server) → Q (made_of p s) → EachIn Q s.log → EachIn Q (numbered p s).log
  unfolding numbered send_waiting
  each_numbered p s f h = record { green = h.green; red = h.red; own = each_append Q s.log.own (made_of p s ∷ []) h.own (f, tt) }

  each_waiting : (s : Server) → EachIn Q s.log → EachIn Q (send_waiting s).log
  unfolding send_waiting
  each_waiting s h = record { green = h.green; red = h.red; own = h.own }

  each_end : (t u : Server) (rs : List Record) → Ends t u rs → EachIn Q t.log → EachIn Q u.log
  unfolding attempting decided
  each_end t u rs (L.with_quorum c) h = h
  each_end t u rs (L.without_quorum c) h = each_waiting (in_mode Non_prim (decided t)) h

  pub each_after : {s : Server} {r : Record} {t : Server} {rs : List Record} {b : Bool} → Transition s r t rs b → EachIn Q s.log → Each Q (carried r)
      → ((p : List ℕ) → r ≡ request p → Q (made_of p s)) → EachIn Q t.log
  unfolding green_and_note install exchanged one_more with_state resending with_cpc entering leave recovered
  each_after (L.ignores_state x e) h q f = h
  each_after (L.ignores_cpc k i e) h q f = h
  each_after {s} (L.reddens a e) h q f = each_red a s.log q.0 h
  each_after {s} (L.reddens_resent k i a e) h q f = each_red a s.log q.0 h
  each_after {s} (L.reddens_in_exchange a e) h q f = each_red a s.log q.0 h
  each_after {s} (L.greens a e) h q f = each_green a s.log q.0 h
  each_after {s} (L.yellows a e) h q f = subst (EachIn Q) (sym (yellow_log a s)) (each_red a s.log q.0 h)
  each_after {s} (L.installs_late a e) h q f =
      subst (EachIn Q) (sym (yellow_log a (install s))) (each_red a _ q.0 (each_install s.votes.yellow.ids s.log h))
  each_after {s} (L.exchanges k i a e c) h q f = each_placed i a s.log q.0 h
  each_after {s} (L.exchanges_last k i a u us e c x) h q f = each_end (exchanged i a s) u us x (each_placed i a s.log q.0 h)
  each_after (L.collects x e c) h q f = h
  each_after (L.collects_last x e c d) h q f = h
  each_after {s} (L.collects_whole x u us e c d y) h q f = each_end (with_state x s) u us y h
  each_after (L.counts k i e c) h q f = h
  each_after {s} (L.installs k i e c) h q f =
      each_waiting (in_mode Reg_prim (install (with_cpc k s))) (each_install s.votes.yellow.ids s.log h)
  each_after (L.counts_late k i e c) h q f = h
  each_after (L.counts_all_late k i e c) h q f = h
  each_after (L.joins c e) h q f = h
  each_after (L.joins_marked c e) h q f = h
  each_after (L.joins_unmarked c e) h q f = h
  each_after (L.joins_yellow c e) h q f = h
  each_after (L.leaves m n x e y) h q f = h
  each_after {s} (L.sends p c) h q f = each_waiting (numbered p s) (each_numbered p s (f p refl) h)
  each_after {s} (L.numbers p c) h q f = each_numbered p s (f p refl) h
  each_after {s} L.recovers h q f = each_reds s.log.own s.log h.own h

  pub each_recovered : (s : Server) → EachIn Q s.log → EachIn Q (recovered s).log
  unfolding recovered
  each_recovered s h = each_reds s.log.own s.log h.own h

pub each_in_implied : (P Q : Action → Type 0) → ((a : Action) → P a → Q a) → (l : Log) → EachIn P l → EachIn Q l
each_in_implied P Q f l h = record { green = each_implied P Q f l.green h.green; red = each_implied P Q f l.red h.red; own = each_implied P Q f l.own h.own }
