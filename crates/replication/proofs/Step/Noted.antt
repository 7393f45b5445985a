-- In a taken event no noted length falls.
use Prim.Native.Nat.{ℕ, ◌≤◌}
use mathlib.Core.Path.{◌≡◌, refl, sym, ap, subst}
use mathlib.Core.Bool.{Bool}
use mathlib.Core.List.{List, [], ◌∷◌}
use native.Mathlib.Omega.{arith}
use lib.ListN.{get_or}
use Rattle.base.proofs.Prefixes.{set_rises}
use Rattle.format.specs.Types.{Action, State, Record}
use Rattle.replication.specs.Machine.Types.{Server, taken}
use Rattle.replication.specs.Machine.Colours.{yellow, note}
use Rattle.replication.specs.Machine.Exchange.{note_all}
use Rattle.replication.specs.Machine.Install.{install}
use Rattle.replication.specs.Machine.Requests.{numbered, send_waiting, recovered}
use Rattle.replication.specs.Machine.Step.{entering, collected, decided, attempting, with_state, resending, one_more, exchanged, with_cpc, leave, green_and_note, step}
use Rattle.replication.specs.Runs.Noted.{NotedRise}
use Rattle.replication.specs.Laws.Transitions as L
use Rattle.replication.specs.Laws.Transitions.{Ends, Transition}
use Rattle.replication.proofs.Step.Inversion.{taken_by}
use Rattle.replication.proofs.Step.Moves.{moved}
use Rattle.replication.proofs.Step.Logs.{yellow_as}

pub noted_same : (s : Server) → NotedRise s s
unfolding NotedRise
noted_same s = λ c. omega arith

pub noted_chain : (s t u : Server) → NotedRise s t → NotedRise t u → NotedRise s u
unfolding NotedRise
noted_chain s t u f g = λ c. omega (arith, f c, g c)

-- "a noted length never falls"
note_rises : (k l : ℕ) (noted : List ℕ) (c : ℕ) → get_or noted c 0 ≤ get_or (note k l noted) c 0
unfolding note
note_rises k l noted c = set_rises noted k _ c (omega arith)

note_all_rises : (xs : List State) (noted : List ℕ) (c : ℕ) → get_or noted c 0 ≤ get_or (note_all xs noted) c 0
unfolding note_all
note_all_rises [] noted c = omega arith
note_all_rises (x ∷ xs) noted c =
    omega (arith, note_rises x.sender x.green_length noted c, note_all_rises xs (note x.sender x.green_length noted) c)

yellow_noted : (a : Action) (s : Server) → (yellow a s).noted ≡ s.noted
yellow_noted a s = yellow_as (λ t. t.noted ≡ s.noted) a s (λ e. refl) (λ e. refl)

module _ (s : Server) where
  -- The noted lengths stay as they are.
  same : (t : Server) → t.noted ≡ s.noted → NotedRise s t
  unfolding NotedRise
  same t e = λ c. omega (arith, ap (λ l. get_or l c 0) e)

  end_rises : (t u : Server) (rs : List Record) → t.noted ≡ s.noted → Ends t u rs → NotedRise s u
  unfolding NotedRise attempting decided send_waiting numbered
  end_rises t u rs e (L.with_quorum q) = λ c. omega (arith, ap (λ l. get_or l c 0) e, note_all_rises (collected t) t.noted c)
  end_rises t u rs e (L.without_quorum q) = λ c. omega (arith, ap (λ l. get_or l c 0) e, note_all_rises (collected t) t.noted c)

  green_rises : (a : Action) → NotedRise s (green_and_note a s)
  unfolding NotedRise green_and_note
  green_rises a = λ c. note_rises a.id.creator a.green_length s.noted c

  pub transition_rises : {r : Record} {t : Server} {rs : List Record} {b : Bool} → Transition s r t rs b → NotedRise s t
  unfolding install exchanged one_more with_state resending with_cpc send_waiting numbered entering leave recovered
  transition_rises (L.ignores_state x e) = same _ refl
  transition_rises (L.ignores_cpc k i e) = same _ refl
  transition_rises (L.reddens a e) = same _ refl
  transition_rises (L.reddens_resent k i a e) = same _ refl
  transition_rises (L.reddens_in_exchange a e) = same _ refl
  transition_rises (L.greens a e) = green_rises a
  transition_rises (L.yellows a e) = same _ (yellow_noted a s)
  transition_rises (L.installs_late a e) = same _ (yellow_noted a (install s))
  transition_rises (L.exchanges k i a e c) = same _ refl
  transition_rises (L.exchanges_last k i a u us e c x) = end_rises (exchanged i a s) u us refl x
  transition_rises (L.collects x e c) = same _ refl
  transition_rises (L.collects_last x e c d) = same _ refl
  transition_rises (L.collects_whole x u us e c d y) = end_rises (with_state x s) u us refl y
  transition_rises (L.counts k i e c) = same _ refl
  transition_rises (L.installs k i e c) = same _ refl
  transition_rises (L.counts_late k i e c) = same _ refl
  transition_rises (L.counts_all_late k i e c) = same _ refl
  transition_rises (L.joins c e) = same _ refl
  transition_rises (L.joins_marked c e) = same _ refl
  transition_rises (L.joins_unmarked c e) = same _ refl
  transition_rises (L.joins_yellow c e) = same _ refl
  transition_rises (L.leaves m n x e q) = same _ refl
  transition_rises (L.sends q c) = same _ refl
  transition_rises (L.numbers q c) = same _ refl
  transition_rises L.recovers = same _ refl

pub taken_rises : (s : Server) (e : List ℕ) (t : Server) (bs : List (List ℕ)) (b : Bool) (g : List Action) → step s e ≡ taken t bs b g → NotedRise s t
unfolding NotedRise
taken_rises s e t bs b g h = let x = taken_by s e t bs b g h in subst (λ u. NotedRise s u) (sym x.raise) (transition_rises s (moved x).0)
