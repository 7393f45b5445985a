-- In a taken event no green list, cut or number of numbered actions falls.
use Prim.Native.Nat.{ℕ}
use mathlib.Core.Path.{◌≡◌, sym, ap, subst, ◌∙◌}
use mathlib.Core.Bool.{Bool, true}
use mathlib.Core.List.{List, [], ◌∷◌, ◌++◌}
use mathlib.Core.Option.{some}
use native.Mathlib.Omega.{arith}
use Rattle.base.proofs.Prefixes.{begins_refl, begins_trans, begins_more, begins_gained, set_rises}
use Rattle.format.specs.Types.{Id, Action, Record}
use Rattle.replication.specs.Machine.Types.{Log, Server, taken, with_own, with_sent}
use Rattle.replication.specs.Machine.Colours.{find, cut, is_next, enter, red, promote, green}
use Rattle.replication.specs.Machine.Install.{install_log}
use Rattle.replication.specs.Machine.Step.{greened, step}
use Rattle.replication.specs.Laws.Transitions.{Transition}
use Rattle.replication.specs.Laws.Order.{Grows}
use Rattle.replication.proofs.Step.Inversion.{taken_by}
use Rattle.replication.proofs.Step.Moves.{moved}
use Rattle.replication.proofs.Step.Logs.{next_index_lem, on_red, on_green, on_install, on_transition}

pub grows_refl : (l : Log) → Grows l l
grows_refl l = record { greens = begins_refl l.green; cuts = λ c. omega arith; numbers = omega arith }

pub grows_trans : {l m n : Log} → Grows l m → Grows m n → Grows l n
grows_trans p q = record { greens = begins_trans _ _ _ p.greens q.greens; cuts = λ c. omega (arith, p.cuts c, q.cuts c); numbers = omega (arith, p.numbers, q.numbers) }

grows_enter : (l : Log) (a : Action) (m : Log) → is_next m a ≡ true → Grows l m → Grows l (enter a m)
unfolding enter cut
grows_enter l a m e p = record {
  greens = p.greens;
  cuts = λ c. omega (arith, p.cuts c, set_rises m.cuts a.id.creator a.id.index c (omega (arith, next_index_lem m a e)));
  numbers = p.numbers;
}

grows_promote : (l : Log) (d : Id) (x : Action) (m : Log) → find d m.red ≡ some x → Grows l m → Grows l (promote x m)
unfolding promote cut
grows_promote l d x m e p = record { greens = begins_more _ _ (x ∷ []) p.greens; cuts = p.cuts; numbers = p.numbers }

grows_own : (l : Log) (a : Action) (m : Log) → Grows l m → Grows l (with_own a m)
unfolding cut
grows_own l a m p = record { greens = p.greens; cuts = p.cuts; numbers = omega (arith, p.numbers) }

grows_sent : (l : Log) (k : ℕ) (m : Log) → Grows l m → Grows l (with_sent k m)
unfolding cut
grows_sent l k m p = record { greens = p.greens; cuts = p.cuts; numbers = p.numbers }

pub red_grows : (a : Action) (l : Log) → Grows l (red a l)
red_grows a l = on_red (Grows l) (grows_enter l) (grows_promote l) a l (grows_refl l)

pub green_grows : (a : Action) (l : Log) → Grows l (green a l)
green_grows a l = on_green (Grows l) (grows_enter l) (grows_promote l) a l (grows_refl l)

pub install_grows : (ds : List Id) (l : Log) → Grows l (install_log ds l)
install_grows ds l = on_install (Grows l) (grows_enter l) (grows_promote l) ds l (grows_refl l)

pub transition_grows : {s : Server} {r : Record} {t : Server} {rs : List Record} {b : Bool} → Transition s r t rs b → Grows s.log t.log
transition_grows {s} {r} {t} {rs} {b} x =
    on_transition (Grows s.log) (grows_enter s.log) (grows_promote s.log) (grows_own s.log) (grows_sent s.log) s r t rs b x (grows_refl s.log)

pub taken_grows : (s : Server) (e : List ℕ) (t : Server) (bs : List (List ℕ)) (b : Bool) (g : List Action) → step s e ≡ taken t bs b g → Grows s.log t.log
taken_grows s e t bs b g h = let x = taken_by s e t bs b g h in subst (λ u. Grows s.log u.log) (sym x.raise) (transition_grows (moved x).0)

-- The green list grows by exactly the actions that the outcome names.
pub green_gained : (s : Server) (e : List ℕ) (t : Server) (bs : List (List ℕ)) (b : Bool) (g : List Action)
    → step s e ≡ taken t bs b g → t.log.green ≡ s.log.green ++ g
unfolding greened
green_gained s e t bs b g h =
    let x = taken_by s e t bs b g h in
    let m = moved x in
    ap (λ u. u.log.green) x.raise ∙ begins_gained _ _ (transition_grows m.0).greens ∙ ap (λ z. s.log.green ++ z) (sym m.1)
