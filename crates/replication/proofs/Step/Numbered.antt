-- Colouring and Install number no action and send no own one.
use Prim.Native.Nat.{ℕ}
use mathlib.Core.Path.{◌≡◌, refl, ◌∙◌}
use mathlib.Core.Bool.{true}
use mathlib.Core.List.{List}
use mathlib.Core.Option.{some}
use Rattle.format.specs.Types.{Id, Action}
use Rattle.replication.specs.Machine.Types.{Log, Server}
use Rattle.replication.specs.Machine.Colours.{find, is_next, enter, red, reds, promote, green, yellow}
use Rattle.replication.specs.Machine.Install.{install_log}
use Rattle.replication.specs.Machine.Step.{placed}
use Rattle.replication.specs.Laws.Order.{OwnNumbers, SameNumbers}
use Rattle.replication.proofs.Step.Logs.{yellow_log, on_red, on_reds, on_green, on_placed, on_install}

pub same_numbers : (l : Log) → SameNumbers l l
same_numbers l = record { numbered = refl; sent = refl }

pub numbers_trans : (l m n : Log) → SameNumbers l m → SameNumbers m n → SameNumbers l n
numbers_trans l m n p q = record { numbered = q.numbered ∙ p.numbered; sent = q.sent ∙ p.sent }

module _ (k m : ℕ) where
  on_enter : (a : Action) (l : Log) → is_next l a ≡ true → OwnNumbers k m l → OwnNumbers k m (enter a l)
  unfolding enter
  on_enter a l e p = record { numbered = p.numbered; sent = p.sent }

  on_promote : (d : Id) (x : Action) (l : Log) → find d l.red ≡ some x → OwnNumbers k m l → OwnNumbers k m (promote x l)
  unfolding promote
  on_promote d x l e p = record { numbered = p.numbered; sent = p.sent }

pub numbers_red : (a : Action) (l : Log) → SameNumbers l (red a l)
numbers_red a l = on_red (SameNumbers l) (on_enter _ _) (on_promote _ _) a l (same_numbers l)

pub numbers_reds : (more : List Action) (l : Log) → SameNumbers l (reds more l)
numbers_reds more l = on_reds (SameNumbers l) (on_enter _ _) (on_promote _ _) more l (same_numbers l)

pub numbers_green : (a : Action) (l : Log) → SameNumbers l (green a l)
numbers_green a l = on_green (SameNumbers l) (on_enter _ _) (on_promote _ _) a l (same_numbers l)

pub numbers_placed : (k : ℕ) (a : Action) (l : Log) → SameNumbers l (placed k a l)
numbers_placed k a l = on_placed (SameNumbers l) (on_enter _ _) (on_promote _ _) k a l (same_numbers l)

pub numbers_install : (ds : List Id) (l : Log) → SameNumbers l (install_log ds l)
numbers_install ds l = on_install (SameNumbers l) (on_enter _ _) (on_promote _ _) ds l (same_numbers l)

pub numbers_yellow : (a : Action) (s : Server) → SameNumbers s.log (yellow a s).log
numbers_yellow a s = rw (yellow_log a s) (numbers_red a s.log)

pub numbered_red : (a : Action) (l : Log) → (red a l).numbered ≡ l.numbered
numbered_red a l = (numbers_red a l).numbered
