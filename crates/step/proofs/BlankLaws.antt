-- States whose white actions are blank, after their green list has grown.
use Prim.Native.Nat.{ℕ}
use mathlib.Core.Path.{◌≡◌, refl, sym, subst}
use mathlib.Core.Bool.{true}
use mathlib.Core.List.{List, ◌++◌}
use lib.ListN.{length, drop}
use Rattle.base.specs.Lists.{Begins}
use Rattle.base.proofs.Prefixes.{begins_refl, begins_gained}
use Rattle.format.specs.Types.{Action}
use Rattle.replication.specs.Machine.Types.{Log, Server, with_log}
use Rattle.replication.specs.Machine.Step.{placed}
use Rattle.replication.specs.Machine.WellFormed.{well_formed}
use Rattle.replication.proofs.Step.Logs.{placed_as}
use Rattle.replication.proofs.Step.Growth.{red_grows, green_grows}
use Rattle.replication.proofs.WellFormed.Facts.{well_formed_facts}
use Rattle.image.specs.Image.{image}
use Rattle.image.specs.Decode.{blanks}
use Rattle.image.specs.Holding.{Blank, Holds}
use Rattle.image.proofs.Blanks.{grown_blank}
use Rattle.image.proofs.Chained.{then_holds}

pub grown_still : (s : Server) (g : List Action) → well_formed s ≡ true → Blank s → Begins s.log.green g → g ≡ blanks s.white ++ drop s.white g
grown_still s g ok blank h =
    subst (λ (l : List Action). l ≡ blanks s.white ++ drop s.white l) (sym (begins_gained s.log.green g h))
    (grown_blank s.white s.log.green (drop (length s.log.green) g) (well_formed_facts s ok).white blank)

-- The buffer after a change of the log.
pub grown_holds : (s : Server) (l : Log) (b c : List ℕ) → Holds s b → c ≡ image (with_log l s) b → well_formed (with_log l s) ≡ true
    → Begins s.log.green l.green → Holds (with_log l s) c
grown_holds s l b c r e ok h = then_holds s (with_log l s) b c r e refl refl ok (grown_still s l.green r.formed r.blank h)

pub placed_begins : (k : ℕ) (a : Action) (l : Log) → Begins l.green (placed k a l).green
placed_begins k a l = placed_as (λ (m : Log). Begins l.green m.green) k a l (green_grows a l).greens (begins_refl _) (red_grows a l).greens
