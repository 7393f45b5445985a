-- An audit of a recorded run with strays: those named are refused by the machine at servers that are up, and the rest passes the audit.
use Rattle.std.specs.Prelude.{ℕ, suc, Bool, true, false, not, List, [], ◌∷◌}
use Rattle.base.specs.Tests.{◌and◌, ◌=?◌, ◌<?◌}
use Rattle.base.specs.Lists.{any}
use Rattle.base.specs.Quantifiers.{◌implies◌}
use Rattle.replication.specs.Machine.Types.{Outcome, taken}
use Rattle.replication.specs.Images.{arrive}
use Rattle.replication.specs.Runs.Run.{Entry, event, crash, store, Run, World, beginning, world_after}
use Rattle.replication.specs.Runs.Strays.{without}
use Rattle.replication.specs.Audit.Witness.{Witness}
use Rattle.replication.specs.Audit.Verdict.{audit}

unfoldable pub is_refused : Outcome (List ℕ) → Bool
is_refused (Outcome.refused k) = true
is_refused (taken t r b g) = false

unfoldable pub is_stray : (n : ℕ) → World → Entry → Bool
is_stray n w (event i e k) = i <? n and not (w.down i) and is_refused (arrive (w.images i) e)
is_stray n w (crash i) = false
is_stray n w (store i) = false

-- From the world w on, each entry that is named is a stray.
unfoldable pub strays_from : (n : ℕ) → (ℕ → Bool) → World → Run → Bool
strays_from n stray w [] = true
strays_from n stray w (x ∷ l) = (stray 0 implies is_stray n w x) and strays_from n (λ p. stray (suc p)) (world_after w x) l

-- The place is one of these.
unfoldable pub is_one_of : List ℕ → ℕ → Bool
is_one_of places p = any (λ r. r =? p) places

-- The run, the places of its strays, and the witness of the run without them.
unfoldable pub audit_with_strays : (n q : ℕ) → Run → List ℕ → Witness → Bool
audit_with_strays n q l places w = strays_from n (is_one_of places) (beginning n q) l and audit n q (without (is_one_of places) l) w
