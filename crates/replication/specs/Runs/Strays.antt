-- Demand 3, "refused events included": a run that is allowed once stray events are struck out, events that the machine refuses and that the group
-- layer need not have had a right to bring.
use Rattle.std.specs.Prelude.{ℕ, suc, ◌<◌, ◌≡◌, Bool, true, false, List, [], ◌∷◌}
use Rattle.std.proofs.Math.Option.{some}
use Rattle.base.specs.Lists.{at}
use Rattle.replication.specs.Machine.Types.{Outcome}
use Rattle.replication.specs.Images.{arrive}
use Rattle.replication.specs.Runs.Run.{Entry, event, Run, World, world_at}
use Rattle.replication.specs.Runs.Allowed.{Allowed}

-- In the world w the entry x is an event that the machine refuses.
pub record IsStray (n : ℕ) (w : World) (x : Entry) : Type 0 where
  pub server : ℕ
  pub bytes : List ℕ
  pub sent : ℕ
  pub number : ℕ
  pub is : x ≡ event server bytes sent
  pub there : server < n
  pub refusal : arrive (w.images server) bytes ≡ Outcome.refused number

-- The run without the entries at the places that are named.
unfoldable pub unless : Bool → Entry → Run → Run
unless true x l = l
unless false x l = x ∷ l

unfoldable pub without : (ℕ → Bool) → Run → Run
without stray [] = []
without stray (x ∷ l) = unless (stray 0) x (without (λ p. stray (suc p)) l)

-- Some events of the run, each refused by the machine, are named as strays; without them the run is allowed.
pub record AllowedWithStrays (n q : ℕ) (l : Run) : Type 0 where
  pub stray : ℕ → Bool
  pub refused : (p : ℕ) (x : Entry) → at l p ≡ some x → stray p ≡ true → IsStray n (world_at n q l p) x
  pub rest : Allowed n q (without stray l)

-- .. and each of them comes to a server that is up: asked where a crash loses what a server had in memory, as of a daemon's buffers.
pub record AllowedWithStraysUp (n q : ℕ) (l : Run) : Type 0 where
  pub allowed : AllowedWithStrays n q l
  pub up : (p i k : ℕ) (e : List ℕ) → at l p ≡ some (event i e k) → allowed.stray p ≡ true → (world_at n q l p).down i ≡ false
