-- "a noted length never falls": of one event, and of a server in every run, allowed or not.
use Rattle.std.specs.Prelude.{ℕ, suc, ◌≤◌, ◌≡◌, Bool, true, List, ◌⊎◌, get_or}
use Rattle.std.proofs.Math.Option.{some}
use Rattle.base.specs.Lists.{at}
use Rattle.format.specs.Types.{Action}
use Rattle.format.specs.Read.{read}
use Rattle.replication.specs.Machine.Types.{Server, taken, context_of}
use Rattle.replication.specs.Machine.Step.{step}
use Rattle.replication.specs.Images.{is_recovery}
use Rattle.replication.specs.Runs.Run.{event, Run, world_at}

-- No noted length of t is below that of s.
unfoldable pub NotedRise : Server → Server → Type 0
NotedRise s t = (c : ℕ) → get_or s.noted c 0 ≤ get_or t.noted c 0

-- At p the server i gets what it reads as a recovery.
pub record RecoversAt (n q : ℕ) (l : Run) (p i : ℕ) : Type 0 where
  pub bytes : List ℕ
  pub sent : ℕ
  pub here : at l p ≡ some (event i bytes sent)
  pub reads : is_recovery (read (context_of ((world_at n q l p).images i).memory) bytes) ≡ true

pub record NotedInRun (n q : ℕ) (l : Run) (i : ℕ) : Type 0 where
  -- The store's never falls.
  pub stored : (p r : ℕ) → p ≤ r → NotedRise ((world_at n q l p).images i).store ((world_at n q l r).images i).store
  -- The memory's falls only by a recovery ..
  pub memory : (p : ℕ) → NotedRise ((world_at n q l p).images i).memory ((world_at n q l (suc p)).images i).memory ⊎ RecoversAt n q l p i
  -- .. and never below the store's.
  pub below : (p : ℕ) → NotedRise ((world_at n q l p).images i).store ((world_at n q l p).images i).memory

-- Of one event, and of every run.
pub record NotedNeverFall : Type 0 where
  pub one_event : (s : Server) (e : List ℕ) (t : Server) (r : List (List ℕ)) (b : Bool) (g : List Action)
      → step s e ≡ taken t r b g → NotedRise s t
  pub run : (n q : ℕ) (l : Run) (i : ℕ) → NotedInRun n q l i
