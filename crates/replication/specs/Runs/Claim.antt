-- Demand 3: what is claimed of every allowed run, stray events included, at the beginning and after each event, crash or store.
use Rattle.std.specs.Prelude.{ℕ, ◌≤◌, ◌<◌, ◌≡◌, Bool, true, false, List, ◌↔◌, length}
use Rattle.std.proofs.Math.Option.{some}
use Rattle.base.specs.Tests.{pick}
use Rattle.base.specs.Lists.{at, Begins}
use Rattle.base.specs.Sets.{everyone}
use Rattle.format.specs.Types.{Action, Primary, first_primary}
use Rattle.replication.specs.Machine.Types.{Server, taken}
use Rattle.replication.specs.Machine.Step.{installs}
use Rattle.replication.specs.Images.{arrive, source_of}
use Rattle.replication.specs.Runs.Run.{event, Run, world_at}
use Rattle.replication.specs.Runs.Strays.{AllowedWithStrays}
use Rattle.replication.specs.Runs.Noted.{RecoversAt}
use Rattle.replication.specs.Runs.Happenings.{Crashes}

-- "equal exactly when equally long, else the shorter begins the longer"
pub record ListsAgree (x y : List Action) : Type 0 where
  pub equal : x ≡ y ↔ length x ≡ length y
  pub shorter : length x < length y → Begins x y
  pub longer : length y < length x → Begins y x

-- "two primary components are equal, members and all, exactly when their indexes are"
abbrev pub PrimariesAgree : Primary → Primary → Type 0
PrimariesAgree a b = a ≡ b ↔ a.index ≡ b.index

module _ (n q : ℕ) (l : Run) where
  -- The green list in the store of the server i at the moment p, and in its memory.
  unfoldable pub stored_green : ℕ → ℕ → List Action
  stored_green p i = ((world_at n q l p).images i).store.log.green

  unfoldable pub memory_green : ℕ → ℕ → List Action
  memory_green p i = ((world_at n q l p).images i).memory.log.green

  -- The green list of a server: from memory, or from the store while it is down.
  unfoldable pub green_at : ℕ → ℕ → List Action
  green_at p i = pick ((world_at n q l p).down i) (stored_green p i) (memory_green p i)

  -- "Primary components are the start's and each Install's (index, attempt, set)."
  pub data IsPrimary : Primary → Type 0 where
    of_start : IsPrimary (first_primary (everyone n))
    of_install : (p i k : ℕ) (e : List ℕ) (t : Server) (r : List (List ℕ)) (b : Bool) (g : List Action) → at l p ≡ some (event i e k)
        → arrive ((world_at n q l p).images i) e ≡ taken t r b g → installs (source_of ((world_at n q l p).images i) e) e ≡ true
        → IsPrimary t.votes.last

  pub record Agreement : Type 0 where
    pub green : (p i j : ℕ) → i < n → j < n → ListsAgree (green_at p i) (green_at p j)
    pub primary : (a b : Primary) → IsPrimary a → IsPrimary b → PrimariesAgree a b

  pub record Consequences : Type 0 where
    -- "Stored green lists agree likewise at different moments"
    pub stored : (p r i j : ℕ) → i < n → j < n → ListsAgree (stored_green p i) (stored_green r j)
    -- What is green in a store keeps its place: it agrees with what is green later in the memory of any server that is up ..
    pub later : (p r i j : ℕ) → p ≤ r → i < n → j < n → (world_at n q l r).down j ≡ false
        → ListsAgree (stored_green p i) (memory_green r j)
    -- .. and the store never loses it.
    pub kept : (p r i : ℕ) → p ≤ r → i < n → Begins (stored_green p i) (stored_green r i)
    -- Every last primary known anywhere, in memory or store, is one of the primary components.
    pub known : (p i : ℕ) → i < n
        → IsPrimary ((world_at n q l p).images i).memory.votes.last × IsPrimary ((world_at n q l p).images i).store.votes.last

-- Demand 3: "Over every allowed run of all servers, refused events included, crashes wherever they fall".
unfoldable pub Demand3 : Type 0
Demand3 = (n q : ℕ) (l : Run) → AllowedWithStrays n q l → Agreement n q l

-- What follows beside it.
unfoldable pub Corollaries : Type 0
Corollaries = (n q : ℕ) (l : Run) → AllowedWithStrays n q l → Consequences n q l

-- ---- what is green in no store: kept while one server that has it green stays up

-- From p to r the server i stays up: it is up at p, and neither goes down nor recovers before r.
pub record StaysUp (n q : ℕ) (l : Run) (p r i : ℕ) : Type 0 where
  pub up : (world_at n q l p).down i ≡ false
  pub no_crash : (x : ℕ) → p ≤ x → x < r → Crashes l x i → ⊥
  pub no_recovery : (x : ℕ) → p ≤ x → x < r → RecoversAt n q l x i → ⊥

pub record KeptWhileUp : Type 0 where
  -- In every run, allowed or not, that server still has it.
  pub there : (n q : ℕ) (l : Run) (p r i : ℕ) → p ≤ r → StaysUp n q l p r i → Begins (memory_green n q l p i) (memory_green n q l r i)
  -- In every allowed run it has its place at every server whose green list is then so long.
  pub everywhere : (n q : ℕ) (l : Run) → AllowedWithStrays n q l → (p r i j k : ℕ) (a : Action) → p ≤ r → i < n → j < n
      → StaysUp n q l p r i → at (memory_green n q l p i) k ≡ some a → k < length (green_at n q l r j) → at (green_at n q l r j) k ≡ some a
