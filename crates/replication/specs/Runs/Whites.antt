-- Document 02, K6: what white actions do in an allowed run.
use Rattle.std.specs.Prelude.{ℕ, suc, ◌≤◌, ◌<◌, ◌≡◌, Bool, true, false, List, map, length, get_or, take}
use Rattle.std.proofs.Math.Option.{some}
use Rattle.base.specs.Lists.{at, Begins}
use Rattle.format.specs.Range.{sizes_ok}
use Rattle.format.specs.Types.{Action, Record, says}
use Rattle.format.specs.Read.{read}
use Rattle.format.specs.Write.{write}
use Rattle.replication.specs.Machine.Types.{Exchange_states, Exchange_actions, Server, taken, mode_of, context_of}
use Rattle.replication.specs.Machine.Plan.{own_part}
use Rattle.replication.specs.Machine.Rules.{Rule, rule_for}
use Rattle.replication.specs.Machine.Step.{collected}
use Rattle.replication.specs.Machine.White.{full}
use Rattle.replication.specs.Images.{arrive}
use Rattle.replication.specs.Laws.Images.{OfBoth}
use Rattle.replication.specs.Runs.Run.{event, Run, world_at}
use Rattle.replication.specs.Runs.Strays.{AllowedWithStrays}
use Rattle.replication.specs.Runs.Claim.{stored_green, memory_green}

-- ---- "An action green on every server, by the noted green lengths, becomes white"

-- Where the first k actions are green at s, and on every server by the noted lengths, they are white.
abbrev pub WhiteIfNoted : (n k : ℕ) → Server → Type 0
WhiteIfNoted n k s = k ≤ length s.log.green → ((c : ℕ) → c < n → k ≤ get_or s.noted c 0) → k ≤ s.white

-- At every moment of every run, allowed or not, in memory and in store.
unfoldable pub NotedGreenIsWhite : Type 0
NotedGreenIsWhite =
    (n q : ℕ) → sizes_ok n q ≡ true → (l : Run) (p i k : ℕ) → i < n → OfBoth (WhiteIfNoted n k) ((world_at n q l p).images i)

-- ---- "In an allowed run an action white anywhere is green in every server's store."

module _ (n q : ℕ) (l : Run) where
  -- In the memory of a server that is up, and in any store.
  pub record WhiteEverywhere : Type 0 where
    pub memory : (p i j : ℕ) → i < n → j < n → (world_at n q l p).down i ≡ false
        → Begins (take ((world_at n q l p).images i).memory.white (memory_green n q l p i)) (stored_green n q l p j)
    pub store : (p i j : ℕ) → i < n → j < n
        → Begins (take ((world_at n q l p).images i).store.white (stored_green n q l p i)) (stored_green n q l p j)

unfoldable pub WhitesAreGreen : Type 0
WhitesAreGreen = (n q : ℕ) (l : Run) → AllowedWithStrays n q l → WhiteEverywhere n q l

-- So it was before the entry of the run that turned it white: what an event turns green is not white behind it, and a daemon that reads it behind the
-- green length before is never refused.
unfoldable pub WhiteWasStored : Type 0
WhiteWasStored =
    (n q : ℕ) (l : Run) → AllowedWithStrays n q l
    → (p i j : ℕ) → j < n → ((world_at n q l (suc p)).images i).memory.white ≤ length (stored_green n q l p j)

-- ---- "Nothing that an exchange in an allowed run must resend is ever gone."

-- The event with which a server goes from Exchange_states to Exchange_actions puts out its part of the plan, the same as with no white action.
unfoldable pub NothingGone : Type 0
NothingGone =
    (n q : ℕ) (l : Run) → AllowedWithStrays n q l
    → (p i k : ℕ) (e : List ℕ) (t : Server) (rs : List (List ℕ)) (b : Bool) (g : List Action) → at l p ≡ some (event i e k)
    → arrive ((world_at n q l p).images i) e ≡ taken t rs b g
    → mode_of ((world_at n q l p).images i).memory ≡ Exchange_states → mode_of t ≡ Exchange_actions
    → rs ≡ map write (own_part n i 0 t.log (collected t))

-- ---- "An action whose creator then still has q unwhite ones entered here is passed over like one beyond a gap ..; no allowed run meets this."

-- Whatever comes to a server that is up, the rule that it takes finds a place for what it enters.
unfoldable pub NonePassedOver : Type 0
NonePassedOver =
    (n q : ℕ) (l : Run) → AllowedWithStrays n q l
    → (p i k : ℕ) (e : List ℕ) (t : Server) (rs : List (List ℕ)) (b : Bool) (g : List Action) → at l p ≡ some (event i e k)
    → arrive ((world_at n q l p).images i) e ≡ taken t rs b g → (world_at n q l p).down i ≡ false
    → (r : Record) (j : Rule) → read (context_of ((world_at n q l p).images i).memory) e ≡ says r
    → rule_for (mode_of ((world_at n q l p).images i).memory) r ≡ some j
    → full j ((world_at n q l p).images i).memory ≡ false
