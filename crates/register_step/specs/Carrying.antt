-- A register carried on by green actions, as the code does it.
use Rattle.std.specs.Prelude.{ℕ, ◌+◌, ◌≤◌, ◌≡◌, List, [], ◌∷◌, length}
use Rattle.base.specs.Lent.{Lent}
use Rattle.format.specs.Types.{Action}
use Rattle.replication.specs.Machine.Types.{Server}
use Rattle.replication.specs.Machine.Step.{greened}
use Rattle.image.specs.Image.{image}
use Rattle.image.specs.Holding.{Holds}
use Rattle.image.specs.Counts.{green_count}
use Rattle.image.specs.Decode.{white_in}
use Rattle.queue.specs.Queue.{QueueIn}
use Rattle.step.specs.Meeting.{met}
use Rattle.pegs.specs.Register.{advance, refusals}
use Rattle.pegs.specs.Image.{pegs_in}
use Rattle.pegs.specs.Outcome.{register_number, applied}
use Rattle.register_runs.specs.Joint.{payloads, carried}
use Rattle.register_step.specs.declared.carrying.Carried.{Carried}

-- How many actions there were, how many operations of them were refused, and the register's buffer afterwards.
pub record CarriedOn : Type 0 where
  pub greened : ℕ
  pub refused : ℕ
  pub register : List ℕ

unfoldable pub carry_on : List Action → List ℕ → CarriedOn
carry_on g r = record { greened = length g; refused = refusals (pegs_in r) (payloads g); register = carried g r }

-- The code's answer, and the buffer afterwards.
unfoldable pub carried_by : Carried → List ℕ → CarriedOn
carried_by c r = record { greened = c.greened; refused = c.refused; register = r }

-- The action a is applied to the register in r: whether it is refused, as a number, and the buffer afterwards.
pub record AppliedOne (a : Action) (r : List ℕ) (refused : ℕ) (r₁ : List ℕ) : Type 0 where
  pub refused_is : refused ≡ refusals (pegs_in r) (a.payload ∷ [])
  pub register_is : r₁ ≡ (applied a.payload (pegs_in r) r).register

-- A state's queue and a register that hold what they must, and a place of the green history behind the white actions.
pub record CarryReady (b : List ℕ) (from : ℕ) (r : List ℕ) : Type 0 where
  pub queue : QueueIn b
  pub low : white_in b ≤ from
  pub inside : from ≤ white_in b + green_count b
  pub number : register_number r ≡ 0

-- The register's buffer r₁ reads, as r does, and is r carried on by the actions g.
pub record CarriesOn (g : List Action) (r r₁ : List ℕ) : Type 0 where
  pub number : register_number r₁ ≡ 0
  pub pegs : pegs_in r₁ ≡ advance (pegs_in r) (payloads g)

-- What the event e does to the state s in b before its action's white length is taken, and the register carried on by what that turned green.
pub record CarriedMet (c : Carried) (b b₁ r r₁ e : List ℕ) (s : Server) : Type 0 where
  pub state : b₁ ≡ image (met s e) b
  pub carried : carried_by c r₁ ≡ carry_on (greened s (met s e)) r
  pub onward : CarriesOn (greened s (met s e)) r r₁

abbrev pub CarriesMet : Carried → (state register : Lent) → (event : List ℕ) → Type 0
CarriesMet c b r e =
    (s : Server) → Holds s b.entry.now
    → CarriedMet c b.entry.now b.exit.now r.entry.now r.exit.now e s
