-- Registers agree as the green lists do that they are folds of.
use Prim.Native.Nat.{ℕ, ◌≤◌, ◌<◌}
use mathlib.Core.Path.{◌≡◌, sym, ap, ◌∙◌}
use mathlib.Core.Bool.{Bool, true, false}
use mathlib.Core.List.{List}
use native.Mathlib.Omega.{arith}
use native.Mathlib.Decide.{dec_lt}
use lib.ListN.{length, drop}
use Rattle.base.specs.Tests.{pick}
use Rattle.base.proofs.Prefixes.{begins_same, begins_gained}
use Rattle.base.specs.Lists.{Begins}
use Rattle.format.specs.Types.{Action}
use Rattle.replication.specs.Runs.Run.{Run, world_at}
use Rattle.replication.specs.Runs.Strays.{AllowedWithStrays}
use Rattle.replication.specs.Runs.Claim.{ListsAgree, stored_green, memory_green, green_at, Demand3}
use Rattle.replication.proofs.Agreement.Greens.Demand.{demand3}
use Rattle.pegs.specs.Register.{advance, register_of}
use Rattle.register_runs.specs.Joint.{payloads}
use Rattle.register_runs.specs.Registers.{registers_at}
use Rattle.register_runs.specs.Claim.{register_at, RegistersAgree}
use Rattle.register_runs.proofs.Folds.{fold_append, registers_fold}

-- ---- the folds of two lists that agree

module _ (x y : List Action) (a : ListsAgree x y) where
  pub same_folds : length x ≡ length y → register_of (payloads x) ≡ register_of (payloads y)
  same_folds h = ap (λ (l : List Action). register_of (payloads l)) (a.equal.1 h)

  begins : length x ≤ length y → Begins x y
  begins h = go (dec_lt (length x) (length y))
    where
      go : Dec (length x < length y) → Begins x y
      go (yes k) = a.shorter k
      go (no k) = begins_same x y (sym (a.equal.1 (omega arith)))

  -- The longer's is the shorter's, carried on.
  pub further_fold : length x ≤ length y → register_of (payloads y) ≡ advance (register_of (payloads x)) (payloads (drop (length x) y))
  further_fold h =
      ap (λ (l : List Action). register_of (payloads l)) (begins_gained x y (begins h)) ∙ fold_append x (drop (length x) y)

-- ---- the machine's

module _ (n q : ℕ) (l : Run) where
  register_at_lem : (p i : ℕ) → register_at n q l p i ≡ register_of (payloads (green_at n q l p i))
  unfolding register_at green_at pick
  register_at_lem p i = go ((world_at n q l p).down i)
    where
      go : (d : Bool)
          → pick d (registers_at n q l p i).store (registers_at n q l p i).memory
          ≡ register_of (payloads (pick d (stored_green n q l p i) (memory_green n q l p i)))
      go true = (registers_fold n q l).store p i
      go false = (registers_fold n q l).memory p i

  module _ (S : AllowedWithStrays n q l) where
    lists : (p i j : ℕ) → i < n → j < n → ListsAgree (green_at n q l p i) (green_at n q l p j)
    unfolding Demand3
    lists p i j h k = (demand3 n q l S).green p i j h k

    pub registers_agree : RegistersAgree n q l
    registers_agree = record {
      equal = λ p i j h k e. register_at_lem p i ∙ same_folds _ _ (lists p i j h k) e ∙ sym (register_at_lem p j);
      further = λ p i j h k e.
          register_at_lem p j ∙ further_fold _ _ (lists p i j h k) e
          ∙ ap (λ r. advance r (payloads (drop (length (green_at n q l p i)) (green_at n q l p j)))) (sym (register_at_lem p i));
    }
