-- What a server has green it keeps while it stays up, and so, by agreement, do all whose green list is then so long.
use Prim.Native.Nat.{ℕ, suc, ◌≤◌, ◌<◌}
use mathlib.Core.Path.{◌≡◌, sym, ap, ◌∙◌}
use mathlib.Core.Bool.{false}
use mathlib.Core.List.{List}
use mathlib.Core.Logic.{◌⊎◌, inl, inr}
use mathlib.Core.Option.{some}
use native.Mathlib.Omega.{arith}
use native.Mathlib.Decide.{dec_lt}
use lib.ListN.{length}
use Rattle.base.specs.Tests.{pick}
use Rattle.base.specs.Lists.{at, Begins}
use Rattle.base.proofs.AtLaws.{at_there}
use Rattle.base.proofs.Chains.{chain}
use Rattle.base.proofs.Gathered.{at_first}
use Rattle.base.proofs.Prefixes.{begins_refl, begins_trans}
use Rattle.format.specs.Types.{Action}
use Rattle.replication.specs.Machine.Types.{Server}
use Rattle.replication.specs.Runs.Run.{Run, world_at}
use Rattle.replication.specs.Runs.Noted.{RecoversAt}
use Rattle.replication.specs.Runs.Claim.{ListsAgree, memory_green, green_at, Demand3, StaysUp, KeptWhileUp}
use Rattle.replication.proofs.Step.Growth.{taken_grows}
use Rattle.replication.proofs.Runs.Rising.{memory_rises_at}
use Rattle.replication.proofs.Runs.Turns as T
use Rattle.replication.proofs.Agreement.Greens.Demand.{demand3}

Greens : Server → Server → Type 0
Greens s t = Begins s.log.green t.log.green

-- What begins a list stands in it at the same places.
begins_at : (x y : List Action) (k : ℕ) (a : Action) → Begins x y → at x k ≡ some a → at y k ≡ some a
unfolding Begins
begins_at x y k a (t, e) h = ap (λ z. at z k) e ∙ at_first x t k a h

-- Lists that agree have the same at the places of both.
agree_at : (x y : List Action) (k : ℕ) (a : Action) → ListsAgree x y → at x k ≡ some a → k < length y → at y k ≡ some a
agree_at x y k a g h low = go (dec_lt (length x) (length y)) (dec_lt (length y) (length x))
  where
    go : Dec (length x < length y) → Dec (length y < length x) → at y k ≡ some a
    go (yes l) d = begins_at x y k a (g.shorter l) h
    go (no l) (yes m) = let z = at_there y k low in z.1 ∙ sym (begins_at y x k z.0 (g.longer m) z.1) ∙ h
    go (no l) (no m) = ap (λ z. at z k) (sym (g.equal.1 (omega arith))) ∙ h

module _ (n q : ℕ) (l : Run) (p r i : ℕ) (h : p ≤ r) (s : StaysUp n q l p r i) where
  greens_kept : Begins (memory_green n q l p i) (memory_green n q l r i)
  unfolding memory_green Greens
  greens_kept = chain Greens (λ s. begins_refl _) (λ s t u. begins_trans _ _ _) (λ x. ((world_at n q l x).images i).memory) p r h one
    where
      one : (x : ℕ) → p ≤ x → x < r → Greens ((world_at n q l x).images i).memory ((world_at n q l (suc x)).images i).memory
      one x a b =
          go (memory_rises_at Greens (λ s. begins_refl _) (λ s t u. begins_trans _ _ _) (λ s e t bs c g k. (taken_grows s e t bs c g k).greens) n q l i x)
        where
          go : Greens ((world_at n q l x).images i).memory ((world_at n q l (suc x)).images i).memory ⊎ RecoversAt n q l x i
              → Greens ((world_at n q l x).images i).memory ((world_at n q l (suc x)).images i).memory
          go (inl y) = y
          go (inr y) = absurd (s.no_recovery x a b y)

  -- It is up at r too.
  still_up : (world_at n q l r).down i ≡ false
  still_up =
      chain (λ a b. a ≡ false → b ≡ false) (λ a e. e) (λ a b c f g e. g (f e)) (λ x. (world_at n q l x).down i) p r h (λ x a b e. one x a b e (T.turn n q l x i)) s.up
    where
      one : (x : ℕ) → p ≤ x → x < r → (world_at n q l x).down i ≡ false → T.Turn n q l x i → (world_at n q l (suc x)).down i ≡ false
      one x a b e (T.rests o m c d) = d ∙ e
      one x a b e (T.crashes k m c d) = absurd (s.no_crash x a b k)
      one x a b e (T.saves k m c d) = d ∙ e
      one x a b e (T.refuses f k z g y m c d) = d ∙ e
      one x a b e (T.acts f k t bs w g y z m c d) = d

  from_memory : green_at n q l r i ≡ memory_green n q l r i
  unfolding green_at pick
  from_memory = rw still_up

pub kept_while_up : KeptWhileUp
unfolding Demand3
kept_while_up = record {
  there = greens_kept;
  everywhere = λ n q l A p r i j k a h iLow jLow s e low.
      agree_at (green_at n q l r i) (green_at n q l r j) k a ((demand3 n q l A).green r i j iLow jLow)
      (ap (λ z. at z k) (from_memory n q l p r i h s) ∙ begins_at (memory_green n q l p i) (memory_green n q l r i) k a (greens_kept n q l p r i h s) e) low;
}
