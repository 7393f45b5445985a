-- Logs that hold the same.
use mathlib.Core.Path.{◌≡◌, refl, ap, ◌∙◌}
use Rattle.replication.specs.Machine.Types.{Log}
use Rattle.replication.specs.Laws.Order.{SameHeld}

pub held_refl : (l : Log) → SameHeld l l
held_refl l = record { green = refl; red = refl; cuts = refl }

pub held_same : (l m : Log) → m ≡ l → SameHeld l m
held_same l m e = record { green = ap (λ x. x.green) e; red = ap (λ x. x.red) e; cuts = ap (λ x. x.cuts) e }

pub held_trans : (l m n : Log) → SameHeld l m → SameHeld m n → SameHeld l n
held_trans l m n p q = record { green = q.green ∙ p.green; red = q.red ∙ p.red; cuts = q.cuts ∙ p.cuts }
