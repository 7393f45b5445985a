-- One's part of the plan holds only retransmissions: of green actions at their positions, and of held ones as red.
use Prim.Native.Nat.{ℕ, ◌-◌}
use mathlib.Core.Path.{◌≡◌, refl, sym}
use mathlib.Core.Bool.{Bool, true, false}
use mathlib.Core.List.Memᴰ
use mathlib.Core.List.{List, [], Memᴰ}
use mathlib.Core.Logic.{⊎_elim}
use mathlib.Core.Option.{Option, none, some, none-ne-some, some-injective}
use Rattle.base.specs.Tests.{pick, ◌≤?◌}
use Rattle.base.specs.Lists.{below, at}
use Rattle.base.proofs.Members.{gathered_from, gathered_all_from}
use Rattle.format.specs.Types.{Action, State, Record, retransmission}
use Rattle.replication.specs.Machine.Types.{Log}
use Rattle.replication.specs.Machine.Colours.{find, places_of}
use Rattle.replication.specs.Machine.Plan.{resender, missing, cut_in, green_in, is_me, resent, resend_green, resend_red, own_part, held_at}
use Rattle.replication.specs.Laws.Sending.{Resent, as_green, as_red}

resent_some : (me p : ℕ) (o : Option Action) (r : Record) → resent me p o ≡ some r → (a : Action) × (o ≡ some a) × (r ≡ retransmission me p a)
unfolding resent
resent_some me p none r h = absurd (none-ne-some r h)
resent_some me p (some a) r h = (a, refl, sym (some-injective (retransmission me p a) r h))

picked : (c : Bool) (xs : List Record) (r : Record) → Memᴰ r (pick c xs []) → Memᴰ r xs
unfolding pick
picked true xs r m = m
picked false xs r m = absurd (Memᴰ.not-nil m)

-- What is held at a position stands there.
pub held_stands : (w : ℕ) (l : Log) (p : ℕ) (a : Action) → held_at w l p ≡ some a → at l.green (p - 1) ≡ some a
unfolding held_at pick
held_stands w l p a = go (p ≤? w)
  where
    go : (b : Bool) → pick b none (at l.green (p - 1)) ≡ some a → at l.green (p - 1) ≡ some a
    go true e = absurd (none-ne-some a e)
    go false e = e

module _ (me w : ℕ) (l : Log) (xs : List State) (r : Record) where
  green_resent : Memᴰ r (resend_green me w l xs) → Resent me w l xs r
  unfolding resend_green
  green_resent m =
      let g = gathered_from (λ p. resent me p (held_at w l p)) r (missing green_in xs) (picked (is_me me (resender green_in xs)) _ r m) in
      let s = resent_some me g.0 (held_at w l g.0) r g.2 in
      as_green g.0 s.0 g.1 s.1 s.2

  red_resent : (c : ℕ) → Memᴰ r (resend_red me w l xs c) → Resent me w l xs r
  unfolding resend_red
  red_resent c m =
      let g = gathered_from (λ i. resent me 0 (find (record { creator = c; index = i }) (places_of w l))) r (missing (cut_in c) xs)
      (picked (is_me me (resender (cut_in c) xs)) _ r m) in
      let s = resent_some me 0 (find (record { creator = c; index = g.0 }) (places_of w l)) r g.2 in
      as_red c g.0 s.0 g.1 s.1 s.2

  pub part_resent : (n : ℕ) → Memᴰ r (own_part n me w l xs) → Resent me w l xs r
  unfolding own_part
  part_resent n m =
      ⊎_elim (λ k. green_resent k) (λ k. let g = gathered_all_from (resend_red me w l xs) r (below n) k in red_resent g.0 g.2)
      (Memᴰ.append_cases (resend_green me w l xs) m)
