-- A creator's actions counted, slot by slot.
use Prim.Native.Nat.{ℕ, ◌+◌, ◌*◌, ◌-◌, ◌≤◌, ◌<◌}
use mathlib.Core.Path.{◌≡◌, sym, ap, ◌∙◌}
use mathlib.Core.List.{List, [], ◌∷◌}
use native.Mathlib.Omega.{arith}
use lib.ListN.{length}
use Rattle.base.specs.Bytes.{number_at}
use Rattle.base.specs.Tests.{pick}
use lib.Dec.{eqb}
use mir.Val.{bool_byte}
use Rattle.base.proofs.Branches.{told_eq}
use Rattle.base.proofs.TestLaws.{eq_yes, eq_no, eq_holds, eq_fails, Known, holds, fails, known}
use Rattle.format.specs.Read.{id_at, action_at}
use Rattle.format.specs.Limits.{most_ids}
use Rattle.replication.specs.Machine.Colours.{of_creator, places_of, unwhite}
use Rattle.replication.specs.Machine.WellFormed.{queue}
use Rattle.replication.proofs.WellFormed.Creators.{of_append}
use Rattle.image.specs.Layout.{slot_size, the_queue, at_queue_length}
use Rattle.image.specs.Decode.{actions_at}
use Rattle.image.specs.Holding.{Computes}
use Rattle.image.specs.Counts.{place}
use Rattle.queue.proofs.FindLaws.{more}
use Rattle.queue.proofs.ReadLaws.{queue_read}

-- ---- one slot

one_yes : (b : List ℕ) (at c v : ℕ) → v ≡ number_at 1 b at → v ≡ c → 1 ≡ of_creator c (action_at b at ∷ [])
unfolding of_creator action_at id_at pick
one_yes b at c v e f = ap (λ t. pick t 1 0) (sym (eq_yes _ _ (sym e ∙ f)))

one_no : (b : List ℕ) (at c v : ℕ) → v ≡ number_at 1 b at → (v ≡ c → ⊥) → 0 ≡ of_creator c (action_at b at ∷ [])
unfolding of_creator action_at id_at pick
one_no b at c v e f = ap (λ t. pick t 1 0) (sym (eq_no _ _ (λ g. f (e ∙ g))))

pub one_told : (b : List ℕ) (at c v r : ℕ) → v ≡ number_at 1 b at → r ≡ bool_byte (eqb v c) → (r ≡ of_creator c (action_at b at ∷ [])) × (r ≤ 1)
one_told b at c v r e f = go (known (eqb v c))
  where
    go : Known (eqb v c) → (r ≡ of_creator c (action_at b at ∷ [])) × (r ≤ 1)
    go (holds h) = let one : r ≡ 1 = f ∙ ap bool_byte h in (one ∙ one_yes b at c v e (eq_holds v c (sym (told_eq v c) ∙ h)), omega (arith, one))
    go (fails h) = let none : r ≡ 0 = f ∙ ap bool_byte h in (none ∙ one_no b at c v e (eq_fails v c (sym (told_eq v c) ∙ h)), omega (arith, none))

-- ---- all of them

-- Of the m slots of the buffer b from `at` on, the first k hold `count` of the creator c.
pub record Counted (b : List ℕ) (c m at count k : ℕ) : Type 0 where
  pub high : k ≤ m
  pub few : m ≤ most_ids
  pub inside : at + slot_size * m ≤ length b
  pub small : count ≤ k
  pub rest : of_creator c (actions_at m b at) ≡ count + of_creator c (actions_at (m - k) b (at + slot_size * k))

pub count_next : (b : List ℕ) (c m at count k v : ℕ) → Counted b c m at count k → k < m → v ≡ of_creator c (action_at b (at + slot_size * k) ∷ []) → v ≤ 1
    → Counted b c m at (count + v) (k + 1)
count_next b c m at count k v s h e one =
    let split : of_creator c (actions_at (m - k) b (at + slot_size * k)) ≡ v + of_creator c (actions_at (m - (k + 1)) b (at + slot_size * (k + 1))) =
    ap (of_creator c) (more b at k m h)
    ∙ of_append c (action_at b (at + slot_size * k) ∷ []) (actions_at (m - (k + 1)) b (at + slot_size * (k + 1)))
    ∙ ap (λ (x : ℕ). x + of_creator c (actions_at (m - (k + 1)) b (at + slot_size * (k + 1)))) (sym e) in
    record {
      high = omega arith;
      few = s.few;
      inside = s.inside;
      small = omega (arith, s.small);
      rest = omega (arith, s.rest);
    }

pub count_end : (b : List ℕ) (c m at count k : ℕ) → m ≡ number_at 4 b at_queue_length → at ≡ place the_queue b → Counted b c m at count k → m ≤ k
    → Computes (λ s. unwhite c s.white s.log) b count
unfolding of_creator actions_at unwhite places_of queue
count_end b c m at count k e f n h s r =
    let none : m - k ≡ 0 = omega (arith, n.high) in
    let zero : of_creator c (actions_at (m - k) b (at + slot_size * k)) ≡ 0 = ap (λ (i : ℕ). of_creator c (actions_at i b (at + slot_size * k))) none in
    let all : of_creator c (actions_at m b at) ≡ unwhite c s.white s.log = (λ i. of_creator c (actions_at (e i) b (f i))) ∙ ap (of_creator c) (queue_read s b r) in
    omega (arith, n.rest)
