-- A turn of the pass over the queue: the first of the slots that are left, and the others. k of m slots were met, from `at` on.
use Prim.Native.Nat.{ℕ, ◌+◌, ◌*◌, ◌-◌, ◌≤◌, ◌<◌}
use mathlib.Core.Path.{◌≡◌, refl, sym, ap, ◌∙◌}
use mathlib.Core.Bool.{Bool, true, false, not}
use mathlib.Core.List.{List}
use native.Mathlib.Omega.{arith}
use borrow.Author.Tests.{not-true, not-false}
use lib.ListN.{length}
use Rattle.base.specs.Tests.{◌and◌}
use Rattle.base.proofs.TestLaws.{and_no, and_yes, and_holds, both_yes, Known, known, holds, fails}
use Rattle.base.proofs.Branches.{and_false}
use Rattle.base.specs.Bytes.{number_at}
use Rattle.base.specs.Lists.{every_at}
use Rattle.state_check.proofs.Loops.{each_start, each_again, each_denied, each_end}
use Rattle.format.specs.Types.{Id, Context as FormatContext}
use Rattle.format.specs.Read.{id_at}
use Rattle.format.proofs.Ranges.{id_range}
use Rattle.record.specs.declared.Context.{Context}
use Rattle.record.specs.Context.{context_of}
use Rattle.record.specs.Values.{ids_by, IdsInside, Met, Marked}
use Rattle.record.proofs.OnePass.{pass}
use Rattle.record.proofs.Turns.{pass_start, size_again, marked_again, pass_denied, pass_again, pass_end}
use Rattle.image.specs.Layout.{slot_size}
use Rattle.state_check.specs.Slots.{queue_slot_fits, queue_slots_fit, NextFits, queue_fits}

-- What is left of the answer.
unfoldable pub queue_left : FormatContext → (cuts m : ℕ) → (b : List ℕ) → (at k : ℕ) → Bool
queue_left c cuts m b at k =
    pass c (ids_by slot_size k b at) (ids_by slot_size (m - k) b (at + slot_size * k)) and every_at (queue_slot_fits b cuts) slot_size (m - k) (at + slot_size * k)

pub slots_inside : (m : ℕ) (b : List ℕ) (at : ℕ) → at + slot_size * m ≤ length b → IdsInside slot_size m b at
slots_inside m b at h = record { wide = omega arith; inside = h }

-- An id in range: its creator's cut is among those of the servers.
pub creator_inside : (c : Context) (cuts : ℕ) (b : List ℕ) (here : ℕ) (xs : List Id) (r : Bool) (t u : List ℕ) → cuts + 2 * c.servers ≤ length b
    → Met (context_of c) xs (id_at b here) r t u → r ≡ true → cuts + (2 * number_at 1 b here + 2) ≤ length b
unfolding context_of id_at
creator_inside c cuts b here xs r t u l j f =
    let z = and_holds _ _ (sym j.answer ∙ f) in
    omega (arith, l, (id_range (context_of c) (id_at b here) z.0).creator)

-- r is what was answered of the id.
module _ (c : FormatContext) (xs : List Id) (d : Id) (f r : Bool) (t u : List ℕ) (j : Met c xs d r t u) where
  pub next_old : r ≡ false → NextFits c xs d f r t u
  next_old e = record { new = r; met = j; answer = e ∙ and_no r f e }

  pub next_new : (q : Bool) → r ≡ true → q ≡ f → NextFits c xs d f q t u
  next_new q e g = record { new = r; met = j; answer = and_yes q r f e g }

module _ (c : FormatContext) (cuts m : ℕ) (b : List ℕ) (at : ℕ) where
  pub queue_start : queue_fits c cuts m b at ≡ queue_left c cuts m b at 0
  unfolding queue_fits queue_slots_fit queue_left
  queue_start = λ i. pass_start c slot_size m b at i and each_start (queue_slot_fits b cuts) slot_size m at i

  module _ (k : ℕ) (h : k < m) where
    -- r was answered of the slot, and u is the table then.
    module _ (t u : List ℕ) (r : Bool) (j : NextFits c (ids_by slot_size k b at) (id_at b (at + slot_size * k)) (queue_slot_fits b cuts (at + slot_size * k)) r t u) where
      pub queue_denied : (v : Bool) → not r ≡ true → v ≡ queue_left c cuts m b at k → false ≡ v
      unfolding queue_left
      queue_denied v f g = go (known j.new)
        where
          p : Bool
          p = pass c (ids_by slot_size k b at) (ids_by slot_size (m - k) b (at + slot_size * k))

          go : Known j.new → false ≡ v
          go (fails e) = and_no _ _ (sym (pass_denied c slot_size m b at k t j.new u j.met _ h (ap not e) refl)) ∙ sym g
          go (holds e) =
              let q : queue_slot_fits b cuts (at + slot_size * k) ≡ false = and_yes _ _ _ e refl ∙ sym j.answer ∙ not-true r f in
              let z = each_denied (queue_slot_fits b cuts) slot_size m at k _ refl _ h refl (ap not q) in
              and_false p ∙ ap (λ (x : Bool). p and x) z ∙ sym g

      module _ (f : not r ≡ false) where
        both_hold : (j.new ≡ true) × (queue_slot_fits b cuts (at + slot_size * k) ≡ true)
        both_hold = and_holds _ _ (sym j.answer ∙ not-false r f)

        pub queue_marked : Marked u (ids_by slot_size (k + 1) b at)
        queue_marked = marked_again c slot_size m b at k t j.new u j.met (ap not both_hold.0)

        pub queue_again : (v : Bool) → v ≡ queue_left c cuts m b at k → v ≡ queue_left c cuts m b at (k + 1)
        unfolding queue_left
        queue_again v g =
            let x = pass_again c slot_size m b at k t j.new u j.met _ h (ap not both_hold.0) refl in
            let y = each_again (queue_slot_fits b cuts) slot_size m at k _ refl _ h refl (ap not both_hold.1) in
            g ∙ (λ o. x o and y o)

      pub queue_size : (n : ℕ) → length t ≡ n → length u ≡ n
      queue_size n e = size_again c slot_size m b at k t j.new u j.met n e

  pub queue_end_lem : (k : ℕ) (v : Bool) → m ≤ k → v ≡ queue_left c cuts m b at k → true ≡ v
  unfolding queue_left
  queue_end_lem k v h g =
      sym (g ∙ both_yes _ _ (sym (pass_end c slot_size m b at k _ h refl)) (sym (each_end (queue_slot_fits b cuts) slot_size m at k _ refl h)))
