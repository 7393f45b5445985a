-- What the code on the sections of the buffer answers.
use Prim.Native.Nat.{ℕ, zero, suc, ◌+◌, ◌*◌, ◌-◌, ◌≤◌, ◌<◌}
use mathlib.Core.Path.{◌≡◌, sym, ap, subst, ◌∙◌}
use mathlib.Core.Bool.{Bool, true}
use mathlib.Core.List.{List}
use native.Mathlib.Omega.{arith}
use lib.Dec.{eqb, leb}
use lib.ListN.{length}
use Rattle.base.specs.Tests.{◌and◌, ◌≤?◌}
use Rattle.base.proofs.Branches.{told_eq, told_le}
use Rattle.base.specs.Bytes.{number_at, numbers_at}
use Rattle.base.specs.Lists.{sum}
use Rattle.format.specs.Range.{ids_in_range, ids_differ, ids_ok}
use Rattle.format.specs.Read.{ids_at}
use Rattle.record.specs.Context.{context_of}
use Rattle.record.specs.declared.Context.{Context}
use Rattle.image.specs.Layout.{the_noted, the_states, the_yellow, the_own, the_queue, sections, state_size, state_length, offset, header_size, slot_size}
use Rattle.exchange.specs.declared.slots.Slots.{Slots}
use Rattle.exchange.specs.Slots.{Space, slots_of}
use Rattle.format.specs.Places.{id_size}
use Rattle.state_check.specs.Slots.{queue_fits, own_fits, noted_fit}
use Rattle.state_check.specs.Collected.{collected_ok, StatesInside}
use Rattle.state_check.specs.Checks.{place_of, own_cut, queue_cuts, own_next, queue_ok, Buffer}
use Rattle.state_check.proofs.Rooms.{cuts_room, noted_room, states_room, ids_room, own_room, queue_room}

-- ---- a sum

sum_step : (m : ℕ) (b : List ℕ) (at : ℕ) → 0 < m → sum (numbers_at 2 m b at) ≡ number_at 2 b at + sum (numbers_at 2 (m - 1) b (at + 2))
unfolding numbers_at sum
sum_step zero b at h = absurd (omega arith)
sum_step (suc m) b at h = let e : suc m - 1 ≡ m = omega arith in rw e

-- The first k of n were added.
module _ (n : ℕ) (b : List ℕ) (at : ℕ) where
  pub sum_start : 0 + sum (numbers_at 2 (n - 0) b (at + 2 * 0)) ≡ sum (numbers_at 2 n b at)
  sum_start =
      let x : n - 0 ≡ n = omega arith in
      let y : at + 2 * 0 ≡ at = omega arith in
      rw (x, y) (omega arith)

  module _ (k total v : ℕ) (e : total + sum (numbers_at 2 (n - k) b (at + 2 * k)) ≡ v) where
    pub sum_again : (x : ℕ) → k < n → x ≡ number_at 2 b (at + 2 * k) → total + x + sum (numbers_at 2 (n - (k + 1)) b (at + 2 * (k + 1))) ≡ v
    sum_again x h f =
        let y : n - k - 1 ≡ n - (k + 1) = omega arith in
        let z : at + 2 * k + 2 ≡ at + 2 * (k + 1) = omega arith in
        let split : sum (numbers_at 2 (n - k) b (at + 2 * k)) ≡ number_at 2 b (at + 2 * k) + sum (numbers_at 2 (n - (k + 1)) b (at + 2 * (k + 1))) =
        sum_step (n - k) b (at + 2 * k) (omega arith) ∙ (λ i. number_at 2 b (at + 2 * k) + sum (numbers_at 2 (y i) b (z i))) in
        omega (arith, split)

    pub sum_end : n ≤ k → total ≡ v
    unfolding numbers_at sum
    sum_end h =
        let none : n - k ≡ 0 = omega arith in
        let nothing : sum (numbers_at 2 (n - k) b (at + 2 * k)) ≡ 0 = ap (λ (i : ℕ). sum (numbers_at 2 i b (at + 2 * k))) none in
        omega (arith, nothing)

-- What follows from the sizes of the buffer follows from those of its context.
pub by_sizes : (c : Context) (n q k at : ℕ) → (n ≡ c.servers) × (q ≡ c.quota) → at ≡ offset n q k → at ≡ offset c.servers c.quota k
by_sizes c n q k at h e = e ∙ (λ i. offset (h.0 i) (h.1 i) k)

-- ---- rooms, as the callees ask for them

module _ (c : Context) (b : List ℕ) (k : Buffer c b) where
  pub slots_space : (v : Slots) (here : ℕ) → v ≡ slots_of c.servers c.quota here → Space v b
  unfolding slots_of state_size offset sections sum state_length
  slots_space v here e =
      subst (λ (y : Slots). Space y b) (sym e) (record { servers = k.context.most; long = omega arith; inside = omega (arith, k.long) })

  pub cuts_inside : header_size + 2 * c.servers ≤ length b
  unfolding offset sections sum
  cuts_inside = cuts_room c.servers c.quota b k.long

  pub cut_room : header_size + 2 * c.me + 2 ≤ length b
  cut_room = omega (arith, cuts_inside, k.context.own)

  pub noted_inside : (at : ℕ) → at ≡ offset c.servers c.quota the_noted → at + 4 * c.servers ≤ length b
  noted_inside at e = rw e (noted_room c.servers c.quota b k.long)

  pub ids_inside : (at m : ℕ) → at ≡ offset c.servers c.quota the_yellow → m ≤ c.servers * c.quota → at + id_size * m ≤ length b
  ids_inside at m e l = rw e (ids_room c.servers c.quota b k.long m l)

  pub own_inside : (at m : ℕ) → at ≡ offset c.servers c.quota the_own → m ≤ c.quota → at + slot_size * m ≤ length b
  own_inside at m e l = rw e (own_room c.servers c.quota b k.long m l)

  pub queue_inside : (at m : ℕ) → at ≡ offset c.servers c.quota the_queue → m ≤ c.servers * c.quota → at + slot_size * m ≤ length b
  queue_inside at m e l = rw e (queue_room c.servers c.quota b k.long m l)

  pub states_inside : (at : ℕ) → at ≡ offset c.servers c.quota the_states → StatesInside c b at
  states_inside at e =
      record { context = k.context; bytes = k.bytes; inside = rw e (states_room c.servers c.quota b k.long) }

-- ---- answers

module _ (c : Context) (b : List ℕ) where
  pub cut_told : (x : ℕ) → x ≡ number_at 2 b (header_size + 2 * c.me) → x ≡ own_cut (context_of c) b
  unfolding own_cut context_of place_of offset sections sum
  cut_told x e = e

  pub noted_told : (at : ℕ) (r : Bool) → at ≡ offset c.servers c.quota the_noted → r ≡ noted_fit (context_of c) b at → r ≡ noted_fit (context_of c) b (place_of (context_of c) the_noted)
  unfolding place_of context_of
  noted_told at r e f = f ∙ ap (noted_fit (context_of c) b) e

  pub no_ids : (m at : ℕ) → m ≡ 0 → true ≡ ids_ok (context_of c) (ids_at m b at)
  unfolding ids_ok ids_in_range ids_differ ids_at ◌and◌
  no_ids m at e = rw e

  pub ids_told : (at m : ℕ) (r : Bool) → at ≡ offset c.servers c.quota the_yellow → r ≡ ids_ok (context_of c) (ids_at m b at)
      → r ≡ ids_ok (context_of c) (ids_at m b (place_of (context_of c) the_yellow))
  unfolding place_of context_of
  ids_told at m r e f = f ∙ ap (λ (i : ℕ). ids_ok (context_of c) (ids_at m b i)) e

  pub own_told : (at x m : ℕ) (r : Bool) → at ≡ offset c.servers c.quota the_own → x ≡ own_cut (context_of c) b → r ≡ own_fits (context_of c) x m b at
      → r ≡ own_fits (context_of c) (own_cut (context_of c) b) m b (place_of (context_of c) the_own)
  unfolding place_of context_of
  own_told at x m r e f g = g ∙ λ i. own_fits (context_of c) (f i) m b (e i)

  pub cuts_answered : (actions x : ℕ) → x ≡ sum (numbers_at 2 c.servers b header_size) → leb actions x ≡ queue_cuts (context_of c) actions b
  unfolding queue_cuts place_of context_of offset sections sum
  cuts_answered actions x e = ap (leb actions) e ∙ told_le actions _

  pub next_told : (x own numbered : ℕ) → x ≡ own_cut (context_of c) b → eqb (x + own) numbered ≡ own_next (context_of c) own numbered b
  unfolding own_next
  next_told x own numbered e = ap (λ (i : ℕ). eqb (i + own) numbered) e ∙ told_eq (own_cut (context_of c) b + own) numbered

  pub queue_told : (at m : ℕ) (r : Bool) → at ≡ offset c.servers c.quota the_queue → r ≡ queue_fits (context_of c) header_size m b at → r ≡ queue_ok (context_of c) m b
  unfolding place_of context_of offset sections sum
  queue_told at m r e f = f ∙ ap (queue_fits (context_of c) header_size m b) e

  pub room_told : (x entered numbered : ℕ) → x ≡ own_cut (context_of c) b → leb (entered + numbered) (c.quota + x) ≡ (entered + numbered ≤? c.quota + own_cut (context_of c) b)
  room_told x entered numbered e = ap (λ (i : ℕ). leb (entered + numbered) (c.quota + i)) e ∙ told_le (entered + numbered) (c.quota + own_cut (context_of c) b)

  pub states_told : (at s i : ℕ) (r : Bool) → at ≡ offset c.servers c.quota the_states → r ≡ collected_ok (context_of c) s i c.servers 0 b at
      → r ≡ collected_ok (context_of c) s i c.servers 0 b (place_of (context_of c) the_states)
  unfolding place_of context_of
  states_told at s i r e f = f ∙ ap (collected_ok (context_of c) s i c.servers 0 b) e
