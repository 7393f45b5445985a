-- What one retransmission does to a log whose green list begins the longest one.
use Prim.Native.Nat.{ℕ, ◌+◌, ◌-◌, ◌≤◌, ◌<◌}
use mathlib.Core.Path.{◌≡◌, refl, sym, ap, subst, ◌∙◌}
use mathlib.Core.List.{List, [], ◌∷◌, ◌++◌}
use mathlib.Core.Option.{some}
use native.Mathlib.Omega.{arith}
use native.Mathlib.Decide.{ℕ_discrete}
use lib.ListN.{length, get_or, length-map, length-append}
use Rattle.base.specs.Tests.{◌≤?◌, ◌and◌, pick}
use Rattle.base.proofs.TestLaws.{eq_yes, eq_no, le_yes, le_no, both_yes}
use Rattle.base.specs.Lists.{at, Begins}
use Rattle.base.proofs.AtLaws.{none_some, some_same}
use Rattle.base.proofs.Gathered.{at_second}
use Rattle.base.proofs.Prefixes.{set_most}
use Rattle.format.specs.Types.{Id, Action}
use Rattle.replication.specs.Machine.Types.{Log}
use Rattle.replication.specs.Machine.Colours.{cut, enter, red, green}
use Rattle.replication.specs.Machine.Step.{placed}
use Rattle.replication.specs.Machine.WellFormed.{ids_in}
use Rattle.replication.proofs.Step.Greens.{red_green}
use Rattle.replication.proofs.Step.Growth.{red_grows, green_grows}
use Rattle.replication.proofs.WellFormed.Held.{Entered, entered, ignored, entered?}
use Rattle.replication.proofs.Agreement.Lists.Fifo.{Fifo}
use Rattle.replication.proofs.Agreement.Lists.Held.{HeldExactly}
use Rattle.replication.proofs.Agreement.Lists.Placed.{green_in_order, red_cut, green_cut}

-- ---- where a retransmission goes

placed_next : (p : ℕ) (a : Action) (m : Log) → p ≡ length m.green + 1 → placed p a m ≡ green a m
unfolding placed pick
placed_next p a m e = rw (eq_yes p (length m.green + 1) e)

placed_known : (p : ℕ) (a : Action) (m : Log) → 1 ≤ p → p ≤ length m.green → placed p a m ≡ m
unfolding placed pick
placed_known p a m u v = rw (eq_no p (length m.green + 1) (λ e. omega arith), both_yes (1 ≤? p) (p ≤? length m.green) (le_yes 1 p u) (le_yes p _ v))

placed_red : (a : Action) (m : Log) → placed 0 a m ≡ red a m
unfolding placed pick ◌and◌
placed_red a m = rw (eq_no 0 (length m.green + 1) (λ e. omega arith), le_no 1 0 (omega arith))

-- ---- the green list

pub ids_length : (xs : List Action) → length (ids_in xs) ≡ length xs
unfolding ids_in
ids_length xs = length-map xs (λ a. a.id)

-- What follows a beginning.
follows_on : (x t : List Id) (d : Id) → at (x ++ t) (length x) ≡ some d → (z : List Id) × (t ≡ d ∷ z)
unfolding at
follows_on x t d e = go t (sym (at_second x t 0) ∙ (let z : length x + 0 ≡ length x = omega arith in ap (at (x ++ t)) z) ∙ e)
  where
    go : (t : List Id) → at t 0 ≡ some d → (z : List Id) × (t ≡ d ∷ z)
    go [] h = none_some h
    go (y ∷ t) h = let w : y ≡ d = some_same h in (t, ap (λ v. v ∷ t) w)

-- ---- the cuts

red_cut_most : (a : Action) (m : Log) (c h : ℕ) → cut m c ≤ h → (c ≡ a.id.creator → a.id.index ≤ h) → cut (red a m) c ≤ h
unfolding cut enter
red_cut_most a m c h u v = go (entered? a m)
  where
    go : Entered a m → get_or (red a m).cuts c 0 ≤ h
    go (entered next t e) = rw e (set_most m.cuts a.id.creator a.id.index c h u v)
    go (ignored t e) = rw e u

-- ---- one retransmission

-- What m becomes by the retransmission of a at the position p (0: as red).
pub record PlacedAt (top : List Id) (high : ℕ → ℕ) (p : ℕ) (a : Action) (m w : Log) : Type 0 where
  pub begins : Begins (ids_in w.green) top
  pub longer : length m.green ≤ length w.green
  pub reached : p ≤ length w.green
  pub cuts : (c : ℕ) → cut m c ≤ cut w c
  pub high_cuts : (c : ℕ) → cut w c ≤ high c
  pub raised : p ≡ 0 → a.id.index ≤ cut w a.id.creator

module _ (top : List Id) (high : ℕ → ℕ) (a : Action) (m : Log) (b : Begins (ids_in m.green) top) (h : (c : ℕ) → cut m c ≤ high c)
    (bound : a.id.index ≤ high a.id.creator) where
  -- By position: it is known, or is the next of the longest list.
  pub placed_position : HeldExactly m → Fifo top → (p : ℕ) → 1 ≤ p → p ≤ length m.green + 1 → at top (p - 1) ≡ some a.id
      → PlacedAt top high p a m (placed p a m)
  unfolding Begins
  placed_position exact fifo p low most there = go (ℕ_discrete p (length m.green + 1))
    where
      g : List Id
      g = ids_in m.green

      next : p ≡ length m.green + 1 → PlacedAt top high p a m (green a m)
      next e =
          let s : p - 1 ≡ length g = omega (arith, ids_length m.green) in
          let z = follows_on g b.0 a.id (ap (λ t. at t (length g)) (sym b.1) ∙ ap (at top) (sym s) ∙ there) in
          let w : top ≡ g ++ (a.id ∷ z.0) = b.1 ∙ ap (λ t. g ++ t) z.1 in
          let i = green_in_order a m exact z.0 (subst Fifo w fifo) in
          let k : length (green a m).green ≡ length m.green + 1 =
          sym (ids_length (green a m).green) ∙ ap length i ∙ length-append g (a.id ∷ []) ∙ omega (arith, ids_length m.green)
          in
          record {
            begins = (z.0, w ∙ sym (ap (λ t. t ++ z.0) i ∙ joined g a.id z.0));
            longer = omega arith;
            reached = omega arith;
            cuts = (green_grows a m).cuts;
            high_cuts = λ c. omega (arith, green_cut a m c, red_cut_most a m c (high c) (h c) (λ d. subst (λ y. a.id.index ≤ high y) (sym d) bound));
            raised = λ d. absurd (omega arith);
          }
        where
          joined : (x : List Id) (d : Id) (z : List Id) → (x ++ (d ∷ [])) ++ z ≡ x ++ (d ∷ z)
          joined [] d z = refl
          joined (y ∷ x) d z = ap (λ w. y ∷ w) (joined x d z)

      known : p ≤ length m.green → PlacedAt top high p a m m
      known e = record { begins = b; longer = omega arith; reached = e; cuts = λ c. omega arith; high_cuts = h; raised = λ d. absurd (omega arith) }

      go : Dec (p ≡ length m.green + 1) → PlacedAt top high p a m (placed p a m)
      go (yes e) = subst (λ w. PlacedAt top high p a m w) (sym (placed_next p a m e)) (next e)
      go (no e) = subst (λ w. PlacedAt top high p a m w) (sym (placed_known p a m low (omega arith))) (known (omega arith))

  -- As red: it is known, or is its creator's next.
  pub placed_index : a.id.creator < length m.cuts → a.id.index ≤ cut m a.id.creator + 1 → PlacedAt top high 0 a m (placed 0 a m)
  placed_index inside next =
      subst (λ w. PlacedAt top high 0 a m w) (sym (placed_red a m))
      (record {
        begins = subst (λ x. Begins (ids_in x) top) (sym (red_green a m)) b;
        longer = omega (arith, ap length (red_green a m));
        reached = omega arith;
        cuts = (red_grows a m).cuts;
        high_cuts = λ c. red_cut_most a m c (high c) (h c) (λ d. subst (λ y. a.id.index ≤ high y) (sym d) bound);
        raised = λ d. omega (arith, red_cut a m inside next);
      })
