-- What can still be known of a member's part in a primary component: it only shrinks, never below what was green at the Install, and only by a fall.
use Prim.Native.Nat.{ℕ, zero, suc, max, ◌≤◌, ◌<◌}
use mathlib.Core.Path.{◌≡◌, refl, sym, ◌∙◌}
use mathlib.Core.Bool.{true, false}
use mathlib.Core.List.{List, ◌++◌}
use mathlib.Core.Option.{some}
use native.Mathlib.Omega.{arith}
use native.Mathlib.Decide.{dec_lt}
use lib.ListN.{length, take}
use Rattle.base.proofs.Chains.{chain}
use Rattle.base.specs.Tests.{pick}
use Rattle.base.proofs.TestLaws.{not_both, and_holds, both_yes, Known, holds, fails, known}
use Rattle.format.specs.Types.{Id}
use Rattle.replication.specs.Machine.Types.{Configuration}
use Rattle.replication.specs.Machine.WellFormed.{ids_in}
use Rattle.replication.specs.Laws.Folds.{entered}
use Rattle.replication.specs.Runs.Run.{Run, nowhere, place_at}
use Rattle.replication.proofs.Runs.DeliveryFacts.{within_regular}
use Rattle.replication.specs.Runs.Happenings.{Falls}
use Rattle.replication.proofs.Runs.Roomy.{Roomy as Allowed}
use Rattle.replication.proofs.Runs.AllowedTurns.{store_at}
use Rattle.replication.proofs.Runs.DeliveryLists.{within_holds, within_yes}
use Rattle.replication.proofs.Runs.Entries.{had}
use Rattle.replication.proofs.Runs.Shifts.{Shift, to_regular, to_transitional, to_nowhere, stays, shift, takes_no_fall, transitional_no_fall, stays_no_fall}
use Rattle.replication.proofs.Runs.Stays.{placed_up}
use Rattle.replication.proofs.Agreement.Terms.{Within, InstallsAt}
use Rattle.replication.proofs.Agreement.Primaries.Acted.{acted_in}
use Rattle.replication.proofs.Agreement.Greens.Beginnings.{Prefix, prefix_refl, prefix_trans, prefix_to, prefix_from, prefix_same, prefix_append, comparable_beginnings, take_begins, begins_take, take_within, shorter}
use Rattle.replication.proofs.Agreement.Greens.Terms.{greens, base_of, cuts_of, reach, is_fall, falls_in, residue}

module _ {n q : ℕ} {l : Run} (A : Allowed n q l) where
  -- ---- the test for a fall

  pub within_place : {p i : ℕ} {c : Configuration} → (place_at n q l i p).regular ≡ some c → Within n q l p i c
  within_place {p} {i} {c} h = record { up = placed_up A p i c h; here = h }

  fall_true : {t d : ℕ} (x : Shift n q l t d) → Falls n q l t d → is_fall A x ≡ true
  unfolding is_fall
  fall_true (to_regular c k m) f = absurd (takes_no_fall k f)
  fall_true (to_transitional s k m) f = absurd (transitional_no_fall k f)
  fall_true (to_nowhere g m) f = refl
  fall_true (stays g h m) f = absurd (stays_no_fall g h f)

  fall_holds : {t d : ℕ} (x : Shift n q l t d) → is_fall A x ≡ true → Falls n q l t d × (place_at n q l d (suc t) ≡ nowhere)
  unfolding is_fall
  fall_holds (to_regular c k m) f = not_both f
  fall_holds (to_transitional s k m) f = not_both f
  fall_holds (to_nowhere g m) f = (g, m)
  fall_holds (stays g h m) f = not_both f

  pub falls_in_lem : {t d : ℕ} {c : Configuration} → Falls n q l t d → Within n q l t d c → falls_in A c d t ≡ true
  unfolding falls_in
  falls_in_lem {t} {d} {c} f w = both_yes _ _ (within_yes c _ w.here) (fall_true (shift n q l t d) f)

  pub fallen : (t d : ℕ) (c : Configuration) → falls_in A c d t ≡ true → Falls n q l t d × Within n q l t d c × (place_at n q l d (suc t) ≡ nowhere)
  unfolding falls_in
  fallen t d c h =
      let k = and_holds _ _ h in
      let f = fall_holds (shift n q l t d) k.1 in
      (f.0, within_place (within_holds c _ k.0), f.1)

  -- ---- one step

  module _ {p i : ℕ} {c : Configuration} (x : InstallsAt n q l p i c) where
    -- How much of it is left by a fall at t.
    abbrev left_by : ℕ → ℕ → ℕ
    left_by t d = max (length (base_of A x)) (length (greens (store_at n q l t d)))

    pub residue_stays : (t d : ℕ) → falls_in A c d t ≡ false → residue A x (suc t) d ≡ residue A x t d
    unfolding residue pick
    residue_stays t d h = rw h

    pub residue_fallen : (t d : ℕ) → falls_in A c d t ≡ true
        → residue A x (suc t) d ≡ take (left_by t d) (residue A x t d)
    unfolding residue pick
    residue_fallen t d h = rw h

    pub residue_next : (t d : ℕ) → Prefix (residue A x (suc t) d) (residue A x t d)
    residue_next t d = go (known (falls_in A c d t))
      where
        go : Known (falls_in A c d t) → Prefix (residue A x (suc t) d) (residue A x t d)
        go (holds h) = prefix_from (residue_fallen t d h) (take_begins (left_by t d) (residue A x t d))
        go (fails h) = prefix_same (residue_stays t d h)

    -- ---- in the long run

    pub residue_shrinks : (t r d : ℕ) → t ≤ r → Prefix (residue A x r d) (residue A x t d)
    residue_shrinks t r d h =
        chain (λ a b. Prefix b a) (λ a. prefix_refl) (λ a b e u v. prefix_trans v u) (λ z. residue A x z d) t r h (λ z a b. residue_next z d)

    pub residue_reach : (t d : ℕ) → Prefix (residue A x t d) (reach A x d)
    unfolding residue
    residue_reach t d = residue_shrinks 0 t d (omega arith)

    pub base_residue : (t d : ℕ) → Prefix (base_of A x) (residue A x t d)
    unfolding residue reach
    base_residue zero d = prefix_append _ _
    base_residue (suc t) d = go (known (falls_in A c d t)) (base_residue t d)
      where
        go : Known (falls_in A c d t) → Prefix (base_of A x) (residue A x t d) → Prefix (base_of A x) (residue A x (suc t) d)
        go (holds h) before = prefix_to (begins_take (left_by t d) (base_of A x) (residue A x t d) before (omega arith)) (sym (residue_fallen t d h))
        go (fails h) before = prefix_to before (sym (residue_stays t d h))

    pub residue_unfallen : (t d : ℕ) → ((y : ℕ) → y < t → falls_in A c d y ≡ true → ⊥) → residue A x t d ≡ reach A x d
    unfolding residue
    residue_unfallen zero d f = refl
    residue_unfallen (suc t) d f = go (known (falls_in A c d t)) (residue_unfallen t d (λ y a. f y (omega arith)))
      where
        go : Known (falls_in A c d t) → residue A x t d ≡ reach A x d → residue A x (suc t) d ≡ reach A x d
        go (holds h) e = absurd (f t (omega arith) h)
        go (fails h) e = residue_stays t d h ∙ e

    -- A server that is in the configuration has not fallen in it.
    pub residue_whole : (t d : ℕ) → Within n q l t d c → residue A x t d ≡ reach A x d
    unfolding nowhere
    residue_whole t d w = residue_unfallen t d (λ y a h. never y a (fallen y d c h))
      where
        never : (y : ℕ) → y < t → Falls n q l y d × Within n q l y d c × (place_at n q l d (suc y) ≡ nowhere) → ⊥
        never y a f =
            let u = had n q l t d c w.here in
            let v = had n q l y d c f.1.here in
            u.steady y (omega (arith, v.earlier, A.allowed.once v.took_at u.took_at d c v.took u.took)) a f.0

    -- A member's residue after its fall begins every list that has what was green at the Install and what it had stored.
    pub residue_stored : (y t d : ℕ) (z : List Id) → y < t → Falls n q l y d → Within n q l y d c → Prefix (greens (store_at n q l y d)) (reach A x d)
        → Prefix (base_of A x) z → Prefix (greens (store_at n q l y d)) z → Prefix (residue A x t d) z
    unfolding reach
    residue_stored y t d z h f w s b g =
        prefix_trans (residue_shrinks (suc y) t d h) (prefix_from (residue_fallen y d (falls_in_lem f w)) (go (dec_lt (length (base_of A x)) (length (greens (store_at n q l y d))))))
      where
        stored : List Id
        stored = greens (store_at n q l y d)

        go : Dec (length (base_of A x) < length stored) → Prefix (take (left_by y d) (residue A x y d)) z
        go (yes a) =
            prefix_trans
            (take_within (left_by y d) stored (residue A x y d) (comparable_beginnings prefix_refl (residue_reach y d) (shorter s)) (omega arith))
            g
        go (no a) = prefix_trans (take_within (left_by y d) (base_of A x) (residue A x y d) (shorter (base_residue y d)) (omega arith)) b

  -- ---- Installs in one configuration that give the same

  module _ {p r i j : ℕ} {c : Configuration} (x : InstallsAt n q l p i c) (y : InstallsAt n q l r j c)
      (same_base : base_of A x ≡ base_of A y) (same_cuts : cuts_of A x ≡ cuts_of A y) where
    pub same_reach : (d : ℕ) → reach A x d ≡ reach A y d
    unfolding reach
    same_reach d = λ z. same_base z ++ ids_in (entered (same_cuts z) (acted_in A (within_regular c) d (length l)))

    pub same_residue : (t d : ℕ) → residue A x t d ≡ residue A y t d
    unfolding residue
    same_residue zero d = same_reach d
    same_residue (suc t) d =
        λ z. pick (falls_in A c d t) (take (max (length (same_base z)) (length (greens (store_at n q l t d)))) (same_residue t d z)) (same_residue t d z)
