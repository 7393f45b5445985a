-- What a server that has no white action would resend; and that with white ones it resends no less, if these are below all that is planned.
use Prim.Native.Nat.{ℕ, ◌-◌, ◌≤◌, ◌<◌}
use mathlib.Core.Path.{◌≡◌, refl, sym, ap, ap₂, subst, ◌∙◌}
use mathlib.Core.List.Memᴰ
use mathlib.Core.List.{List, [], ◌∷◌, ◌++◌, Memᴰ, append_assoc}
use mathlib.Core.Option.{Option, none, some}
use native.Mathlib.Omega.{arith}
use lib.ListN.{length, take, drop, take-append-drop}
use Rattle.base.specs.Tests.{pick}
use Rattle.base.proofs.TestLaws.{le_no, Known, holds, fails, known}
use Rattle.base.specs.Lists.{gather, gather_all, at_front, below, at, Each}
use Rattle.base.proofs.ListLaws.{above_between, each_implied}
use Rattle.format.specs.Types.{Id, Action, State, Record}
use Rattle.format.specs.Range.{same_id}
use Rattle.replication.specs.Machine.Types.{Log}
use Rattle.replication.specs.Machine.Colours.{find, places_of}
use Rattle.replication.specs.Machine.Plan.{resender, lowest, highest, missing, cut_in, green_in, is_me, resent, held_at, resend_green, resend_red, own_part}
use Rattle.replication.specs.Machine.WellFormed.{ids_in}
use Rattle.replication.proofs.WellFormed.Ids.{same_id_holds}
use Rattle.replication.proofs.Agreement.Exchange.Shares.{share, part_within}

unfoldable pub whole_green : ℕ → Log → List State → List Record
whole_green me l xs = pick (is_me me (resender green_in xs)) (gather (λ p. resent me p (at l.green (p - 1))) (missing green_in xs)) []

unfoldable pub whole_red : ℕ → Log → List State → ℕ → List Record
whole_red me l xs c =
    pick (is_me me (resender (cut_in c) xs))
    (gather (λ i. resent me 0 (find (record { creator = c; index = i }) (l.green ++ l.red))) (missing (cut_in c) xs))
    []

unfoldable pub whole_part : ℕ → ℕ → Log → List State → List Record
whole_part n me l xs = whole_green me l xs ++ gather_all (whole_red me l xs) (below n)

-- ---- lists

gather_same : {A B : Type 0} (f g : A → Option B) (xs : List A) → Each (λ x. f x ≡ g x) xs → gather f xs ≡ gather g xs
unfolding gather
gather_same f g [] h = refl
gather_same f g (x ∷ xs) h = ap₂ at_front h.0 (gather_same f g xs h.1)

gather_all_same : {A B : Type 0} (f g : A → List B) (xs : List A) → ((x : A) → f x ≡ g x) → gather_all f xs ≡ gather_all g xs
unfolding gather_all
gather_all_same f g [] h = refl
gather_all_same f g (x ∷ xs) h = ap₂ ◌++◌ (h x) (gather_all_same f g xs h)

-- What is not among the first is found behind them.
find_behind : (d : Id) (xs ys : List Action) → (Memᴰ d (ids_in xs) → ⊥) → find d (xs ++ ys) ≡ find d ys
unfolding find ids_in pick
find_behind d [] ys h = refl
find_behind d (x ∷ xs) ys h = go (known (same_id d x.id)) (find_behind d xs ys (λ m. h (Memᴰ.tail m)))
  where
    go : Known (same_id d x.id) → find d (xs ++ ys) ≡ find d ys → pick (same_id d x.id) (some x) (find d (xs ++ ys)) ≡ find d ys
    go (holds e) r = absurd (h (Memᴰ.head (same_id_holds d x.id e)))
    go (fails e) r = ap (λ b. pick b (some x) (find d (xs ++ ys))) e ∙ r

-- ---- the parts

module _ (n k w : ℕ) (l : Log) (xs : List State) (positions : w ≤ lowest green_in xs)
    (indexes : (d : Id) → Memᴰ d (ids_in (take w l.green)) → d.index ≤ lowest (cut_in d.creator) xs)
  where
    held_same : (p : ℕ) → lowest green_in xs < p → held_at w l p ≡ at l.green (p - 1)
    unfolding held_at pick
    held_same p h = ap (λ b. pick b none (at l.green (p - 1))) (le_no p w (omega arith))

    found_same : (c i : ℕ) → lowest (cut_in c) xs < i
        → find (record { creator = c; index = i }) (places_of w l) ≡ find (record { creator = c; index = i }) (l.green ++ l.red)
    unfolding places_of
    found_same c i h =
        sym (find_behind (record { creator = c; index = i }) (take w l.green) (places_of w l)
        (λ m. absurd (omega (arith, indexes (record { creator = c; index = i }) m))))
        ∙ ap (find (record { creator = c; index = i })) (sym (append_assoc (take w l.green) (drop w l.green) l.red) ∙ ap (λ z. z ++ l.red) (take-append-drop w l.green))

    green_same : resend_green k w l xs ≡ whole_green k l xs
    unfolding resend_green whole_green missing
    green_same =
        ap (λ z. pick (is_me k (resender green_in xs)) z [])
        (gather_same (λ p. resent k p (held_at w l p)) (λ p. resent k p (at l.green (p - 1))) (missing green_in xs)
        (each_implied (λ p. (lowest green_in xs < p) × (p ≤ highest green_in xs)) (λ p. resent k p (held_at w l p) ≡ resent k p (at l.green (p - 1)))
        (λ p h. ap (resent k p) (held_same p h.0)) (missing green_in xs) (above_between (lowest green_in xs) (highest green_in xs))))

    red_same : (c : ℕ) → resend_red k w l xs c ≡ whole_red k l xs c
    unfolding resend_red whole_red missing
    red_same c =
        ap (λ z. pick (is_me k (resender (cut_in c) xs)) z [])
        (gather_same (λ i. resent k 0 (find (record { creator = c; index = i }) (places_of w l)))
        (λ i. resent k 0 (find (record { creator = c; index = i }) (l.green ++ l.red))) (missing (cut_in c) xs)
        (each_implied (λ i. (lowest (cut_in c) xs < i) × (i ≤ highest (cut_in c) xs))
        (λ i. resent k 0 (find (record { creator = c; index = i }) (places_of w l)) ≡ resent k 0 (find (record { creator = c; index = i }) (l.green ++ l.red)))
        (λ i h. ap (resent k 0) (found_same c i h.0)) (missing (cut_in c) xs) (above_between (lowest (cut_in c) xs) (highest (cut_in c) xs))))

    -- Nothing that is planned is gone.
    pub part_whole : own_part n k w l xs ≡ whole_part n k l xs
    unfolding own_part whole_part
    part_whole = ap₂ ◌++◌ green_same (gather_all_same (resend_red k w l xs) (whole_red k l xs) (below n) red_same)

-- One's part of the plan is within one's share.
pub whole_within : (n k : ℕ) (l : Log) (xs : List State) → length (whole_part n k l xs) ≤ share n xs k
unfolding ids_in
whole_within n k l xs =
    subst (λ z. length z ≤ share n xs k) (part_whole n k 0 l xs (omega arith) (λ d m. absurd (Memᴰ.not-nil m))) (part_within n k 0 l xs)
