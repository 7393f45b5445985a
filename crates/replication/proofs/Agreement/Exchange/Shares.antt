-- The plan shared out: each member's part is within its share, and the shares together are what is planned.
use Prim.Native.Nat.{ℕ, ◌+◌, ◌≤◌}
use mathlib.Core.Bool.{Bool, true, false}
use mathlib.Core.List.{List, []}
use mathlib.Core.Option.{Option, none, some}
use native.Mathlib.Omega.{arith}
use lib.ListN.{length, length-append}
use Rattle.base.specs.Tests.{pick}
use Rattle.base.specs.Lists.{below, gather_all}
use Rattle.base.proofs.ListLaws.{gather_length, gather_all_length}
use Rattle.base.proofs.Totals.{total, total_sum, total_add, total_most, total_none, total_swap, total_one}
use Rattle.format.specs.Types.{State}
use Rattle.replication.specs.Machine.Types.{Log}
use Rattle.replication.specs.Machine.Colours.{find, places_of}
use Rattle.replication.specs.Machine.Plan.{resender, missing, cut_in, green_in, planned, is_me, resent, resend_green, resend_red, own_part, held_at}

-- What the server k is to resend by f.
share_by : (State → ℕ) → List State → ℕ → ℕ
share_by f xs k = pick (is_me k (resender f xs)) (length (missing f xs)) 0

-- The most that the server k, of n, is to resend.
pub share : ℕ → List State → ℕ → ℕ
share n xs k = share_by green_in xs k + total n (λ c. share_by (cut_in c) xs k)

picked_length : {A : Type 0} (b : Bool) (rs : List A) (m : ℕ) → length rs ≤ m → length (pick b rs []) ≤ pick b m 0
unfolding pick
picked_length true rs m h = h
picked_length false rs m h = omega arith

module _ (n k w : ℕ) (g : Log) (xs : List State) where
  red_length : (c : ℕ) → length (resend_red k w g xs c) ≤ share_by (cut_in c) xs k
  unfolding resend_red share_by
  red_length c =
      picked_length (is_me k (resender (cut_in c) xs)) _ _
      (gather_length (λ i. resent k 0 (find (record { creator = c; index = i }) (places_of w g))) (missing (cut_in c) xs))

  green_length_lem : length (resend_green k w g xs) ≤ share_by green_in xs k
  unfolding resend_green share_by
  green_length_lem = picked_length (is_me k (resender green_in xs)) _ _ (gather_length (λ p. resent k p (held_at w g p)) (missing green_in xs))

  -- One's part of the plan is within one's share.
  pub part_within : length (own_part n k w g xs) ≤ share n xs k
  unfolding own_part share
  part_within =
      omega (
        arith,
        length-append (resend_green k w g xs) (gather_all (resend_red k w g xs) (below n)),
        green_length_lem,
        gather_all_length (resend_red k w g xs) (λ c. share_by (cut_in c) xs k) red_length (below n),
        total_sum n (λ c. share_by (cut_in c) xs k),
      )

-- At most one server is the resender.
one_resender : (n : ℕ) (o : Option ℕ) (v : ℕ) → total n (λ k. pick (is_me k o) v 0) ≤ v
unfolding is_me pick
one_resender n none v = omega (arith, total_none n)
one_resender n (some j) v = total_one n j v

one_resends : (n : ℕ) (f : State → ℕ) (xs : List State) → total n (share_by f xs) ≤ length (missing f xs)
unfolding share_by
one_resends n f xs = one_resender n (resender f xs) (length (missing f xs))

-- The shares of all are at most what is planned.
pub shares_planned : (n : ℕ) (xs : List State) → total n (share n xs) ≤ planned n xs
unfolding share planned
shares_planned n xs =
    let added = total_add n (share_by green_in xs) (λ k. total n (λ c. share_by (cut_in c) xs k)) in
    let swapped = total_swap n n (λ k c. share_by (cut_in c) xs k) in
    let reds = total_most n (λ c. total n (share_by (cut_in c) xs)) (λ c. length (missing (cut_in c) xs)) (λ c. one_resends n (cut_in c) xs) in
    omega (arith, added, swapped, reds, one_resends n green_in xs, total_sum n (λ c. length (missing (cut_in c) xs)))
