-- The events that came by a burst, one after another.
use Prim.Native.Nat.{ℕ, ◌+◌}
use mathlib.Core.Path.{◌≡◌, refl, sym, ap, ap₂, ◌∙◌}
use mathlib.Core.Bool.{Bool, true, false}
use mathlib.Core.List.{List, [], ◌∷◌, ◌++◌, append-nil}
use native.Mathlib.Omega.{arith}
use lib.ListN.{take, drop}
use lib.Seq.{take-add, drop-drop}
use Rattle.base.specs.Tests.{◌and◌, ◌=?◌, pick}
use Rattle.base.proofs.TestLaws.{eq_no, pick_ne, pick_either}
use Rattle.base.proofs.Branches.{and_true, and_false}
use Rattle.daemons.specs.Sending.{cut_records}
use Rattle.daemons.proofs.SendingLaws.{cut_short_lem, cut_front}
use Rattle.burst.specs.Next.{Event, Stop}
use Rattle.burst.specs.Burst.{next_of}
use Rattle.burst.specs.Calls.{next_event, came_by}
use Rattle.burst.proofs.NextLaws.{Whole, whole_said}
use Rattle.burst.proofs.BurstLaws.{by_stop, by_event}

-- As `came_by`; whether the first event of the slice stands first.
unfoldable pub came_from : (first : Bool) → (number events bytes : ℕ) → List ℕ → List (List ℕ)
came_from f k n m e = cut_records (take m e) ++ pick (k =? 0) [] (next_event (f and n =? 0) (drop m e))

pub came_first : (k n m : ℕ) (e : List ℕ) → came_by k n m e ≡ came_from true k n m e
unfolding came_by came_from ◌and◌
came_first k n m e = refl

cut_none : cut_records [] ≡ []
cut_none = cut_short_lem [] (omega arith)

module _ (f : Bool) (e : List ℕ) where
  -- Nothing is taken.
  came_none : (k : ℕ) → came_from f k 0 0 e ≡ pick (k =? 0) [] (next_event f e)
  unfolding came_from ◌=?◌
  came_none k =
      ap (λ (l : List (List ℕ)). l ++ pick (k =? 0) [] (next_event (f and 0 =? 0) e)) cut_none
      ∙ ap (λ (t : Bool). pick (k =? 0) [] (next_event t e)) (sym (and_true f))

  pub came_stop : (k j : ℕ) → next_of f e ≡ Stop j → came_from f k 0 0 e ≡ []
  unfolding next_event
  came_stop k j h =
      came_none k
      ∙ ap (pick (k =? 0) []) (by_stop (next_of f e) j _ _ h)
      ∙ pick_either (λ (l : List (List ℕ)). l ≡ []) (k =? 0) [] [] refl refl

  pub came_refused : (k m : ℕ) → next_of f e ≡ Event m → (k ≡ 0 → ⊥) → came_from f k 0 0 e ≡ take m e ∷ []
  unfolding next_event
  came_refused k m h n = came_none k ∙ sym (pick_ne k 0 (take m e ∷ []) _ _ n (sym (by_event (next_of f e) m _ _ h)))

  module _ (m : ℕ) (w : Whole f e m) where
    cut_more : (j : ℕ) → cut_records (take (m + j) e) ≡ take m e ∷ cut_records (take j (drop m e))
    cut_more j = ap cut_records (take-add m j e) ∙ cut_front (take m e) (take j (drop m e)) (whole_said f e m w)

    pub came_ended : came_from f 0 1 m e ≡ take m e ∷ []
    unfolding came_from ◌=?◌ pick
    came_ended =
        ap (λ (l : List (List ℕ)). l ++ []) (ap cut_records (sym (append-nil (take m e))) ∙ cut_front (take m e) [] (whole_said f e m w))
        ∙ append-nil (take m e ∷ cut_records [])
        ∙ ap (λ (l : List (List ℕ)). take m e ∷ l) cut_none

    pub came_behind : (k n j : ℕ) → came_from f k (1 + n) (m + j) e ≡ take m e ∷ came_from false k n j (drop m e)
    unfolding came_from ◌and◌
    came_behind k n j =
        ap₂ {A = List (List ℕ)} {B = List (List ℕ)} {C = List (List ℕ)} (λ l r. l ++ pick (k =? 0) [] r) (cut_more j)
        (ap₂ {A = Bool} {B = List ℕ} {C = List (List ℕ)} (λ t l. next_event t l) later (sym (drop-drop j m e)))
      where
        later : (f and (1 + n) =? 0) ≡ false
        later = ap (λ (t : Bool). f and t) (eq_no (1 + n) 0 (λ q. absurd (omega arith))) ∙ sym (and_false f)
