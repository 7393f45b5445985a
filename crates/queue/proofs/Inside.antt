-- Changes inside the sections of a buffer, one after the other.
use Prim.Native.Nat.{ℕ, ◌+◌, ◌≤◌, ◌<◌}
use mathlib.Core.Path.{◌≡◌, ap, ◌∙◌}
use mathlib.Core.List.{List, []}
use native.Mathlib.Omega.{arith}
use lib.ListN.{length, get_or, drop, set, length-append}
use Rattle.base.specs.Bytes.{joined}
use Rattle.base.specs.Lists.{sum}
use Rattle.base.specs.Patched.{patched}
use Rattle.base.proofs.PatchedLaws.{patched_length}
use Rattle.base.proofs.Sections.{Laid, begin, begin_end, sized_at, sized_length, laid_part, laid_set, laid_rest, patched_inside}

-- b is laid out in these parts, and behind them it is what `old` is.
pub record Changed (ws : List ℕ) (ps : List (List ℕ)) (old b : List ℕ) : Type 0 where
  pub laid : Laid ws ps b
  pub rest : drop (sum ws) b ≡ drop (sum ws) old

laid_long : (ws : List ℕ) (ps : List (List ℕ)) (b : List ℕ) → Laid ws ps b → sum ws ≤ length b
laid_long ws ps b l =
    let size : length b ≡ length (joined ps) + length (drop (sum ws) b) = ap length l.whole ∙ length-append (joined ps) (drop (sum ws) b) in
    omega (arith, sized_length ws ps l.sized)

-- A change from the place i of the section k on.
pub changed_inside : (ws : List ℕ) (ps : List (List ℕ)) (old b : List ℕ) → Changed ws ps old b → (k i : ℕ) (x : List ℕ) → k < length ws
    → i + length x ≤ get_or ws k 0 → Changed ws (set ps k (patched i x (get_or ps k []))) old (patched (begin ws k + i) x b)
changed_inside ws ps old b c k i x h r =
    let p : List ℕ = get_or ps k [] in
    let y : List ℕ = patched i x p in
    let size : length p ≡ get_or ws k 0 = sized_at ws ps k c.laid.sized in
    let long : length y ≡ get_or ws k 0 = patched_length i x p (omega arith) ∙ size in
    let there : patched (begin ws k + i) x b ≡ patched (begin ws k) y b =
    patched_inside (begin ws k) i (get_or ws k 0) x b r (omega (arith, begin_end ws k, laid_long ws ps b c.laid))
    ∙ ap (λ (l : List ℕ). patched (begin ws k) (patched i x l) b) (laid_part ws ps b c.laid k h) in
    rw there (record { laid = laid_set ws ps b c.laid k y h long; rest = laid_rest ws ps b c.laid k y h long ∙ c.rest })

-- The same, at a place given as a number.
pub changed_at : (ws : List ℕ) (ps : List (List ℕ)) (old b : List ℕ) → Changed ws ps old b → (k i at : ℕ) (x : List ℕ) → at ≡ begin ws k + i → k < length ws
    → i + length x ≤ get_or ws k 0 → Changed ws (set ps k (patched i x (get_or ps k []))) old (patched at x b)
changed_at ws ps old b c k i at x e h r = rw e (changed_inside ws ps old b c k i x h r)
