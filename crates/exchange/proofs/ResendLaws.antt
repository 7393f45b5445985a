-- How many are planned.
use Prim.Native.Nat.{ℕ, ◌+◌, ◌≤◌}
use mathlib.Core.Path.{◌≡◌, ap, ◌∙◌}
use mathlib.Core.List.{List, [], ◌∷◌, ◌++◌, map, map-append}
use native.Mathlib.Omega.{arith}
use native.Mathlib.Numerals.{add-one}
use lib.ListN.{length}
use Rattle.base.specs.Lists.{sum, below}
use Rattle.base.proofs.Totals.{sum_append}
use Rattle.format.specs.Types.{State}
use Rattle.replication.specs.Machine.Plan.{missing, planned, green_in, cut_in}

pub planned_start : (xs : List State) (x : ℕ) → x ≡ length (missing green_in xs) → x ≡ planned 0 xs
unfolding planned below sum
planned_start xs x e = e ∙ omega arith

pub planned_again : (xs : List State) (c total x : ℕ) → x ≡ length (missing (cut_in c) xs) → total ≡ planned c xs
    → total + x ≡ planned (c + 1) xs
unfolding planned below sum
planned_again xs c total x e i =
    let g : ℕ → ℕ = λ d. length (missing (cut_in d) xs) in
    let more : sum (map g (below c ++ (c ∷ []))) ≡ sum (map g (below c)) + (g c + 0) = ap sum (map-append g (below c) (c ∷ [])) ∙ sum_append (map g (below c)) (g c ∷ []) in
    rw add-one (omega (arith, more, e, i))

pub planned_end : (xs : List State) (n c total : ℕ) → c ≤ n → n ≤ c → total ≡ planned c xs → total ≡ planned n xs
planned_end xs n c total h l e = let z : c ≡ n = omega arith in e ∙ ap (λ (m : ℕ). planned m xs) z
