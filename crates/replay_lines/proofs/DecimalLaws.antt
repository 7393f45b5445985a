-- The number in decimal is the one that the library prints.
use Rattle.std.proofs.Common.{◌≡◌, ℕ, zero, suc, ◌+◌, ◌-◌, ◌/◌, ◌%◌, ◌^◌, ◌≤◌, ◌<◌, List, [], ◌∷◌, ◌++◌, sym, ap, ◌∙◌, append-nil, arith}
use Rattle.std.specs.Fmt as std
use Rattle.std.proofs.lemmas.Fmt.{PrependsLastDigit, decimal_from_prepends, length-decimal-le_succ}
use Rattle.base.specs.Text.{digits, decimal}

digits_one : (d v : ℕ) (rest : List ℕ) → v / 10 ≡ 0 → digits (suc d) v rest ≡ (48 + v % 10) ∷ rest
unfolding digits
digits_one d v rest e =
    ap (λ (x : ℕ). elim x [ zero ↦ (48 + v % 10) ∷ rest | suc u ↦ digits d (v / 10) ((48 + v % 10) ∷ rest) ]) e

digits_more : (d v w : ℕ) (rest : List ℕ) → v / 10 ≡ suc w → digits (suc d) v rest ≡ digits d (v / 10) ((48 + v % 10) ∷ rest)
unfolding digits
digits_more d v w rest e =
    ap (λ (x : ℕ). elim x [ zero ↦ (48 + v % 10) ∷ rest | suc u ↦ digits d (v / 10) ((48 + v % 10) ∷ rest) ]) e

prepends : PrependsLastDigit digits
prepends = record {
  one = λ k n acc h. let last : 48 + n % 10 ≡ 48 + n = omega arith in digits_one k n acc (omega arith) ∙ ap (λ (x : ℕ). x ∷ acc) last;
  more = λ k n acc h. let some : n / 10 ≡ suc (n / 10 - 1) = omega arith in digits_more k n (n / 10 - 1) acc some;
}

pub decimal_is : (v : ℕ) → v < 2 ^ 64 → decimal v ≡ std.decimal v
unfolding decimal
decimal_is v h = decimal_from_prepends digits prepends (v + 1) v [] h (length-decimal-le_succ v h) ∙ append-nil (std.decimal v)
