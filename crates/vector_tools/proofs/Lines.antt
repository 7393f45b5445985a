-- Lines and their ends.
use Rattle.std.proofs.Common.{◌≡◌, ℕ, ◌-◌, ◌+◌, true, false, nat_eq, List, ◌++◌, length, take, drop, ◌⊎◌, inl, inr, sym, ap, ◌∙◌, Bor}
use Rattle.std.specs.Prelude.{Option, Some, None, MatchOption, unwrap_or}
use Rattle.std.specs.Cmp.Lexicographic.{pointwise}
use Rattle.std.proofs.lemmas.Slice.Eq.{strip_suffix_is}
use Rattle.std.proofs.lemmas.Bool.Decides.{Decides-eqb}

-- What `strip_suffix` leaves of a line s with the end p, and the line itself where it has no such end.
pub end_stripped : (s p : List ℕ) (r : Option (Bor (List ℕ))) (b a : Bor (List ℕ)) → MatchOption r (pointwise nat_eq (drop (length s - length p) s) p ≡ false)
    (λ x. (pointwise nat_eq (drop (length s - length p) s) p ≡ true) × (x.now ≡ take (length s - length p) s) × (length x.now + length p ≡ length s))
    → a ≡ unwrap_or r b → b.now ≡ s → (a.now ≡ s) ⊎ (a.now ++ p ≡ s)
end_stripped s p None b a h e l = inl (ap (λ (x : Bor (List ℕ)). x.now) e ∙ l)
end_stripped s p (Some x) b a h e l =
    inr (ap (λ (y : Bor (List ℕ)). y.now ++ p) e ∙ sym (strip_suffix_is Decides-eqb s p (Some x) h))
