-- Two quorums of one primary component share a member of it: all that the agreement takes from the rule of quorums.
use Prim.Native.Nat.{ℕ, ◌*◌, ◌<◌, ◌^◌}
use mathlib.Core.Path.{◌≡◌, refl, sym, subst, ◌∙◌}
use mathlib.Core.Bool.{true}
use mathlib.Core.List.{List}
use native.Mathlib.Omega.{arith}
use Rattle.base.proofs.TestLaws.{Known, holds, fails, known, and_holds, lt_holds, eq_holds}
use Rattle.base.proofs.Branches.{or_no}
use Rattle.base.specs.Sets.{in_set, size, common}
use Rattle.base.proofs.Quorums.{shares_meet, member_meets}
use Rattle.format.specs.Types.{Primary, State}
use Rattle.replication.specs.Machine.Exchange.{taken_primary, more_than_half, lowest_of, half_with_lowest, linear_vote, quorum}

-- What a winner has of the members.
data Wins (p : Primary) (here : ℕ) : Type 0 where
  more : size p.set < 2 * size (common p.set here) → Wins p here
  half : 2 * size (common p.set here) ≡ size p.set → in_set (lowest_of p) (common p.set here) ≡ true → Wins p here

vote_wins : (p : Primary) (here : ℕ) → linear_vote p here ≡ true → Wins p here
unfolding linear_vote more_than_half half_with_lowest
vote_wins p here h = go (known (more_than_half p here))
  where
    go : Known (more_than_half p here) → Wins p here
    go (holds m) = more (lt_holds _ _ m)
    go (fails m) = let x = and_holds _ _ (or_no _ _ _ m refl ∙ h) in half (eq_holds _ _ x.0) x.1

quorum_wins : (xs : List State) (here : ℕ) → quorum xs here ≡ true → Wins (taken_primary xs) here
unfolding quorum
quorum_wins xs here k = vote_wins (taken_primary xs) here (and_holds _ _ (and_holds _ _ k).1).0

winners_meet : (n : ℕ) (p : Primary) (a b : ℕ) → p.set < 2 ^ n → Wins p a → Wins p b
    → (k : ℕ) × (in_set k p.set ≡ true) × (in_set k a ≡ true) × (in_set k b ≡ true)
winners_meet n p a b h (more f) (more g) = shares_meet n p.set a b h (omega arith)
winners_meet n p a b h (more f) (half g m) = shares_meet n p.set a b h (omega arith)
winners_meet n p a b h (half f l) (more g) = shares_meet n p.set a b h (omega arith)
winners_meet n p a b h (half f l) (half g m) = member_meets (lowest_of p) p.set a b l m

pub quorums_meet : (n : ℕ) (xs ys : List State) (a b : ℕ) → taken_primary xs ≡ taken_primary ys → (taken_primary xs).set < 2 ^ n → quorum xs a ≡ true
    → quorum ys b ≡ true → (k : ℕ) × (in_set k (taken_primary xs).set ≡ true) × (in_set k a ≡ true) × (in_set k b ≡ true)
quorums_meet n xs ys a b e h f g =
    winners_meet n (taken_primary xs) a b h (quorum_wins xs a f) (subst (λ p. Wins p b) (sym e) (quorum_wins ys b g))
