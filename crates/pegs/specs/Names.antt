-- Names of pegs and their order. Document 02, K2: "Names count whole, every byte."
use Rattle.std.specs.Prelude.{ℕ, Bool, true, false, List, [], ◌∷◌}
use Rattle.base.specs.Tests.{◌and◌, ◌or◌, ◌<?◌, ◌=?◌}

-- "in byte order of name": u stands before v. A beginning stands before what it begins.
unfoldable pub before : List ℕ → List ℕ → Bool
before [] [] = false
before [] (b ∷ v) = true
before (a ∷ u) [] = false
before (a ∷ u) (b ∷ v) = a <? b or (a =? b and before u v)
