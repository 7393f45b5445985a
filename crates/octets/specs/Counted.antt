-- Bytes behind their count.
use Rattle.std.specs.Prelude.{ℕ, List, [], ◌∷◌, length}
use Rattle.base.specs.Bytes.{bytes_of, joined}

abbrev pub counted : List ℕ → List ℕ
counted y = joined (bytes_of 1 (length y) ∷ y ∷ [])
