-- What the exported functions on a register answer: numbers, and the bytes of its buffer. Document 02, K2.
use Rattle.std.specs.Prelude.{ℕ, suc, Bool, List, [], ◌∷◌, ℤ, pos, length}
use Rattle.std.proofs.Math.Option.{Option, none, some}
use Rattle.base.specs.Tests.{◌<?◌, ◌=?◌, pick}
use Rattle.base.specs.Refusals.{short_buffer, bad_state}
use Rattle.pegs.specs.Names.{before}
use Rattle.pegs.specs.Operations.{Place, Peg, coordinate}
use Rattle.pegs.specs.Register.{find, payload_number, after_payload}
use Rattle.pegs.specs.Image.{register_length, register_image, pegs_in, register_reads}

-- "7 a buffer below its formula, then 8 a register .. out of range or order or with a name twice"
unfoldable pub register_short : List ℕ → Bool
register_short r = length r <? register_length

unfoldable pub register_number : List ℕ → ℕ
register_number r = pick (register_short r) short_buffer (pick (register_reads r) 0 bad_state)

-- ---- start, and one operation

-- The number returned, and the buffer afterwards.
pub record Changed : Type 0 where
  pub number : ℕ
  pub register : List ℕ

unfoldable pub changed : ℕ → List ℕ → Changed
changed k r = record { number = k; register = r }

-- The empty register.
unfoldable pub empty_on : List ℕ → Changed
empty_on r = pick (register_short r) (changed short_buffer r) (changed 0 (register_image [] r))

-- "no refusal changes anything lent"
unfoldable pub applied : (payload : List ℕ) → List Peg → List ℕ → Changed
applied p l r = pick (payload_number p l =? 0) (changed 0 (register_image (after_payload p l) r)) (changed (payload_number p l) r)

-- The payload applied to the register that the bytes r hold.
abbrev pub applied_to : (register payload : List ℕ) → Changed
applied_to r p = applied p (pegs_in r) r

-- Payloads one after another, each on the buffer that the one before it left. What is behind the register is what they left there.
unfoldable pub applied_all : (payloads : List (List ℕ)) → List ℕ → List ℕ
applied_all [] r = r
applied_all (p ∷ ps) r = applied_all ps (applied_to r p).register

unfoldable pub apply_on : (register payload : List ℕ) → Changed
apply_on r p = pick (register_number r =? 0) (applied_to r p) (changed (register_number r) r)

-- ---- one peg by its name

-- How many of the pegs stand before the name.
unfoldable pub position : (name : List ℕ) → List Peg → ℕ
position m [] = 0
position m (g ∷ l) = pick (before g.name m) (suc (position m l)) 0

-- The number returned; 1 and which peg of the register it is, from 0 on, with its place in millimetres; or zeros.
pub record Found : Type 0 where
  pub number : ℕ
  pub found : ℕ
  pub index : ℕ
  pub easting : ℤ
  pub northing : ℤ

unfoldable pub not_found : (number : ℕ) → Found
not_found k = record { number = k; found = 0; index = 0; easting = pos 0; northing = pos 0 }

unfoldable pub found_if : (index : ℕ) → Option Place → Found
found_if k none = not_found 0
found_if k (some p) = record { number = 0; found = 1; index = k; easting = coordinate p.easting; northing = coordinate p.northing }

unfoldable pub find_on : (register name : List ℕ) → Found
find_on r m = pick (register_number r =? 0) (found_if (position m (pegs_in r)) (find m (pegs_in r))) (not_found (register_number r))
