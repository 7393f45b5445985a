-- The register of pegs that a list of payloads makes. Document 02, K2.
use Rattle.std.specs.Prelude.{ℕ, ◌+◌, List, [], ◌∷◌, length}
use Rattle.std.proofs.Math.Option.{Option, none, some}
use Rattle.base.specs.Tests.{◌≤?◌, ◌=?◌, pick}
use Rattle.base.specs.Lists.{is_there, same}
use Rattle.pegs.specs.Names.{before}
use Rattle.pegs.specs.Operations.{Place, Peg, Operation, set, move, retire, operation_of}

-- "The register holds up to 4,096 pegs in byte order of name."
abbrev pub most_pegs : ℕ
most_pegs = 4096

-- Where the peg with this name stands, if it is there.
unfoldable pub find : (name : List ℕ) → List Peg → Option Place
find m [] = none
find m (g ∷ l) = pick (same m g.name) (some g.place) (find m l)

-- ---- what an operation does

-- In front of the first peg whose name does not stand before its own.
unfoldable pub insert : Peg → List Peg → List Peg
insert g [] = g ∷ []
insert g (h ∷ l) = pick (before h.name g.name) (h ∷ insert g l) (g ∷ h ∷ l)

-- In the place of the peg with its name.
unfoldable pub replace : Peg → List Peg → List Peg
replace g [] = []
replace g (h ∷ l) = pick (same g.name h.name) (g ∷ l) (h ∷ replace g l)

unfoldable pub remove : (name : List ℕ) → List Peg → List Peg
remove m [] = []
remove m (h ∷ l) = pick (same m h.name) l (h ∷ remove m l)

unfoldable pub done : Operation → List Peg → List Peg
done (set m p) l = insert (record { name = m; place = p }) l
done (move m p) l = replace (record { name = m; place = p }) l
done (retire m) l = remove m l

-- ---- refusals; 0 where it is taken

-- "9 set and the name is there, ..
abbrev pub peg_there : ℕ
peg_there = 9

-- .. then 13 a set while 4,096 stand; ..
abbrev pub register_full : ℕ
register_full = 13

-- .. 10 move or retire and the name is not there"
abbrev pub peg_not_there : ℕ
peg_not_there = 10

-- "11 the payload is no such operation, tested first"
abbrev pub no_operation : ℕ
no_operation = 11

unfoldable pub number_of : Operation → List Peg → ℕ
number_of (set m p) l = pick (is_there (find m l)) peg_there (pick (most_pegs ≤? length l) register_full 0)
number_of (move m p) l = pick (is_there (find m l)) 0 peg_not_there
number_of (retire m) l = pick (is_there (find m l)) 0 peg_not_there

unfoldable pub number_if : Option Operation → List Peg → ℕ
number_if none l = no_operation
number_if (some o) l = number_of o l

unfoldable pub payload_number : (payload : List ℕ) → List Peg → ℕ
payload_number p l = number_if (operation_of p) l

-- ---- the register after payloads

-- "A refused operation stays in the green list and leaves the register unchanged."
unfoldable pub after : Operation → List Peg → List Peg
after o l = pick (number_of o l =? 0) (done o l) l

unfoldable pub after_if : Option Operation → List Peg → List Peg
after_if none l = l
after_if (some o) l = after o l

unfoldable pub after_payload : (payload : List ℕ) → List Peg → List Peg
after_payload p l = after_if (operation_of p) l

-- The register l after these payloads.
unfoldable pub advance : List Peg → (payloads : List (List ℕ)) → List Peg
advance l [] = l
advance l (p ∷ ps) = advance (after_payload p l) ps

-- How many of them are refused.
unfoldable pub refusals : List Peg → (payloads : List (List ℕ)) → ℕ
refusals l [] = 0
refusals l (p ∷ ps) = pick (payload_number p l =? 0) 0 1 + refusals (after_payload p l) ps

-- "folds the green list into a register": of the payloads, from the empty one.
unfoldable pub register_of : (payloads : List (List ℕ)) → List Peg
register_of ps = advance [] ps
