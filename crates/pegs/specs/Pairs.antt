-- Closed instances of the register's rules, one table, one theorem. Document 02, K2.
use Rattle.std.specs.Prelude.{ℕ, ◌≡◌, true, false, List, [], ◌∷◌, ◌++◌, map, pos, negsuc, length, drop}
use Rattle.base.specs.Bytes.{bytes_of, zeros}
use Rattle.base.specs.Lists.{after}
use Rattle.pegs.specs.Operations.{Peg, set_byte, move_byte, retire_byte, coordinate_size, coordinate}
use Rattle.pegs.specs.Register.{payload_number, after_payload, register_of}
use Rattle.pegs.specs.Image.{formed}

-- ---- payloads and pegs of the table

abbrev pub placed : (operation : ℕ) → (name : List ℕ) → (easting northing : ℕ) → List ℕ
placed o m e n = o ∷ length m ∷ (m ++ (bytes_of coordinate_size e ++ bytes_of coordinate_size n))

abbrev pub retire_of : (name : List ℕ) → List ℕ
retire_of m = retire_byte ∷ length m ∷ m

abbrev pub peg : (name : List ℕ) → (easting northing : ℕ) → Peg
peg m e n = record { name = m; place = record { easting = e; northing = n } }

-- The name `a`, and the same with a zero byte behind it.
abbrev pub short : List ℕ
short = 97 ∷ []

abbrev pub longer : List ℕ
longer = 97 ∷ 0 ∷ []

-- The names `aa` and `b`.
abbrev pub name_aa : List ℕ
name_aa = 97 ∷ 97 ∷ []

abbrev pub name_b : List ℕ
name_b = 98 ∷ []

-- 4,096 pegs: their names are the numbers from 1 on, in two bytes.
abbrev pub full : List Peg
full = map (λ k. peg (bytes_of 2 k) k k) (after 0 4096)

-- ---- the table

pub record Pairs : Type 0 where
  -- "Names count whole, every byte": these are two names, and the shorter one stands first.
  pub two_names : register_of (placed set_byte longer 3 4 ∷ placed set_byte short 1 2 ∷ []) ≡ peg short 1 2 ∷ peg longer 3 4 ∷ []
  -- "in byte order of name": bytes decide before lengths, `aa` stands before `b`.
  pub bytes_first : register_of (placed set_byte name_b 1 2 ∷ placed set_byte name_aa 3 4 ∷ []) ≡ peg name_aa 3 4 ∷ peg name_b 1 2 ∷ []
  -- "A retired name may be set again."
  pub again : register_of (placed set_byte short 1 2 ∷ retire_of short ∷ placed set_byte short 3 4 ∷ []) ≡ peg short 3 4 ∷ []
  pub moved : register_of (placed set_byte short 1 2 ∷ placed move_byte short 3 4 ∷ []) ≡ peg short 3 4 ∷ []
  -- "11 the payload is no such operation": a name of 24 bytes, of 25, of none; a byte behind; a retire with a place, a set without; byte 4.
  pub name_24 : payload_number (placed set_byte (zeros 24) 1 2) [] ≡ 0
  pub name_25 : payload_number (placed set_byte (zeros 25) 1 2) [] ≡ 11
  pub no_name : payload_number (placed set_byte [] 1 2) [] ≡ 11
  pub behind : payload_number (placed set_byte short 1 2 ++ (0 ∷ [])) [] ≡ 11
  pub retire_placed : payload_number (placed retire_byte short 1 2) (peg short 1 2 ∷ []) ≡ 11
  pub set_alone : payload_number (set_byte ∷ 1 ∷ short) [] ≡ 11
  pub byte_4 : payload_number (placed 4 short 1 2) [] ≡ 11
  -- "9 set and the name is there, then 13 a set while 4,096 stand": 9 in a full register too.
  pub full_formed : formed full ≡ true
  pub full_there : payload_number (placed set_byte (bytes_of 2 4096) 1 2) full ≡ 9
  pub full_other : payload_number (placed set_byte short 1 2) full ≡ 13
  pub one_free : payload_number (placed set_byte short 1 2) (drop 1 full) ≡ 0
  -- "10 move or retire and the name is not there"
  pub move_absent : payload_number (placed move_byte longer 3 4) (peg short 1 2 ∷ []) ≡ 10
  pub retire_absent : payload_number (retire_of longer) (peg short 1 2 ∷ []) ≡ 10
  -- "A refused operation .. leaves the register unchanged."
  pub refused_set : after_payload (placed set_byte short 3 4) (peg short 1 2 ∷ []) ≡ peg short 1 2 ∷ []
  pub refused_move : after_payload (placed move_byte longer 3 4) (peg short 1 2 ∷ []) ≡ peg short 1 2 ∷ []
  -- "8 a register .. out of range or order or with a name twice"
  pub in_order : formed (peg short 1 2 ∷ peg longer 1 2 ∷ []) ≡ true
  pub out_of_order : formed (peg longer 1 2 ∷ peg short 1 2 ∷ []) ≡ false
  pub bytes_in_order : formed (peg name_aa 3 4 ∷ peg name_b 1 2 ∷ []) ≡ true
  pub bytes_out_of_order : formed (peg name_b 1 2 ∷ peg name_aa 3 4 ∷ []) ≡ false
  pub twice : formed (peg short 1 2 ∷ peg short 3 4 ∷ []) ≡ false
  pub out_of_range : formed (peg short 4294967296 2 ∷ []) ≡ false
  -- "signed 32-bit"
  pub highest : coordinate 2147483647 ≡ pos 2147483647
  pub lowest : coordinate 2147483648 ≡ negsuc 2147483647
  pub minus_one : coordinate 4294967295 ≡ negsuc 0
