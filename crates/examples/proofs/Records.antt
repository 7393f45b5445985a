-- Short names for the records of the runs.
use Prim.Native.Nat.{ℕ}
use mathlib.Core.List.{List, []}
use Rattle.format.specs.Types.{Id, Action, Primary, component, Mark, Yellow, State}
use Rattle.replication.specs.Runs.Happenings.{Message}

-- The record `number` of those sent at a place.
abbrev pub sent : (place number : ℕ) → Message
sent s k = record { sending = s; number = k }

abbrev pub named : (creator index : ℕ) → Id
named c i = record { creator = c; index = i }

-- An action numbered with so many green, and with so many of them white; with none white.
abbrev pub made_with : (creator index green_length white_length : ℕ) (payload : List ℕ) → Action
made_with c i g w p = record { id = named c i; green_length = g; white_length = w; payload = p }

abbrev pub made : (creator index green_length : ℕ) (payload : List ℕ) → Action
made c i g p = made_with c i g 0 p

abbrev pub primary : (index attempt set : ℕ) → Primary
primary i a s = component i a s

abbrev pub unmarked : Mark
unmarked = record { status = 0; index = 0; attempt = 0; set = 0; bits = 0 }

abbrev pub marked : (index attempt set bits : ℕ) → Mark
marked i a s b = record { status = 1; index = i; attempt = a; set = s; bits = b }

abbrev pub no_yellow_lem : Yellow
no_yellow_lem = record { status = 0; ids = [] }

abbrev pub yellows : (status : ℕ) → List Id → Yellow
yellows s d = record { status = s; ids = d }

abbrev pub told : (sender configuration : ℕ) (cuts : List ℕ) (green_length attempt : ℕ) → Primary → Mark → Yellow → State
told s c r g a l m y = record { sender = s; configuration = c; cuts = r; green_length = g; attempt = a; last = l; mark = m; yellow = y }
