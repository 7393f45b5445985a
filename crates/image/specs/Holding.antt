-- Buffers that hold a state, and what a change in place makes of them: the words of the contracts above.
use Rattle.std.specs.Prelude.{ℕ, ◌≤◌, ◌≡◌, true, List, ◌++◌, length, drop}
use Rattle.replication.specs.Machine.Types.{Server, with_green}
use Rattle.replication.specs.Machine.WellFormed.{well_formed}
use Rattle.image.specs.Layout.{state_length}
use Rattle.image.specs.Image.{image}
use Rattle.image.specs.Decode.{blanks}

-- The white actions of s are blank: a buffer keeps nothing of them.
abbrev pub Blank : Server → Type 0
Blank s = s.log.green ≡ blanks s.white ++ drop s.white s.log.green

-- The state s with its white actions blank.
unfoldable pub blanked : Server → Server
blanked s = with_green (blanks s.white ++ drop s.white s.log.green) s

-- The buffer b, long enough, holds the image of s, whose white actions are blank.
pub record Holds (s : Server) (b : List ℕ) : Type 0 where
  pub formed : well_formed s ≡ true
  pub written : image s b ≡ b
  pub long : state_length s.servers s.quota ≤ length b
  pub blank : Blank s

-- The buffer b holds a state of which P is known.
pub record HoldsSuch (P : Server → Type 0) (b : List ℕ) : Type 0 where
  pub state : Server
  pub holds : Holds state b
  pub fact : P state

-- The buffer holds some state.
abbrev pub HoldsSome : List ℕ → Type 0
HoldsSome b = HoldsSuch (λ s. Unit {0}) b

-- A change in place: from a buffer b that holds s, the image of the changed s over b.
abbrev pub Becomes : (Server → Server) → (b b' : List ℕ) → Type 0
Becomes f b b' = (s : Server) → Holds s b → b' ≡ image (f s) b

-- The same of a state of which P is known.
abbrev pub BecomesWhere : (Server → Type 0) → (Server → Server) → (b b' : List ℕ) → Type 0
BecomesWhere P f b b' = (s : Server) → Holds s b → P s → b' ≡ image (f s) b

-- An answer from a buffer: of a buffer b that holds s, the answer r is f s.
abbrev pub Computes : {A : Type 0} → (Server → A) → (b : List ℕ) → A → Type 0
Computes f b r = (s : Server) → Holds s b → r ≡ f s
