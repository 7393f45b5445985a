-- What a server's state (document 01's term; the type `Mode`) says of its votes, its configuration and its colours.
use Rattle.std.specs.Prelude.{ℕ, ◌+◌, ◌≡◌, Bool, true, false}
use mathlib.Core.List.{List, [], Memᴰ}
use Rattle.std.proofs.Math.Option.{Option, none, some}
use Rattle.format.specs.Types.{Action, Yellow}
use Rattle.replication.specs.Machine.Types.{Mode, Non_prim, Reg_prim, Trans_prim, Exchange_states, Exchange_actions, Construct, No, Un}
use Rattle.replication.specs.Machine.Types.{Votes, Configuration, Server, no_yellow, mode_of}
use Rattle.replication.specs.Machine.Step.{the_set}

-- ---- configurations

-- A regular configuration and none after it.
pub record InRegular (c : Option Configuration) (t : Option ℕ) : Type 0 where
  pub configuration : Configuration
  pub there : c ≡ some configuration
  pub none_after : t ≡ none

-- A regular configuration and a transitional one after it.
pub record InTransitional (c : Option Configuration) (t : Option ℕ) : Type 0 where
  pub configuration : Configuration
  pub there : c ≡ some configuration
  pub set : ℕ
  pub after : t ≡ some set

-- ---- marks

-- The server has marked its attempt in this configuration, and yellow is as the exchange left it: invalid only if empty.
pub record Attempts (v : Votes) (c : Option Configuration) : Type 0 where
  pub mark : v.mark ≡ record { status = 1; index = v.last.index; attempt = v.attempt; set = the_set c; bits = 0 }
  pub invalid_empty : v.yellow.status ≡ 0 → v.yellow.ids ≡ []

-- The attempt marked in this configuration is the last primary.
pub record Attained (v : Votes) (c : Option Configuration) : Type 0 where
  pub index : v.last.index ≡ v.mark.index + 1
  pub attempt : v.last.attempt ≡ v.mark.attempt
  pub set : v.last.set ≡ v.mark.set
  pub here : v.mark.set ≡ the_set c

abbrev pub ModeFacts : Mode → Votes → Option Configuration → Option ℕ → Type 0
ModeFacts Non_prim v c t = Unit {0}
ModeFacts Reg_prim v c t = InRegular c t × Attained v c
ModeFacts Trans_prim v c t = InTransitional c t × Attained v c
ModeFacts Exchange_states v c t = InRegular c t
ModeFacts Exchange_actions v c t = InRegular c t
ModeFacts Construct v c t = InRegular c t × Attempts v c
ModeFacts No v c t = InTransitional c t × Attempts v c
ModeFacts Un v c t = InTransitional c t × Attempts v c

abbrev pub ModeFactsOf : Server → Type 0
ModeFactsOf s = ModeFacts (mode_of s) s.votes s.membership.configuration s.membership.transitional

-- ---- colours

-- In Reg_prim all held actions are green and yellow is cleared; in Trans_prim yellow is invalid and all held actions are green or yellow.
abbrev pub ColourFacts : Mode → Yellow → List Action → Type 0
ColourFacts Non_prim y l = Unit {0}
ColourFacts Reg_prim y l = (y ≡ no_yellow) × (l ≡ [])
ColourFacts Trans_prim y l = (y.status ≡ 0) × ((a : Action) → Memᴰ a l → Memᴰ a.id y.ids)
ColourFacts Exchange_states y l = Unit {0}
ColourFacts Exchange_actions y l = Unit {0}
ColourFacts Construct y l = Unit {0}
ColourFacts No y l = Unit {0}
ColourFacts Un y l = Unit {0}

abbrev pub ColourFactsOf : Server → Type 0
ColourFactsOf s = ColourFacts (mode_of s) s.votes.yellow s.log.red

-- ---- an attempt under way

unfoldable pub attempting : Mode → Bool
attempting Non_prim = false
attempting Reg_prim = false
attempting Trans_prim = false
attempting Exchange_states = false
attempting Exchange_actions = false
attempting Construct = true
attempting No = true
attempting Un = true
