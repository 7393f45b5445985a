-- What one server has: its state in memory and its stored state, and what an event makes of them.
use Rattle.std.specs.Prelude.{ℕ, Bool, true, false, List, [], ◌∷◌}
use Rattle.std.proofs.Math.Option.{Option, none, some}
use Rattle.base.specs.Tests.{pick}
use Rattle.format.specs.Types.{Record, action, retransmission, state, cpc, regular, transitional, request, recovery, Reading, says, refused}
use Rattle.format.specs.Read.{read}
use Rattle.replication.specs.Machine.Types.{Server, Outcome, taken, context_of}
use Rattle.replication.specs.Machine.Step.{step}

pub record Images : Type 0 where
  pub memory : Server
  pub store : Server

-- "a store never written holds the start."
unfoldable pub started : Server → Images
started s = record { memory = s; store = s }

unfoldable pub is_recovery : Reading Record → Bool
is_recovery (says (action a)) = false
is_recovery (says (retransmission k p a)) = false
is_recovery (says (state x)) = false
is_recovery (says (cpc k i)) = false
is_recovery (says (regular i t)) = false
is_recovery (says (transitional t)) = false
is_recovery (says (request p)) = false
is_recovery (says recovery) = true
is_recovery (refused k) = false

-- "Each event but recovery gets the state its server's last one left"; "Recovery, from the stored image".
unfoldable pub source_of : Images → List ℕ → Server
source_of i e = pick (is_recovery (read (context_of i.memory) e)) i.store i.memory

unfoldable pub arrive : Images → List ℕ → Outcome (List ℕ)
arrive i e = step (source_of i e) e

-- "What is stored is the event's whole new state".
unfoldable pub left_by : Outcome (List ℕ) → Images → Images
left_by (Outcome.refused k) i = i
left_by (taken t r b g) i = record { memory = t; store = pick b t i.store }

-- The store is written with what is in memory.
abbrev pub saved_in : Images → Images
saved_in i = record { memory = i.memory; store = i.memory }

-- What a server has after these events, whatever they are; `none` is a store between two of them.
unfoldable pub lived : Images → List (Option (List ℕ)) → Images
lived i [] = i
lived i (none ∷ es) = lived (saved_in i) es
lived i (some e ∷ es) = lived (left_by (arrive i e) i) es
