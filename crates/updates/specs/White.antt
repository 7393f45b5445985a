-- K6: white lengths in a state's buffer, taken and raised.
use Rattle.std.specs.Prelude.{ℕ, max, min, Bool, List, length}
use Rattle.std.proofs.Math.Option.{some}
use Rattle.format.specs.Types.{Action}
use Rattle.record.specs.Values.{action_of}
use Rattle.record.specs.declared.ActionHead.{ActionHead}
use Rattle.replication.specs.Machine.Types.{Server, with_white}
use Rattle.replication.specs.Machine.White.{least, taken_from, no_place}
use Rattle.image.specs.Holding.{Becomes, Computes}

-- "An action green on every server, by the noted green lengths, becomes white".
unfoldable pub whitened : Server → Server
whitened s = with_white (max s.white (min (length s.log.green) (least s.noted))) s

-- The white length of s when it is to enter the action a: "Before entering an action .. a server takes that white length".
abbrev pub taken_white : Action → Server → ℕ
taken_white a s = taken_from (some a) s.log s.white

-- "An action whose creator then still has q unwhite ones entered here"
abbrev pub without_place : Action → Server → Bool
without_place a s = no_place (some a) s.log (taken_white a s) s.quota

-- The white length of an action with this head is taken, and r says whether there is then no place for it. The payload does not matter.
abbrev pub Takes : ActionHead → (r : Bool) → (b b' : List ℕ) → Type 0
Takes h r b b' =
    (p : List ℕ) → Becomes (λ s. with_white (taken_white (action_of h p) s) s) b b' × Computes (without_place (action_of h p)) b r
