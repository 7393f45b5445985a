-- A regular configuration's answer: the state stored, its State sent.
use Prim.Native.Nat.{ℕ}
use mathlib.Core.Path.{◌≡◌}
use mathlib.Core.List.{List}
use lib.ListN.{length}
use Rattle.base.specs.Bytes.{over}
use Rattle.format.specs.Write.{record_bytes}
use Rattle.replication.specs.Machine.Types.{Server}
use Rattle.replication.specs.Machine.Step.{entering, join}
use Rattle.image.specs.Image.{image}
use Rattle.image.specs.Holding.{Holds}
use Rattle.updates.specs.Lists.{configuration_of}
use Rattle.outgoing.specs.Sending.{own_record}
use Rattle.step.specs.declared.Answer.{Answer}
use Rattle.step.specs.Answers.{answered, outcome_on, stored_first}
use Rattle.step.proofs.OutcomeLaws.{stored_outcome}

pub join_done : (id set : ℕ) (b o b₁ o₁ : List ℕ) (m : ℕ) (r : Answer)
    → ((s : Server) (k : ℕ) → Holds s b → (m ≡ length (record_bytes (own_record id k s))) × (o₁ ≡ over (record_bytes (own_record id k s)) o))
    → ((s : Server) → Holds s b → b₁ ≡ image (entering (configuration_of id set) s) b) → r ≡ stored_first m
    → (s t : Server) → Holds t b → answered r b₁ o₁ ≡ outcome_on (join s (configuration_of id set) t) b o
unfolding join own_record
join_done id set b o b₁ o₁ m r f d a s t k =
    let z = f t set k in
    stored_outcome s (entering (configuration_of id set) t) (own_record id set t) b o b₁ o₁ m r a (d t k) z.0 z.1
