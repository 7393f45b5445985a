-- What is known of a state in lent buffers.
use Prim.Native.Nat.{ℕ, ◌≤◌}
use mathlib.Core.Path.{subst}
use mathlib.Core.List.{List}
use lib.ListN.{length}
use Rattle.replication.specs.Machine.Types.{Server}
use Rattle.image.specs.Layout.{out_length}
use Rattle.image.specs.Holding.{Holds}
use Rattle.image.proofs.InPlace.{holds_one}
use Rattle.outgoing.specs.Lent.{LentSuch}

pub lent_fact : (P : Server → Type 0) (b o : List ℕ) (s : Server) → LentSuch P b o → Holds s b → P s
lent_fact P b o s h r = subst P (holds_one h.state s b h.holds r) h.fact

pub lent_room : (P : Server → Type 0) (b o : List ℕ) (s : Server) → LentSuch P b o → Holds s b → out_length s.servers s.quota ≤ length o
lent_room P b o s h r = subst (λ (t : Server). out_length t.servers t.quota ≤ length o) (holds_one h.state s b h.holds r) h.room
