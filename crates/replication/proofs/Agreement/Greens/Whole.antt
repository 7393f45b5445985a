-- In every roomy run all green lists agree, and all primary components.
use Prim.Native.Nat.{ℕ}
use Rattle.replication.specs.Runs.Run.{Run}
use Rattle.replication.proofs.Runs.Roomy.{Roomy as Allowed}
use Rattle.replication.specs.Runs.Claim.{Agreement, Consequences}
use Rattle.replication.proofs.Agreement.Exchange.Facts.{exchange_facts}
use Rattle.replication.proofs.Agreement.Greens.Parts.{Parts}
use Rattle.replication.proofs.Agreement.Greens.OfLists.{list_parts}
use Rattle.replication.proofs.Agreement.Greens.OfContents.{content_parts}
use Rattle.replication.proofs.Agreement.Greens.OfPrimaries.{primary_parts}
use Rattle.replication.proofs.Agreement.Greens.Induction as I

pub parts : {n q : ℕ} {l : Run} (A : Allowed n q l) → Parts A
parts A = record { lists = list_parts; contents = content_parts A; primaries = primary_parts A }

pub agreement : {n q : ℕ} {l : Run} → Allowed n q l → Agreement n q l
agreement A = I.agreement A (exchange_facts A) (parts A)

pub consequences : {n q : ℕ} {l : Run} → Allowed n q l → Consequences n q l
consequences A = I.consequences A (exchange_facts A) (parts A)
