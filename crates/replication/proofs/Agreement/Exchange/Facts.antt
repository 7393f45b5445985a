-- What the exchange gives to the arguments on votes and green lists, in every allowed run.
use Prim.Native.Nat.{ℕ}
use Rattle.replication.specs.Runs.Run.{Run}
use Rattle.replication.proofs.Runs.Roomy.{Roomy as Allowed}
use Rattle.replication.proofs.Agreement.Terms.{ExchangeFacts}
use Rattle.replication.proofs.Agreement.Exchange.SameStates as S
use Rattle.replication.proofs.Agreement.Exchange.Marked as M
use Rattle.replication.proofs.Agreement.Exchange.Installs as I
use Rattle.replication.proofs.Agreement.Exchange.Leaving as L

pub exchange_facts : {n q : ℕ} {l : Run} → Allowed n q l → ExchangeFacts n q l
exchange_facts A =
    record {
      states_sent = λ p i c x k h m. S.states_sent A x k h m;
      states_only = λ p i c x k h. S.states_only A x k h;
      same_states = S.same_states A;
      marked_here = M.marked_here A;
      all_marked = I.all_marked A;
      none_leaves_late = L.none_leaves_late A;
    }
