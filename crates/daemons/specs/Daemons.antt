-- The daemons of a run's servers: what they keep at each of its places.
use Rattle.std.specs.Prelude.{ℕ, zero, suc, ◌≤◌, ◌<◌, ◌≡◌, Bool, true, false, List, length}
use Rattle.std.proofs.Math.Option.{Option, none, some}
use Rattle.base.specs.Tests.{◌=?◌, pick}
use Rattle.base.specs.Lists.{at, upd}
use Rattle.replication.specs.Runs.Run.{Entry, event, crash, store, Run}
use Rattle.image.specs.Layout.{out_length}
use Rattle.daemons.specs.Buffers.{Buffers, Lent, saved, begun, step_in, kept_after}

-- Every server's buffers, and which servers are down.
pub record Daemons : Type 0 where
  pub buffers : ℕ → Buffers
  pub down : ℕ → Bool

-- The bytes that a run leaves open: each server's buffers at first, the outgoing buffer at each place, and what the state's buffer holds after a
-- crash at each place, since memory is lost.
pub record Lending : Type 0 where
  pub first : ℕ → Buffers
  pub out : ℕ → List ℕ
  pub crashed : ℕ → List ℕ

-- Any bytes, as long as they must be.
pub record LongEnough (n q : ℕ) (l : Run) (x : Lending) : Type 0 where
  pub first : (i : ℕ) → i < n → Lent n q (x.first i)
  pub out : (p : ℕ) → out_length n q ≤ length (x.out p)
  pub crashed : (p i : ℕ) → at l p ≡ some (crash i) → length (x.crashed p) ≡ length (x.first i).state

-- What an entry makes of the daemons, with the outgoing buffer o, or c in the state's buffer after a crash. A server that is down is up again when
-- an event returns 0.
unfoldable pub daemons_after : Daemons → (o c : List ℕ) → Option Entry → Daemons
daemons_after d o c none = d
daemons_after d o c (some (event i e k)) = record {
  buffers = upd d.buffers i (kept_after (d.buffers i) (step_in (d.buffers i) e o));
  down = upd d.down i (pick ((step_in (d.buffers i) e o).number =? 0) false (d.down i));
}
daemons_after d o c (some (crash i)) =
    record { buffers = upd d.buffers i (record { state = c; store = (d.buffers i).store }); down = upd d.down i true }
daemons_after d o c (some (store i)) = record { buffers = upd d.buffers i (saved (d.buffers i)); down = d.down }

-- Before the place p.
unfoldable pub daemons_at : (n q : ℕ) → Run → Lending → ℕ → Daemons
daemons_at n q l x zero = record { buffers = λ i. begun n q i (x.first i); down = λ i. false }
daemons_at n q l x (suc p) = daemons_after (daemons_at n q l x p) (x.out p) (x.crashed p) (at l p)
