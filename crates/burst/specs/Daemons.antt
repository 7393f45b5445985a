-- Daemons that take several waiting events by one burst: what they keep before each of their calls.
use Rattle.std.specs.Prelude.{ℕ, ◌≤◌, ◌<◌, ◌≡◌, false, List, [], ◌∷◌, length, take}
use Rattle.std.proofs.Math.Option.{some}
use Rattle.base.specs.Tests.{◌=?◌, pick}
use Rattle.base.specs.Lists.{at, upd}
use Rattle.replication.specs.Runs.Run.{crash, Run}
use Rattle.image.specs.Layout.{out_length}
use Rattle.daemons.specs.Buffers.{Buffers, Lent, source_in}
use Rattle.daemons.specs.Sending.{first_size}
use Rattle.daemons.specs.Daemons.{Daemons, Lending, daemons_after, daemons_at}
use Rattle.burst.specs.Burst.{Burst, burst_on}
use Rattle.burst.specs.Calls.{Call, alone, together, came_by, events_at, System, ran_by, call_of}

-- ---- one call

-- The burst's answer; where a recovery stands first, the stored image is put into the state's buffer first.
unfoldable pub burst_in : Buffers → (events out : List ℕ) → Burst
burst_in b e o = burst_on (source_in b (take (first_size e) e)) e o

-- What it leaves: the state's buffer, stored where the store word is 1.
unfoldable pub kept_after_burst : Buffers → Burst → Buffers
kept_after_burst b x = record { state = x.state; store = pick (x.store =? 1) x.state b.store }

-- The events of the slice e that came by it.
unfoldable pub came_in : Burst → List ℕ → List (List ℕ)
came_in x e = came_by x.number x.events x.bytes e

-- What a call makes of the daemons, with the outgoing buffer o, or c in the state's buffer after a crash. A server that is down is up again when a
-- burst has taken an event.
unfoldable pub called_after : Daemons → (o c : List ℕ) → Call → Daemons
called_after d o c (alone x) = daemons_after d o c (some x)
called_after d o c (together i e k) = record {
  buffers = upd d.buffers i (kept_after_burst (d.buffers i) (burst_in (d.buffers i) e o));
  down = upd d.down i (pick ((burst_in (d.buffers i) e o).events =? 0) (d.down i) false);
}

-- Its entries of the run.
unfoldable pub entries_of : Daemons → (o : List ℕ) → Call → Run
entries_of d o (alone x) = x ∷ []
entries_of d o (together i e k) = events_at i k (came_in (burst_in (d.buffers i) e o) e)

-- ---- calls one after another

-- At first all is as before the first entry of any run. Outgoing buffers, and what is in the state's buffer after a crash, go by the number of the
-- call.
unfoldable pub burst_daemons : (n q : ℕ) → List Call → Lending → System Daemons
burst_daemons n q cs x = record {
  first = daemons_at n q [] x 0;
  after = λ j d. called_after d (x.out j) (x.crashed j);
  entries = λ j d. entries_of d (x.out j);
  calls = cs;
}

-- Any bytes, as long as they must be.
pub record LongEnoughFor (n q : ℕ) (cs : List Call) (x : Lending) : Type 0 where
  pub first : (i : ℕ) → i < n → Lent n q (x.first i)
  pub out : (j : ℕ) → out_length n q ≤ length (x.out j)
  pub crashed : (j i : ℕ) → at cs j ≡ some (alone (crash i)) → length (x.crashed j) ≡ length (x.first i).state

module _ (n q : ℕ) (cs : List Call) (x : Lending) where
  abbrev pub system : System Daemons
  system = burst_daemons n q cs x

  -- Each place of the run with the buffers of its call: events taken before the last one, and a refused one, leave the outgoing buffer as it was.
  unfoldable pub by_places : Lending
  by_places = record { first = x.first; out = λ p. x.out (call_of system p); crashed = λ p. x.crashed (call_of system p) }

  -- The daemons that take each event by the step, before the place p.
  abbrev pub stepwise : ℕ → Daemons
  stepwise p = daemons_at n q (ran_by system) by_places p
