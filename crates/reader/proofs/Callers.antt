-- What a caller of the reader knows where it takes the answer apart.
use Prim.Native.Nat.{ℕ}
use mathlib.Core.Path.{◌≡◌, sym, ap, ◌∙◌}
use mathlib.Core.List.{List}
use Rattle.format.specs.Types.{says, refused}
use Rattle.format.specs.Read.{read}
use Rattle.record.specs.Context.{context_of}
use Rattle.record.specs.Events.{record_of}
use Rattle.reader.specs.Reading.{PlacedAction, PlacedRetransmission, PlacedState, PlacedPayload, Placed, PlacedEvent, meaning, placed}
use Rattle.record.specs.declared.Context.{Context}
use Rattle.record.specs.declared.events.ActionAt.{ActionAt}
use Rattle.record.specs.declared.events.StateAt.{StateAt}
use Rattle.record.specs.declared.events.Event.{Event}
use Rattle.record.specs.declared.events.Event.TheVariants.{Action, Retransmission, State, Request}
use Rattle.std.specs.Prelude.{Result, Ok, Err}
use Rattle.refusals.specs.Numbers.{refusal_number}
use Rattle.refusals.specs.declared.Refusal.{Refusal}

-- the reading

pub good_says : (c : Context) (r : Result Event Refusal) (v : Event) (e : List ℕ) → meaning r e ≡ read (context_of c) e → r ≡ Ok v
    → read (context_of c) e ≡ says (record_of v e)
unfolding meaning
good_says c r v e h f = sym h ∙ ap (λ (x : Result Event Refusal). meaning x e) f

pub refused_says : (c : Context) (r : Result Event Refusal) (k : Refusal) (e : List ℕ) → meaning r e ≡ read (context_of c) e → r ≡ Err k → read (context_of c) e ≡ refused (refusal_number k)
unfolding meaning
refused_says c r k e h f = sym h ∙ ap (λ (x : Result Event Refusal). meaning x e) f

pub good_placed : (c : Context) (r : Result Event Refusal) (v : Event) (e : List ℕ) → placed c r e → r ≡ Ok v → PlacedEvent c v e
unfolding placed
good_placed c r v e h f = rw f at h

-- the event

parts_as : (c : Context) (v w : Event) (e : List ℕ) → PlacedEvent c v e → v ≡ w → Placed c w e
parts_as c v w e h f = rw f at h.parts

pub action_placed : (c : Context) (v : Event) (e : List ℕ) (a : ActionAt) → PlacedEvent c v e → v ≡ Action a → PlacedAction c a e
unfolding Placed
action_placed c v e a h f = parts_as c v (Action a) e h f

pub retransmission_placed : (c : Context) (v : Event) (e : List ℕ) (s p : ℕ) (a : ActionAt) → PlacedEvent c v e → v ≡ Retransmission s p a → PlacedRetransmission c s p a e
unfolding Placed
retransmission_placed c v e s p a h f = parts_as c v (Retransmission s p a) e h f

pub state_placed : (c : Context) (v : Event) (e : List ℕ) (s : StateAt) → PlacedEvent c v e → v ≡ State s → PlacedState c s e
unfolding Placed
state_placed c v e s h f = parts_as c v (State s) e h f

pub request_placed : (c : Context) (v : Event) (e : List ℕ) (at m : ℕ) → PlacedEvent c v e → v ≡ Request at m → PlacedPayload at m e
unfolding Placed
request_placed c v e at m h f = parts_as c v (Request at m) e h f
