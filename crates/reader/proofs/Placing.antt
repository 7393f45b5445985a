-- What a caller knows of an event that is in range.
use Prim.Native.Nat.{ℕ, ◌+◌, ◌≤◌}
use mathlib.Core.Path.{◌≡◌}
use mathlib.Core.Bool.{true}
use mathlib.Core.List.{List}
use native.Mathlib.Omega.{arith}
use lib.ListN.{length}
use Rattle.format.specs.Limits.{most_payload_limit}
use Rattle.base.proofs.TestLaws.{and_holds, lt_holds}
use Rattle.base.specs.Bytes.{Bytes, part_at}
use Rattle.base.proofs.BytesLaws.{part_length}
use Rattle.format.specs.Range.{context_ok, action_ok, state_ok, fields_ok}
use Rattle.format.proofs.Ranges.{context_range, length_range, PayloadRange, payload_range, action_range, state_range}
use Rattle.format.proofs.Writing.{ids_number}
use Rattle.record.specs.Context.{context_of, ContextIn}
use Rattle.record.specs.Values.{id_of, action_of, state_of}
use Rattle.record.specs.Events.{action_from, state_from, record_of, Inside, PayloadInside, ListsInside}
use Rattle.reader.specs.Reading.{PlacedAction, PlacedState, Placed, PlacedEvent}
use Rattle.record.specs.declared.Context.{Context}
use Rattle.record.specs.declared.events.ActionAt.{ActionAt}
use Rattle.record.specs.declared.events.StateAt.{StateAt}
use Rattle.record.specs.declared.events.Event.{Event}
use Rattle.record.specs.declared.events.Event.TheVariants.{Action, Retransmission, State, Cpc, Regular, Transitional, Request, Recovery}

pub context_in_lem : (c : Context) → context_ok (context_of c) ≡ true → ContextIn c
unfolding context_of
context_in_lem c h =
    let r = context_range (context_of c) h in
    record { fewest = r.sizes.fewest; most = r.sizes.most; least = r.sizes.least; largest = r.sizes.highest; own = r.own }

payload_short : (at m : ℕ) (e : List ℕ) → at + m ≤ length e → PayloadRange (part_at m e at) → m ≤ most_payload_limit
payload_short at m e h r = omega (arith, r.most, part_length m e at h)

action_placed : (c : Context) (a : ActionAt) (e : List ℕ) → context_ok (context_of c) ≡ true → PayloadInside a e
    → action_ok (context_of c) (action_from a e) ≡ true → PlacedAction c a e
unfolding action_from action_of PayloadInside id_of context_of
action_placed c a e k i h =
    let r = action_range (context_of c) (action_from a e) (context_range (context_of c) k) h in
    record {
      creator = r.id.creator;
      least = r.id.least;
      most = r.id.most;
      green = r.green_length;
      white = r.white_length;
      short = payload_short a.payload_at a.payload_length e i r.payload;
      inside = i;
    }

state_placed : (c : Context) (s : StateAt) (e : List ℕ) → context_ok (context_of c) ≡ true → ListsInside c.servers s e
    → state_ok (context_of c) (state_from s e) ≡ true → PlacedState c s e
unfolding state_from state_of context_of
state_placed c s e k i h =
    let r = state_range (context_of c) (state_from s e) (context_range (context_of c) k) h in
    record {
      sender = r.sender;
      servers = i.servers;
      green = r.green_length;
      cuts = i.cuts;
      ids = i.ids;
      count = rw (ids_number s.head.yellow_count e s.yellow_at) at r.yellow.few;
    }

parts_placed : (c : Context) (v : Event) (e : List ℕ) → context_ok (context_of c) ≡ true → Inside c.servers v e
    → fields_ok (context_of c) (record_of v e) ≡ true → Placed c v e
unfolding fields_ok record_of Inside Placed context_of
parts_placed c (Action a) e k i h = action_placed c a e k i h
parts_placed c (Retransmission s p a) e k i h =
    let x = and_holds _ _ h in
    let y = and_holds _ _ x.1 in
    let position = length_range p y.0 in
    record { sender = lt_holds s c.servers x.0; position = position; action = action_placed c a e k i y.1 }
parts_placed c (State s) e k i h = state_placed c s e k i h
parts_placed c (Cpc s i) e k _ h = lt_holds s c.servers (and_holds _ _ h).0
parts_placed c (Regular i s) e k _ h = tt
parts_placed c (Transitional s) e k _ h = tt
parts_placed c (Request at m) e k i h = record { short = payload_short at m e i (payload_range (part_at m e at) h); inside = i }
parts_placed c Recovery e k i h = tt

pub event_placed : (c : Context) (v : Event) (e : List ℕ) → context_ok (context_of c) ≡ true → Inside c.servers v e → Bytes e
    → fields_ok (context_of c) (record_of v e) ≡ true → PlacedEvent c v e
event_placed c v e k i b h = record { context = context_in_lem c k; ranges = h; parts = parts_placed c v e k i h; bytes = b }
