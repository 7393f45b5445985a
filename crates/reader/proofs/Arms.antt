-- The ranges of an event, kind by kind.
use Prim.Native.Nat.{ℕ, ◌<◌}
use mathlib.Core.Path.{◌≡◌, refl, ◌∙◌}
use mathlib.Core.Bool.{Bool, true, false, not}
use mathlib.Core.List.{List}
use lib.Dec.{leb, ltb}
use mir.Syntax.{w32}
use mir.Val.{Fits}
use Rattle.format.specs.Limits.{most_payload_limit, most_length_limit}
use Rattle.base.specs.Tests.{◌≤?◌, ◌<?◌}
use Rattle.base.proofs.TestLaws.{and_yes, and_lt}
use Rattle.base.proofs.Branches.{told_lt, and_true, and_answered}
use Rattle.base.specs.Bytes.{Bytes}
use Rattle.format.specs.Types.{retransmission, transitional}
use Rattle.format.specs.Range.{length_ok, action_ok, state_ok, configuration_ok, own_set_ok, fields_ok}
use Rattle.record.specs.Context.{context_of}
use Rattle.record.specs.Events.{action_from, state_from, record_of, Inside, PayloadInside, ListsInside}
use Rattle.reader.specs.Reading.{Readable}
use Rattle.record.specs.declared.Context.{Context}
use Rattle.record.specs.declared.events.ActionAt.{ActionAt}
use Rattle.record.specs.declared.events.StateAt.{StateAt}
use Rattle.record.specs.declared.events.Event.{Event}
use Rattle.record.specs.declared.events.Event.TheVariants.{Action, Retransmission, State, Cpc, Regular, Transitional, Request, Recovery}
use Rattle.reader.proofs.Fields.{payload_law, configuration_law}

-- Where v is w, it is enough to judge w.
module _ (c : Context) (v w : Event) (e : List ℕ) (f : v ≡ w) where
  inside_as : Readable c v e → Inside c.servers w e
  inside_as h = rw f at h.inside

  judged_as : (r : Bool) → r ≡ fields_ok (context_of c) (record_of w e) → r ≡ fields_ok (context_of c) (record_of v e)
  judged_as r h = rw f h

pub arm_action : (c : Context) (v : Event) (e : List ℕ) (a : ActionAt) (r : Bool) → Readable c v e → v ≡ Action a
    → ((d : List ℕ) → Bytes d → PayloadInside a d → r ≡ action_ok (context_of c) (action_from a d)) → r ≡ fields_ok (context_of c) (record_of v e)
unfolding fields_ok record_of Inside
arm_action c v e a r h f g = judged_as c v (Action a) e f r (g e h.bytes (inside_as c v (Action a) e f h))

pub retransmission_answered : (c : Context) (s p : ℕ) (a : ActionAt) (b r : Bool) → s < c.servers → b ≡ (p ≤? most_length_limit) → not b ≡ false
    → ((d : List ℕ) → Bytes d → PayloadInside a d → r ≡ action_ok (context_of c) (action_from a d))
    → (e : List ℕ) → Bytes e → PayloadInside a e → r ≡ fields_ok (context_of c) (retransmission s p (action_from a e))
unfolding fields_ok context_of length_ok
retransmission_answered c s p a b r h f g k e i j =
    and_lt s c.servers r _ h (and_answered b (p ≤? most_length_limit) r (action_ok (context_of c) (action_from a e)) f g (k e i j))

pub arm_retransmission : (c : Context) (v : Event) (e : List ℕ) (s p : ℕ) (a : ActionAt) (r : Bool) → Readable c v e → v ≡ Retransmission s p a
    → ((d : List ℕ) → Bytes d → PayloadInside a d → r ≡ fields_ok (context_of c) (retransmission s p (action_from a d))) → r ≡ fields_ok (context_of c) (record_of v e)
unfolding record_of Inside
arm_retransmission c v e s p a r h f g = judged_as c v (Retransmission s p a) e f r (g e h.bytes (inside_as c v (Retransmission s p a) e f h))

pub arm_lists : (c : Context) (v : Event) (e : List ℕ) (s : StateAt) → Readable c v e → v ≡ State s → ListsInside c.servers s e
unfolding Inside
arm_lists c v e s h f = inside_as c v (State s) e f h

pub arm_state : (c : Context) (v : Event) (e : List ℕ) (s : StateAt) (r : Bool) → v ≡ State s → r ≡ state_ok (context_of c) (state_from s e)
    → r ≡ fields_ok (context_of c) (record_of v e)
unfolding fields_ok record_of
arm_state c v e s r f g = judged_as c v (State s) e f r g

pub arm_cpc : (c : Context) (v : Event) (e : List ℕ) (s i : ℕ) → v ≡ Cpc s i → Fits w32 i → ltb s c.servers ≡ fields_ok (context_of c) (record_of v e)
unfolding fields_ok record_of context_of
arm_cpc c v e s i f g = judged_as c v (Cpc s i) e f (ltb s c.servers) (rw (configuration_law i g) (told_lt s c.servers ∙ and_true (s <? c.servers)))

pub arm_regular : (c : Context) (v : Event) (e : List ℕ) (i s : ℕ) (r : Bool) → v ≡ Regular i s → Fits w32 i → r ≡ own_set_ok (context_of c) s
    → r ≡ fields_ok (context_of c) (record_of v e)
unfolding fields_ok record_of
arm_regular c v e i s r f g h = judged_as c v (Regular i s) e f r (and_yes r (configuration_ok i) (own_set_ok (context_of c) s) (configuration_law i g) h)

pub arm_transitional : (c : Context) (v : Event) (e : List ℕ) (s : ℕ) (r : Bool) → v ≡ Transitional s → r ≡ fields_ok (context_of c) (transitional s)
    → r ≡ fields_ok (context_of c) (record_of v e)
unfolding record_of
arm_transitional c v e s r f g = judged_as c v (Transitional s) e f r g

pub arm_request : (c : Context) (v : Event) (e : List ℕ) (at m : ℕ) → Readable c v e → v ≡ Request at m → leb m most_payload_limit ≡ fields_ok (context_of c) (record_of v e)
unfolding fields_ok record_of Inside
arm_request c v e at m h f = judged_as c v (Request at m) e f (leb m most_payload_limit) (payload_law e at m h.bytes (inside_as c v (Request at m) e f h))

pub arm_recovery : (c : Context) (v : Event) (e : List ℕ) → v ≡ Recovery → true ≡ fields_ok (context_of c) (record_of v e)
unfolding fields_ok record_of
arm_recovery c v e f = judged_as c v Recovery e f true refl
