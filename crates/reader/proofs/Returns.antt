-- What each return of the reader is worth.
use Prim.Native.Nat.{ℕ}
use mathlib.Core.Path.{◌≡◌, refl, sym, ap, ◌∙◌}
use mathlib.Core.Bool.{Bool, true, false}
use mathlib.Core.List.{List}
use mathlib.Core.Option.{some}
use Rattle.std.specs.Prelude.{Option, Some, None, Ok, Err}
use native.Mathlib.Omega.{arith}
use Rattle.base.specs.Tests.{◌and◌}
use Rattle.base.proofs.TestLaws.{pick_yes, pick_no, and_no, both_yes}
use Rattle.base.proofs.Branches.{and_false}
use Rattle.base.specs.Bytes.{Bytes}
use Rattle.format.specs.Types.{says, refused}
use Rattle.format.specs.Range.{context_ok, fields_ok, record_ok}
use Rattle.format.specs.Read.{read}
use Rattle.record.specs.Context.{context_of}
use Rattle.record.specs.Events.{record_of, Inside}
use Rattle.reader.specs.Framed.{framed_in, found, FoundInside, Answers}
use Rattle.reader.specs.Reading.{Readable, meaning, placed}
use Rattle.record.specs.declared.Context.{Context}
use Rattle.record.specs.declared.events.Event.{Event}
use Rattle.refusals.specs.declared.Refusal.TheVariants.{BadRecord, OutOfRange}
use Rattle.reader.proofs.Judged.{judged, read_judged}
use Rattle.reader.proofs.Placing.{context_in_lem, event_placed}

-- What `framed_event` answered: nothing, or v.

unframed : (c : Context) (e : List ℕ) (f : Option Event) → Answers (framed_in c.servers e) c.servers f e → f ≡ None → read (context_of c) e ≡ refused 1
unfolding found judged context_of
unframed c e f h g =
    read_judged (context_of c) e ∙ ap (judged (context_of c)) (sym h.is ∙ ap (λ (x : Option Event). found x e) g)

framed_as : (c : Context) (e : List ℕ) (f : Option Event) (v : Event) → Answers (framed_in c.servers e) c.servers f e → f ≡ Some v
    → read (context_of c) e ≡ judged (context_of c) (some (record_of v e))
unfolding found context_of
framed_as c e f v h g =
    read_judged (context_of c) e ∙ ap (judged (context_of c)) (sym h.is ∙ ap (λ (x : Option Event). found x e) g)

inside_as : (c : Context) (e : List ℕ) (f : Option Event) (v : Event) → Answers (framed_in c.servers e) c.servers f e → f ≡ Some v → Inside c.servers v e
unfolding FoundInside
inside_as c e f v h g = rw g at h.within

pub read_unframed : (c : Context) (e : List ℕ) (f : Option Event) → Answers (framed_in c.servers e) c.servers f e → f ≡ None
    → meaning (Err BadRecord) e ≡ read (context_of c) e
unfolding meaning
read_unframed c e f h g = sym (unframed c e f h g)

pub refusal_one : (c : Context) (e : List ℕ) → placed c (Err BadRecord) e
unfolding placed
refusal_one c e = record { least = omega arith; most = omega arith }

pub refusal_two : (c : Context) (e : List ℕ) → placed c (Err OutOfRange) e
unfolding placed
refusal_two c e = record { least = omega arith; most = omega arith }

pub read_context : (c : Context) (e : List ℕ) (f : Option Event) (v : Event) (b : Bool) → Answers (framed_in c.servers e) c.servers f e → f ≡ Some v
    → b ≡ context_ok (context_of c) → b ≡ false → meaning (Err OutOfRange) e ≡ read (context_of c) e
unfolding meaning judged record_ok
read_context c e f v b h g i j =
    pick_no _ (refused 2) _ _ (sym (and_no (context_ok (context_of c)) (fields_ok (context_of c) (record_of v e)) (sym i ∙ j))) refl
    ∙ sym (framed_as c e f v h g)

both_no : (t u : Bool) → u ≡ false → (t and u) ≡ false
both_no t u h = rw h (sym (and_false t))

pub read_ranges : (c : Context) (e : List ℕ) (f : Option Event) (v : Event) (b d : Bool) → Answers (framed_in c.servers e) c.servers f e → f ≡ Some v
    → b ≡ context_ok (context_of c) → b ≡ true → d ≡ fields_ok (context_of c) (record_of v e) → d ≡ false
    → meaning (Err OutOfRange) e ≡ read (context_of c) e
unfolding meaning judged record_ok
read_ranges c e f v b d h g i j k l =
    pick_no _ (refused 2) _ _ (both_no (context_ok (context_of c)) (fields_ok (context_of c) (record_of v e)) (sym k ∙ l)) refl
    ∙ sym (framed_as c e f v h g)

pub read_good : (c : Context) (e : List ℕ) (f : Option Event) (v : Event) (b d : Bool) → Answers (framed_in c.servers e) c.servers f e → f ≡ Some v
    → b ≡ context_ok (context_of c) → b ≡ true → d ≡ fields_ok (context_of c) (record_of v e) → d ≡ true
    → meaning (Ok v) e ≡ read (context_of c) e
unfolding meaning judged record_ok
read_good c e f v b d h g i j k l =
    pick_yes _ (says (record_of v e)) _ _ (both_yes (context_ok (context_of c)) (fields_ok (context_of c) (record_of v e)) (sym i ∙ j) (sym k ∙ l)) refl
    ∙ sym (framed_as c e f v h g)

pub read_placed : (c : Context) (e : List ℕ) (f : Option Event) (v : Event) (b d : Bool) → Answers (framed_in c.servers e) c.servers f e → f ≡ Some v → Bytes e
    → b ≡ context_ok (context_of c) → b ≡ true → d ≡ fields_ok (context_of c) (record_of v e) → d ≡ true → placed c (Ok v) e
unfolding placed
read_placed c e f v b d h g y i j k l = event_placed c v e (sym i ∙ j) (inside_as c e f v h g) y (sym k ∙ l)

pub read_readable : (c : Context) (e : List ℕ) (f : Option Event) (v : Event) (b : Bool) → Answers (framed_in c.servers e) c.servers f e → f ≡ Some v → Bytes e
    → b ≡ context_ok (context_of c) → b ≡ true → Readable c v e
read_readable c e f v b h g y i j = record { context = context_in_lem c (sym i ∙ j); inside = inside_as c e f v h g; bytes = y }
