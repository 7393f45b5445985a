-- A reading in two steps: the frame, then the ranges.
use Prim.Native.Nat.{ℕ, ◌+◌, ◌≤◌}
use mathlib.Core.Path.{◌≡◌, refl, sym, ap, ◌∙◌}
use mathlib.Core.Bool.{Bool, true, false}
use mathlib.Core.List.{List}
use mathlib.Core.Option.{Option, none, some}
use native.Mathlib.Omega.{arith}
use lib.ListN.{length, get_or-eq_default}
use Rattle.format.specs.Places.{at_kind, at_body}
use Rattle.base.specs.Tests.{◌≤?◌, ◌=?◌, ◌and◌, pick}
use Rattle.base.proofs.TestLaws.{le_fails, Known, known, holds, fails}
use Rattle.base.specs.Bytes.{number_at}
use Rattle.base.proofs.BytesLaws.{number1}
use Rattle.format.specs.Limits.{version}
use Rattle.format.specs.Types.{Record, Kind, kind_number, Context as FormatContext, Reading as FormatReading, says, refused}
use Rattle.format.specs.Range.{record_ok}
use Rattle.format.specs.Read.{kind_named, length_for, frame_ok, record_in, read_as, read}
use Rattle.reader.specs.Framed.{head_ok, body_in, body_as, framed_in}

-- What a record that is framed comes to.
unfoldable pub judged : FormatContext → Option Record → FormatReading Record
judged c none = refused 1
judged c (some r) = pick (record_ok c r) (says r) (refused 2)

-- An event whose kind byte names a kind has a kind byte.

zero_unnamed : kind_named 0 ≡ none
unfolding kind_named kind_number pick ◌=?◌
zero_unnamed = refl

named_long : (e : List ℕ) (k : Kind) → kind_named (number_at 1 e at_kind) ≡ some k → Known (at_body ≤? length e) → (at_body ≤? length e) ≡ true
named_long e k h (holds f) = f
named_long e k h (fails f) =
    let short : length e ≤ at_kind = let z = le_fails at_body (length e) f in omega arith in
    let zero : number_at 1 e at_kind ≡ 0 = number1 e at_kind ∙ get_or-eq_default e 0 short in
    let clash : none ≡ some k = sym zero_unnamed ∙ ap kind_named (sym zero) ∙ h in
    let z : ◌≡◌ {A = ℕ} 0 1 = cc in
    absurd (omega arith)

split : (c : FormatContext) (r : Record) (a b l : Bool)
    → pick (a and b and l) (pick (record_ok c r) (says r) (refused 2)) (refused 1) ≡ judged c (pick (a and b) (pick l (some r) none) none)
unfolding judged pick ◌and◌
split c r false b l = refl
split c r true false l = refl
split c r true true false = refl
split c r true true true = refl

pick_same : {A : Type 0} (t : Bool) (a : A) → pick t a a ≡ a
unfolding pick
pick_same true a = refl
pick_same false a = refl

read_split : (c : FormatContext) (e : List ℕ) (o : Option Kind) → kind_named (number_at 1 e at_kind) ≡ o → read_as o c e ≡ judged c (pick (head_ok e) (body_as o c.servers e) none)
unfolding read_as body_as body_in head_ok frame_ok judged ◌and◌
read_split c e none h = ap (judged c) (sym (pick_same (head_ok e) none))
read_split c e (some k) h =
    split c (record_in k c.servers e) (number_at 2 e 0 + 2 =? length e) (number_at 1 e 2 =? version) (length_for k c.servers e =? length e)
    ∙ rw (named_long e k h (known (at_body ≤? length e)))

pub read_judged : (c : FormatContext) (e : List ℕ) → read c e ≡ judged c (framed_in c.servers e)
unfolding read framed_in
read_judged c e = read_split c e (kind_named (number_at 1 e at_kind)) refl
