-- The head of an event, and the choice by its kind.
use Prim.Native.Nat.{ℕ, ◌+◌, ◌≤◌, ◌<◌}
use mathlib.Core.Path.{◌≡◌, refl, sym, ap, ◌∙◌}
use mathlib.Core.Bool.{Bool, true, false, not}
use mathlib.Core.List.{List}
use mathlib.Core.Option.{Option as FormatOption, none, some}
use Rattle.std.specs.Prelude.{Option, None}
use native.Mathlib.Omega.{arith}
use lib.ListN.{length}
use lib.Dec.{eqb}
use borrow.Author.Tests.{not-true, not-false}
use Rattle.format.specs.Limits.{version}
use Rattle.format.specs.Places.{length_size, at_version, at_kind, at_body}
use Rattle.base.specs.Tests.{◌≤?◌}
use Rattle.base.proofs.TestLaws.{pick_yes, pick_no, and_holds, and_le, and_gt, and_eq, and_ne, le_holds}
use Rattle.base.proofs.Branches.{told_eq}
use Rattle.base.specs.Bytes.{number_at}
use Rattle.format.specs.Types.{Kind as FormatKind, kind_number}
use Rattle.record.specs.declared.kinds.Kind.{Kind}
use Rattle.record.specs.Codes.{the_kind}
use Rattle.format.specs.Read.{kind_named}
use Rattle.format.proofs.Reading.{kind_named_lem}
use Rattle.reader.specs.Framed.{head_ok, body_in, body_as, framed_in, found, FoundInside, Answers}
use Rattle.record.specs.declared.events.Event.{Event}

-- the head

pub head_short : (e : List ℕ) → length e < at_body → false ≡ head_ok e
unfolding head_ok
head_short e h = and_gt at_body (length e) _ h

pub head_length : (e : List ℕ) (x : ℕ) → at_body ≤ length e → x ≡ number_at 2 e 0 → (x + length_size ≡ length e → ⊥) → false ≡ head_ok e
unfolding head_ok
head_length e x h f g = and_le at_body (length e) _ _ h (and_ne (number_at 2 e 0 + length_size) (length e) _ (λ z. g (omega arith)))

pub head_version : (e : List ℕ) (x y : ℕ) → at_body ≤ length e → x ≡ number_at 2 e 0 → x + length_size ≡ length e → y ≡ number_at 1 e at_version → eqb y version ≡ head_ok e
unfolding head_ok
head_version e x y h f g k =
    and_le at_body (length e) _ _ h (and_eq (number_at 2 e 0 + length_size) (length e) _ _ (omega arith) (ap (λ (z : ℕ). eqb z version) k ∙ told_eq (number_at 1 e at_version) version))

pub head_long : (e : List ℕ) (b : Bool) → b ≡ head_ok e → not b ≡ false → at_kind < length e
unfolding head_ok
head_long e b f g = le_holds at_body (length e) (and_holds (at_body ≤? length e) _ (sym f ∙ not-false b g)).0

-- the kind

pub framed_bad : (e : List ℕ) (n : ℕ) (b : Bool) → b ≡ head_ok e → not b ≡ true → Answers (framed_in n e) n None e
unfolding framed_in found FoundInside
framed_bad e n b f g = record { is = pick_no (head_ok e) _ _ _ (sym f ∙ not-true b g) refl; within = tt }

framed_as : (o : FormatOption FormatKind) (e : List ℕ) (n : ℕ) (b : Bool) (r : Option Event) → b ≡ head_ok e → not b ≡ false → kind_named (number_at 1 e at_kind) ≡ o
    → Answers (body_as o n e) n r e → Answers (framed_in n e) n r e
unfolding framed_in
framed_as o e n b r f g h k =
    record { is = pick_yes (head_ok e) _ _ _ (sym f ∙ not-false b g) (k.is ∙ ap (λ (p : FormatOption FormatKind). body_as p n e) (sym h)); within = k.within }

-- The kind v that the byte names is k.

pub framed_one : (k : Kind) (v : Kind) (e : List ℕ) (n x : ℕ) (b : Bool) (r : Option Event) → b ≡ head_ok e → not b ≡ false → x ≡ number_at 1 e at_kind
    → kind_number (the_kind v) ≡ x → v ≡ k → Answers (body_in (the_kind k) n e) n r e → Answers (framed_in n e) n r e
unfolding body_as
framed_one k v e n x b r f g h i l j =
    framed_as (some (the_kind k)) e n b r f g (ap kind_named (sym h ∙ sym i ∙ ap (λ (y : Kind). kind_number (the_kind y)) l) ∙ kind_named_lem (the_kind k)) j

pub framed_arm : (k : Kind) (v : Kind) (e : List ℕ) (n x : ℕ) (b : Bool) (r : Option Event) → b ≡ head_ok e → not b ≡ false → x ≡ number_at 1 e at_kind
    → kind_number (the_kind v) ≡ x → v ≡ k → ((m : ℕ) → Answers (body_in (the_kind k) m e) m r e) → Answers (framed_in n e) n r e
framed_arm k v e n x b r f g h i l j = framed_one k v e n x b r f g h i l (j n)

pub framed_other : (e : List ℕ) (n x : ℕ) (b : Bool) → b ≡ head_ok e → not b ≡ false → x ≡ number_at 1 e at_kind → kind_named x ≡ none → Answers (framed_in n e) n None e
unfolding body_as found FoundInside
framed_other e n x b f g h k = framed_as none e n b None f g (ap kind_named (sym h) ∙ k) (record { is = refl; within = tt })
