-- How the first stage of an event ends: refused, or taken with a step of the machine that raises it.
use Prim.Native.Nat.{ℕ}
use mathlib.Core.Path.{◌≡◌, refl, sym, ap, ◌∙◌}
use mathlib.Core.Bool.{Bool, true, false, not}
use mathlib.Core.List.{List, map}
use mathlib.Core.Option.{Option, none, some}
use Rattle.base.specs.Tests.{◌and◌, ◌or◌, pick}
use Rattle.base.proofs.TestLaws.{not_both}
use Rattle.format.specs.Types.{Action, Record, Reading, says}
use Rattle.format.specs.Read.{read}
use Rattle.format.specs.Write.{write}
use Rattle.replication.specs.Machine.Types.{Server, Outcome, refused, taken, context_of, with_white}
use Rattle.replication.specs.Machine.Rules.{Rule, rule_for, possible, from_member, is_ignored, within_quota}
use Rattle.replication.specs.Machine.Step.{apply_rule, answer, on_reading, in_bytes, step}
use Rattle.replication.specs.Machine.White.{white_after, raised}
use Rattle.image.specs.Outcome.{refusal, result_of}
use Rattle.step.specs.Answers.{by_rows}
use Rattle.step.specs.Stages.{sieving, unraised, images_before, unraised_on, unraised_by, unraised_step, is_taken, ignored_by, raises_by, raises}

-- ---- the machine's answer is the first stage, raised

raised_in_lem : Option Rule → Server → Outcome Record → Outcome Record
raised_in_lem none s x = x
raised_in_lem (some k) s x = raised k s x

unraised_answer : (s : Server) (r : Record) → answer s r ≡ raised_in_lem (rule_for s.membership.mode r) s (unraised s r)
unfolding answer unraised apply_rule by_rows sieving raised_in_lem raised pick
unraised_answer s r = go (rule_for s.membership.mode r)
  where
    rows : (k : Rule) (x y z : Bool) (o : Outcome Record)
        → pick x (pick y (pick z (raised k s o) (refused 3)) (refused 6)) (refused 5) ≡ raised k s (pick x (pick y (pick z o (refused 3)) (refused 6)) (refused 5))
    rows k true true true o = refl
    rows k true true false o = refl
    rows k true false z o = refl
    rows k false y z o = refl

    go : (x : Option Rule) → apply_rule x s r ≡ raised_in_lem x s (by_rows sieving x s r)
    go none = refl
    go (some k) = rows k (possible s r) (is_ignored k or from_member s.membership r) (within_quota s r) (sieving k s)

unraised_rows : (s : Server) (r : Record) → unraised s r ≡ by_rows sieving (rule_for s.membership.mode r) s r
unfolding unraised
unraised_rows s r = refl

-- ---- how the first stage of the event e ends

pub data Stage (s : Server) (e : List ℕ) : Type 0 where
  refuses : (j : ℕ) → ((b o : List ℕ) → unraised_step s e b o ≡ refusal j b o) → raises s e ≡ false → step s e ≡ refused j → Stage s e
  takes : (k : Rule) (r : Record) (core : Server) (rs : List Record) (z : Bool) (g : List Action) → read (context_of s) e ≡ says r
      → rule_for s.membership.mode r ≡ some k → unraised s r ≡ taken core rs z g
      → step s e ≡ taken (with_white (white_after k s core) core) (map write rs) z g → Stage s e

pub stage : (s : Server) (e : List ℕ) → Stage s e
unfolding unraised_step unraised_by unraised_on raises raises_by step on_reading in_bytes result_of refusal is_taken raised_in_lem raised ◌and◌ not ignored_by by_rows
stage s e = go (read (context_of s) e) refl
  where
    by_reading : (x : Reading Record) → read (context_of s) e ≡ x → step s e ≡ in_bytes (on_reading s x)
    by_reading x f = ap (λ (y : Reading Record). in_bytes (on_reading s y)) f

    by_answer : (r : Record) → read (context_of s) e ≡ says r → (x : Option Rule) → rule_for s.membership.mode r ≡ x → (y : Outcome Record) → unraised s r ≡ y
        → step s e ≡ in_bytes (raised_in_lem x s y)
    by_answer r f x g y h = by_reading (says r) f ∙ ap in_bytes (unraised_answer s r ∙ (λ i. raised_in_lem (g i) s (h i)))

    no_raise : (t : Bool) → (t and false) ≡ false
    no_raise true = refl
    no_raise false = refl

    refused_in : (r : Record) → read (context_of s) e ≡ says r → (x : Option Rule) → rule_for s.membership.mode r ≡ x → (j : ℕ) → unraised s r ≡ refused j
        → in_bytes (raised_in_lem x s (refused j)) ≡ refused j → Stage s e
    refused_in r f x g j h l =
        refuses j
        (λ b o.
        ap (λ (y : Reading Record). unraised_by s y b o) f
        ∙ ap (λ (y : Outcome Record). result_of (images_before (rule_for s.membership.mode r) s) (in_bytes y) b o) h)
        (ap (raises_by s) f ∙ ap (λ (y : Outcome Record). not (ignored_by (rule_for s.membership.mode r)) and is_taken y) h
        ∙ no_raise (not (ignored_by (rule_for s.membership.mode r))))
        (by_answer r f x g (refused j) h ∙ l)

    with_rule : (r : Record) → read (context_of s) e ≡ says r → (x : Option Rule) → rule_for s.membership.mode r ≡ x → (y : Outcome Record) → unraised s r ≡ y
        → Stage s e
    with_rule r f none g (refused j) h = refused_in r f none g j h refl
    with_rule r f (some k) g (refused j) h = refused_in r f (some k) g j h refl
    with_rule r f none g (taken core rs z n) h = never (sym (none_refused r g) ∙ h)
      where
        none_refused : (r : Record) → rule_for s.membership.mode r ≡ none → unraised s r ≡ refused 5
        none_refused r g = unraised_rows s r ∙ ap (λ (x : Option Rule). by_rows sieving x s r) g

        never : ◌≡◌ {A = Outcome Record} (refused 5) (taken core rs z n) → Stage s e
        never p = not_both (ap is_taken p)
    with_rule r f (some k) g (taken core rs z n) h = takes k r core rs z n f g h (by_answer r f (some k) g (taken core rs z n) h)

    go : (x : Reading Record) → read (context_of s) e ≡ x → Stage s e
    go (Reading.refused j) f =
        refuses j (λ b o. ap (λ (y : Reading Record). unraised_by s y b o) f) (ap (raises_by s) f) (by_reading (Reading.refused j) f)
    go (says r) f = with_rule r f (rule_for s.membership.mode r) refl (unraised s r) refl
