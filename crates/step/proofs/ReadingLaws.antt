-- The step over buffers whose number is 0: the event is read against the state that they hold.
use Prim.Native.Nat.{ℕ, ◌≤◌}
use mathlib.Core.Path.{◌≡◌, refl, sym, ap, subst, ◌∙◌}
use mathlib.Core.Bool.{Bool, true, false, not}
use native.Mathlib.Omega.{arith}
use Rattle.base.specs.Tests.{◌and◌, ◌=?◌}
use Rattle.base.proofs.TestLaws.{eq_yes, eq_no}
use mathlib.Core.List.{List}
use mathlib.Core.Option.{Option, none, some}
use lib.ListN.{length}
use Rattle.format.specs.Types.{Record, Context as FormatContext, Reading as FormatReading, says}
use Rattle.format.specs.Types as format
use Rattle.format.specs.Range.{fields_ok}
use Rattle.format.specs.Read.{read}
use Rattle.format.proofs.RoundTrip.{written_read}
use Rattle.record.specs.declared.State.{State as Numbers}
use Rattle.record.specs.declared.Context.{Context}
use Rattle.record.specs.declared.events.Event.{Event}
use Rattle.std.specs.Prelude.{Result as Fallible, Ok, Err}
use Rattle.refusals.specs.declared.Refusal.{Refusal}
use Rattle.refusals.specs.declared.Refusal.TheVariants.{BadRecord, OutOfRange, QuotaUsed, NotNow, NotFromHere, ShortBuffer, BadState}
use Rattle.refusals.specs.Numbers.{refusal_number}
use Rattle.record.specs.Context.{reading_context, last_of}
use Rattle.record.specs.Context as code
use Rattle.record.specs.Events.{record_of}
use Rattle.reader.specs.Reading.{PlacedEvent, meaning, placed}
use Rattle.reader.proofs.Callers.{good_says, refused_says, good_placed}
use Rattle.replication.specs.Machine.Types.{Mode, Configuration, Server, Outcome, refused, taken, context_of, set_of}
use Rattle.replication.specs.Machine.Rules.{Rule, rule_for}
use Rattle.replication.specs.Machine.Step.{in_bytes}
use Rattle.image.specs.Header.{header_of, header_in, status_of, mode_number}
use Rattle.image.specs.Header as header
use Rattle.image.specs.Decode.{decoded}
use Rattle.image.specs.Outcome.{Result, refusal, result_of, state_number, step_on}
use Rattle.image.proofs.HeaderLaws.{header_loaded}
use Rattle.image.specs.Holding.{Holds}
use Rattle.image.proofs.InPlace.{holds_header, holds_one}
use Rattle.image.proofs.Refusals.{zero_ready, step_refused}
use Rattle.step.specs.declared.Answer.{Answer}
use Rattle.outgoing.specs.Lent.{LentSuch}
use Rattle.step.specs.Answers.{answered, refused_with}
use Rattle.step.specs.Stages.{unraised, images_before, unraised_on, unraised_by, unraised_step, is_taken, ignored_by, raises_by, raises}
use Rattle.step.specs.Events.{ReadInForce}
use Rattle.image.specs.Layout.{header_size}
use Rattle.step.proofs.ForceLaws.{numbers_mode}
use Rattle.step.proofs.StageLaws.{AboveZero, unraised_above}

-- ---- the context

last_set : (c : Option Configuration) → last_of (status_of c) (header.set_of c) ≡ set_of c
unfolding last_of status_of header.set_of set_of
last_set none = refl
last_set (some c) = refl

-- A state's numbers give the context that the machine reads a record against.
pub reading_context_lem : (s : Server) → code.context_of (reading_context (header_of s)) ≡ context_of s
unfolding code.context_of reading_context header_of context_of
reading_context_lem s = λ i. record { servers = s.servers; quota = s.quota; self = s.me; last = last_set s.membership.configuration i }

-- ---- a refusal's number

-- It is not 0.
pub above_zero : (r : Refusal) → refusal_number r ≡ 0 → ⊥
above_zero BadRecord e = omega (arith, e)
above_zero OutOfRange e = omega (arith, e)
above_zero QuotaUsed e = omega (arith, e)
above_zero NotNow e = omega (arith, e)
above_zero NotFromHere e = omega (arith, e)
above_zero ShortBuffer e = omega (arith, e)
above_zero BadState e = omega (arith, e)

kept : (u : Bool) → not u ≡ (not u and true)
unfolding ◌and◌
kept true = refl
kept false = refl

dropped : (u : Bool) → false ≡ (not u and false)
unfolding ◌and◌
dropped true = refl
dropped false = refl

-- ---- the step

pub ready_header : (b o : List ℕ) → state_number b o ≡ 0 → header_size ≤ length b
ready_header b o z = holds_header (decoded b) b (zero_ready b o z).image

module _ (b e o : List ℕ) (z : state_number b o ≡ 0) (h : Numbers) (l : h ≡ header_in b) (c : Context) (q : c ≡ reading_context h) (r : Fallible Event Refusal)
    (said : meaning r e ≡ read (code.context_of c) e) where
  abbrev s : Server
  s = decoded b

  holds : Holds s b
  holds = (zero_ready b o z).image

  numbers : h ≡ header_of s
  numbers = l ∙ header_loaded s b holds

  same_context : code.context_of c ≡ context_of s
  same_context = ap code.context_of (q ∙ ap reading_context numbers) ∙ reading_context_lem s

  read_here : (x : FormatReading Record) → read (code.context_of c) e ≡ x → read (context_of s) e ≡ x
  read_here x f = ap (λ (y : FormatContext). read y e) (sym same_context) ∙ f

  -- "A record that does not read ends the step with its number."
  pub act_unread : (k : Refusal) → r ≡ Err k
      → (t : Server) → Holds t b → (answered (refused_with (refusal_number k)) b o ≡ unraised_step t e b o) × (false ≡ raises t e)
  unfolding answered refusal unraised_step unraised_by raises raises_by
  act_unread k f t i =
      let x = read_here (format.refused (refusal_number k)) (refused_says c r k e said f) in
      let same : s ≡ t = holds_one s t b holds i in
      subst (λ (u : Server). (answered (refused_with (refusal_number k)) b o ≡ unraised_step u e b o) × (false ≡ raises u e)) same (
        ap (λ (y : FormatReading Record). unraised_by s y b o) (sym x),
        ap (raises_by s) (sym x),
      )

  module _ (v : Event) (f : r ≡ Ok v) where
    pub act_ready : placed c r e → LentSuch (ReadInForce h v e) b o
    act_ready p =
        let good : PlacedEvent c v e = good_placed c r v e p f in
        record {
          state = s;
          holds = holds;
          fact = record {
            force = record { numbers = numbers; range = subst (λ (x : FormatContext). fields_ok x (record_of v e) ≡ true) same_context good.ranges };
            placed = subst (λ (x : Context). PlacedEvent x v e) q good;
            written = written_read (code.context_of c) e (record_of v e) good.bytes (good_says c r v e said f);
          };
          room = (zero_ready b o z).room;
        }

    module _ (x : Answer) (b₁ o₁ : List ℕ) (y : (t : Server) → Holds t b → answered x b₁ o₁ ≡ unraised_on t (record_of v e) b o) (g : Bool)
        (ignored : (m : Mode) (e : List ℕ) → h.mode ≡ mode_number m → g ≡ ignored_by (rule_for m (record_of v e))) where
      here_read : read (context_of s) e ≡ says (record_of v e)
      here_read = read_here (says (record_of v e)) (good_says c r v e said f)

      -- The number is 0 where the event is taken.
      number_told : (w : Outcome Record) (k : Option Rule) → answered x b₁ o₁ ≡ result_of (images_before k s) (in_bytes w) b o → AboveZero w
          → (x.number =? 0) ≡ is_taken w
      unfolding answered result_of in_bytes refusal is_taken
      number_told (refused j) k i l = ap (λ (u : Result). u.number =? 0) i ∙ eq_no j 0 l
      number_told (taken t rs st n) k i l = ap (λ (u : Result). u.number =? 0) i ∙ eq_yes 0 0 refl

      acted : answered x b₁ o₁ ≡ unraised_step s e b o
      unfolding unraised_step unraised_by
      acted = y s holds ∙ ap (λ (u : FormatReading Record). unraised_by s u b o) (sym here_read)

      raising : raises s e ≡ (not g and (x.number =? 0))
      unfolding raises raises_by unraised_on
      raising =
          ap (raises_by s) here_read
          ∙ (λ j. not (sym (ignored s.membership.mode e (numbers_mode h s numbers)) j) and
          sym (number_told (unraised s (record_of v e)) (rule_for s.membership.mode (record_of v e)) (y s holds) (unraised_above s (record_of v e))) j)

      both : (a : Bool) → a ≡ (not g and (x.number =? 0)) → (t : Server) → Holds t b → (answered x b₁ o₁ ≡ unraised_step t e b o) × (a ≡ raises t e)
      both a w t i =
          subst (λ (u : Server). (answered x b₁ o₁ ≡ unraised_step u e b o) × (a ≡ raises u e)) (holds_one s t b holds i) (acted, w ∙ sym raising)

      pub act_refused : (x.number ≡ 0 → ⊥) → (t : Server) → Holds t b → (answered x b₁ o₁ ≡ unraised_step t e b o) × (false ≡ raises t e)
      act_refused n = both false (dropped g ∙ ap (λ (u : Bool). not g and u) (sym (eq_no x.number 0 n)))

      pub act_taken : x.number ≡ 0 → (t : Server) → Holds t b → (answered x b₁ o₁ ≡ unraised_step t e b o) × (not g ≡ raises t e)
      act_taken z = both (not g) (kept g ∙ ap (λ (u : Bool). not g and u) (sym (eq_yes x.number 0 z)))

-- ---- the step by the state's number

pub step_numbered : (b e o : List ℕ) (r : Refusal) → refusal_number r ≡ state_number b o → answered (refused_with (refusal_number r)) b o ≡ step_on b e o
unfolding answered refusal
step_numbered b e o r f =
    ap (λ (i : ℕ). answered (refused_with i) b o) f ∙ sym (step_refused b e o (λ i. above_zero r (f ∙ i)))
