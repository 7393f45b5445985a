-- Requests: row 3, as the code tests it.
use mathlib.Core.Path.{◌≡◌, refl, sym, ap, ◌∙◌}
use mathlib.Core.Bool.{Bool, true, false, not}
use mathlib.Core.List.{List}
use Prim.Native.Nat.{ℕ}
use borrow.Author.Tests.{not-true, not-false}
use Rattle.base.specs.Tests.{◌or◌}
use Rattle.base.specs.Refusals.{quota_used}
use Rattle.format.specs.Types.{Record, request}
use Rattle.record.specs.declared.State.{State as Numbers}
use Rattle.replication.specs.Machine.Types.{Server, Outcome}
use Rattle.replication.specs.Machine.Colours.{unwhite}
use Rattle.replication.specs.Machine.Requests.{quota_left}
use Rattle.replication.specs.Machine.Rules.{requesting, rule_for, possible, from_member, is_ignored, within_quota}
use Rattle.replication.specs.Machine.Step.{requested, apply}
use Rattle.image.specs.Header.{header_of}
use Rattle.image.specs.Holding.{Holds, Computes}
use Rattle.step.specs.declared.Answer.{Answer}
use Rattle.outgoing.specs.Lent.{LentSuch}
use Rattle.step.specs.Answers.{answered, outcome_on, ruled, InForce, refused_with}
use Rattle.step.specs.Events.{Asked}
use Rattle.outgoing.proofs.LentFacts.{lent_fact}
use Rattle.step.proofs.AnswerLaws.{Passes, above_quota, passed, passed_fits, refused_as}

module _ (h : Numbers) (p b o : List ℕ) (f : LentSuch (InForce h (request p)) b o) (t : Bool) (m : ℕ)
    (own : Computes (λ s. unwhite h.me s.white s.log) b m)
    (told : (s : Server) → h ≡ header_of s → m ≡ unwhite s.me s.white s.log → t ≡ quota_left s) where
  abbrev r : Record
  r = request p

  force : (s : Server) → Holds s b → InForce h r s
  force s y = lent_fact (InForce h r) b o s f y

  left_told : (s : Server) → Holds s b → t ≡ quota_left s
  unfolding header_of
  left_told s y =
      let e = (force s y).numbers in
      told s e (own s y ∙ ap (λ (k : ℕ). unwhite k s.white s.log) (ap (λ (n : Numbers). n.me) e))

  pub quota_used_lem : not t ≡ true → (v : Answer) → v ≡ refused_with quota_used → (s : Server) → Holds s b → answered v b o ≡ outcome_on (ruled s (request p)) b o
  unfolding rule_for possible is_ignored from_member within_quota ◌or◌
  quota_used_lem n v q s y =
      refused_as (ruled s r) v 3 b o q (above_quota s r (requesting p) refl refl refl (sym (left_told s y) ∙ not-true t n))

  module _ (left : not t ≡ false) where
    passes : (s : Server) → Holds s b → Passes s r (requesting p)
    unfolding rule_for possible is_ignored from_member within_quota ◌or◌
    passes s y = record { rule = refl; possible = refl; member = refl; quota = sym (left_told s y) ∙ not-false t left }

    pub request_ready : LentSuch (Asked p h) b o
    request_ready =
        let s : Server = f.state in
        let fits = passed_fits s r (requesting p) f.holds.formed f.fact.range (passes s f.holds) in
        record { state = s; holds = f.holds; fact = (fits.0, fits.1, f.fact.numbers); room = f.room }

    pub request_taken : (v : Answer) (c z : List ℕ) → ((s : Server) → Holds s b → answered v c z ≡ outcome_on (requested p s) b o)
        → (s : Server) → Holds s b → answered v c z ≡ outcome_on (ruled s (request p)) b o
    unfolding apply
    request_taken v c z w s y = w s y ∙ ap (λ (j : Outcome Record). outcome_on j b o) (sym (passed s r (requesting p) (passes s y)))
