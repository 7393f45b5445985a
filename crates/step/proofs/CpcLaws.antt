-- CPCs: which states take them, and row 6.
use Prim.Native.Nat.{ℕ, ◌<◌}
use mathlib.Core.Path.{◌≡◌, refl, sym, ap, ◌∙◌}
use mathlib.Core.Bool.{Bool, true, false, not}
use mathlib.Core.List.{List}
use mathlib.Core.Option.{some}
use borrow.Author.Tests.{not-true, not-false}
use Rattle.base.specs.Tests.{◌or◌, ◌=?◌, pick}
use Rattle.base.proofs.TestLaws.{and_holds, not_both}
use Rattle.base.specs.Lists.{is_there}
use Rattle.base.specs.Refusals.{not_now, not_from_here}
use Rattle.format.specs.Types.{Record, cpc}
use Rattle.format.specs.Range.{fields_ok}
use Rattle.record.specs.declared.State.{State as Numbers}
use Rattle.replication.specs.Machine.Types.{Mode, Non_prim, Reg_prim, Trans_prim, Exchange_states, Exchange_actions, Construct, No, Un, Server, Outcome, context_of}
use Rattle.replication.specs.Machine.Rules.{Rule, ignoring, collecting_cpc, collecting_late_cpc, on_cpc, rule_for, possible, from_member, is_ignored, within_quota}
use Rattle.replication.specs.Machine.Step.{quiet, collect_cpc, collect_late_cpc, apply}
use Rattle.image.specs.Image.{image}
use Rattle.image.specs.Header.{header_of, mode_number}
use Rattle.image.specs.Decode.{mode_named}
use Rattle.image.specs.Holding.{Holds, HoldsSuch}
use Rattle.step.specs.declared.Answer.{Answer}
use Rattle.outgoing.specs.Lent.{LentSuch}
use Rattle.step.specs.Answers.{answered, outcome_on, ruled, InForce, with_late_cpc, refused_with, quietly}
use Rattle.outgoing.proofs.LentFacts.{lent_fact}
use Rattle.step.proofs.AnswerLaws.{Passes, untaken, outside, passed, passed_fits, not_there, refused_as, quiet_as}
use Rattle.step.proofs.ForceLaws.{numbers_mode, numbers_at_lem, below_eight}

late : (l : ℕ) (m : Mode) (k : ℕ) → l ≡ mode_number m → (l ≡ 0 → ⊥) → (l ≡ 5 → ⊥) → is_there (on_cpc m k) ≡ true → on_cpc m k ≡ some (collecting_late_cpc k)
unfolding mode_number on_cpc is_there
late l Non_prim k e u v h = absurd (u e)
late l Reg_prim k e u v h = not_both h
late l Trans_prim k e u v h = not_both h
late l Exchange_states k e u v h = not_both h
late l Exchange_actions k e u v h = not_both h
late l Construct k e u v h = absurd (v e)
late l No k e u v h = refl
late l Un k e u v h = not_both h

heard : (l : ℕ) (m : Mode) (k : ℕ) → l ≡ mode_number m → (l ≡ 0 → ⊥) → is_there (on_cpc m k) ≡ true
    → (j : Rule) × (on_cpc m k ≡ some j) × (is_ignored j ≡ false)
unfolding mode_number on_cpc is_there is_ignored
heard l Non_prim k e u h = absurd (u e)
heard l Reg_prim k e u h = not_both h
heard l Trans_prim k e u h = not_both h
heard l Exchange_states k e u h = not_both h
heard l Exchange_actions k e u h = not_both h
heard l Construct k e u h = (collecting_cpc k, refl, refl)
heard l No k e u h = (collecting_late_cpc k, refl, refl)
heard l Un k e u h = not_both h

-- Whichever way it goes, it is quiet.
quiet_either : (x : Bool) (s t u : Server) → pick x (quiet s t) (quiet s u) ≡ quiet s (pick x t u)
unfolding pick
quiet_either true s t u = refl
quiet_either false s t u = refl

late_quiet : (k : ℕ) (s : Server) → collect_late_cpc k s ≡ quiet s (with_late_cpc k s)
unfolding collect_late_cpc with_late_cpc
late_quiet k s = quiet_either _ s _ _

module _ (h : Numbers) (k id : ℕ) (b o : List ℕ) (f : LentSuch (InForce h (cpc k id)) b o) where
  abbrev r : Record
  r = cpc k id

  pub cpc_sender_below : k < 8
  unfolding fields_ok context_of
  cpc_sender_below = below_eight f.state b k f.holds (and_holds _ _ f.fact.range).0

  force : (s : Server) → Holds s b → InForce h r s
  force s y = lent_fact (InForce h r) b o s f y

  pub cpc_passed_over : h.mode ≡ 0 → (v : Answer) → v ≡ quietly → (s : Server) → Holds s b → answered v b o ≡ outcome_on (ruled s (cpc k id)) b o
  unfolding mode_named pick ◌=?◌ on_cpc rule_for possible is_ignored within_quota ◌or◌ apply mode_number
  cpc_passed_over m v q s y =
      let z : on_cpc s.membership.mode k ≡ some ignoring = numbers_at_lem (λ l. on_cpc l k ≡ some ignoring) h s 0 (force s y).numbers m refl in
      quiet_as s s (ruled s r) v b b o q (passed s r ignoring (record { rule = z; possible = refl; member = refl; quota = refl }))
      (sym y.written)

  module _ (m : h.mode ≡ 0 → ⊥) (t : Bool) (g : (l : Mode) (i : ℕ) → h.mode ≡ mode_number l → t ≡ is_there (on_cpc l i)) where
    table : (s : Server) → Holds s b → t ≡ is_there (on_cpc s.membership.mode k)
    table s y = g s.membership.mode k (numbers_mode h s (force s y).numbers)

    pub cpc_untaken : not t ≡ true → (v : Answer) → v ≡ refused_with not_now → (s : Server) → Holds s b
        → answered v b o ≡ outcome_on (ruled s (cpc k id)) b o
    unfolding rule_for
    cpc_untaken n v q s y =
        refused_as (ruled s r) v 5 b o q (untaken s r (not_there (on_cpc s.membership.mode k) (sym (table s y) ∙ not-true t n)))

    module _ (taken : not t ≡ false) (u : Bool) (d : (s : Server) → h ≡ header_of s → u ≡ from_member s.membership (cpc k id)) where
      there : (s : Server) → Holds s b → is_there (on_cpc s.membership.mode k) ≡ true
      there s y = sym (table s y) ∙ not-false t taken

      pub cpc_outside : not u ≡ true → (v : Answer) → v ≡ refused_with not_from_here → (s : Server) → Holds s b
          → answered v b o ≡ outcome_on (ruled s (cpc k id)) b o
      unfolding rule_for possible ◌or◌
      cpc_outside n v q s y =
          let j = heard h.mode s.membership.mode k (numbers_mode h s (force s y).numbers) m (there s y) in
          refused_as (ruled s r) v 6 b o q (outside s r j.0 j.1 refl (rw j.2 (sym (d s (force s y).numbers) ∙ not-true u n)))

      module _ (n : not u ≡ false) where
        passes : (s : Server) → Holds s b → (j : Rule) → on_cpc s.membership.mode k ≡ some j → is_ignored j ≡ false → Passes s r j
        unfolding rule_for possible within_quota ◌or◌
        passes s y j z l =
            record { rule = z; possible = refl; member = rw l (sym (d s (force s y).numbers) ∙ not-false u n); quota = refl }

        -- ---- in Construct

        constructing : h.mode ≡ 5 → (s : Server) → Holds s b → Passes s r (collecting_cpc k)
        unfolding mode_named pick ◌=?◌ on_cpc is_ignored mode_number
        constructing e s y =
            passes s y (collecting_cpc k) (numbers_at_lem (λ l. on_cpc l k ≡ some (collecting_cpc k)) h s 5 (force s y).numbers e refl) refl

        pub cpc_ready : h.mode ≡ 5 → LentSuch (λ s. (k < s.servers) × (s.membership.mode ≡ Construct)) b o
        cpc_ready e =
            let s : Server = f.state in
            record {
              state = s;
              holds = f.holds;
              fact = passed_fits s r (collecting_cpc k) f.holds.formed f.fact.range
                  (constructing e s f.holds);
              room = f.room;
            }

        pub cpc_installed : h.mode ≡ 5 → (v : Answer) (c z : List ℕ) → ((s : Server) → Holds s b → answered v c z ≡ outcome_on (collect_cpc k s) b o)
            → (s : Server) → Holds s b → answered v c z ≡ outcome_on (ruled s (cpc k id)) b o
        unfolding apply
        cpc_installed e v c z y s l =
            y s l ∙ ap (λ (j : Outcome Record). outcome_on j b o) (sym (passed s r (collecting_cpc k) (constructing e s l)))

        -- ---- in No

        waiting : (h.mode ≡ 5 → ⊥) → (s : Server) → Holds s b → Passes s r (collecting_late_cpc k)
        unfolding is_ignored
        waiting e s y =
            passes s y (collecting_late_cpc k) (late h.mode s.membership.mode k (numbers_mode h s (force s y).numbers) m e (there s y)) refl

        pub late_cpc_ready : (h.mode ≡ 5 → ⊥) → HoldsSuch (λ s. (k < s.servers) × (s.membership.mode ≡ No)) b
        late_cpc_ready e =
            let s : Server = f.state in
            record {
              state = s;
              holds = f.holds;
              fact = passed_fits s r (collecting_late_cpc k) f.holds.formed f.fact.range
                  (waiting e s f.holds);
            }

        pub late_cpc_taken : (h.mode ≡ 5 → ⊥) → (v : Answer) (c : List ℕ) → ((s : Server) → Holds s b → c ≡ image (with_late_cpc k s) b) → v ≡ quietly
            → (s : Server) → Holds s b → answered v c o ≡ outcome_on (ruled s (cpc k id)) b o
        unfolding apply
        late_cpc_taken e v c y q s l =
            quiet_as s (with_late_cpc k s) (ruled s r) v b c o q (passed s r (collecting_late_cpc k) (waiting e s l) ∙ late_quiet k s) (y s l)
