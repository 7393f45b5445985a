-- Actions: rows 5 and 6, and the colour that the state gives, as the code tells them.
use Prim.Native.Nat.{ℕ, ◌<◌}
use mathlib.Core.Path.{◌≡◌, refl, sym, ap, subst, ◌∙◌}
use mathlib.Core.Bool.{Bool, true, false, not}
use mathlib.Core.List.{List}
use mathlib.Core.Option.{some, some-injective, none-ne-some}
use lib.ListN.{length}
use borrow.Author.Tests.{not-true, not-false}
use Rattle.base.specs.Tests.{◌or◌, ◌=?◌, pick}
use Rattle.base.specs.Lists.{is_there}
use Rattle.base.proofs.ListLaws.{there}
use Rattle.base.specs.Refusals.{not_now, not_from_here}
use Rattle.format.specs.Types.{Action, action}
use Rattle.record.specs.declared.State.{State as Numbers}
use Rattle.record.specs.declared.ActionHead.{ActionHead}
use Rattle.record.specs.Values.{id_of, action_of}
use Rattle.replication.specs.Machine.Types.{Mode, Non_prim, Reg_prim, Trans_prim, Exchange_states, Exchange_actions, Construct, No, Un, Server, with_log, with_white}
use Rattle.replication.specs.Machine.Rules.{Rule, reddening, greening, yellowing, late_installing, on_action, rule_for, possible, from_member, is_ignored, within_quota}
use Rattle.replication.specs.Machine.White.{met_log, took_white, full, sifted, sieved, sieved_record}
use Rattle.replication.specs.Machine.Step.{apply, green_and_note}
use Rattle.replication.specs.Machine.Colours.{red, yellow}
use Rattle.replication.specs.Laws.RuleFits.{Delivered}
use Rattle.replication.proofs.Step.Moves.{rule_sieved}
use Rattle.image.specs.Image.{image}
use Rattle.image.specs.Header.{mode_number}
use Rattle.image.specs.Holding.{Holds, HoldsSuch, blanked}
use Rattle.image.proofs.InPlace.{such_fact}
use Rattle.image.specs.Decode.{mode_named}
use Rattle.queue.specs.Queue.{Placed, RoomIfNext}
use Rattle.queue.proofs.RedLaws.{room_if_next}
use Rattle.step.specs.declared.Answer.{Answer}
use Rattle.step.specs.Answers.{answered, outcome_on, InForce, refused_with, quietly, stored_first}
use Rattle.step.specs.Events.{Takes, installed_late}
use Rattle.step.specs.Stages.{Sifts, sieving, unraised, core_images, unraised_on}
use Rattle.step.proofs.AnswerLaws.{Passes, rows_untaken, rows_impossible, rows_outside, passed_fits, not_there, quiet_as}
use Rattle.step.proofs.ForceLaws.{numbers_mode, numbers_at_lem, OwnNumbered, own_numbered, Member}
use Rattle.step.proofs.RuleLaws.{Plain, action_plain, action_delivered}
use Rattle.step.proofs.SieveLaws.{took_holds, sifted_placed}
use Rattle.step.proofs.StageLaws.{refused_on, core_done, stored_on}
use Rattle.guards.proofs.ModeLaws.{in_mode_lem}

-- ---- the colour of an action that they let pass

-- In a state that neither greens it nor makes it yellow nor installs first, it is red.
red_else : (n : ℕ) (m : Mode) (a : Action) (k : Rule) → n ≡ mode_number m → (n ≡ 1 → ⊥) → (n ≡ 2 → ⊥) → (m ≡ Un → ⊥) → on_action m a ≡ some k
    → on_action m a ≡ some (reddening a)
unfolding mode_number on_action
red_else n Non_prim a k e x y z f = refl
red_else n Reg_prim a k e x y z f = absurd (x e)
red_else n Trans_prim a k e x y z f = absurd (y e)
red_else n Exchange_states a k e x y z f = refl
red_else n Exchange_actions a k e x y z f = absurd (none-ne-some k f)
red_else n Construct a k e x y z f = absurd (none-ne-some k f)
red_else n No a k e x y z f = absurd (none-ne-some k f)
red_else n Un a k e x y z f = absurd (z refl)

same_rule : (s : Server) (m : Mode) (a : Action) (j k : Rule) → on_action m a ≡ some j → on_action m a ≡ some k → apply k s ≡ apply j s
same_rule s m a j k e f = ap (λ (i : Rule). apply i s) (some-injective k j (sym f ∙ e))

module _ (n : ℕ) (x : ActionHead) (p b : List ℕ) (h : HoldsSuch (Takes n (action_of x p)) b) where
  abbrev act : Action
  act = action_of x p

  rule_at : (s : Server) (l : ℕ) (j : Rule) → Takes n act s → n ≡ l → on_action (mode_named l) act ≡ some j
      → on_action s.membership.mode act ≡ some j
  rule_at s l j t e f = ap (λ (m : Mode). on_action m act) (in_mode_lem s.membership.mode l (sym e ∙ t.number)) ∙ f

  pub placed_taken : HoldsSuch (λ s. Placed s (action_of x p)) b
  placed_taken = record { state = h.state; holds = h.holds; fact = h.fact.placed }

  pub red_taken : RoomIfNext x.creator x.index (length p) b
  unfolding action_of id_of
  red_taken = room_if_next h.state (action_of x p) b h.holds h.fact.placed

  -- ---- as the code leaves it

  module _ (c : List ℕ) (r : Answer) where
    pub green_done : n ≡ 1 → ((s : Server) → Holds s b → c ≡ image (green_and_note (action_of x p) s) b) → r ≡ quietly
        → (s : Server) (o : List ℕ) (k : Rule) → Holds s b → on_action s.membership.mode (action_of x p) ≡ some k
        → answered r c o ≡ outcome_on (apply k s) b o
    unfolding mode_named pick ◌=?◌ on_action apply mode_number
    green_done e f q s o k i t =
        let j = rule_at s 1 (greening act) (such_fact _ b s h i) e refl in
        quiet_as s (green_and_note act s) (apply k s) r b c o q (same_rule s s.membership.mode act (greening act) k j t) (f s i)

    pub yellow_done : n ≡ 2 → ((s : Server) → Holds s b → c ≡ image (yellow (action_of x p) s) b) → r ≡ quietly
        → (s : Server) (o : List ℕ) (k : Rule) → Holds s b → on_action s.membership.mode (action_of x p) ≡ some k
        → answered r c o ≡ outcome_on (apply k s) b o
    unfolding mode_named pick ◌=?◌ on_action apply mode_number
    yellow_done e f q s o k i t =
        let j = rule_at s 2 (yellowing act) (such_fact _ b s h i) e refl in
        quiet_as s (yellow act s) (apply k s) r b c o q (same_rule s s.membership.mode act (yellowing act) k j t) (f s i)

    pub red_done : (n ≡ 1 → ⊥) → (n ≡ 2 → ⊥)
        → ((s : Server) → Holds s b → Placed s (action_of x p) → c ≡ image (with_log (red (action_of x p) s.log) s) b) → r ≡ quietly
        → (s : Server) (o : List ℕ) (k : Rule) → Holds s b → on_action s.membership.mode (action_of x p) ≡ some k
        → answered r c o ≡ outcome_on (apply k s) b o
    unfolding apply
    red_done u v f q s o k i t =
        let g : Takes n act s = such_fact _ b s h i in
        let j = red_else n s.membership.mode act g.rule g.number u v g.early g.taken in
        quiet_as s (with_log (red act s.log) s) (apply k s) r b c o q (same_rule s s.membership.mode act (reddening act) k j t) (f s i g.placed)

-- ---- rows 5 and 6

same_ignored : (j k : Rule) → is_ignored j ≡ false → some j ≡ some k → is_ignored k ≡ false
same_ignored j k h e = subst (λ (i : Rule). is_ignored i ≡ false) (some-injective j k e) h

-- No action is ignored.
heard : (m : Mode) (a : Action) (k : Rule) → on_action m a ≡ some k → is_ignored k ≡ false
unfolding on_action is_ignored
heard Non_prim a k e = same_ignored (reddening a) k refl e
heard Reg_prim a k e = same_ignored (greening a) k refl e
heard Trans_prim a k e = same_ignored (yellowing a) k refl e
heard Exchange_states a k e = same_ignored (reddening a) k refl e
heard Exchange_actions a k e = absurd (none-ne-some k e)
heard Construct a k e = absurd (none-ne-some k e)
heard No a k e = absurd (none-ne-some k e)
heard Un a k e = same_ignored (late_installing a) k refl e

module _ (h : Numbers) (x : ActionHead) (p b : List ℕ) (f : HoldsSuch (InForce h (action (action_of x p))) b) where
  abbrev a : Action
  a = action_of x p

  force : (s : Server) → Holds s b → InForce h (action a) s
  force s i = such_fact (InForce h (action a)) b s f i

  pub action_unnumbered : (u : Bool) (r : Answer) → OwnNumbered h x u → not u ≡ true → r ≡ refused_with not_now
      → (s : Server) (o : List ℕ) → Holds s b → answered r b o ≡ unraised_on s (action (action_of x p)) b o
  unfolding possible unraised
  action_unnumbered u r d n q s o i =
      refused_on s (action a) r 5 b o q (rows_impossible sieving s (action a) (sym (own_numbered h x p u s d (force s i).numbers) ∙ not-true u n))

  module _ (t : Bool) (g : (m : Mode) (d : Action) → h.mode ≡ mode_number m → t ≡ is_there (on_action m d)) where
    table : (s : Server) → Holds s b → t ≡ is_there (on_action s.membership.mode a)
    table s i = g s.membership.mode a (numbers_mode h s (force s i).numbers)

    pub action_untaken : (r : Answer) → not t ≡ true → r ≡ refused_with not_now
        → (s : Server) (o : List ℕ) → Holds s b → answered r b o ≡ unraised_on s (action (action_of x p)) b o
    unfolding rule_for unraised
    action_untaken r n q s o i =
        refused_on s (action a) r 5 b o q
        (rows_untaken sieving s (action a) (not_there (on_action s.membership.mode a) (sym (table s i) ∙ not-true t n)))

    module _ (taken : not t ≡ false) (u : Bool) (d : OwnNumbered h x u) (numbered : not u ≡ false) (w : Bool) (e : Member h x.creator w) where
      rule : (s : Server) → Holds s b → (k : Rule) × (on_action s.membership.mode a ≡ some k)
      rule s i = there (on_action s.membership.mode a) (sym (table s i) ∙ not-false t taken)

      own : (s : Server) → Holds s b → possible s (action a) ≡ true
      unfolding possible
      own s i = sym (own_numbered h x p u s d (force s i).numbers) ∙ not-false u numbered

      member : (s : Server) → Holds s b → from_member s.membership (action a) ≡ w
      unfolding from_member action_of id_of
      member s i = sym (e s (force s i).numbers)

      pub action_outside : (r : Answer) → not w ≡ true → r ≡ refused_with not_from_here
          → (s : Server) (o : List ℕ) → Holds s b → answered r b o ≡ unraised_on s (action (action_of x p)) b o
      unfolding rule_for ◌or◌ unraised
      action_outside r n q s o i =
          let k = rule s i in
          refused_on s (action a) r 6 b o q
          (rows_outside sieving s (action a) k.0 k.1 (own s i) (rw (heard s.membership.mode a k.0 k.1) (member s i ∙ not-true w n)))

      passes : not w ≡ false → (s : Server) → Holds s b → (k : Rule) → on_action s.membership.mode a ≡ some k → Passes s (action a) k
      unfolding rule_for within_quota ◌or◌
      passes n s i k j =
          record {
            rule = j;
            possible = own s i;
            member = rw (heard s.membership.mode a k j)
                (member s i ∙ not-false w n);
            quota = refl;
          }

      module _ (n : not w ≡ false) where
        delivered : (s : Server) → Holds s b → Delivered s a
        delivered s i =
            let k = rule s i in
            action_delivered s.membership.mode a k.0 s k.1
            (passed_fits s (action a) k.0 i.formed (force s i).range (passes n s i k.0 k.1))

        pub action_pass : HoldsSuch (λ s. x.creator < s.servers) b
        unfolding action_of id_of
        action_pass = record { state = f.state; holds = f.holds; fact = (delivered f.state f.holds).fits.creator }

        -- ---- in Un

        late_mode : h.mode ≡ 7 → (s : Server) → Holds s b → s.membership.mode ≡ Un
        unfolding mode_named pick ◌=?◌ mode_number
        late_mode e s i = numbers_at_lem (λ m. m ≡ Un) h s 7 (force s i).numbers e refl

        late_rule : h.mode ≡ 7 → (s : Server) → Holds s b → Passes s (action a) (late_installing a)
        unfolding on_action
        late_rule e s i = passes n s i (late_installing a) (ap (λ (m : Mode). on_action m a) (late_mode e s i))

        pub action_late : h.mode ≡ 7 → HoldsSuch (λ s. Delivered s (action_of x p) × (s.membership.mode ≡ Un)) b
        action_late e = record { state = f.state; holds = f.holds; fact = (delivered f.state f.holds, late_mode e f.state f.holds) }

        pub action_installed : h.mode ≡ 7 → (c : List ℕ) (r : Answer)
            → ((s : Server) → Holds s b
            → c ≡ core_images (late_installing (action_of x p)) s (installed_late (sifted (full (late_installing (action_of x p)) s) (action_of x p)) s) b)
            → r ≡ stored_first 0 → (s : Server) (o : List ℕ) → Holds s b → answered r c o ≡ unraised_on s (action (action_of x p)) b o
        unfolding sieving sieved apply
        action_installed e c r g q s o i =
            stored_on s (action a) (late_installing a) (late_rule e s i) b o (installed_late (sifted (full (late_installing a) s) a) s) refl r c q (g s i)

        -- ---- elsewhere

        module _ (other : h.mode ≡ 7 → ⊥) (y : ActionHead) (c : List ℕ) (sift : Sifts reddening x y b c) where
          early : (s : Server) → Holds s b → s.membership.mode ≡ Un → ⊥
          unfolding mode_number
          early s i e = other (numbers_mode h s (force s i).numbers ∙ ap mode_number e)

          abbrev here : Server → Server
          here s = blanked (with_white (took_white (reddening a) s) s)

          here_holds : (s : Server) → Holds s b → Holds (here s) c
          unfolding met_log
          here_holds s i = took_holds (reddening a) s b c i refl ((sift p).0 s i)

          -- The action that the sieve lets through, by its rule.
          sieved_rule : (s : Server) → Holds s b → (k : Rule) → on_action s.membership.mode a ≡ some k
              → on_action s.membership.mode (action_of y p) ≡ some (sieved (full (reddening a) s) k)
          unfolding rule_for sieved_record
          sieved_rule s i k e =
              ap (on_action s.membership.mode) ((sift p).1 s i) ∙ rule_sieved s.membership.mode (full (reddening a) s) (action a) k e

          pub action_takes : HoldsSuch (Takes h.mode (action_of y p)) c
          unfolding blanked
          action_takes =
              let s : Server = f.state in
              let i : Holds s b = f.holds in
              let k = rule s i in
              record {
                state = here s;
                holds = here_holds s i;
                fact = record {
                  number = numbers_mode h s f.fact.numbers;
                  rule = sieved (full (reddening a) s) k.0;
                  taken = sieved_rule s i k.0 k.1;
                  early = early s i;
                  placed = subst (Placed (here s)) (sym ((sift p).1 s i)) (sifted_placed s a (delivered s i));
                };
              }

          pub action_coloured : (r : Answer) (d : List ℕ)
              → ((s : Server) (o : List ℕ) (k : Rule) → Holds s c → on_action s.membership.mode (action_of y p) ≡ some k → answered r d o
              ≡ outcome_on (apply k s) c o)
              → (s : Server) (o : List ℕ) → Holds s b → answered r d o ≡ unraised_on s (action (action_of x p)) b o
          unfolding blanked
          action_coloured r d z s o i =
              let k = rule s i in
              let q : Plain k.0 a s = action_plain s.membership.mode a k.0 s (early s i) k.1 in
              core_done s (action a) k.0 (passes n s i k.0 k.1) b o i q.met q.at c
              ((sift p).0 s i ∙ ap (λ (v : ℕ). image (with_white v s) b) (sym q.took)) r d o
              (z (here s) o (sieved (full (reddening a) s) k.0) (here_holds s i) (sieved_rule s i k.0 k.1)
              ∙ (λ j. outcome_on (apply (sieved (sym q.sieves j) k.0) (blanked (with_white (sym q.took j) s))) c o))
