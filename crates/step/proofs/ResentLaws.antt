-- Retransmissions: rows 5 and 6, as the code tests them.
use Prim.Native.Nat.{ℕ, ◌<◌}
use mathlib.Core.Path.{◌≡◌, refl, sym, ap, subst, ◌∙◌}
use mathlib.Core.Bool.{Bool, true, false, not}
use mathlib.Core.List.{List}
use mathlib.Core.Option.{some, some-injective, none-ne-some}
use lib.ListN.{length}
use borrow.Author.Tests.{not-true, not-false}
use Rattle.base.specs.Tests.{◌or◌, ◌=?◌, pick}
use Rattle.base.proofs.TestLaws.{not_both}
use Rattle.base.specs.Lists.{is_there}
use Rattle.base.specs.Refusals.{not_now, not_from_here}
use Rattle.format.specs.Types.{Action, Record, retransmission}
use Rattle.record.specs.declared.State.{State as Numbers}
use Rattle.record.specs.declared.ActionHead.{ActionHead}
use Rattle.record.specs.Values.{id_of, action_of}
use Rattle.replication.specs.Machine.Types.{Mode, Non_prim, Reg_prim, Trans_prim, Exchange_states, Exchange_actions, Construct, No, Un, Server, with_log, with_white}
use Rattle.replication.specs.Machine.Colours.{red}
use Rattle.replication.specs.Machine.Rules.{Rule, reddening, exchanging, on_retransmission, rule_for, possible, from_member, is_ignored, within_quota}
use Rattle.replication.specs.Machine.Step.{exchange, apply}
use Rattle.replication.specs.Machine.White.{met_log, took_white, sieved}
use Rattle.replication.specs.Laws.RuleFits.{Delivered, RuleFits}
use Rattle.image.specs.Image.{image}
use Rattle.image.specs.Header.{mode_number}
use Rattle.image.specs.Decode.{mode_named}
use Rattle.image.specs.Holding.{Holds, HoldsSuch, blanked}
use Rattle.queue.specs.Queue.{Placed, RoomIfNext}
use Rattle.queue.proofs.RedLaws.{room_if_next}
use Rattle.step.specs.declared.Answer.{Answer}
use Rattle.outgoing.specs.Lent.{LentSuch}
use Rattle.step.specs.Answers.{answered, outcome_on, InForce, refused_with, quietly}
use Rattle.step.specs.Events.{PlacedAt, Retransmitted}
use Rattle.step.specs.Stages.{Sifts, sieving, unraised, unraised_on}
use Rattle.outgoing.proofs.LentFacts.{lent_fact}
use Rattle.step.proofs.AnswerLaws.{Passes, rows_untaken, rows_impossible, rows_outside, passed_fits, not_there, quiet_as}
use Rattle.step.proofs.RuleLaws.{plain_red, exchanging_plain}
use Rattle.step.proofs.SieveLaws.{took_holds, sifted_placed, sifted_placed_at}
use Rattle.step.proofs.StageLaws.{refused_on, core_done}
use Rattle.step.proofs.ForceLaws.{numbers_mode, numbers_at_lem, OwnNumbered, own_numbered, Member}

-- In Exchange_actions it is part of the exchange, elsewhere red.
resent : (l : ℕ) (m : Mode) (i : ℕ) (a : Action) → l ≡ mode_number m → (l ≡ 4 → ⊥) → is_there (on_retransmission m i a) ≡ true
    → on_retransmission m i a ≡ some (reddening a)
unfolding mode_number on_retransmission is_there
resent l Non_prim i a e n h = refl
resent l Reg_prim i a e n h = not_both h
resent l Trans_prim i a e n h = not_both h
resent l Exchange_states i a e n h = not_both h
resent l Exchange_actions i a e n h = absurd (n e)
resent l Construct i a e n h = not_both h
resent l No i a e n h = not_both h
resent l Un i a e n h = not_both h

-- None is ignored.
heard : (m : Mode) (i : ℕ) (a : Action) → is_there (on_retransmission m i a) ≡ true
    → (k : Rule) × (on_retransmission m i a ≡ some k) × (is_ignored k ≡ false)
unfolding on_retransmission is_there is_ignored
heard Non_prim i a h = (reddening a, refl, refl)
heard Reg_prim i a h = not_both h
heard Trans_prim i a h = not_both h
heard Exchange_states i a h = not_both h
heard Exchange_actions i a h = (exchanging i a, refl, refl)
heard Construct i a h = not_both h
heard No i a h = not_both h
heard Un i a h = not_both h

resent_delivered : (m : Mode) (i : ℕ) (a : Action) (k : Rule) (s : Server) → on_retransmission m i a ≡ some k → RuleFits k s → Delivered s a
unfolding on_retransmission
resent_delivered Non_prim i a k s e f = subst (λ j. RuleFits j s) (sym (some-injective (reddening a) k e)) f
resent_delivered Reg_prim i a k s e f = absurd (none-ne-some k e)
resent_delivered Trans_prim i a k s e f = absurd (none-ne-some k e)
resent_delivered Exchange_states i a k s e f = absurd (none-ne-some k e)
resent_delivered Exchange_actions i a k s e f = (subst (λ j. RuleFits j s) (sym (some-injective (exchanging i a) k e)) f).0
resent_delivered Construct i a k s e f = absurd (none-ne-some k e)
resent_delivered No i a k s e f = absurd (none-ne-some k e)
resent_delivered Un i a k s e f = absurd (none-ne-some k e)

module _ (h : Numbers) (x : ActionHead) (p b o : List ℕ) (j i : ℕ) (f : LentSuch (InForce h (retransmission j i (action_of x p))) b o) where
  abbrev a : Action
  a = action_of x p

  abbrev r : Record
  r = retransmission j i a

  force : (s : Server) → Holds s b → InForce h r s
  force s y = lent_fact (InForce h r) b o s f y

  pub resent_unnumbered : (u : Bool) (v : Answer) → OwnNumbered h x u → not u ≡ true → v ≡ refused_with not_now
      → (s : Server) → Holds s b → answered v b o ≡ unraised_on s (retransmission j i (action_of x p)) b o
  unfolding possible unraised
  resent_unnumbered u v d n q s y =
      refused_on s r v 5 b o q (rows_impossible sieving s r (sym (own_numbered h x p u s d (force s y).numbers) ∙ not-true u n))

  module _ (t : Bool) (g : (m : Mode) (l : ℕ) (d : Action) → h.mode ≡ mode_number m → t ≡ is_there (on_retransmission m l d)) where
    table : (s : Server) → Holds s b → t ≡ is_there (on_retransmission s.membership.mode i a)
    table s y = g s.membership.mode i a (numbers_mode h s (force s y).numbers)

    pub resent_untaken : (v : Answer) → not t ≡ true → v ≡ refused_with not_now
        → (s : Server) → Holds s b → answered v b o ≡ unraised_on s (retransmission j i (action_of x p)) b o
    unfolding rule_for unraised
    resent_untaken v n q s y =
        refused_on s r v 5 b o q (rows_untaken sieving s r (not_there (on_retransmission s.membership.mode i a) (sym (table s y) ∙ not-true t n)))

    module _ (taken : not t ≡ false) (u : Bool) (d : OwnNumbered h x u) (numbered : not u ≡ false) (w : Bool) (e : Member h j w) where
      there : (s : Server) → Holds s b → is_there (on_retransmission s.membership.mode i a) ≡ true
      there s y = sym (table s y) ∙ not-false t taken

      own : (s : Server) → Holds s b → possible s r ≡ true
      unfolding possible
      own s y = sym (own_numbered h x p u s d (force s y).numbers) ∙ not-false u numbered

      member : (s : Server) → Holds s b → from_member s.membership r ≡ w
      unfolding from_member
      member s y = sym (e s (force s y).numbers)

      pub resent_outside : (v : Answer) → not w ≡ true → v ≡ refused_with not_from_here
          → (s : Server) → Holds s b → answered v b o ≡ unraised_on s (retransmission j i (action_of x p)) b o
      unfolding rule_for ◌or◌ unraised
      resent_outside v n q s y =
          let k = heard s.membership.mode i a (there s y) in
          refused_on s r v 6 b o q (rows_outside sieving s r k.0 k.1 (own s y) (rw k.2 (member s y ∙ not-true w n)))

      module _ (n : not w ≡ false) where
        passes : (s : Server) → Holds s b → (k : Rule) → on_retransmission s.membership.mode i a ≡ some k → is_ignored k ≡ false → Passes s r k
        unfolding rule_for within_quota ◌or◌
        passes s y k z l = record { rule = z; possible = own s y; member = rw l (member s y ∙ not-false w n); quota = refl }

        delivered : (s : Server) → Holds s b → Delivered s a
        delivered s y =
            let k = heard s.membership.mode i a (there s y) in
            resent_delivered s.membership.mode i a k.0 s k.1
            (passed_fits s r k.0 y.formed (force s y).range (passes s y k.0 k.1 k.2))

        pub resent_pass : HoldsSuch (λ s. x.creator < s.servers) b
        unfolding action_of id_of
        resent_pass = record { state = f.state; holds = f.holds; fact = (delivered f.state f.holds).fits.creator }

        -- ---- in an exchange

        module _ (m : h.mode ≡ 4) (y : ActionHead) (c : List ℕ) (sift : Sifts (exchanging i) x y b c) where
          planned : (s : Server) → Holds s b → Passes s r (exchanging i a)
          unfolding mode_named pick ◌=?◌ on_retransmission is_ignored mode_number
          planned s l =
              passes s l (exchanging i a) (numbers_at_lem (λ e. on_retransmission e i a ≡ some (exchanging i a)) h s 4 (force s l).numbers m refl) refl

          abbrev there_state : Server → Server
          there_state s = blanked (with_white (took_white (exchanging i a) s) s)

          there_holds : (s : Server) → Holds s b → Holds (there_state s) c
          unfolding met_log
          there_holds s l = took_holds (exchanging i a) s b c l refl ((sift p).0 s l)

          pub exchange_ready : LentSuch (Retransmitted i (action_of y p)) c o
          unfolding blanked
          exchange_ready =
              let s : Server = f.state in
              let l : Holds s b = f.holds in
              let d = passed_fits s r (exchanging i a) l.formed f.fact.range (planned s l) in
              record {
                state = there_state s;
                holds = there_holds s l;
                fact = (subst (λ e. PlacedAt i e (there_state s)) (sym ((sift p).1 s l)) (sifted_placed_at i s a l.formed d.0), d.1);
                room = f.room;
              }

          pub resent_exchanged : (v : Answer) (d z : List ℕ)
              → ((s : Server) → Holds s c → answered v d z ≡ outcome_on (exchange i (action_of y p) s) c o)
              → (s : Server) → Holds s b → answered v d z ≡ unraised_on s (retransmission j i (action_of x p)) b o
          unfolding apply sieved met_log
          resent_exchanged v d z e s l =
              core_done s r (exchanging i a) (planned s l) b o l refl (exchanging_plain i a s) c ((sift p).0 s l) v d z
              (e (there_state s) (there_holds s l) ∙ ap (λ (k : Action). outcome_on (exchange i k (there_state s)) c o) ((sift p).1 s l))

        -- ---- elsewhere

        module _ (m : h.mode ≡ 4 → ⊥) (y : ActionHead) (c : List ℕ) (sift : Sifts reddening x y b c) where
          alone : (s : Server) → Holds s b → Passes s r (reddening a)
          unfolding is_ignored
          alone s l = passes s l (reddening a) (resent h.mode s.membership.mode i a (numbers_mode h s (force s l).numbers) m (there s l)) refl

          abbrev here : Server → Server
          here s = blanked (with_white (took_white (reddening a) s) s)

          here_holds : (s : Server) → Holds s b → Holds (here s) c
          unfolding met_log
          here_holds s l = took_holds (reddening a) s b c l refl ((sift p).0 s l)

          here_placed : (s : Server) → Holds s b → Placed (here s) (action_of y p)
          here_placed s l = subst (Placed (here s)) (sym ((sift p).1 s l)) (sifted_placed s a (delivered s l))

          pub resent_room : RoomIfNext y.creator y.index (length p) c
          unfolding action_of id_of
          resent_room =
              let s : Server = f.state in
              room_if_next (here s) (action_of y p) c (here_holds s f.holds) (here_placed s f.holds)

          pub resent_red : (v : Answer) (d : List ℕ)
              → ((s : Server) → Holds s c → Placed s (action_of y p) → d ≡ image (with_log (red (action_of y p) s.log) s) c) → v ≡ quietly
              → (s : Server) → Holds s b → answered v d o ≡ unraised_on s (retransmission j i (action_of x p)) b o
          unfolding apply sieved met_log
          resent_red v d e q s l =
              let t : Server = here s in
              core_done s r (reddening a) (alone s l) b o l refl (plain_red a s).at c ((sift p).0 s l) v d o
              (quiet_as t (with_log (red (action_of y p) t.log) t) (apply (reddening (action_of y p)) t) v c d o q refl (e t (here_holds s l) (here_placed s l))
              ∙ ap (λ (k : Action). outcome_on (apply (reddening k) t) c o) ((sift p).1 s l))
