-- States collected in place, and what follows the last of them.
use Prim.Native.Nat.{ℕ, ◌*◌, ◌≤◌}
use mathlib.Core.Path.{◌≡◌, refl, sym, ap, subst, ◌∙◌}
use mathlib.Core.Bool.{Bool, true, false}
use mathlib.Core.List.{List}
use native.Mathlib.Omega.{arith}
use lib.ListN.{length}
use Rattle.base.specs.Tests.{◌=?◌}
use Rattle.base.proofs.TestLaws.{pick_yes, pick_no, pick_as, both_yes, eq_yes, eq_no}
use Rattle.base.specs.Bytes.{over}
use Rattle.format.specs.Types.{State, Context, state}
use Rattle.format.specs.Range.{fields_ok, record_ok, context_ok}
use Rattle.format.specs.Read.{read}
use Rattle.format.specs.Write.{write, length_of, record_bytes}
use Rattle.format.proofs.Lengths.{write_length}
use Rattle.format.proofs.Reading.{says_same}
use Rattle.format.proofs.RoundTrip.{read_written}
use Rattle.replication.specs.Machine.Types.{Mode, Non_prim, Exchange_states, Server, in_mode, context_of}
use Rattle.replication.specs.Machine.Plan.{own_part}
use Rattle.replication.specs.Machine.Step.{collected, sent, with_state, all_states_in, planned_now, resending, end_exchange, after_states, collect_state}
use Rattle.replication.specs.Machine.WellFormed.{well_formed}
use Rattle.replication.proofs.WellFormed.Facts.{well_formed_facts}
use Rattle.replication.proofs.WellFormed.Ranges.{sizes_ok_lem, state_ok_lem}
use Rattle.replication.specs.Laws.RuleFits.{StateCame}
use Rattle.image.specs.Layout.{state_size}
use Rattle.image.specs.Image.{image}
use Rattle.image.specs.Header.{mode_number}
use Rattle.image.specs.Holding.{Holds, HoldsSome}
use Rattle.image.proofs.InPlace.{holds_some}
use Rattle.updates.specs.Lists.{CollectRoom}
use Rattle.step.specs.declared.Answer.{Answer}
use Rattle.outgoing.specs.Lent.{LentSuch}
use Rattle.step.specs.Answers.{answered, outcome_on, Came, quietly, sent_only}
use Rattle.outgoing.proofs.LentFacts.{lent_fact}
use Rattle.image.proofs.Chained.{Covers, then_holds, numbers_then}
use Rattle.step.proofs.ExchangeStates.{non_prim_formed, exchange_configured, came_formed, resending_formed}
use Rattle.step.proofs.EndLaws.{Ends}
use Rattle.step.proofs.EndOverLaws.{end_mode, Before, end_over}
use Rattle.step.proofs.OutcomeLaws.{sent_after, sent_outcome, quiet_outcome}
use Rattle.step.proofs.RetransmissionLaws.{left, left_holds}
use Rattle.image.proofs.Counts.{numbers, holds_counts}

-- Every member's State is in.
abbrev pub Complete : Server → Type 0
Complete t = (all_states_in t ≡ true) × (t.membership.mode ≡ Exchange_states)

after_planned : (s t : Server) → (planned_now t =? 0) ≡ false
    → after_states s t ≡ sent s (resending t) (own_part t.servers t.me t.white t.log (collected t))
unfolding after_states
after_planned s t e = sym (pick_no _ _ _ _ e refl)

after_none : (s t : Server) → (planned_now t =? 0) ≡ true → after_states s t ≡ end_exchange s t
unfolding after_states
after_none s t e = sym (pick_yes _ _ _ _ e refl)

module _ (b o : List ℕ) (m : LentSuch Complete b o) where
  -- ---- some are planned

  pub part_sent : (n : ℕ) (o₁ c : List ℕ)
      → ((t : Server) → Holds t b
      → (n ≡ length (record_bytes (own_part t.servers t.me t.white t.log (collected t)))) × (o₁ ≡ over (record_bytes (own_part t.servers t.me t.white t.log (collected t))) o))
      → ((t : Server) → Holds t b → c ≡ image (resending t) b) → (r : Answer) → r ≡ sent_only n
      → (s t : Server) → Holds t b → (planned_now t =? 0) ≡ false → answered r c o₁ ≡ outcome_on (after_states s t) b o
  part_sent n o₁ c f g r a s t y e =
      sent_outcome s (resending t) (own_part t.servers t.me t.white t.log (collected t)) b o c o₁ n r a (g t y) (f t y).0 (f t y).1
      ∙ ap (λ v. outcome_on v b o) (sym (after_planned s t e))

  -- ---- after them

  module _ (x : ℕ) (told : (t : Server) → Holds t b → x ≡ planned_now t) where
    pub after_awaited : (x ≡ 0 → ⊥) → (c o₁ : List ℕ) (r : Answer)
        → ((s t : Server) → Holds t b → (planned_now t =? 0) ≡ false → answered r c o₁ ≡ outcome_on (after_states s t) b o)
        → (s t : Server) → Holds t b → answered r c o₁ ≡ outcome_on (after_states s t) b o
    after_awaited n c o₁ r f s t y = f s t y (eq_no (planned_now t) 0 (λ e. n (told t y ∙ e)))

    module _ (c : List ℕ) (f : (s : Server) (p : Mode) → Holds s b → 0 ≡ mode_number p → c ≡ image (in_mode p s) b) where
      pub after_ends : LentSuch Ends c o
      after_ends = record {
        state = in_mode Non_prim m.state;
        holds = left_holds b c f m.state m.holds;
        fact = (exchange_configured m.state m.holds.formed m.fact.1, refl);
        room = m.room;
      }

      pub after_ended : x ≡ 0 → (d o₁ : List ℕ) (r : Answer) → ((s t : Server) → Holds t c → answered r d o₁ ≡ outcome_on (end_exchange s t) c o)
          → (s t : Server) → Holds t b → answered r d o₁ ≡ outcome_on (after_states s t) b o
      after_ended z d o₁ r g s t y =
          let u : Server = in_mode Non_prim t in
          g s u (left_holds b c f t y)
          ∙ end_over t u (record { servers = refl; quota = refl; ids = refl }) b c o y (non_prim_formed t y.formed)
          (exchange_configured t y.formed (lent_fact Complete b o t m y).1) (left b c f t y) s
          ∙ ap (λ v. outcome_on v b o) (end_mode s t ∙ sym (after_none s t (eq_yes (planned_now t) 0 (sym (told t y) ∙ z))))

-- ---- a State is collected

state_before : (s : Server) (x : State) → Before s (with_state x s)
unfolding with_state
state_before s x = record { servers = refl; quota = refl; ids = refl }

state_mode : (s : Server) (x : State) → s.membership.mode ≡ Exchange_states → (with_state x s).membership.mode ≡ Exchange_states
unfolding with_state
state_mode s x e = e

state_covers : (s : Server) (x : State) → Covers s (with_state x s) (resending (with_state x s))
unfolding with_state resending
state_covers s x = numbers_then s (with_state x s) (resending (with_state x s)) (refl, refl) (refl, refl) refl refl refl refl

-- The last State, and what follows: over the bytes at the beginning.
after_over : (s : Server) (x : State) (b c o : List ℕ) → Holds s b → StateCame s x → s.membership.mode ≡ Exchange_states
    → all_states_in (with_state x s) ≡ true
    → c ≡ image (with_state x s) b → outcome_on (after_states s (with_state x s)) c o ≡ outcome_on (after_states s (with_state x s)) b o
unfolding after_states
after_over s x b c o r d e whole f =
    let t : Server = with_state x s in
    let ok : well_formed t ≡ true = came_formed s r.formed e x d in
    pick_as (λ v. outcome_on v c o ≡ outcome_on v b o) (planned_now t =? 0) (end_exchange s t)
    (sent s (resending t) (own_part t.servers t.me t.white t.log (collected t)))
    (λ z. end_over s t (state_before s x) b c o r ok (exchange_configured t ok (state_mode s x e)) f s)
    (λ z.
    sent_after s t (resending t) b c o r ok (resending_formed t ok (state_mode s x e) whole z) (state_covers s x) f s
    (own_part t.servers t.me t.white t.log (collected t)))

-- Bytes are the writing of one State in range.
one_state : (c : Context) (x y : State) → context_ok c ≡ true → fields_ok c (state x) ≡ true → fields_ok c (state y) ≡ true
    → write (state x) ≡ write (state y) → x ≡ y
unfolding record_ok
one_state c x y ok f g e =
    state_same x y
    (says_same (state x) (state y)
    (sym (read_written c (state x) (both_yes _ _ ok f)) ∙ ap (read c) e ∙ read_written c (state y) (both_yes _ _ ok g)))
  where
    state_same : (x y : State) → state x ≡ state y → x ≡ y
    state_same x y e = cc

module _ (k : ℕ) (e b o : List ℕ) (m : LentSuch (Came k e) b o) where
  pub collect_room : CollectRoom k e b
  unfolding state_size length_of
  collect_room =
      let s = m.state in
      let r = m.holds in
      let x = m.fact.sent in
      let f = m.fact.came.fits in
      let n = (numbers s b r).servers in
      let q = (numbers s b r).quota in
      let ids : length x.yellow.ids ≤ s.servers * s.quota = f.yellow.few in
      let size : length (write (state x)) ≡ length e = ap length m.fact.written in
      record {
        number = record { counts = holds_counts s b r; below = rw n (omega (arith, f.sender, m.fact.sender)) };
        short = rw (n, q) (omega (arith, write_length (state x), f.cuts_length, size));
      }

  mode : (s : Server) → Holds s b → s.membership.mode ≡ Exchange_states
  mode s r = (lent_fact (Came k e) b o s m r).mode

  -- The State that is meant is the one that came.
  came : (s : Server) (x : State) → Holds s b → fields_ok (context_of s) (state x) ≡ true → write (state x) ≡ e → StateCame s x × (x.sender ≡ k)
  unfolding context_of fields_ok
  came s x r ok w =
      let d = lent_fact (Came k e) b o s m r in
      let sizes : context_ok (context_of s) ≡ true = sizes_ok_lem (context_of s) (well_formed_facts s r.formed).sizes in
      let same : d.sent ≡ x = one_state (context_of s) d.sent x sizes (state_ok_lem (context_of s) d.sent d.came.fits) ok (d.written ∙ sym w) in
      subst (λ y. StateCame s y × (y.sender ≡ k)) same (d.came, d.sender)

  module _ (c : List ℕ) (f : (s : Server) (x : State) → Holds s b → write (state x) ≡ e → x.sender ≡ k → c ≡ image (with_state x s) b) where
    got_holds : (s : Server) (x : State) → Holds s b → StateCame s x × (x.sender ≡ k) → write (state x) ≡ e → Holds (with_state x s) c
    unfolding with_state
    got_holds s x r d w = then_holds s (with_state x s) b c r (f s x r w d.1) refl refl (came_formed s r.formed (mode s r) x d.0) r.blank

    pub collect_some : HoldsSome c
    collect_some =
        let d = m.fact in
        holds_some (with_state d.sent m.state) c (got_holds m.state d.sent m.holds (d.came, d.sender) d.written)

    module _ (all : Bool) (told : (s : Server) → Holds s c → all ≡ all_states_in s) where
      in_told : (s : Server) (x : State) → Holds s b → StateCame s x × (x.sender ≡ k) → write (state x) ≡ e → all_states_in (with_state x s) ≡ all
      in_told s x r d w = sym (told (with_state x s) (got_holds s x r d w))

      pub collect_waiting : all ≡ false → (r : Answer) → r ≡ quietly
          → (s : Server) (x : State) → Holds s b → fields_ok (context_of s) (state x) ≡ true → write (state x) ≡ e
          → answered r c o ≡ outcome_on (collect_state x s) b o
      unfolding collect_state
      collect_waiting z r a s x y ok w =
          let d = came s x y ok w in
          quiet_outcome s (with_state x s) b o c r a (f s x y w d.1)
          ∙ ap (λ v. outcome_on v b o) (pick_no _ _ _ _ (in_told s x y d w ∙ z) refl)

      pub collect_complete : all ≡ true → LentSuch Complete c o
      unfolding with_state
      collect_complete z =
          let s = m.state in
          let d = m.fact in
          record {
            state = with_state d.sent s;
            holds = got_holds s d.sent m.holds (d.came, d.sender) d.written;
            fact = (in_told s d.sent m.holds (d.came, d.sender) d.written ∙ z, d.mode);
            room = m.room;
          }

      pub collect_done : all ≡ true → (d o₁ : List ℕ) (r : Answer) → ((s t : Server) → Holds t c → answered r d o₁ ≡ outcome_on (after_states s t) c o)
          → (s : Server) (x : State) → Holds s b → fields_ok (context_of s) (state x) ≡ true → write (state x) ≡ e
          → answered r d o₁ ≡ outcome_on (collect_state x s) b o
      unfolding collect_state
      collect_done z d o₁ r g s x y ok w =
          let h = came s x y ok w in
          let whole : all_states_in (with_state x s) ≡ true = in_told s x y h w ∙ z in
          g s (with_state x s) (got_holds s x y h w)
          ∙ after_over s x b c o y h.0 (mode s y) whole (f s x y w h.1)
          ∙ ap (λ v. outcome_on v b o) (pick_yes _ _ _ _ whole refl)
