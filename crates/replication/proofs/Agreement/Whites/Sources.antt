-- Where white and noted lengths come from, in an allowed run.
use Prim.Native.Nat.{ℕ, suc, ◌≤◌, ◌<◌, max}
use mathlib.Core.Path.{◌≡◌, refl, sym, ap, subst, ◌∙◌}
use mathlib.Core.Bool.{true, false}
use mathlib.Core.Option.{some}
use mathlib.Core.List.{List, Memᴰ}
use mathlib.Core.Logic.{◌⊎◌, inl, inr}
use native.Mathlib.Omega.{arith}
use native.Mathlib.Decide.{ℕ_discrete}
use lib.ListN.{length, get_or}
use Rattle.base.specs.Tests.{pick}
use Rattle.base.specs.Sets.{in_set}
use Rattle.base.proofs.TestLaws.{not_both, Known, holds, fails, known}
use Rattle.base.proofs.ListLaws.{replicate_at}
use Rattle.base.proofs.Prefixes.{begins_length}
use Rattle.format.specs.Types.{Action, State, action, says}
use Rattle.replication.specs.Machine.Types.{Configuration, start, with_white}
use Rattle.replication.specs.Machine.Requests.{recovered}
use Rattle.replication.specs.Machine.Colours.{note}
use Rattle.replication.specs.Machine.Exchange.{note_all}
use Rattle.replication.specs.Machine.White.{entrant, is_recovering}
use Rattle.replication.specs.Images.{is_recovery}
use Rattle.replication.specs.Machine.Step.{own_state, collected}
use Rattle.replication.specs.Laws.Order.{SameControl}
use Rattle.replication.specs.Runs.Run.{Run}
use Rattle.replication.proofs.Step.Whites as W
use Rattle.replication.proofs.Step.Whites.{WhiteNow, least_low, recovery_white, event_white, entrant_carried}
use Rattle.replication.proofs.Step.Growth.{transition_grows}
use Rattle.replication.proofs.Runs.Roomy.{Roomy as Allowed}
use Rattle.replication.proofs.Runs.Places.{of_event}
use Rattle.replication.proofs.Runs.Numbers.{numbers, invariant_at}
use Rattle.replication.proofs.Runs.AllowedTurns.{memory_at, store_at, Acts, Recovers}
use Rattle.replication.proofs.Runs.ControlPart.{control_next}
use Rattle.replication.proofs.Runs.LogActions.{carried, each_of}
use Rattle.replication.proofs.Runs.Made.{Made}
use Rattle.replication.proofs.Agreement.Terms.{EndsAt, ExchangeFacts}
use Rattle.replication.proofs.Agreement.Votes.Turns.{ends_at}
use Rattle.replication.proofs.Agreement.Votes.Collected.{StateOf, state_of_lem, state_from_lem, state_unique}
use Rattle.replication.proofs.Agreement.Whites.Noted as N
use Rattle.replication.proofs.Agreement.Whites.Noted.{NotedStep, note_bound, note_all_bound, noted_step}
use Rattle.replication.proofs.Agreement.Whites.Times.{Sources, WhiteFrom, kept, by_body, by_noted, NotedFrom, as_before, by_action, by_end}

module _ {n q : ℕ} {l : Run} (A : Allowed n q l) (X : ExchangeFacts n q l) where
  noted_long : (p i : ℕ) (x : Acts n q l p i) → length (memory_at n q l (suc p) i).noted ≡ n
  noted_long p i x = (invariant_at n q i A.allowed.sizes (A.allowed.servers p i (of_event x.here)) l (suc p)).memory.well_formed_lem.noted_length ∙ (numbers n q i l (suc p)).memory.servers

  acts_white : (p i : ℕ) (x : Acts n q l p i) → WhiteFrom A (memory_at n q l p i) (memory_at n q l (suc p) i) (carried x.by.event)
  acts_white p i x =
      let c = entrant_carried (memory_at n q l p i) _ x.by.event x.by.rule x.by.ruled in
      go c (subst (λ t. WhiteNow (memory_at n q l p i) t (λ a. entrant x.by.rule (memory_at n q l p i) ≡ some a)) (sym (x.memory_next ∙ x.by.raise))
      (event_white x.by.rule (memory_at n q l p i) x.by.core (c.0 x.running)))
    where
      go : (is_recovery (says x.by.event) ≡ false → is_recovering x.by.rule ≡ false) × ((a : Action) → entrant x.by.rule (memory_at n q l p i) ≡ some a → Memᴰ a (carried x.by.event))
          → WhiteNow (memory_at n q l p i) (memory_at n q l (suc p) i) (λ a. entrant x.by.rule (memory_at n q l p i) ≡ some a)
          → WhiteFrom A (memory_at n q l p i) (memory_at n q l (suc p) i) (carried x.by.event)
      go c (W.as_before h) = kept h
      go c (W.entrant's a e h) = by_body a (c.1 a e) h
      go c (W.all_noted h) = by_noted (λ k j. omega (arith, h, least_low (memory_at n q l (suc p) i).noted k (omega (arith, noted_long p i x))))

  recovers_white : (p i : ℕ) → Recovers n q l p i → WhiteFrom A (store_at n q l p i) (memory_at n q l (suc p) i) (store_at n q l p i).log.own
  recovers_white p i x =
      go (subst (λ t. WhiteNow (store_at n q l p i) t (λ a. Memᴰ a (store_at n q l p i).log.own))
      (sym (x.memory_next ∙ ap (λ w. with_white w (recovered (store_at n q l p i))) x.white_is))
      (recovery_white (store_at n q l p i) (recovered (store_at n q l p i))))
    where
      long : length (memory_at n q l (suc p) i).noted ≡ n
      long = (invariant_at n q i A.allowed.sizes (A.allowed.servers p i (of_event x.comes.here)) l (suc p)).memory.well_formed_lem.noted_length ∙ (numbers n q i l (suc p)).memory.servers

      go : WhiteNow (store_at n q l p i) (memory_at n q l (suc p) i) (λ a. Memᴰ a (store_at n q l p i).log.own)
          → WhiteFrom A (store_at n q l p i) (memory_at n q l (suc p) i) (store_at n q l p i).log.own
      go (W.as_before h) = kept h
      go (W.entrant's a m h) = by_body a m h
      go (W.all_noted h) = by_noted (λ k j. omega (arith, h, least_low (memory_at n q l (suc p) i).noted k (omega (arith, long))))

  -- ---- noted lengths

  module _ {p i : ℕ} {c : Configuration} (y : EndsAt n q l p i c) (k : ℕ) (noted : List ℕ) where
    -- A member's State, and no other, is noted for it.
    member_noted : (x : State) → Memᴰ x (collected y.judged) → (z : StateOf n q l p k c x)
        → get_or (note_all (collected y.judged) noted) k 0 ≤ max (get_or noted k 0) (length (memory_at n q l (suc z.took_at) k).log.green)
    unfolding own_state
    member_noted x m z =
        note_all_bound (collected y.judged) k _ noted (omega arith)
        (each_of (λ v. k ≡ v.sender → v.green_length ≤ max (get_or noted k 0) (length (memory_at n q l (suc z.took_at) k).log.green)) (collected y.judged)
        (λ v h e. omega (arith, ap (λ w. w.green_length) (state_unique A X y k x v z h (sym e)), ap (λ w. w.green_length) z.says)))

    other_noted : in_set k c.set ≡ false → get_or (note_all (collected y.judged) noted) k 0 ≤ get_or noted k 0
    other_noted h =
        note_all_bound (collected y.judged) k _ noted (omega arith)
        (each_of (λ v. k ≡ v.sender → v.green_length ≤ get_or noted k 0) (collected y.judged)
        (λ v m e. let r = state_from_lem A X y v m in
        not_both (sym h ∙ ap (λ j. in_set j c.set) (e ∙ r.2.sender) ∙ r.1)))

  acts_noted : (p i k : ℕ) (x : Acts n q l p i) → k < n → NotedFrom A p i k (memory_at n q l p i) (memory_at n q l (suc p) i) (carried x.by.event)
  acts_noted p i k x below = go (noted_step (memory_at n q l p i) x.moves)
    where
      now : get_or (memory_at n q l (suc p) i).noted k 0 ≡ get_or x.after.noted k 0
      now = ap (λ u. get_or u.noted k 0) x.memory_next

      ended : (c : Configuration) (y : EndsAt n q l p i c) → x.after.noted ≡ note_all (collected y.judged) (memory_at n q l p i).noted
          → Known (in_set k c.set) → NotedFrom A p i k (memory_at n q l p i) (memory_at n q l (suc p) i) (carried x.by.event)
      ended c y e (holds h) =
          let z = state_of_lem A X y k h in
          by_end c z.2.took_at (ap (λ w. w.regular) y.here) z.2.took z.2.earlier
          (omega (arith, now, ap (λ w. get_or w k 0) e, member_noted y k (memory_at n q l p i).noted z.0 z.1 z.2))
      ended c y e (fails h) = as_before (omega (arith, now, ap (λ w. get_or w k 0) e, other_noted y k (memory_at n q l p i).noted h))

      delivered : (a : Action) → x.by.event ≡ action a → x.after.noted ≡ note a.id.creator a.green_length (memory_at n q l p i).noted
          → Dec (a.id.creator ≡ k) → NotedFrom A p i k (memory_at n q l p i) (memory_at n q l (suc p) i) (carried x.by.event)
      delivered a e f (yes h) =
          by_action a (subst (λ r. Memᴰ a (carried r)) (sym e) (Memᴰ.head refl)) h
          (omega (arith, now, ap (λ w. get_or w k 0) f, note_bound a.id.creator a.green_length k (max (get_or (memory_at n q l p i).noted k 0) a.green_length) (memory_at n q l p i).noted (omega arith) (λ z. omega arith)))
      delivered a e f (no h) =
          as_before
          (omega (arith, now, ap (λ w. get_or w k 0) f, note_bound a.id.creator a.green_length k (get_or (memory_at n q l p i).noted k 0) (memory_at n q l p i).noted (omega arith) (λ z. absurd (h (sym z)))))

      go : NotedStep (memory_at n q l p i) x.by.event x.after x.by.records x.stores
          → NotedFrom A p i k (memory_at n q l p i) (memory_at n q l (suc p) i) (carried x.by.event)
      go (N.same e) = as_before (omega (arith, now, ap (λ u. get_or u k 0) e))
      go (N.greens a e f) = delivered a e f (ℕ_discrete a.id.creator k)
      go (N.ends b j e) =
          let y = ends_at A p i x b j in
          ended y.0 y.1 (e ∙ ap (λ w. note_all (collected w) (memory_at n q l p i).noted) (sym y.2)) (known (in_set k y.0.set))

  -- ---- the bodies

  -- A numbering is stored.
  made_green : {p : ℕ} {a : Action} (x : Made A p a) → a.green_length ≤ length (store_at n q l (suc x.place) x.server).log.green
  unfolding pick
  made_green {p} {a} x = go (control_next A x.place x.server)
    where
      grown : length (memory_at n q l x.place x.server).log.green ≤ length (memory_at n q l (suc x.place) x.server).log.green
      grown = omega (arith, begins_length _ _ (transition_grows x.act.moves).greens, ap (λ u. length u.log.green) x.act.memory_next)

      go : SameControl (memory_at n q l x.place x.server) (memory_at n q l (suc x.place) x.server) ⊎ ((y : Acts n q l x.place x.server) × (y.stores ≡ true))
          → a.green_length ≤ length (store_at n q l (suc x.place) x.server).log.green
      go (inl s) = absurd (omega (arith, s.numbered, x.own.above, x.own.within))
      go (inr (y, e)) =
          let f : store_at n q l (suc x.place) x.server ≡ memory_at n q l (suc x.place) x.server =
          y.store_next ∙ ap (λ b. pick b (with_white y.white y.after) (store_at n q l x.place x.server)) e ∙ sym y.memory_next in
          omega (arith, x.own.green_length_lem, grown, ap (λ u. length u.log.green) f)

  pub sources : Sources A
  unfolding start recovered
  sources = record {
    acts_white = acts_white;
    acts_noted = acts_noted;
    recovers_white = recovers_white;
    recovers_noted = λ p i k x. omega (arith, ap (λ u. get_or u.noted k 0) x.memory_next);
    recovers_stores = λ p i x. x.store_next ∙ sym x.memory_next;
    made_white = λ x. omega (arith, x.own.white_length_lem);
    made_green = made_green;
    start_white = λ i. refl;
    start_noted = λ i k. replicate_at {A = ℕ} 0 n k;
  }
