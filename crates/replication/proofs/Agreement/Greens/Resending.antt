-- What K6 says of the events of an allowed run, strays included: nothing that an exchange must resend is gone, and no action is passed over.
use Prim.Native.Nat.{ℕ, suc, ◌≤◌}
use mathlib.Core.Path.{◌≡◌, sym, ap, subst, subst₂, ◌∙◌}
use mathlib.Core.Bool.{Bool, true, false}
use mathlib.Core.List.{List, map}
use mathlib.Core.Option.{some}
use native.Mathlib.Omega.{arith}
use lib.ListN.{length}
use Rattle.base.specs.Tests.{pick}
use Rattle.base.specs.Lists.{at}
use Rattle.base.proofs.TestLaws.{Known, holds, fails, known}
use Rattle.base.proofs.AtLaws.{some_same, upd_here}
use Rattle.format.specs.Types.{Action, Record, says}
use Rattle.format.specs.Read.{read}
use Rattle.format.specs.Write.{write}
use Rattle.replication.specs.Machine.Types.{Non_prim, Exchange_states, Exchange_actions, Server, taken, mode_of, context_of}
use Rattle.replication.specs.Machine.Plan.{own_part}
use Rattle.replication.specs.Machine.Requests.{recovered}
use Rattle.replication.specs.Machine.Rules.{Rule, rule_for}
use Rattle.replication.specs.Machine.Step.{collected, all_states_in, here_set, the_set}
use Rattle.replication.specs.Machine.White.{full}
use Rattle.replication.specs.Images.{Images, arrive, left_by}
use Rattle.replication.specs.Runs.Run.{event, Run, world_at, world_after}
use Rattle.replication.specs.Runs.Strays.{AllowedWithStrays, without}
use Rattle.replication.specs.Runs.Claim.{stored_green}
use Rattle.replication.specs.Runs.Whites.{WhiteWasStored, NothingGone, NonePassedOver}
use Rattle.replication.proofs.Step.Apart.{mode_number, other_mode}
use Rattle.replication.proofs.Runs.Roomy.{Roomy as Allowed}
use Rattle.replication.proofs.Runs.Places.{world_next, of_event, event_entry}
use Rattle.replication.proofs.Runs.Modes.{standing, standing_in}
use Rattle.replication.proofs.Runs.Numbers.{numbers}
use Rattle.replication.proofs.Runs.Coupling.{reads_alike, coupled}
use Rattle.replication.proofs.Runs.Strays.{kept, kept_next, at_kept, world_kept, taken_kept}
use Rattle.replication.proofs.Runs.AllowedTurns.{memory_at, store_at, Acts, AllowedTurn, rests, crashes, saves, refuses, recovers, acts, allowed_turn}
use Rattle.replication.proofs.Runs.Stays.{membership_at}
use Rattle.replication.proofs.Runs.Memberships.{states_in_of, every_state_in}
use Rattle.replication.proofs.Agreement.Exchange.Stages.{InCom}
use Rattle.replication.proofs.Agreement.Exchange.Retransmissions.{part_of_lem}
use Rattle.replication.proofs.Agreement.Contents.Sent.{enters_actions}
use Rattle.replication.proofs.Agreement.Greens.NothingGone.{nothing_gone}
use Rattle.replication.proofs.Agreement.Exchange.Facts.{exchange_facts}
use Rattle.replication.proofs.Agreement.Whites.Lengths.{within, white_before}
use Rattle.replication.proofs.Agreement.Whites.Sources.{sources}
use Rattle.replication.proofs.Agreement.Whites.Room.{roomy}

-- ---- in a run with room

module _ {n q : ℕ} {l : Run} (A : Allowed n q l) (p i k : ℕ) (e : List ℕ) (t : Server) (rs : List (List ℕ)) (b : Bool) (g : List Action)
    (h : at l p ≡ some (event i e k)) (a : arrive ((world_at n q l p).images i) e ≡ taken t rs b g)
  where
    left : memory_at n q l (suc p) i ≡ t
    unfolding world_after left_by
    left = ap (λ w. (w.images i).memory) (world_next n q l p _ h) ∙ ap (λ (x : Images). x.memory) (upd_here _ i _) ∙ ap (λ o. (left_by o ((world_at n q l p).images i)).memory) a

    out : (x : Acts n q l p i) → rs ≡ map write x.by.records
    out x = same (sym a ∙ ap (arrive ((world_at n q l p).images i)) (event_entry (some_same (sym h ∙ x.here))).1 ∙ x.arrives) ∙ x.by.written
      where
        same : {u v : Server} {us vs : List (List ℕ)} {c d : Bool} {y z : List Action} → taken u us c y ≡ taken v vs d z → us ≡ vs
        same w = cc

    module _ (from : mode_of (memory_at n q l p i) ≡ Exchange_states) (to : mode_of t ≡ Exchange_actions) where
      then : mode_of (memory_at n q l (suc p) i) ≡ Exchange_actions
      then = ap mode_of left ∙ to

      moved_on : {X : Type 0} → mode_of (memory_at n q l (suc p) i) ≡ mode_of (memory_at n q l p i) → X
      unfolding mode_number
      moved_on z = other_mode from (sym z ∙ then) (λ y. omega arith)

      resends : Acts n q l p i → rs ≡ map write (own_part n i 0 t.log (collected t))
      unfolding collected all_states_in here_set the_set
      resends x =
          let m : x.after.membership.mode ≡ Exchange_actions = subst (λ s. mode_of s ≡ Exchange_actions) x.memory_next then in
          let w = enters_actions x.moves from m in
          let c = standing_in (memory_at n q l p i) Exchange_states from (standing n q l i p).memory in
          let before : InCom n q l p i c.configuration = sym (ap (λ y. y.regular) (coupled A p i x.up)) ∙ c.there in
          let after : InCom n q l (suc p) i c.configuration =
          sym (ap (λ y. y.regular) (coupled A (suc p) i x.down_next)) ∙ ap (λ s. s.membership.configuration) x.memory_next ∙ w.here ∙ c.there in
          let full : every_state_in (membership_at n q l (suc p) i) ≡ true = subst (λ s. every_state_in s.membership ≡ true) (sym x.memory_next) w.complete in
          out x
          ∙ ap (map write)
          (w.part ∙ part_of_lem A p i x ∙ nothing_gone A p i c.configuration before after from then full ∙ ap (λ s. own_part n i 0 s.log (states_in_of s.membership)) left)

      whole_part_lem : rs ≡ map write (own_part n i 0 t.log (collected t))
      unfolding recovered mode_number
      whole_part_lem = go (allowed_turn A p i)
        where
          go : AllowedTurn n q l p i → rs ≡ map write (own_part n i 0 t.log (collected t))
          go (rests f m c d) = absurd (f (of_event h))
          go (crashes f m c d) = moved_on (ap (λ z. mode_of z.memory) m)
          go (saves f m c d u) = moved_on (ap (λ z. mode_of z.memory) m)
          go (refuses x) = moved_on (ap (λ z. mode_of z.memory) x.images_next)
          go (recovers x) = other_mode {x = Non_prim} (ap mode_of x.memory_next) then (λ y. omega arith)
          go (acts x) = resends x

-- ---- strays included

module _ {n q : ℕ} {l : Run} (S : AllowedWithStrays n q l) (p i k : ℕ) (e : List ℕ) (t : Server) (rs : List (List ℕ)) (b : Bool) (g : List Action)
    (h : at l p ≡ some (event i e k)) (a : arrive ((world_at n q l p).images i) e ≡ taken t rs b g)
  where
    here : at (without S.stray l) (kept S.stray p) ≡ some (event i e k)
    here = at_kept S.stray l p _ h (taken_kept S p i k e t rs b g h a)

    arrives : arrive ((world_at n q (without S.stray l) (kept S.stray p)).images i) e ≡ taken t rs b g
    arrives = ap (λ w. arrive (w.images i) e) (sym (world_kept S p)) ∙ a

    gone : mode_of ((world_at n q l p).images i).memory ≡ Exchange_states → mode_of t ≡ Exchange_actions → rs ≡ map write (own_part n i 0 t.log (collected t))
    gone from to =
        whole_part_lem (roomy S.rest) (kept S.stray p) i k e t rs b g here arrives (ap (λ w. mode_of (w.images i).memory) (sym (world_kept S p)) ∙ from) to

    placed : (world_at n q l p).down i ≡ false → (r : Record) (j : Rule) → read (context_of ((world_at n q l p).images i).memory) e ≡ says r
        → rule_for (mode_of ((world_at n q l p).images i).memory) r ≡ some j → full j ((world_at n q l p).images i).memory ≡ false
    placed up r j reads ruled =
        let A = roomy S.rest in
        let m = without S.stray l in
        let x = kept S.stray p in
        let w = world_kept S p in
        let d : (world_at n q m x).down i ≡ false = ap (λ z. z.down i) (sym w) ∙ up in
        let heard = sym (reads_alike n q m x i e _ (numbers n q i m x).memory (coupled A x i d)) ∙ ap (λ z. read (context_of (z.images i).memory) e) (sym w) ∙ reads in
        subst (λ z. full j (z.images i).memory ≡ false) (sym w)
        (A.room x i r j (record { bytes = e; sent = k; here = here; heard = heard }) d (ap (λ z. rule_for (mode_of (z.images i).memory) r) (sym w) ∙ ruled))

pub white_was_stored : WhiteWasStored
unfolding WhiteWasStored stored_green pick
white_was_stored n q l S p i j m = go (known (S.stray p))
  where
    A : Allowed n q (without S.stray l)
    A = roomy S.rest

    x : ℕ
    x = kept S.stray p

    -- In the run without strays, at the place that the next one stands at.
    kept_to : (y : ℕ) → kept S.stray (suc p) ≡ y
        → (memory_at n q (without S.stray l) y i).white ≤ length (store_at n q (without S.stray l) x j).log.green
        → ((world_at n q l (suc p)).images i).memory.white ≤ length ((world_at n q l p).images j).store.log.green
    kept_to y e f =
        subst₂ (λ v w. (v.images i).memory.white ≤ length (w.images j).store.log.green)
        (ap (world_at n q (without S.stray l)) (sym e) ∙ sym (world_kept S (suc p))) (sym (world_kept S p)) f

    go : Known (S.stray p) → ((world_at n q l (suc p)).images i).memory.white ≤ length ((world_at n q l p).images j).store.log.green
    go (holds h) = kept_to x (omega (arith, kept_next S.stray p, ap {B = ℕ} (λ b. pick b 0 1) h)) ((within A (sources A (exchange_facts A)) x i).memory.white j m)
    go (fails h) =
        kept_to (suc x) (omega (arith, kept_next S.stray p, ap {B = ℕ} (λ b. pick b 0 1) h))
        (white_before A (sources A (exchange_facts A)) x i j m (allowed_turn A x i))

pub nothing_is_gone : NothingGone
unfolding NothingGone
nothing_is_gone n q l S p i k e t rs b g h a from to = gone S p i k e t rs b g h a from to

pub none_passed_over : NonePassedOver
unfolding NonePassedOver
none_passed_over n q l S p i k e t rs b g h a up r j reads ruled = placed S p i k e t rs b g h a up r j reads ruled
