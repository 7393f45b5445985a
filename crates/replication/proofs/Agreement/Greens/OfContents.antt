-- The part on one exchange.
use Prim.Native.Nat.{ℕ, zero, suc, ◌≤◌, ◌<◌}
use mathlib.Core.Path.{◌≡◌, refl, sym, ap, ◌∙◌}
use mathlib.Core.Bool.{true, false}
use mathlib.Core.List.{List, [], ◌∷◌}
use mathlib.Core.Option.{some}
use native.Mathlib.Omega.{arith}
use native.Mathlib.Decide.{dec_lt}
use lib.ListN.{length, get_or}
use Rattle.base.proofs.AtLaws.{none_some}
use Rattle.base.proofs.TestLaws.{not_both}
use Rattle.base.specs.Sets.{in_set}
use Rattle.format.specs.Types.{Record, action, retransmission, state, cpc, regular, transitional, request, recovery, says}
use Rattle.replication.specs.Machine.Types.{Mode, Non_prim, Reg_prim, Trans_prim, Exchange_states, Exchange_actions, Construct, No, Un, Configuration}
use Rattle.replication.specs.Machine.Colours.{cut}
use Rattle.replication.specs.Machine.Plan.{green_in, cut_in}
use Rattle.replication.specs.Machine.Rules.{Rule, rule_for, on_regular}
use Rattle.replication.specs.Machine.Step.{own_state}
use Rattle.replication.specs.Images.{is_recovery}
use Rattle.replication.specs.Laws.Order.{in_exchange}
use Rattle.replication.specs.Runs.Run.{Run, Place, place_at, moved}
use Rattle.replication.specs.Runs.Happenings.{Takes}
use Rattle.replication.proofs.Runs.Roomy.{Roomy as Allowed}
use Rattle.replication.proofs.Runs.AllowedTurns.{memory_at, Acts}
use Rattle.replication.proofs.Runs.Memberships.{every_state_in}
use Rattle.replication.proofs.Runs.Numbers.{numbers, invariant_at}
use Rattle.replication.proofs.Runs.Order.{taker_member}
use Rattle.replication.proofs.Runs.Shifts.{comes_of}
use Rattle.replication.proofs.Runs.Stays.{membership_at}
use Rattle.replication.proofs.Agreement.Terms.{Within, EndsAt}
use Rattle.replication.proofs.Agreement.Exchange.Stages.{stage, InCom, stage_onward}
use Rattle.replication.proofs.Agreement.Exchange.Collected.{states_in_lem}
use Rattle.replication.proofs.Agreement.Contents.Agreeable as C
use Rattle.replication.proofs.Agreement.Contents.Placing.{ids_length}
use Rattle.replication.proofs.Agreement.Contents.Collected.{Resender, sent_one, sent_between}
use Rattle.replication.proofs.Agreement.Contents.Gained.{leader}
use Rattle.replication.proofs.Agreement.Contents.Exchanging.{gained_next, exchanging}
use Rattle.replication.proofs.Agreement.Contents.Ended as E
use Rattle.replication.proofs.Agreement.Contents.Places.{EndedAt, ends_ended}
use Rattle.replication.proofs.Agreement.Contents.Installed.{same_install_ids, same_install_cuts}
use Rattle.replication.proofs.Agreement.Greens.Beginnings.{Prefix, prefix_to, shorter_begins, comparable_lists}
use Rattle.replication.proofs.Agreement.Greens.Terms.{greens, base_of, cuts_of, Agreeable}
use Rattle.replication.proofs.Agreement.Greens.Parts.{ContentParts}

exchange_stage : (m : Mode) → in_exchange m ≡ true → stage m ≤ 1
unfolding in_exchange stage
exchange_stage Non_prim h = not_both h
exchange_stage Reg_prim h = not_both h
exchange_stage Trans_prim h = not_both h
exchange_stage Exchange_states h = omega arith
exchange_stage Exchange_actions h = omega arith
exchange_stage Construct h = not_both h
exchange_stage No h = not_both h
exchange_stage Un h = not_both h

beyond : (x : List ℕ) (i : ℕ) → length x ≤ i → get_or x i 0 ≡ 0
beyond [] i h = refl
beyond (a ∷ x) zero h = absurd (omega arith)
beyond (a ∷ x) (suc i) h = beyond x i (omega arith)

-- In Exchange_actions no regular configuration comes.
exchange_place : (r : Record) (m : Mode) (k : Rule) (c : Place) → m ≡ Exchange_actions → rule_for m r ≡ some k → is_recovery (says r) ≡ false
    → (moved (says r) c).regular ≡ c.regular
unfolding moved rule_for on_regular is_recovery
exchange_place (action a) m k c e f h = refl
exchange_place (retransmission i p a) m k c e f h = refl
exchange_place (state x) m k c e f h = refl
exchange_place (cpc i j) m k c e f h = refl
exchange_place (regular i s) m k c e f h = none_some (sym (ap (λ z. on_regular z (record { id = i; set = s })) e) ∙ f)
exchange_place (transitional s) m k c e f h = refl
exchange_place (request p) m k c e f h = refl
exchange_place recovery m k c e f h = not_both (sym h)

module _ {n q : ℕ} {l : Run} (A : Allowed n q l) where
  -- Of those who took c before t.
  pub agreeable_before : {c : Configuration} (t : ℕ) → Agreeable A c → C.Agreeable n q l t c
  agreeable_before t G =
      record { comparable = λ e f j k a b x y. comparable_lists (G.comparable e f j k x y); fifo = λ e j a x. (G.fifo e j x).follows }

  taker : {e k : ℕ} {c : Configuration} → Takes n q l e k c → (k < n) × (in_set k c.set ≡ true)
  taker {e} {k} t = (A.allowed.servers e k (comes_of t), taker_member t)

  -- ---- the end

  module _ {p i : ℕ} {c : Configuration} (G : Agreeable A c) (x : EndsAt n q l p i c) (w : in_exchange (memory_at n q l p i).membership.mode ≡ true) where
    abbrev z : EndedAt A p i c
    z = ends_ended A x (exchange_stage _ w)

    abbrev full : every_state_in (membership_at n q l (suc p) i) ≡ true
    full = E.full A p i c z.here z.after z.before z.late z.whole (agreeable_before p G)

    r : Resender A c (suc p) i z.after full green_in
    r = E.ended_leader A p i c z.here z.after z.before z.late z.whole (agreeable_before p G)

    ids : greens (memory_at n q l (suc p) i) ≡ greens (memory_at n q l (suc r.at_place) r.server)
    ids =
        E.green_ended A p i c z.here z.after z.before z.late z.whole (agreeable_before p G) r.at_place r.server r.named r.took

    pub ends_longest : (e k : ℕ) → Takes n q l e k c → Prefix (greens (memory_at n q l (suc e) k)) (greens (memory_at n q l (suc p) i))
    unfolding green_in own_state
    ends_longest e k t =
        let b = (sent_between A c (suc p) i z.after full green_in t (taker t)).1 in
        prefix_to
        (shorter_begins (greens (memory_at n q l (suc e) k)) (greens (memory_at n q l (suc r.at_place) r.server))
        (G.comparable e r.at_place k r.server t r.took)
        (omega (arith, b, r.has, ids_length (memory_at n q l (suc e) k).log.green, ids_length (memory_at n q l (suc r.at_place) r.server).log.green)))
        (sym ids)

    pub ends_from : (k : ℕ) × (e : ℕ) × Takes n q l e k c × (greens (memory_at n q l (suc p) i) ≡ greens (memory_at n q l (suc e) k))
    ends_from = (r.server, r.at_place, r.took, ids)

    pub ends_cuts : (e k : ℕ) → Takes n q l e k c → (a : ℕ) → cut (memory_at n q l (suc e) k).log a ≤ cut (memory_at n q l (suc p) i).log a
    unfolding cut_in own_state cut
    ends_cuts e k t a = go (dec_lt a n)
      where
        cuts_length : length (memory_at n q l (suc e) k).log.cuts ≡ n
        cuts_length = (invariant_at n q k A.allowed.sizes (taker t).0 l (suc e)).memory.well_formed_lem.log.cuts_length ∙ (numbers n q k l (suc e)).memory.servers

        go : Dec (a < n) → cut (memory_at n q l (suc e) k).log a ≤ cut (memory_at n q l (suc p) i).log a
        go (yes h) =
            omega (
              arith,
              E.cuts_ended A p i c z.here z.after z.before z.late z.whole (agreeable_before p G) a h,
              (sent_between A c (suc p) i z.after full (cut_in a) t (taker t)).1,
            )
        go (no h) = omega (arith, beyond (memory_at n q l (suc e) k).log.cuts a (omega (arith, cuts_length)))

  -- ---- while retransmissions come

  module _ {p i : ℕ} {c : Configuration} (w : Within n q l p i c) (m : (memory_at n q l p i).membership.mode ≡ Exchange_actions) where
    all_in : every_state_in (membership_at n q l p i) ≡ true
    unfolding stage
    all_in = states_in_lem A i c p w.here (omega (arith, ap stage m)) (λ e. absurd (omega (arith, ap stage (sym e ∙ m))))

    pub all_took : (e k : ℕ) → Takes n q l e k c → e < p
    all_took e k t = omega (arith, (sent_one A c p i w.here all_in t (taker t)).1)

    pub resent_from : Agreeable A c → Acts n q l p i
        → (k : ℕ) × (e : ℕ) × Takes n q l e k c × Prefix (greens (memory_at n q l (suc p) i)) (greens (memory_at n q l (suc e) k))
    unfolding stage
    resent_from G x =
        let b : InCom n q l (suc p) i c =
        ap (λ y. y.regular) x.place_next ∙ exchange_place x.by.event _ x.by.rule (place_at n q l i p) m x.by.ruled x.running ∙ w.here in
        let H = agreeable_before p G in
        let most : p ≤ suc p = omega arith in
        let late : 1 ≤ stage (membership_at n q l (suc p) i).mode = omega (arith, ap stage m, stage_onward A i c p (suc p) w.here b (omega arith)) in
        let g = gained_next A c p i w.here all_in p most H i p w.here b late (omega (arith, ap stage m)) (exchanging A c p i w.here all_in p most H i p w.here) in
        let r = leader A c p i w.here all_in p most H in
        (r.server, r.at_place, r.took, record { begins = g.begins })

  -- ---- the whole

  pub content_parts : ContentParts A
  unfolding base_of cuts_of
  content_parts =
      record {
        ends_longest = λ p i e k c G x w t. ends_longest G x w e k t;
        ends_from = λ p i c G x w. ends_from G x w;
        ends_cuts = λ p i e k c G x w t a. ends_cuts G x w e k t a;
        all_took = λ p i e k c w m t. all_took w m e k t;
        resent_from = λ p i c G w m x. resent_from w m G x;
        one_base = λ p r i j c G x y.
            let before = agreeable_before p G in
            let after = agreeable_before r G in
            (same_install_ids A x y before after, same_install_cuts A x y before after);
      }
