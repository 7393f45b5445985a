-- The delivery with which all that is asked for has arrived is an Install; so the members' green lists are then equal, and hold what any of them had coloured.
use Prim.Native.Nat.{ℕ, suc, ◌+◌, ◌≤◌, ◌<◌}
use mathlib.Core.Path.{◌≡◌, refl, sym, ap, subst, ◌∙◌}
use mathlib.Core.Bool.{true}
use mathlib.Core.List.Memᴰ
use mathlib.Core.List.{List, [], ◌∷◌, ◌++◌, Memᴰ}
use mathlib.Core.Logic.{inl}
use mathlib.Core.Option.{some}
use native.Mathlib.Omega.{arith}
use native.Mathlib.Decide.{dec_lt}
use lib.ListN.{get_or}
use Rattle.base.specs.Lists.{Each}
use Rattle.base.specs.Sets.{in_set}
use Rattle.base.proofs.ListLaws.{each_append}
use Rattle.format.specs.Types.{Action, Record, of_cpc}
use Rattle.replication.specs.Machine.Types.{Mode, Non_prim, Reg_prim, Trans_prim, Exchange_states, Exchange_actions, Construct, No, Un, Configuration}
use Rattle.replication.specs.Machine.Colours.{cut}
use Rattle.replication.specs.Machine.Exchange.{quorum}
use Rattle.replication.specs.Machine.WellFormed.{ids_in, queue}
use Rattle.replication.specs.Laws.Modes.{ColourFacts, ColourFactsOf}
use Rattle.replication.specs.Laws.Order.{in_exchange}
use Rattle.replication.specs.Runs.Run.{Run}
use Rattle.replication.specs.Runs.Happenings.{Takes}
use Rattle.replication.proofs.Runs.Roomy.{Roomy as Allowed}
use Rattle.replication.specs.Runs.Claim.{memory_green}
use Rattle.replication.specs.Runs.Settling.{ReachesAll, Undisturbed, ArrivesAt, all_states}
use Rattle.replication.proofs.WellFormed.Ids.{has_counted}
use Rattle.replication.proofs.WellFormed.Runs.{colour_facts}
use Rattle.replication.proofs.Step.Growth.{transition_grows}
use Rattle.replication.proofs.Runs.AllowedTurns.{memory_at}
use Rattle.replication.proofs.Runs.Entries.{had}
use Rattle.replication.specs.Laws.Images.{OfBoth}
use Rattle.replication.proofs.Runs.Lived.{at_place}
use Rattle.replication.proofs.Runs.Made.{Made, made_one, all_made}
use Rattle.replication.proofs.Runs.Modes.{standing, standing_in}
use Rattle.replication.proofs.Runs.Numbers.{invariant_at}
use Rattle.replication.proofs.Runs.Progress.{stay_member}
use Rattle.replication.proofs.Runs.Shifts as S
use Rattle.replication.proofs.Runs.Stays.{membership_at, placed_up}
use Rattle.replication.proofs.Agreement.Terms.{InstallsAt}
use Rattle.replication.proofs.Agreement.Exchange.Facts.{exchange_facts}
use Rattle.replication.proofs.Agreement.Exchange.Installs.{Installing, on_cpc_lem, on_action_lem, installs_on_lem, installs_here}
use Rattle.replication.proofs.Agreement.Exchange.Stages.{stage, InCom, between, stage_onward}
use Rattle.replication.proofs.Agreement.Lists.Held.{HeldExactly, held_exactly}
use Rattle.replication.proofs.Agreement.Lists.Install.{all_green}
use Rattle.replication.proofs.Agreement.Lists.Plus.{member_has}
use Rattle.replication.proofs.Agreement.Contents.Installed.{Completing, completing}
use Rattle.replication.proofs.Agreement.Contents.Places.{marks_ended}
use Rattle.replication.proofs.Agreement.Contents.Same.{same_greens}
use Rattle.replication.proofs.Agreement.Greens.Comparing.{takers_before}
use Rattle.replication.proofs.Agreement.Greens.Whole.{parts}
use Rattle.replication.proofs.Agreement.Greens.Induction.{invariant}
use Rattle.replication.proofs.Agreement.Greens.Taking.{agreeable}
use Rattle.replication.proofs.Agreement.Greens.Terms.{base_of}
use Rattle.replication.proofs.Agreement.Settling.Arrivals.{arrived_onward}
use Rattle.replication.proofs.Agreement.Settling.Places.{undisturbed_earlier}
use Rattle.replication.proofs.Agreement.Settling.Counts.{there_now, cpcs_most}
use Rattle.replication.proofs.Agreement.Settling.Moments.{not_after, marked_exchanged, reg_prim_arrived, arrived_reg_prim}

in_exchange_lem : (m : Mode) → stage m ≤ 1 → in_exchange m ≡ true
unfolding stage in_exchange
in_exchange_lem Non_prim h = absurd (omega arith)
in_exchange_lem Reg_prim h = absurd (omega arith)
in_exchange_lem Trans_prim h = absurd (omega arith)
in_exchange_lem Exchange_states h = refl
in_exchange_lem Exchange_actions h = refl
in_exchange_lem Construct h = absurd (omega arith)
in_exchange_lem No h = absurd (omega arith)
in_exchange_lem Un h = absurd (omega arith)

-- An action of a list of made ones is in another that has its id.
module _ {n q : ℕ} {l : Run} (A : Allowed n q l) where
  each_in : (P : Action → Type 0) (xs : List Action) → Each P xs → (a : Action) → Memᴰ a xs → P a
  each_in P [] h a x'' = elim x'' [ ]
  each_in P (x ∷ xs) h a (Memᴰ.head e) = subst P (sym e) h.0
  each_in P (x ∷ xs) h a (Memᴰ.tail m) = each_in P xs h.1 a m

  by_id : (p r : ℕ) (xs : List Action) → Each (Made A p) xs → (a : Action) → Made A r a → Memᴰ a.id (ids_in xs) → Memᴰ a xs
  unfolding ids_in
  by_id p r xs h a m i =
      let x = Memᴰ.of_map (λ (b : Action). b.id) xs i in
      Memᴰ.cast (sym (made_one A (each_in (Made A p) xs h x.0 x.1) m x.2)) x.1

module _ {n q : ℕ} {l : Run} (A : Allowed n q l) (c : Configuration) (r : ReachesAll n q l c) (agreed : quorum (all_states n q l c r) c.set ≡ true) where
  module _ (k p : ℕ) (x : ArrivesAt n q l c r k p) where
    after : InCom n q l (suc p) k c
    after = there_now A c r k (suc p) x.undisturbed

    in_reg_prim_lem : (membership_at n q l (suc p) k).mode ≡ Reg_prim
    in_reg_prim_lem = arrived_reg_prim A c r agreed k (suc p) x.undisturbed x.now

    -- A place of the stay is undisturbed.
    then : (y : ℕ) → y ≤ suc p → InCom n q l y k c → Undisturbed n q l c r k y
    then y h e =
        let z = had n q l y k c e in
        undisturbed_earlier A c r (omega (arith, z.earlier, A.allowed.once z.took_at (r.took k) k c z.took (r.takes k x.undisturbed.member))) h x.undisturbed

    -- It installs there.
    pub installs_then : InstallsAt n q l p k c
    unfolding stage
    installs_then =
        let y = (parts A).primaries.in_primary_lem (suc p) k c (record { up = placed_up A (suc p) k c after; here = after }) (inl in_reg_prim_lem) in
        go y.0 y.1 y.2 (dec_lt y.0 p)
      where
        earlier : (y : ℕ) → y < p → (z : InstallsAt n q l y k c) → {w : Record} → Installing (memory_at n q l y k) (memory_at n q l (suc y) k) w → ⊥
        earlier y h z (on_cpc_lem j d e f) =
            let a = installs_here A z in
            let u = then (suc y) (omega arith) a in
            let b = between A k c a after h (omega arith) in
            let v = then p (omega arith) b in
            let w = reg_prim_arrived A c r agreed k (suc y) u f in
            x.not_before
            (record {
              exchanged = marked_exchanged A c r agreed k p v (omega (arith, ap stage f, stage_onward A k c (suc y) p a b h));
              cpcs = omega (arith, w.cpcs, arrived_onward n q l c of_cpc k (suc y) p h, cpcs_most A c r k p v);
            })
        earlier y h z (on_action_lem a e f) =
            not_after A c r agreed k (suc y) (then (suc y) (omega arith) (installs_here A z))
            (standing_in (memory_at n q l (suc y) k) Trans_prim f (standing n q l k (suc y)).memory)

        go : (y : ℕ) → y < suc p → InstallsAt n q l y k c → Dec (y < p) → InstallsAt n q l p k c
        go y h z (yes g) = absurd (earlier y g z (installs_on_lem A z))
        go y h z (no g) = let e : y ≡ p = omega arith in subst (λ w. InstallsAt n q l w k c) e z

  pub greens_equal : (j k p x : ℕ) → ArrivesAt n q l c r j p → ArrivesAt n q l c r k x → memory_green n q l (suc p) j ≡ memory_green n q l (suc x) k
  unfolding memory_green base_of
  greens_equal j k p x a b =
      same_greens A (suc p) (suc x) j k
      ((invariant A (exchange_facts A) (parts A) (suc (p + x))).same_install p x j k c (installs_then j p a) (installs_then k x b) (omega arith) (omega arith)).0

  module _ (k p : ℕ) (x : ArrivesAt n q l c r k p) where
    z : InstallsAt n q l p k c
    z = installs_then k p x

    y : Completing A z
    y = completing A z

    cuts_reach : (e j : ℕ) → Takes n q l e j c → (d : ℕ) → cut (memory_at n q l (suc e) j).log d ≤ cut (memory_at n q l (suc p) k).log d
    unfolding cut
    cuts_reach e j t d =
        let X = exchange_facts A in
        let G = agreeable A X (parts A) c (invariant A X (parts A) p) (λ f i o. takers_before A X z o) in
        let w = marks_ended A y.marking in
        omega (
          arith,
          (parts A).contents.ends_cuts y.place k e j c G y.marking.ending (in_exchange_lem _ w.before) t d,
          ap (λ m. cut m d) (ap (λ s. s.log) z.acts.memory_next),
          (transition_grows z.acts.moves).cuts d,
          ap (λ m. get_or m d 0) y.log.cuts,
        )

    no_red : (memory_at n q l (suc p) k).log.red ≡ []
    no_red =
        let h = (at_place n q l (OfBoth ColourFactsOf) k (colour_facts n q k A.allowed.sizes (stay_member A k (suc p) c (after k p x)).0) (suc p)).memory in
        (subst (λ m. ColourFacts m (memory_at n q l (suc p) k).votes.yellow (memory_at n q l (suc p) k).log.red) (in_reg_prim_lem k p x) h).1

    took_in : (e j : ℕ) → Takes n q l e j c → InCom n q l (suc e) j c
    took_in e j t = go (S.shift n q l e j)
      where
        go : S.Shift n q l e j → InCom n q l (suc e) j c
        go (S.to_regular d y m) = ap (λ w. w.regular) m ∙ ap some (S.takes_same y t)
        go (S.to_transitional s y m) = absurd (S.transitional_not_regular y t)
        go (S.to_nowhere f m) = absurd (S.takes_no_fall t f)
        go (S.stays f g m) = absurd (S.stays_no_regular f t)

    exact : (i t : ℕ) → InCom n q l t i c → HeldExactly (memory_at n q l t i).log
    exact i t h = held_exactly (memory_at n q l t i) (invariant_at n q i A.allowed.sizes (stay_member A i t c h).0 l t).memory

    now_hold : (j : ℕ) → in_set j c.set ≡ true → (a : Action)
        → Memᴰ a ((memory_at n q l (suc (r.took j)) j).log.green ++ (memory_at n q l (suc (r.took j)) j).log.red)
        → Memᴰ a (memory_green n q l (suc p) k)
    unfolding memory_green queue ids_in
    now_hold j m a i =
        let e = r.took j in
        let t = r.takes j m in
        let s = (memory_at n q l (suc e) j).log in
        let b : InCom n q l (suc e) j c = took_in e j t in
        let made : Each (Made A (suc e)) (s.green ++ s.red) = each_append _ s.green s.red (all_made A (suc e) j).memory.green (all_made A (suc e) j).memory.red in
        let w = (exact j (suc e) b).within a.id (has_counted a.id _ (member_has a.id _ (Memᴰ.map (λ (d : Action). d.id) i))) in
        by_id A (suc p) (suc e) (memory_at n q l (suc p) k).log.green (all_made A (suc p) k).memory.green a (each_in A (Made A (suc e)) (s.green ++ s.red) made a i)
        (all_green (memory_at n q l (suc p) k).log no_red a.id
        ((exact k (suc p) (after k p x)).entered a.id w.0 (omega (arith, w.1, cuts_reach e j t a.id.creator))))

    -- At the place behind that delivery.
    pub greens_hold : (y : ℕ) → y ≡ suc p → (j : ℕ) → in_set j c.set ≡ true → (a : Action)
        → Memᴰ a ((memory_at n q l (suc (r.took j)) j).log.green ++ (memory_at n q l (suc (r.took j)) j).log.red)
        → Memᴰ a (memory_green n q l y k)
    greens_hold y h j m a i = rw h (now_hold j m a i)
