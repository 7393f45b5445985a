-- What the laws of a step take from a well-formed state: red actions differ and stand within the cuts; in Exchange_actions every State is in.
use Prim.Native.Nat.{ℕ, zero, suc, ◌+◌, ◌≤◌}
use mathlib.Core.Path.{◌≡◌, refl, sym, subst, ◌∙◌}
use mathlib.Core.Bool.{true, false}
use native.Mathlib.Omega.{arith}
use Rattle.base.proofs.TestLaws.{not_both}
use Rattle.base.proofs.ListLaws.{each_map, each_implied}
use Rattle.base.proofs.CountLaws.{count_map}
use Rattle.format.specs.Types.{Id, Action}
use Rattle.format.specs.Range.{same_id, has_id}
use Rattle.replication.specs.Machine.Types.{Exchange_actions, Server}
use Rattle.replication.specs.Machine.Colours.{cut, shown}
use Rattle.replication.specs.Machine.Install.{ids_up_to}
use Rattle.replication.specs.Machine.Step.{all_states_in}
use Rattle.replication.specs.Machine.WellFormed.{ids_in, well_formed}
use Rattle.replication.specs.Machine.WellFormedRanges.{id_count, ActionFits}
use Rattle.replication.specs.Machine.WellFormedFacts.{ModeFits}
use Rattle.replication.proofs.WellFormed.Clauses.{held_count, WellFormed}
use Rattle.replication.proofs.WellFormed.Ids.{counted_has, counted_fact, each_counted, each_up_to}
use Rattle.replication.proofs.WellFormed.Modes.{all_in_ok}
use Rattle.replication.proofs.WellFormed.Facts.{well_formed_facts}
use Rattle.replication.proofs.WellFormed.Held.{action_count, held_parts}

module _ (s : Server) (formed : well_formed s ≡ true) where
  facts : WellFormed s
  facts = well_formed_facts s formed

  pub reds_differ : (d : Id) → action_count d s.log.red ≤ 1
  reds_differ d = omega (arith, facts.once d, held_parts d (shown s.white s.log))

  red_up_to : (d : Id) → 1 ≤ action_count d s.log.red → has_id d (ids_up_to 0 s.log.cuts) ≡ true
  unfolding cut ids_in
  red_up_to d h =
      let shows : 1 ≤ held_count d (shown s.white s.log) = omega (arith, held_parts d (shown s.white s.log)) in
      let least : 1 ≤ d.index =
      counted_fact (λ x. 1 ≤ x.index) d (ids_in s.log.red)
      (each_map (λ x. 1 ≤ x.index) (λ a. a.id) s.log.red
      (each_implied (ActionFits s.servers s.quota) (λ a. 1 ≤ a.id.index) (λ a f. f.id.least) s.log.red facts.log.red))
      (omega (arith, count_map (same_id d) (λ (a : Action). a.id) s.log.red)) in
      let held : (1 ≤ d.index) × (d.index ≤ cut s.log d.creator) = (least, facts.within d shows) in
      let ids = ids_up_to 0 s.log.cuts in
      let z : 0 + d.creator ≡ d.creator = omega arith in
      counted_has d ids (rw z at (each_up_to (λ x. 1 ≤ id_count x ids) 0 s.log.cuts (each_counted ids) d.creator d.index held.0 held.1))

  pub reds_within : (d : Id) → has_id d (ids_up_to 0 s.log.cuts) ≡ false → action_count d s.log.red ≡ 0
  reds_within d f = go (action_count d s.log.red) refl
    where
      go : (k : ℕ) → action_count d s.log.red ≡ k → k ≡ 0
      go zero e = refl
      go (suc k) e = not_both (sym f ∙ red_up_to d (omega arith))

  pub every_state_in_lem : s.membership.mode ≡ Exchange_actions → all_states_in s ≡ true
  every_state_in_lem e =
      let m : ModeFits Exchange_actions s = subst (λ x. ModeFits x s) e facts.mode in
      all_in_ok s facts.membership.states_length m.1
