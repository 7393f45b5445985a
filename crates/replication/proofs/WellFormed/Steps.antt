-- A taken event keeps the state well-formed.
use Prim.Native.Nat.{ℕ, ◌≤◌, ◌<◌}
use mathlib.Core.Path.{◌≡◌, sym, ap, subst, ◌∙◌}
use mathlib.Core.Option.{some, none-ne-some}
use mathlib.Core.Bool.{Bool, true, false}
use mathlib.Core.List.{List}
use lib.ListN.{length}
use Rattle.base.specs.Tests.{pick}
use Rattle.base.proofs.AtLaws.{some_same}
use Rattle.base.proofs.TestLaws.{and_holds}
use Rattle.base.specs.Lists.{Each}
use Rattle.base.proofs.ListLaws.{each_implied}
use Rattle.format.specs.Types.{Action, Record, action, retransmission, state, cpc, regular, transitional, request, recovery}
use Rattle.format.specs.Range.{record_ok, fields_ok, action_ok}
use Rattle.format.proofs.Reading.{read_in_range}
use Rattle.replication.specs.Machine.Types.{Trans_prim, Log, Server, taken, context_of}
use Rattle.replication.specs.Machine.Rules.{Rule, yellowing, rule_for, on_action, on_retransmission}
use Rattle.replication.specs.Machine.Step.{apply, step}
use Rattle.replication.specs.Machine.White.{met_log, full, beyond, sifted, sieved, sieved_record, took_white, white_after}
use Rattle.replication.specs.Machine.WellFormed.{well_formed}
use Rattle.replication.proofs.WellFormed.Clauses.{WellFormed, YellowRed, YellowEntered, Whole, Invariant}
use Rattle.replication.specs.Laws.Transitions.{TakenBy}
use Rattle.replication.proofs.Step.Inversion.{taken_by}
use Rattle.replication.proofs.Step.Whites.{white_range}
use Rattle.replication.proofs.WellFormed.Facts.{well_formed_facts, facts_well_formed}
use Rattle.replication.proofs.WellFormed.Changes.{body, whole}
use Rattle.replication.specs.Laws.RuleFits.{RuleFits}
use Rattle.replication.proofs.WellFormed.RuleFacts.{rule_fits, sieved_fits}
use Rattle.replication.proofs.WellFormed.Kept.{after_taken, Kept, raise_kept}
use Rattle.replication.proofs.WellFormed.Places.{RulePlace, raised_body, yellow_room, rule_place, met_sieved, took_rises, took_low, took_after}
use Rattle.replication.proofs.WellFormed.Ranges.{action_facts}
use Rattle.replication.proofs.WellFormed.Whole.{KeptByEntering, KeptByHolding, kept_after_lem, WholeOf, enter_whole, held_whole}
use Rattle.replication.proofs.Step.Moves.{moved, sieved_none}
use Rattle.replication.proofs.Step.Folds.{YellowRoom}
use Rattle.replication.proofs.Runs.LogActions.{carried}
use Rattle.replication.specs.Machine.WellFormedRanges.{ActionFits}
use Rattle.replication.proofs.WellFormed.Apply.{apply_keeps}

module _ (s : Server) (e : List ℕ) (t : Server) (bs : List (List ℕ)) (b : Bool) (g : List Action) where
  -- What the rule that took the event may rely on.
  pub taken_fits : (d : TakenBy s e t bs b g) → RuleFits d.rule s
  taken_fits d = rule_fits s d.rule d.event (read_in_range (context_of s) e d.event d.reads) d.ruled d.can d.member d.quota

  -- Its action's creator is a server.
  creators : (d : TakenBy s e t bs b g) → Each (λ a. a.id.creator < s.servers) (carried (sieved_record (full d.rule s) d.event))
  unfolding record_ok fields_ok context_of sieved_record sifted beyond pick
  creators d = go d.event (full d.rule s) (and_holds _ _ (read_in_range (context_of s) e d.event d.reads)).1
    where
      one : (x : Bool) (a : Action) → action_ok (context_of s) a ≡ true → (sifted x a).id.creator < s.servers
      one true a h = (action_facts (context_of s) a h).id.creator
      one false a h = (action_facts (context_of s) a h).id.creator

      go : (r : Record) (x : Bool) → fields_ok (context_of s) r ≡ true → Each (λ a. a.id.creator < s.servers) (carried (sieved_record x r))
      go (action a) x h = (one x a h, tt)
      go (retransmission j p a) x h = (one x a (and_holds _ _ (and_holds _ _ h).1).1, tt)
      go (state y) x h = tt
      go (cpc j i) x h = tt
      go (regular i u) x h = tt
      go (transitional u) x h = tt
      go (request p) x h = tt
      go recovery x h = tt

  -- The core, at the number that was taken.
  pub core_kept : WellFormed s → (d : TakenBy s e t bs b g) → Kept (took_white d.rule s) s d.core
  core_kept f d =
      let k = d.rule in
      let x = full k s in
      after_taken (λ u r. Kept (took_white k s) s u) (apply (sieved x k) s) d.core d.records b g d.applied
      (apply_keeps s f (took_white k s) (took_rises k s) (sieved x k)
      (subst (λ l. took_white k s ≤ length l.green) (sym (met_sieved s x k)) (took_low k s f.white)) (sieved_fits x k s (taken_fits d)) (rule_place k s))

  step_kept : WellFormed s → (d : TakenBy s e t bs b g) → Kept t.white s t
  step_kept f d =
      let w = white_after d.rule s d.core in
      let r = white_range d f.white in
      subst (λ u. Kept u.white s u) (sym d.raise)
      (raise_kept s d.core (took_white d.rule s) w (core_kept f d) (took_after d.rule s d.core) (subst (λ u. u.white ≤ length u.log.green) d.raise r))

  -- A fact of logs that entering a server's action keeps, and that only what is held and the cuts decide.
  pub step_log_kept : (P : Log → Type 0) → KeptByEntering s.servers P → KeptByHolding P → WellFormed s → TakenBy s e t bs b g → P s.log → P t.log
  step_log_kept P enters same f d p =
      subst (λ u. P u.log) (sym d.raise) (kept_after_lem s.servers P enters same (moved d).0 (creators d) own p)
    where
      own : Each (λ a. a.id.creator < s.servers) s.log.own
      own = each_implied (ActionFits s.servers s.quota) (λ a. a.id.creator < s.servers) (λ a h. h.id.creator) s.log.own f.log.own

  -- What it holds, white actions too.
  step_whole : Invariant s → TakenBy s e t bs b g → Whole t.log
  step_whole v d =
      (step_log_kept (WholeOf s.servers) (λ a l p c h. enter_whole s.servers a l p c h) (held_whole s.servers) v.well_formed_lem d
      (record { long = v.well_formed_lem.log.cuts_length; whole = v.whole })).whole

  -- In Trans_prim the yellow list has room for what is entered.
  pub yellow_rooms : Invariant s → (d : TakenBy s e t bs b g) → s.membership.mode ≡ Trans_prim
      → Each (YellowRoom s) (carried (sieved_record (full d.rule s) d.event))
  unfolding rule_for on_action on_retransmission sieved_record sieved met_log
  yellow_rooms v d m = go d.event (subst (λ o. rule_for o d.event ≡ some d.rule) m d.ruled) (creators d) (rule_place d.rule s)
    where
      k : Rule
      k = d.rule

      low : took_white k s ≤ length (met_log k s).green
      low = took_low k s v.well_formed_lem.white

      red : YellowRed s
      red = subst (λ o. YellowEntered o s) m v.yellow

      go : (r : Record) → rule_for Trans_prim r ≡ some k → Each (λ a. a.id.creator < s.servers) (carried (sieved_record (full k s) r))
          → RulePlace (took_white k s) (sieved (full k s) k) s → Each (YellowRoom s) (carried (sieved_record (full k s) r))
      go (action a) h c p =
          let e : k ≡ yellowing a = sym (some_same h) in
          let met : met_log k s ≡ s.log = ap (λ z. met_log z s) e in (
            yellow_room s (raised_body s (body s v.well_formed_lem) (took_rises k s) (subst (λ l. took_white k s ≤ length l.green) met low)) (sifted (full k s) a) c.0
                (subst (λ z. RulePlace (took_white k s) (sieved (full k s) z) s) e p) red.reds,
            tt,
          )
      go (retransmission j i a) h c p = absurd (none-ne-some k h)
      go (state y) h c p = tt
      go (cpc j i) h c p = tt
      go (regular i u) h c p = tt
      go (transitional u) h c p = tt
      go (request x) h c p = tt
      go recovery h c p = tt

  pub yellow_rooms_whole : Invariant s → (d : TakenBy s e t bs b g) → full d.rule s ≡ false → s.membership.mode ≡ Trans_prim
      → Each (YellowRoom s) (carried d.event)
  yellow_rooms_whole v d h m =
      subst (λ r. Each (YellowRoom s) (carried r)) (ap (λ f. sieved_record f d.event) h ∙ sieved_none d.event) (yellow_rooms v d m)

  pub step_well_formed : well_formed s ≡ true → step s e ≡ taken t bs b g → well_formed t ≡ true
  step_well_formed f h = let k = step_kept (well_formed_facts s f) (taken_by s e t bs b g h) in facts_well_formed t (whole t k.body k.mode)

  pub step_invariant : Invariant s → step s e ≡ taken t bs b g → Invariant t
  step_invariant v h =
      let d = taken_by s e t bs b g h in
      let k = step_kept v.well_formed_lem d in
      record { well_formed_lem = whole t k.body k.mode; whole = step_whole v d; yellow = k.yellow v.yellow }
