-- The states that a taken event goes through are well-formed: the one that its action meets, that with the white length taken, and the one after the
-- rule with that white length.
use Prim.Native.Nat.{ℕ, ◌≤◌}
use mathlib.Core.Path.{◌≡◌, refl, sym, subst}
use mathlib.Core.Bool.{Bool, true}
use mathlib.Core.List.{List}
use native.Mathlib.Omega.{arith}
use lib.ListN.{length}
use Rattle.format.specs.Types.{Action}
use Rattle.replication.specs.Machine.Types.{Server, with_log, with_white}
use Rattle.replication.specs.Machine.Rules.{Rule, ignoring, reddening, greening, yellowing, late_installing, exchanging, collecting_state, collecting_cpc, collecting_late_cpc, joining, joining_unmarked, joining_yellow, leaving, requesting, recovering}
use Rattle.replication.specs.Machine.White.{met_log, took_white}
use Rattle.replication.specs.Machine.WellFormed.{well_formed}
use Rattle.replication.specs.Laws.Transitions.{TakenBy}
use Rattle.replication.proofs.WellFormed.Facts.{well_formed_facts, facts_well_formed}
use Rattle.replication.proofs.WellFormed.Clauses.{WellFormed}
use Rattle.replication.proofs.WellFormed.Logs.{LogFits}
use Rattle.replication.proofs.WellFormed.Colours.{install_log_fits}
use Rattle.replication.proofs.WellFormed.Changes.{body, whole, log_changed}
use Rattle.replication.proofs.WellFormed.Kept.{raise_kept, mode_kept, mode_raised}
use Rattle.replication.proofs.WellFormed.Places.{raised_body, took_rises, took_low}
use Rattle.replication.proofs.WellFormed.Steps.{core_kept}

-- More of a well-formed state turn white, up to its green length.
pub raise_formed : (s : Server) → WellFormed s → (w : ℕ) → s.white ≤ w → w ≤ length s.log.green → well_formed (with_white w s) ≡ true
raise_formed s f w h low =
    let b = raised_body s (body s f) h low in
    facts_well_formed (with_white w s)
    (whole (with_white w s) (record { sizes = b.sizes; log = b.log; votes = b.votes; membership = b.membership; noted_length = b.noted_length; noted = b.noted })
    (mode_raised s.membership.mode s w f.mode))

met_fits : (n q me w : ℕ) (s : Server) → LogFits n q me w s.log → (k : Rule) → LogFits n q me w (met_log k s)
unfolding met_log
met_fits n q me w s f ignoring = f
met_fits n q me w s f (reddening a) = f
met_fits n q me w s f (greening a) = f
met_fits n q me w s f (yellowing a) = f
met_fits n q me w s f (late_installing a) = install_log_fits n q me w s.votes.yellow.ids s.log f
met_fits n q me w s f (exchanging p a) = f
met_fits n q me w s f (collecting_state x) = f
met_fits n q me w s f (collecting_cpc j) = f
met_fits n q me w s f (collecting_late_cpc j) = f
met_fits n q me w s f (joining c) = f
met_fits n q me w s f (joining_unmarked c) = f
met_fits n q me w s f (joining_yellow c) = f
met_fits n q me w s f (leaving m t) = f
met_fits n q me w s f (requesting p) = f
met_fits n q me w s f recovering = f

module _ (s : Server) (ok : well_formed s ≡ true) (k : Rule) where
  met_facts : WellFormed (with_log (met_log k s) s)
  met_facts =
      let f = well_formed_facts s ok in
      whole (with_log (met_log k s) s) (log_changed s (body s f) (met_log k s) (met_fits s.servers s.quota s.me s.white s (body s f).log k))
      (mode_kept s.membership.mode s (met_log k s) s.votes s.noted refl f.mode)

  pub met_formed : well_formed (with_log (met_log k s) s) ≡ true
  met_formed = facts_well_formed (with_log (met_log k s) s) met_facts

  -- More turn white, up to the green length.
  pub took_formed : well_formed (with_white (took_white k s) (with_log (met_log k s) s)) ≡ true
  took_formed = raise_formed (with_log (met_log k s) s) met_facts (took_white k s) (took_rises k s) (took_low k s (well_formed_facts s ok).white)

module _ (s : Server) (e : List ℕ) (t : Server) (bs : List (List ℕ)) (b : Bool) (g : List Action) (ok : well_formed s ≡ true) (d : TakenBy s e t bs b g) where
  pub core_formed : well_formed (with_white (took_white d.rule s) t) ≡ true
  core_formed =
      let w = took_white d.rule s in
      let k = core_kept s e t bs b g (well_formed_facts s ok) d in
      let r = raise_kept s d.core w w k (omega arith) k.body.log.low in
      subst (λ u. well_formed (with_white w u) ≡ true) (sym d.raise) (facts_well_formed (with_white w d.core) (whole (with_white w d.core) r.body r.mode))
