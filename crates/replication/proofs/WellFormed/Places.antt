-- Where a rule finds room: what has a place at the number of white actions that the event takes first.
use Prim.Native.Nat.{ℕ, ◌*◌, ◌≤◌, ◌<◌}
use mathlib.Core.Path.{◌≡◌, refl, sym, subst}
use mathlib.Core.Bool.{Bool, true, false, not}
use mathlib.Core.List.{Memᴰ}
use mathlib.Core.Option.{Option, none, some}
use native.Mathlib.Omega.{arith}
use native.Mathlib.Nat.{mul-le-mul}
use lib.ListN.{length, length-append, length-map, drop}
use Rattle.base.specs.Tests.{◌and◌, ◌≤?◌, ◌<?◌, pick}
use Rattle.base.proofs.TestLaws.{not_both, lt_holds, eq_yes, pick_either}
use Rattle.base.specs.Lists.{Begins}
use Rattle.base.proofs.ListLaws.{each_append, each_implied}
use Rattle.base.proofs.Prefixes.{begins_refl, begins_length}
use Rattle.base.proofs.Distinct.{included_length}
use Rattle.format.specs.Types.{Id, Action}
use Rattle.replication.specs.Machine.Types.{Log, Server}
use Rattle.replication.specs.Machine.Colours.{cut, is_next, next_index, unwhite, places_of, shown}
use Rattle.replication.specs.Machine.Install.{install_log}
use Rattle.replication.specs.Machine.Rules.{Rule, ignoring, reddening, greening, yellowing, late_installing, exchanging, collecting_state, collecting_cpc, collecting_late_cpc, joining, joining_unmarked, joining_yellow, leaving, requesting, recovering, is_ignored}
use Rattle.replication.specs.Machine.White.{entrant, met_log, taken_from, is_recovering, took_white, no_place, full, beyond, sifted, sieved, white_after}
use Rattle.replication.specs.Machine.WellFormed.{ids_in, queue}
use Rattle.replication.specs.Machine.WellFormedRanges.{ActionFits}
use Rattle.replication.proofs.Step.Logs.{next_index_lem}
use Rattle.replication.proofs.Step.Growth.{install_grows}
use Rattle.replication.proofs.Step.Folds.{YellowRoom}
use Rattle.replication.proofs.WellFormed.Clauses.{SizesFit}
use Rattle.replication.proofs.WellFormed.Ids.{once_differ}
use Rattle.replication.proofs.WellFormed.Sums.{places_left}
use Rattle.replication.proofs.WellFormed.Counts.{differ_distinct}
use Rattle.replication.proofs.WellFormed.Logs.{HasPlace}
use Rattle.replication.proofs.WellFormed.Colours.{raise_fits}
use Rattle.replication.proofs.WellFormed.Changes.{Body}

-- ---- more turn white

pub raised_body : {v w : ℕ} (s : Server) → Body v s → v ≤ w → w ≤ length s.log.green → Body w s
raised_body {v} {w} s b h low = record {
  sizes = b.sizes;
  log = raise_fits s.servers s.quota s.me v w s.log b.log h low;
  votes = b.votes;
  membership = b.membership;
  noted_length = b.noted_length;
  noted = b.noted;
}

-- ---- the yellow list

pub some_places : (n q me : ℕ) → SizesFit n q me → 2 ≤ n * q
some_places n q me f = omega (arith, mul-le-mul {n₁ = 2} {m₁ = 1} {n₂ = n} {m₂ = q} f.fewest f.least)

-- Its ids differ and are of red actions: with a place left it is not full.
pub yellow_room : {w : ℕ} (s : Server) → Body w s → (a : Action) → a.id.creator < s.servers → HasPlace s.quota w a s.log
    → ((d : Id) → Memᴰ d s.votes.yellow.ids → Memᴰ d (ids_in s.log.red)) → YellowRoom s a
unfolding ids_in queue
yellow_room {w} s b a creator place reds next =
    omega (
      arith,
      places_left s.servers s.quota a.id.creator (queue (shown w s.log))
          (each_implied (ActionFits s.servers s.quota) (λ x. x.id.creator < s.servers) (λ x h. h.id.creator) (queue (shown w s.log))
          (each_append (ActionFits s.servers s.quota) (drop w s.log.green) s.log.red b.log.shows.ranges.green b.log.shows.ranges.red))
          b.log.shows.places.unwhites creator (place (next_index_lem s.log a next)),
      length-append (drop w s.log.green) s.log.red,
      length-map s.log.red (λ (x : Action). x.id),
      included_length s.votes.yellow.ids (ids_in s.log.red) (differ_distinct s.votes.yellow.ids (once_differ s.votes.yellow.ids b.votes.yellow.once)) reds,
    )

-- ---- each rule

-- At the number w the rule finds room for what it enters; a request is numbered at the state's own.
abbrev pub RulePlace : ℕ → Rule → Server → Type 0
RulePlace w ignoring s = Unit {0}
RulePlace w (reddening a) s = HasPlace s.quota w a s.log
RulePlace w (greening a) s = HasPlace s.quota w a s.log
RulePlace w (yellowing a) s = HasPlace s.quota w a s.log
RulePlace w (late_installing a) s = HasPlace s.quota w a (install_log s.votes.yellow.ids s.log)
RulePlace w (exchanging p a) s = (1 ≤? p and p ≤? length s.log.green) ≡ false → HasPlace s.quota w a s.log
RulePlace w (collecting_state x) s = Unit {0}
RulePlace w (collecting_cpc k) s = Unit {0}
RulePlace w (collecting_late_cpc k) s = Unit {0}
RulePlace w (joining c) s = Unit {0}
RulePlace w (joining_unmarked c) s = Unit {0}
RulePlace w (joining_yellow c) s = Unit {0}
RulePlace w (leaving m t) s = Unit {0}
RulePlace w (requesting p) s = s.white ≡ w
RulePlace w recovering s = Unit {0}

-- What the sieve lets through has a place.
pub sifted_place : (q w : ℕ) (a : Action) (l : Log) → HasPlace q w (sifted (no_place (some a) l w q) a) l
unfolding no_place unwhite places_of queue ◌and◌ is_next next_index sifted beyond pick cut
sifted_place q w a l = go (is_next l a and not (unwhite a.id.creator w l <? q)) refl
  where
    go : (b : Bool) → (is_next l a and not (unwhite a.id.creator w l <? q)) ≡ b → HasPlace q w (sifted b a) l
    go true h next = absurd (omega (arith, next))
    go false h next = lt_holds _ _ (by (unwhite a.id.creator w l <? q) (subst (λ z. (z and not (unwhite a.id.creator w l <? q)) ≡ false) (eq_yes _ _ next) h))
      where
        by : (c : Bool) → (true and not c) ≡ false → c ≡ true
        by true k = refl
        by false k = not_both (sym k)

pub rule_place : (k : Rule) (s : Server) → RulePlace (took_white k s) (sieved (full k s) k) s
unfolding full sieved entrant met_log took_white taken_from is_recovering pick
rule_place ignoring s = tt
rule_place (reddening a) s = sifted_place s.quota (took_white (reddening a) s) a s.log
rule_place (greening a) s = sifted_place s.quota (took_white (greening a) s) a s.log
rule_place (yellowing a) s = sifted_place s.quota (took_white (yellowing a) s) a s.log
rule_place (late_installing a) s = sifted_place s.quota (took_white (late_installing a) s) a (install_log s.votes.yellow.ids s.log)
rule_place (exchanging p a) s = λ h. rw h (sifted_place s.quota _ a s.log)
rule_place (collecting_state x) s = tt
rule_place (collecting_cpc k) s = tt
rule_place (collecting_late_cpc k) s = tt
rule_place (joining c) s = tt
rule_place (joining_unmarked c) s = tt
rule_place (joining_yellow c) s = tt
rule_place (leaving m t) s = tt
rule_place (requesting p) s = refl
rule_place recovering s = tt

-- ---- the log that an action meets

pub met_begins : (s : Server) (k : Rule) → Begins s.log.green (met_log k s).green
unfolding met_log
met_begins s ignoring = begins_refl _
met_begins s (reddening a) = begins_refl _
met_begins s (greening a) = begins_refl _
met_begins s (yellowing a) = begins_refl _
met_begins s (late_installing a) = (install_grows s.votes.yellow.ids s.log).greens
met_begins s (exchanging p a) = begins_refl _
met_begins s (collecting_state x) = begins_refl _
met_begins s (collecting_cpc j) = begins_refl _
met_begins s (collecting_late_cpc j) = begins_refl _
met_begins s (joining c) = begins_refl _
met_begins s (joining_unmarked c) = begins_refl _
met_begins s (joining_yellow c) = begins_refl _
met_begins s (leaving m t) = begins_refl _
met_begins s (requesting p) = begins_refl _
met_begins s recovering = begins_refl _

pub met_sieved : (s : Server) (b : Bool) (k : Rule) → met_log (sieved b k) s ≡ met_log k s
unfolding met_log sieved
met_sieved s b ignoring = refl
met_sieved s b (reddening a) = refl
met_sieved s b (greening a) = refl
met_sieved s b (yellowing a) = refl
met_sieved s b (late_installing a) = refl
met_sieved s b (exchanging p a) = refl
met_sieved s b (collecting_state x) = refl
met_sieved s b (collecting_cpc j) = refl
met_sieved s b (collecting_late_cpc j) = refl
met_sieved s b (joining c) = refl
met_sieved s b (joining_unmarked c) = refl
met_sieved s b (joining_yellow c) = refl
met_sieved s b (leaving m t) = refl
met_sieved s b (requesting p) = refl
met_sieved s b recovering = refl

-- ---- the number that is taken

pub took_rises : (k : Rule) (s : Server) → s.white ≤ took_white k s
unfolding took_white taken_from
took_rises k s = pick_either (λ w. s.white ≤ w) (is_recovering k) _ _ (omega arith) (go (entrant k s))
  where
    go : (o : Option Action) → s.white ≤ taken_from o (met_log k s) s.white
    go none = omega arith
    go (some a) = pick_either (λ w. s.white ≤ w) (is_next (met_log k s) a) _ _ (omega arith) (omega arith)

pub took_low : (k : Rule) (s : Server) → s.white ≤ length s.log.green → took_white k s ≤ length (met_log k s).green
unfolding took_white taken_from
took_low k s h =
    let b = begins_length _ _ (met_begins s k) in
    pick_either (λ w. w ≤ length (met_log k s).green) (is_recovering k) _ _ (omega (arith, b)) (go (entrant k s) b)
  where
    go : (o : Option Action) → length s.log.green ≤ length (met_log k s).green → taken_from o (met_log k s) s.white ≤ length (met_log k s).green
    go none b = omega arith
    go (some a) b = pick_either (λ w. w ≤ length (met_log k s).green) (is_next (met_log k s) a) _ _ (omega arith) (omega arith)

pub took_after : (k : Rule) (s t : Server) → took_white k s ≤ white_after k s t
unfolding white_after took_white taken_from entrant is_recovering is_ignored pick
took_after ignoring s t = omega arith
took_after (reddening a) s t = omega arith
took_after (greening a) s t = omega arith
took_after (yellowing a) s t = omega arith
took_after (late_installing a) s t = omega arith
took_after (exchanging p a) s t = omega arith
took_after (collecting_state x) s t = omega arith
took_after (collecting_cpc j) s t = omega arith
took_after (collecting_late_cpc j) s t = omega arith
took_after (joining c) s t = omega arith
took_after (joining_unmarked c) s t = omega arith
took_after (joining_yellow c) s t = omega arith
took_after (leaving m u) s t = omega arith
took_after (requesting p) s t = omega arith
took_after recovering s t = omega arith
