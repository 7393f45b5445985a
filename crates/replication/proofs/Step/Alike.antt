-- ALIKE: an event does not look at what is white. Of two states that differ in their white actions alone the same events are refused, and taken with the
-- same records, store word and newly green actions; what they leave differs in the same way.
use Prim.Native.Nat.{ℕ, ◌+◌, ◌≤◌, max, min}
use mathlib.Core.Path.{◌≡◌, refl, sym, ap, subst, ◌∙◌}
use mathlib.Core.Bool.{Bool, true, false, not}
use mathlib.Core.List.{List, ◌++◌, map}
use mathlib.Core.Option.{Option, none, some}
use native.Mathlib.Omega.{arith}
use lib.ListN.{length, drop, length-append}
use lib.Seq.{drop-append-le}
use Rattle.base.proofs.ListLaws.{drop_same}
use Rattle.base.specs.Tests.{◌and◌, ◌or◌, ◌≤?◌, ◌<?◌, pick}
use Rattle.base.proofs.TestLaws.{pick_either}
use Rattle.format.specs.Types.{Action, Record, action, retransmission, state, cpc, regular, transitional, request, recovery, Reading, says}
use Rattle.format.specs.Limits.{most_number_limit}
use Rattle.format.specs.Read.{read}
use Rattle.format.specs.Write.{write}
use Rattle.replication.specs.Machine.Types.{Log, Server, Outcome, refused, with_white, with_greens, with_green, context_of}
use Rattle.replication.specs.Machine.Colours.{cut, next_index, is_next, of_creator, places_of, unwhite}
use Rattle.replication.specs.Machine.Requests.{quota_left}
use Rattle.replication.specs.Machine.Rules.{Rule, ignoring, reddening, greening, yellowing, late_installing, exchanging, collecting_state, collecting_cpc, collecting_late_cpc, joining, joining_unmarked, joining_yellow, leaving, requesting, recovering, rule_for, numbered_own, possible, from_member, is_ignored, within_quota}
use Rattle.replication.specs.Machine.White.{least, highest_white, entrant, met_log, taken_from, is_recovering, took_white, no_place, full, sieved, white_after, raised}
use Rattle.replication.specs.Machine.Step.{apply, apply_rule, answer, on_reading, in_bytes, step}
use Rattle.replication.proofs.Step.LogsAlike.{Gains, gains_none, gains_long, install_gains}
use Rattle.replication.proofs.Step.RulesAlike.{Along, OutAlong, refuses, takes, apply_along}

module _ (g : List Action) (s : Server) (long : length g ≡ length s.log.green) (shown : drop s.white g ≡ drop s.white s.log.green) where
  abbrev s' : Server
  s' = with_green g s

  start : Gains g s.log s.log (with_greens g s.log)
  start = gains_none g s.log

  pub met_gains : (k : Rule) → Gains g s.log (met_log k s) (met_log k s')
  unfolding met_log
  met_gains ignoring = start
  met_gains (reddening a) = start
  met_gains (greening a) = start
  met_gains (yellowing a) = start
  met_gains (late_installing a) = install_gains s.votes.yellow.ids start
  met_gains (exchanging p a) = start
  met_gains (collecting_state x) = start
  met_gains (collecting_cpc j) = start
  met_gains (collecting_late_cpc j) = start
  met_gains (joining c) = start
  met_gains (joining_unmarked c) = start
  met_gains (joining_yellow c) = start
  met_gains (leaving m t) = start
  met_gains (requesting p) = start
  met_gains recovering = start

  entrant_same : (k : Rule) → entrant k s' ≡ entrant k s
  unfolding entrant
  entrant_same ignoring = refl
  entrant_same (reddening a) = refl
  entrant_same (greening a) = refl
  entrant_same (yellowing a) = refl
  entrant_same (late_installing a) = refl
  entrant_same (exchanging p a) = ap (λ n. pick (1 ≤? p and p ≤? n) none (some a)) long
  entrant_same (collecting_state x) = refl
  entrant_same (collecting_cpc j) = refl
  entrant_same (collecting_late_cpc j) = refl
  entrant_same (joining c) = refl
  entrant_same (joining_unmarked c) = refl
  entrant_same (joining_yellow c) = refl
  entrant_same (leaving m t) = refl
  entrant_same (requesting p) = refl
  entrant_same recovering = refl

  next_same : (a : Action) {m m' : Log} → Gains g s.log m m' → is_next m' a ≡ is_next m a
  unfolding is_next next_index cut
  next_same a {m} x = ap (λ z. is_next z a) x.same

  taken_same : (o : Option Action) {m m' : Log} → Gains g s.log m m' → (w : ℕ) → taken_from o m' w ≡ taken_from o m w
  unfolding taken_from
  taken_same none x w = refl
  taken_same (some a) x w = λ i. pick (next_same a x i) (max w (min (gains_long long x i) a.white_length)) w

  pub took_same : (k : Rule) → took_white k s' ≡ took_white k s
  unfolding took_white
  took_same k =
      ap (λ n. pick (is_recovering k) (max s.white (min n (highest_white s.log.own))) (taken_from (entrant k s') (met_log k s') s.white)) long
      ∙ ap (pick (is_recovering k) (max s.white (min (length s.log.green) (highest_white s.log.own))))
      (ap (λ o. taken_from o (met_log k s') s.white) (entrant_same k) ∙ taken_same (entrant k s) (met_gains k) s.white)

  took_high : (k : Rule) → s.white ≤ took_white k s
  unfolding took_white taken_from
  took_high k = pick_either (λ w. s.white ≤ w) (is_recovering k) _ _ (omega arith) (go (entrant k s))
    where
      go : (o : Option Action) → s.white ≤ taken_from o (met_log k s) s.white
      go none = omega arith
      go (some a) = pick_either (λ w. s.white ≤ w) (is_next (met_log k s) a) _ _ (omega arith) (omega arith)

  module _ (low : s.white ≤ length s.log.green) where
    pub behind_same : (w : ℕ) → s.white ≤ w → (more : List Action) → drop w (g ++ more) ≡ drop w (s.log.green ++ more)
    behind_same w h more =
        drop_same s.white w (g ++ more) (s.log.green ++ more) h
        (drop-append-le s.white g more (omega (arith, long)) ∙ ap (λ z. z ++ more) shown ∙ sym (drop-append-le s.white s.log.green more low))

    unwhite_same : (c w : ℕ) → s.white ≤ w → {m m' : Log} → Gains g s.log m m' → unwhite c w m' ≡ unwhite c w m
    unfolding unwhite places_of
    unwhite_same c w h {m} x =
        ap (λ z. of_creator c (drop w z.green ++ z.red)) x.same
        ∙ ap (λ z. of_creator c (z ++ m.red)) (behind_same w h x.more ∙ ap (drop w) (sym x.grown))

    place_same : (o : Option Action) {m m' : Log} → Gains g s.log m m' → (w q : ℕ) → s.white ≤ w → no_place o m' w q ≡ no_place o m w q
    unfolding no_place
    place_same none x w q h = refl
    place_same (some a) x w q h = λ i. next_same a x i and not (unwhite_same a.id.creator w h x i <? q)

    full_same : (k : Rule) → full k s' ≡ full k s
    unfolding full
    full_same k =
        ap (λ o. no_place o (met_log k s') (took_white k s') s.quota) (entrant_same k)
        ∙ ap (λ w. no_place (entrant k s) (met_log k s') w s.quota) (took_same k)
        ∙ place_same (entrant k s) (met_gains k) (took_white k s) s.quota (took_high k)

    white_same : (k : Rule) {t t' : Server} → Along g s t t' → white_after k s' t' ≡ white_after k s t
    unfolding white_after
    white_same k {t} {t'} x =
        ap (λ w. pick (is_ignored k) s.white (max w (min (length t'.log.green) (least t'.noted)))) (took_same k)
        ∙ ap (λ z. pick (is_ignored k) s.white (max (took_white k s) (min (length z.log.green) (least z.noted)))) x.same
        ∙ ap (λ n. pick (is_ignored k) s.white (max (took_white k s) (min n (least t.noted)))) (omega (arith, length-append g x.more, length-append s.log.green x.more, long, ap length x.grown))

    raised_along : (k : Rule) (o o' : Outcome Record) → OutAlong g s o o' → OutAlong g s (raised k s o) (raised k s' o')
    unfolding raised
    raised_along k o o' (refuses j) = refuses j
    raised_along k o o' (takes t t' r b n x) =
        takes _ _ r b n (record { more = x.more; grown = x.grown; same = ap (λ w. with_white w t') (white_same k x) ∙ ap (with_white (white_after k s t)) x.same })

    possible_same : (r : Record) → possible s' r ≡ possible s r
    unfolding possible numbered_own
    possible_same (action a) = refl
    possible_same (retransmission k p a) = refl
    possible_same (state x) = refl
    possible_same (cpc k i) = refl
    possible_same (regular i t) = refl
    possible_same (transitional t) = refl
    possible_same (request p) = refl
    possible_same recovery = refl

    quota_same : (r : Record) → within_quota s' r ≡ within_quota s r
    unfolding within_quota quota_left
    quota_same (action a) = refl
    quota_same (retransmission k p a) = refl
    quota_same (state x) = refl
    quota_same (cpc k i) = refl
    quota_same (regular i t) = refl
    quota_same (transitional t) = refl
    quota_same (request p) =
        ap (λ k. k + length s.log.own <? s.quota and s.log.numbered <? most_number_limit) (unwhite_same s.me s.white (omega arith) (gains_none g s.log))
    quota_same recovery = refl

    rule_along : (k : Rule) → OutAlong g s (raised k s (apply (sieved (full k s) k) s)) (raised k s' (apply (sieved (full k s') k) s'))
    rule_along k =
        raised_along k _ _
        (subst (λ b. OutAlong g s (apply (sieved (full k s) k) s) (apply (sieved b k) s')) (sym (full_same k)) (apply_along g s long shown (sieved (full k s) k)))

    answer_along : (r : Record) → OutAlong g s (answer s r) (answer s' r)
    unfolding answer apply_rule pick
    answer_along r = go (rule_for s.membership.mode r)
      where
        tests : (k : Rule) (a b c : Bool) → OutAlong g s
            (pick a (pick b (pick c (raised k s (apply (sieved (full k s) k) s)) (refused 3)) (refused 6)) (refused 5))
            (pick a (pick b (pick c (raised k s' (apply (sieved (full k s') k) s')) (refused 3)) (refused 6)) (refused 5))
        tests k true true true = rule_along k
        tests k true true false = refuses 3
        tests k true false c = refuses 6
        tests k false b c = refuses 5

        go : (o : Option Rule) → OutAlong g s (apply_rule o s r) (apply_rule o s' r)
        go none = refuses 5
        go (some k) =
            subst (λ a. OutAlong g s (apply_rule (some k) s r) (pick a (pick (is_ignored k or from_member s.membership r) (pick (within_quota s' r) (raised k s' (apply (sieved (full k s') k) s')) (refused 3)) (refused 6)) (refused 5))) (sym (possible_same r))
            (subst (λ c. OutAlong g s (apply_rule (some k) s r) (pick (possible s r) (pick (is_ignored k or from_member s.membership r) (pick c (raised k s' (apply (sieved (full k s') k) s')) (refused 3)) (refused 6)) (refused 5))) (sym (quota_same r))
            (tests k (possible s r) (is_ignored k or from_member s.membership r) (within_quota s r)))

    -- One event, on its bytes.
    pub step_along : (e : List ℕ) → OutAlong g s (step s e) (step s' e)
    unfolding step in_bytes on_reading context_of
    step_along e = go (read (context_of s) e)
      where
        bytes : (o o' : Outcome Record) → OutAlong g s o o' → OutAlong g s (in_bytes o) (in_bytes o')
        bytes o o' (refuses k) = refuses k
        bytes o o' (takes t t' r b n x) = takes t t' (map write r) b n x

        go : (x : Reading Record) → OutAlong g s (in_bytes (on_reading s x)) (in_bytes (on_reading s' x))
        go (says r) = bytes _ _ (answer_along r)
        go (Reading.refused k) = refuses k
