-- What the rules do to a state keeps row 8's clauses, apart from those on the eight states.
use Prim.Native.Nat.{ℕ, ◌+◌, ◌*◌, ◌≤◌, ◌<◌}
use mathlib.Core.Path.{◌≡◌, ap, subst, sym, refl}
use mathlib.Core.Bool.{Bool, true, false}
use mathlib.Core.List.{List, [], ◌∷◌, ◌++◌}
use mathlib.Core.Option.{none, none-ne-some}
use native.Mathlib.Omega.{arith}
use lib.ListN.{length, length-append, length-replicate, drop}
use Rattle.base.specs.Tests.{◌<?◌, ◌and◌, ◌≤?◌}
use Rattle.base.proofs.TestLaws.{lt_holds, and_holds, pick_as, pick_either}
use Rattle.base.specs.Lists.{above, Each}
use Rattle.base.proofs.ListLaws.{each_append, each_always, each_implied, each_map, map_each, above_between}
use Rattle.base.proofs.CountLaws.{count_append, count_single}
use Rattle.format.specs.Limits.{most_index_limit, most_length_limit}
use Rattle.format.specs.Types.{Id, Action}
use Rattle.format.specs.Range.{same_id, has_id}
use Rattle.replication.specs.Machine.Types.{Non_prim, Votes, Server, with_log, with_votes, with_own, with_sent, no_states}
use Rattle.replication.specs.Machine.Colours.{cut, is_next, enter, red, reds, green, add_id, add_within, join_yellow, yellow, note, unwhite, places_of, of_creator}
use Rattle.replication.specs.Machine.Install.{install_log, install_votes, install}
use Rattle.replication.specs.Machine.Requests.{quota_left, made_of, numbered, send_waiting, recovered}
use Rattle.replication.specs.Machine.Step.{collected, planned_now, placed, one_more, exchanged, green_and_note}
use Rattle.replication.specs.Machine.WellFormed.{ids_in, queue}
use Rattle.replication.specs.Machine.WellFormedRanges.{id_count, IdFits, PayloadFits}
use Rattle.replication.proofs.WellFormed.Clauses.{VotesRanges}
use Rattle.replication.proofs.Step.Logs.{red_entered, yellow_as, next_index_lem}
use Rattle.replication.proofs.Step.Yellows.{add_as}
use Rattle.replication.proofs.WellFormed.Ids.{SameId, same, other, same-id?, not_had_counted}
use Rattle.replication.specs.Laws.RuleFits.{Numbered}
use Rattle.replication.proofs.WellFormed.Logs.{own_id, red_fits, reds_fits, entered_fits, HasPlace}
use Rattle.replication.proofs.WellFormed.Colours.{green_fits, install_log_fits}
use Rattle.replication.proofs.WellFormed.Numbering.{placed_fits, numbering_fits, sent_fits}
use Rattle.replication.proofs.WellFormed.Ranges.{component_fits}
use Rattle.replication.proofs.WellFormed.Decisions.{no_yellow_fits, planned_bound, note_length, note_bound}
use Rattle.replication.proofs.WellFormed.Changes.{Body, log_changed, votes_changed, membership_changed, noted_changed, mode_changed, collected_fit_lem, no_states_lem}
use Rattle.replication.specs.Laws.RuleFits.{Delivered}

-- ---- parts of votes and memberships

install_votes_fits : (n q : ℕ) (v : Votes) → VotesRanges n q v → v.last.index < most_index_limit → VotesRanges n q (install_votes v)
unfolding install_votes
install_votes_fits n q v f h = record {
  last = component_fits n _ _ _ (omega arith) f.attempt f.mark.set;
  attempt = omega arith;
  mark = f.mark;
  yellow = no_yellow_fits n q;
}

add_id_fits : (n q : ℕ) (d : Id) (ids : List Id) → Each (IdFits n q) ids → IdFits n q d → Each (IdFits n q) (add_id d ids)
add_id_fits n q d ids f fits = add_as (Each (IdFits n q)) d ids (λ h. f) (λ h. each_append (IdFits n q) ids (d ∷ []) f (fits, tt))

add_id_once : (d : Id) (ids : List Id) → ((e : Id) → id_count e ids ≤ 1) → (e : Id) → id_count e (add_id d ids) ≤ 1
add_id_once d ids f e = add_as (λ l. id_count e l ≤ 1) d ids (λ h. f e) (λ h. go h (same-id? e d))
  where
    go : has_id d ids ≡ false → SameId e d → id_count e (ids ++ (d ∷ [])) ≤ 1
    go h (same p c i t u) = omega (arith, count_append (same_id e) ids (d ∷ []), count_single (same_id e) d, not_had_counted d ids h, ap (λ y. id_count y ids) p)
    go h (other m t u) = omega (arith, count_append (same_id e) ids (d ∷ []), count_single (same_id e) d, f e)

add_id_length : (d : Id) (ids : List Id) → length (add_id d ids) ≤ length ids + 1
add_id_length d ids = add_as (λ l. length l ≤ length ids + 1) d ids (λ h. omega arith) (λ h. omega (arith, length-append ids (d ∷ [])))

join_yellow_fits : (n q : ℕ) (d : Id) (v : Votes) → VotesRanges n q v → IdFits n q d → VotesRanges n q (join_yellow (n * q) d v)
unfolding join_yellow add_within
join_yellow_fits n q d v f fits = record {
  last = f.last;
  attempt = f.attempt;
  mark = f.mark;
  yellow = record {
    status = f.yellow.status;
    few = pick_as (λ l. length l ≤ n * q) test (add_id d v.yellow.ids) v.yellow.ids (λ h. omega (arith, add_id_length d v.yellow.ids, lt_holds _ _ h)) (λ h. f.yellow.few);
    ids = pick_either (Each (IdFits n q)) test (add_id d v.yellow.ids) v.yellow.ids (add_id_fits n q d v.yellow.ids f.yellow.ids fits) f.yellow.ids;
    once = pick_either (λ l. (e : Id) → id_count e l ≤ 1) test (add_id d v.yellow.ids) v.yellow.ids (add_id_once d v.yellow.ids f.yellow.once) f.yellow.once;
  };
}
  where
    test : Bool
    test = length v.yellow.ids <? n * q

-- ---- actions

module _ {w : ℕ} (s : Server) (b : Body w s) (a : Action) (d : Delivered s a) (place : HasPlace s.quota w a s.log) where
  pub red_body : Body w (with_log (red a s.log) s)
  red_body = log_changed s b (red a s.log) (red_fits s.servers s.quota s.me w a s.log b.log d.fits d.own place)

  pub green_and_note_body : Body w (green_and_note a s)
  unfolding green_and_note
  green_and_note_body =
      noted_changed (with_log (green a s.log) s)
      (log_changed s b (green a s.log) (green_fits s.servers s.quota s.me w a s.log b.log d.fits d.own place))
      (note a.id.creator a.green_length s.noted)
      (note_length a.id.creator a.green_length s.noted)
      (note_bound most_length_limit a.id.creator a.green_length s.noted b.noted d.fits.green_length)

  pub yellow_body : Body w (yellow a s)
  yellow_body = yellow_as (Body w) a s joined (λ e. b)
    where
      joined : is_next s.log a ≡ true → Body w (with_votes (join_yellow (s.servers * s.quota) a.id s.votes) (with_log (enter a s.log) s))
      joined e =
          rw (red_entered a s.log e) at
          (votes_changed (with_log (red a s.log) s) red_body (join_yellow (s.servers * s.quota) a.id s.votes)
          (join_yellow_fits s.servers s.quota a.id s.votes b.votes (entered_fits s.servers s.quota (cut s.log a.id.creator) a d.fits (next_index_lem s.log a e)).id))

-- An action at a position that is green here needs none.
module _ {w : ℕ} (s : Server) (b : Body w s) (a : Action) (d : Delivered s a) (p : ℕ)
    (place : (1 ≤? p and p ≤? length s.log.green) ≡ false → HasPlace s.quota w a s.log) where
  pub exchanged_body : s.membership.come < planned_now s → Body w (exchanged p a s)
  unfolding exchanged one_more planned_now
  exchanged_body h =
      mode_changed (with_log (placed p a s.log) s)
      (log_changed s b (placed p a s.log) (placed_fits s.servers s.quota s.me w p a s.log b.log d.fits d.own place))
      s.membership.mode (s.membership.come + 1)
      (omega (arith, planned_bound s.servers s.quota (collected s) (collected_fit_lem s b)))

-- ---- Install, requests, recovery

module _ {w : ℕ} (s : Server) (b : Body w s) where
  pub install_body : s.votes.last.index < most_index_limit → Body w (install s)
  unfolding install
  install_body h =
      votes_changed (with_log (install_log s.votes.yellow.ids s.log) s)
      (log_changed s b (install_log s.votes.yellow.ids s.log) (install_log_fits s.servers s.quota s.me w s.votes.yellow.ids s.log b.log))
      (install_votes s.votes) (install_votes_fits s.servers s.quota s.votes b.votes h)

  pub send_waiting_body : Body w (send_waiting s)
  unfolding send_waiting
  send_waiting_body = log_changed s b (with_sent s.log.numbered s.log) (sent_fits s.servers s.quota s.me w s.log b.log)

  pub number_body : (p : List ℕ) → s.white ≡ w → PayloadFits p → quota_left s ≡ true → Body w (numbered p s)
  unfolding numbered made_of quota_left unwhite places_of queue
  number_body p e f q =
      let z = and_holds _ _ q in
      log_changed s b (with_own (made_of p s) s.log)
      (numbering_fits s.servers s.quota s.me w s.white p s.log b.sizes.own b.sizes.most b.log (omega (arith, b.log.low))
      (omega (arith, lt_holds _ _ z.0, ap (λ k. of_creator s.me (drop k s.log.green ++ s.log.red)) e)) (lt_holds _ _ z.1) f)

  pub recovered_body : Body w (recovered s)
  unfolding recovered ids_in no_states cut
  recovered_body =
      membership_changed (with_log (reds s.log.own s.log) s)
      (log_changed s b (reds s.log.own s.log)
      (reds_fits s.servers s.quota s.me w s.log.own s.log b.log b.log.shows.ranges.own own_numbered own_mine))
      (record { mode = Non_prim; configuration = none; transitional = none; states = no_states s.servers; cpcs = s.membership.cpcs; come = s.membership.come })
      (record {
        configuration = λ d e. absurd (none-ne-some d e);
        transitional = λ t e. absurd (none-ne-some t e);
        states_length = length-replicate s.servers none;
        states = λ k x e. no_states_lem s.servers k x e;
        cpcs = b.membership.cpcs;
        come = b.membership.come;
      })
    where
      own_mine : Each (λ a. a.id.creator ≡ s.me) s.log.own
      own_mine =
          map_each (λ x. x.creator ≡ s.me) (λ a. a.id) s.log.own
          (subst (Each (λ x. x.creator ≡ s.me)) (sym b.log.shows.own_list.ids)
          (each_map (λ x. x.creator ≡ s.me) (own_id s.me) (above (cut s.log s.me) s.log.numbered)
          (each_always (λ i. s.me ≡ s.me) (λ i. refl) (above (cut s.log s.me) s.log.numbered))))

      own_ids : Each (λ x. x.index ≤ s.log.numbered) (ids_in s.log.own)
      own_ids =
          subst (Each (λ x. x.index ≤ s.log.numbered)) (sym b.log.shows.own_list.ids)
          (each_map (λ x. x.index ≤ s.log.numbered) (own_id s.me) (above (cut s.log s.me) s.log.numbered)
          (each_implied (λ i. (cut s.log s.me < i) × (i ≤ s.log.numbered)) (λ i. i ≤ s.log.numbered) (λ i h. h.1)
          (above (cut s.log s.me) s.log.numbered) (above_between (cut s.log s.me) s.log.numbered)))

      own_numbered : Each (Numbered s.me s.log.numbered) s.log.own
      own_numbered =
          each_implied (λ a. a.id.index ≤ s.log.numbered) (Numbered s.me s.log.numbered) (λ a h e. h) s.log.own
          (map_each (λ x. x.index ≤ s.log.numbered) (λ a. a.id) s.log.own own_ids)
