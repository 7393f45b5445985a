-- A rule does not look at what is white: applied to two states that differ in their white actions alone, it answers the same, and what it leaves
-- differs in the same way.
use Prim.Native.Nat.{ℕ, ◌+◌, ◌-◌, ◌*◌}
use mathlib.Core.Path.{◌≡◌, refl, sym, ap, subst, ◌∙◌}
use mathlib.Core.Bool.{Bool, true, false}
use mathlib.Core.List.{List, [], ◌∷◌, ◌++◌, append-nil}
use mathlib.Core.Option.{none}
use native.Mathlib.Omega.{arith}
use lib.ListN.{length, drop}
use Rattle.base.specs.Tests.{◌=?◌, ◌≤?◌, pick}
use Rattle.base.proofs.TestLaws.{le_fails, Known, holds, fails, known}
use Rattle.base.proofs.Prefixes.{drop_beginning}
use Rattle.base.specs.Lists.{at, below, gather, gather_all}
use Rattle.format.specs.Types.{Action, State, Record, state, cpc}
use Rattle.replication.specs.Machine.Types.{Non_prim, Reg_prim, Trans_prim, Un, Configuration, Votes, Log, Server, Outcome, refused, taken, with_log, with_votes, with_membership, with_noted, with_own, with_greens, with_green, in_mode, no_states}
use Rattle.replication.specs.Machine.Colours.{find, places_of, cut, next_index, is_next, enter, join_yellow, yellow, note}
use Rattle.replication.specs.Machine.Exchange.{quorum}
use Rattle.replication.specs.Machine.Install.{install_votes, install}
use Rattle.replication.specs.Machine.Plan.{resender, missing, cut_in, green_in, is_me, held_at, resent, resend_green, resend_red, own_part}
use Rattle.replication.specs.Machine.Requests.{sends_now, made_of, numbered, send_waiting, waiting, waiting_records, recovered}
use Rattle.replication.specs.Machine.Rules.{Rule, ignoring, reddening, greening, yellowing, late_installing, exchanging, collecting_state, collecting_cpc, collecting_late_cpc, joining, joining_unmarked, joining_yellow, leaving, requesting, recovering}
use Rattle.replication.specs.Machine.Step.{greened, quiet, stored, sent, entering, own_state, join, unmarked, yellow_valid, here_set, here_id, collected, decided, attempting, end_exchange, with_state, all_states_in, planned_now, resending, after_states, collect_state, placed, one_more, exchanged, all_come_of, exchange, with_cpc, all_cpcs_in, installing, collect_cpc, collect_late_cpc, leave, green_and_note, requested, apply}
use Rattle.base.proofs.QuantifierLaws.{at_drop}
use Rattle.replication.proofs.Step.LogsAlike.{Gains, gains_none, red_gains, reds_gains, green_gains, install_gains, placed_gains}

abbrev recovered_with : Server → Log → Server
recovered_with s l =
    with_membership (record {
      mode = Non_prim;
      configuration = none;
      transitional = none;
      states = no_states s.servers;
      cpcs = s.membership.cpcs;
      come = s.membership.come;
    }) (with_log l s)

-- ---- servers

pub record Along (g : List Action) (s t t' : Server) : Type 0 where
  pub more : List Action
  pub grown : t.log.green ≡ s.log.green ++ more
  pub same : t' ≡ with_green (g ++ more) t

pub data OutAlong {R : Type 0} (g : List Action) (s : Server) : Outcome R → Outcome R → Type 0 where
  refuses : (k : ℕ) → OutAlong g s (refused k) (refused k)
  takes : (t t' : Server) (r : List R) (b : Bool) (n : List Action) → Along g s t t' → OutAlong g s (taken t r b n) (taken t' r b n)

-- A change of the log alone.
logs : {g : List Action} {s : Server} (t : Server) {m m' : Log} → Gains g s.log m m' → Along g s (with_log m t) (with_log m' t)
logs t x = record { more = x.more; grown = x.grown; same = ap (λ z. with_log z t) x.same }

module _ (g : List Action) (s : Server) (long : length g ≡ length s.log.green) (shown : drop s.white g ≡ drop s.white s.log.green) where
  abbrev s' : Server
  s' = with_green g s

  here : Along g s s s'
  here = record { more = []; grown = sym (append-nil s.log.green); same = ap (λ z. with_green z s) (sym (append-nil g)) }

  start : Gains g s.log s.log (with_greens g s.log)
  start = gains_none g s.log

  same_greened : {t t' : Server} → Along g s t t' → greened s' t' ≡ greened s t
  unfolding greened
  same_greened {t} {t'} x =
      ap (λ z. drop (length g) z.log.green) x.same ∙ drop_beginning g x.more
      ∙ sym (ap (drop (length s.log.green)) x.grown ∙ drop_beginning s.log.green x.more)

  out : {t t' : Server} (r : List Record) (b : Bool) → Along g s t t' → OutAlong g s (taken t r b (greened s t)) (taken t' r b (greened s' t'))
  out {t} {t'} r b x = subst (λ z. OutAlong g s (taken t r b (greened s t)) (taken t' r b z)) (sym (same_greened x)) (takes t t' r b (greened s t) x)

  -- The end of an exchange.
  end_along : {t t' : Server} → Along g s t t' → OutAlong g s (end_exchange s t) (end_exchange s' t')
  unfolding end_exchange stored pick attempting decided send_waiting waiting_records waiting collected here_set here_id
  end_along {t} x = subst (λ z. OutAlong g s (end_exchange s t) (end_exchange s' z)) (sym x.same) (go (quorum (collected t) (here_set t)))
    where
      go : (b : Bool)
          → OutAlong g s
          (pick b (stored s (attempting (decided t)) (cpc t.me (here_id t) ∷ [])) (stored s (send_waiting (in_mode Non_prim (decided t))) (waiting_records (in_mode Non_prim (decided t)))))
          (pick b (stored s' (attempting (decided (with_green (g ++ x.more) t))) (cpc t.me (here_id t) ∷ []))
          (stored s' (send_waiting (in_mode Non_prim (decided (with_green (g ++ x.more) t)))) (waiting_records (in_mode Non_prim (decided (with_green (g ++ x.more) t))))))
      go true = out _ true (record { more = x.more; grown = x.grown; same = refl })
      go false = out _ true (record { more = x.more; grown = x.grown; same = refl })

  -- The part of the plan.
  held_along : (p : ℕ) → held_at s.white (with_greens g s.log) p ≡ held_at s.white s.log p
  unfolding held_at pick
  held_along p = go (known (p ≤? s.white))
    where
      go : Known (p ≤? s.white) → pick (p ≤? s.white) none (at g (p - 1)) ≡ pick (p ≤? s.white) none (at s.log.green (p - 1))
      go (holds e) = ap (λ b. pick b none (at g (p - 1))) e ∙ sym (ap (λ b. pick b none (at s.log.green (p - 1))) e)
      go (fails e) =
          let h = le_fails p s.white e in
          let k : s.white + (p - 1 - s.white) ≡ p - 1 = omega arith in
          ap (λ b. pick b none (at g (p - 1))) e
          ∙ (ap (at g) (sym k) ∙ sym (at_drop s.white g (p - 1 - s.white)) ∙ ap (λ z. at z (p - 1 - s.white)) shown ∙ at_drop s.white s.log.green (p - 1 - s.white) ∙ ap (at s.log.green) k)
          ∙ sym (ap (λ b. pick b none (at s.log.green (p - 1))) e)

  part_along : (n me : ℕ) (xs : List State) → own_part n me s.white (with_greens g s.log) xs ≡ own_part n me s.white s.log xs
  unfolding own_part resend_green resend_red places_of
  part_along n me xs =
      λ i. pick (is_me me (resender green_in xs)) (gather (λ p. resent me p (held_along p i)) (missing green_in xs)) []
      ++ gather_all (λ c. pick (is_me me (resender (cut_in c) xs)) (gather (λ j. resent me 0 (find (record { creator = c; index = j }) (shown i ++ s.log.red))) (missing (cut_in c) xs)) []) (below n)

  states_along : (x : State) → OutAlong g s (after_states s (with_state x s)) (after_states s' (with_state x s'))
  unfolding after_states sent pick with_state resending planned_now collected
  states_along x = go (planned_now (with_state x s) =? 0)
    where
      go : (b : Bool) → OutAlong g s
          (pick b (end_exchange s (with_state x s)) (sent s (resending (with_state x s)) (own_part s.servers s.me s.white s.log (collected (with_state x s)))))
          (pick b (end_exchange s' (with_state x s')) (sent s' (resending (with_state x s')) (own_part s.servers s.me s.white (with_greens g s.log) (collected (with_state x s)))))
      go true = end_along (record { more = []; grown = sym (append-nil s.log.green); same = ap (λ z. with_state x (with_green z s)) (sym (append-nil g)) })
      go false =
          subst (λ z. OutAlong g s (sent s (resending (with_state x s)) (own_part s.servers s.me s.white s.log (collected (with_state x s)))) (sent s' (resending (with_state x s')) z))
          (sym (part_along s.servers s.me (collected (with_state x s))))
          (out _ false (record { more = []; grown = sym (append-nil s.log.green); same = ap (λ z. resending (with_state x (with_green z s))) (sym (append-nil g)) }))

  yellow_along : (a : Action) {t t' : Server} → Along g s t t' → Along g s (yellow a t) (yellow a t')
  unfolding yellow enter is_next next_index cut pick join_yellow
  yellow_along a {t} x = subst (λ z. Along g s (yellow a t) (yellow a z)) (sym x.same) (go (is_next t.log a))
    where
      go : (b : Bool) → Along g s (pick b (with_votes (join_yellow (t.servers * t.quota) a.id t.votes) (with_log (enter a t.log) t)) t)
          (pick b (with_votes (join_yellow (t.servers * t.quota) a.id t.votes) (with_log (enter a (with_greens (g ++ x.more) t.log)) (with_green (g ++ x.more) t))) (with_green (g ++ x.more) t))
      go true = record { more = x.more; grown = x.grown; same = refl }
      go false = record { more = x.more; grown = x.grown; same = refl }

  install_along : {t t' : Server} → Along g s t t' → Along g s (install t) (install t')
  unfolding install
  install_along {t} x =
      subst (λ z. Along g s (install t) (install z)) (sym x.same)
      (let z : Gains g s.log t.log (with_greens (g ++ x.more) t.log) = record { more = x.more; grown = x.grown; same = refl } in
      let y = install_gains t.votes.yellow.ids z in
      record { more = y.more; grown = y.grown; same = ap (λ z. with_votes (install_votes t.votes) (with_log z t)) y.same })

  exchange_along : (p : ℕ) (a : Action) → OutAlong g s (exchange p a s) (exchange p a s')
  unfolding exchange exchanged one_more all_come_of planned_now collected quiet pick
  exchange_along p a = go (all_come_of (exchanged p a s))
    where
      y : Gains g s.log (placed p a s.log) (placed p a (with_greens g s.log))
      y = placed_gains long p a start

      moved : Along g s (exchanged p a s) (exchanged p a s')
      moved = record { more = y.more; grown = y.grown; same = ap (λ z. one_more (with_log z s)) y.same }

      go : (b : Bool) → OutAlong g s (pick b (end_exchange s (exchanged p a s)) (quiet s (exchanged p a s))) (pick b (end_exchange s' (exchanged p a s')) (quiet s' (exchanged p a s')))
      go true = end_along moved
      go false = out [] false moved

  -- A change that leaves the log, from s.
  beside : (F : Server → Server) → ((h : List Action) → F (with_green h s) ≡ with_green h (F s)) → (F s).log.green ≡ s.log.green → Along g s (F s) (F s')
  beside F c e = record { more = []; grown = e ∙ sym (append-nil s.log.green); same = ap (λ z. F (with_green z s)) (sym (append-nil g)) ∙ c (g ++ []) }

  cpc_along : (k : ℕ) → OutAlong g s (collect_cpc k s) (collect_cpc k s')
  unfolding collect_cpc installing quiet stored pick with_cpc all_cpcs_in here_set send_waiting waiting_records waiting
  cpc_along k = go (all_cpcs_in (with_cpc k s))
    where
      x : Along g s (install (with_cpc k s)) (install (with_cpc k s'))
      x = install_along (beside (with_cpc k) (λ h. refl) refl)

      installed : (z : Server) → z ≡ with_green (g ++ x.more) (install (with_cpc k s))
          → OutAlong g s (stored s (send_waiting (in_mode Reg_prim (install (with_cpc k s)))) (waiting_records (in_mode Reg_prim (install (with_cpc k s)))))
          (stored s' (send_waiting (in_mode Reg_prim z)) (waiting_records (in_mode Reg_prim z)))
      installed z e =
          subst (λ z. OutAlong g s (stored s (send_waiting (in_mode Reg_prim (install (with_cpc k s)))) (waiting_records (in_mode Reg_prim (install (with_cpc k s)))))
          (stored s' (send_waiting (in_mode Reg_prim z)) (waiting_records (in_mode Reg_prim z)))) (sym e)
          (out _ true (record { more = x.more; grown = x.grown; same = refl }))

      go : (b : Bool) → OutAlong g s (pick b (installing s (with_cpc k s)) (quiet s (with_cpc k s))) (pick b (installing s' (with_cpc k s')) (quiet s' (with_cpc k s')))
      go true = installed (install (with_cpc k s')) x.same
      go false = out [] false (beside (with_cpc k) (λ h. refl) refl)

  late_cpc_along : (k : ℕ) → OutAlong g s (collect_late_cpc k s) (collect_late_cpc k s')
  unfolding collect_late_cpc quiet pick with_cpc all_cpcs_in here_set
  late_cpc_along k = go (all_cpcs_in (with_cpc k s))
    where
      go : (b : Bool) → OutAlong g s (pick b (quiet s (in_mode Un (with_cpc k s))) (quiet s (with_cpc k s))) (pick b (quiet s' (in_mode Un (with_cpc k s'))) (quiet s' (with_cpc k s')))
      go true = out [] false (beside (λ t. in_mode Un (with_cpc k t)) (λ h. refl) refl)
      go false = out [] false (beside (with_cpc k) (λ h. refl) refl)

  state_along : (x : State) → OutAlong g s (collect_state x s) (collect_state x s')
  unfolding collect_state quiet pick with_state all_states_in here_set
  state_along x = go (all_states_in (with_state x s))
    where
      go : (b : Bool) → OutAlong g s (pick b (after_states s (with_state x s)) (quiet s (with_state x s))) (pick b (after_states s' (with_state x s')) (quiet s' (with_state x s')))
      go true = states_along x
      go false = out [] false (beside (with_state x) (λ h. refl) refl)

  -- A State on entry tells the green length.
  join_along : (v : Votes) (c : Configuration) → OutAlong g s (join s c (with_votes v s)) (join s' c (with_votes v s'))
  unfolding join stored entering own_state
  join_along v c =
      subst (λ k. OutAlong g s (join s c (with_votes v s)) (stored s' (entering c (with_votes v s')) (state (record {
        sender = s.me;
        configuration = c.id;
        cuts = s.log.cuts;
        green_length = k;
        attempt = v.attempt;
        last = v.last;
        mark = v.mark;
        yellow = v.yellow;
      }) ∷ []))) (sym long) (out _ true (beside (λ t. entering c (with_votes v t)) (λ h. refl) refl))

  request_along : (p : List ℕ) → OutAlong g s (requested p s) (requested p s')
  unfolding requested stored pick send_waiting numbered made_of waiting_records waiting
  request_along p = subst (λ k. OutAlong g s (requested p s) (asked k)) (sym long) (go (sends_now s.membership))
    where
      made : ℕ → Action
      made k = record { id = record { creator = s.me; index = s.log.numbered + 1 }; green_length = k; white_length = s.white; payload = p }

      num : ℕ → List Action → Server
      num k h = with_log (with_own (made k) (with_greens h s.log)) s

      asked : ℕ → Outcome Record
      asked k = pick (sends_now s.membership) (stored s' (send_waiting (num k g)) (waiting_records (num k g))) (stored s' (num k g) [])

      go : (b : Bool) → OutAlong g s
          (pick b (stored s (send_waiting (numbered p s)) (waiting_records (numbered p s))) (stored s (numbered p s) []))
          (pick b (stored s' (send_waiting (num (length s.log.green) g)) (waiting_records (num (length s.log.green) g))) (stored s' (num (length s.log.green) g) []))
      go true = out _ true (record { more = []; grown = sym (append-nil s.log.green); same = ap (λ z. send_waiting (num (length s.log.green) z)) (sym (append-nil g)) })
      go false = out [] true (record { more = []; grown = sym (append-nil s.log.green); same = ap (num (length s.log.green)) (sym (append-nil g)) })

  pub apply_along : (k : Rule) → OutAlong g s (apply k s) (apply k s')
  unfolding apply quiet stored green_and_note leave recovered
  apply_along ignoring = out [] false here
  apply_along (reddening a) = out [] false (logs s (red_gains a start))
  apply_along (greening a) =
      let y = green_gains a start in
      out [] false (record { more = y.more; grown = y.grown; same = ap (λ z. with_noted (note a.id.creator a.green_length s.noted) (with_log z s)) y.same })
  apply_along (yellowing a) = out [] false (yellow_along a here)
  apply_along (late_installing a) =
      let x = yellow_along a (install_along here) in
      out [] true (record { more = x.more; grown = x.grown; same = ap (in_mode Trans_prim) x.same })
  apply_along (exchanging p a) = exchange_along p a
  apply_along (collecting_state x) = state_along x
  apply_along (collecting_cpc k) = cpc_along k
  apply_along (collecting_late_cpc k) = late_cpc_along k
  apply_along (joining c) = join_along s.votes c
  apply_along (joining_unmarked c) = join_along (unmarked s.votes) c
  apply_along (joining_yellow c) = join_along (yellow_valid (unmarked s.votes)) c
  apply_along (leaving m t) = out [] false (beside (leave m t) (λ h. refl) refl)
  apply_along (requesting p) = request_along p
  apply_along recovering =
      let y = reds_gains s.log.own start in
      out [] true (record { more = y.more; grown = y.grown; same = ap (recovered_with s) y.same })
