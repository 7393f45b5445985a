-- The records of each kind that a server with a well-formed body puts out: in range, its own, few enough and short enough.
use Rattle.replication.proofs.Step.Parts.{held_stands}
use Prim.Native.Nat.{ℕ, ◌+◌, ◌*◌, ◌-◌, ◌^◌, ◌≤◌, ◌<◌}
use mathlib.Core.Path.{◌≡◌, refl, sym, ap, subst, ◌∙◌}
use mathlib.Core.Bool.{Bool, true, false}
use mathlib.Core.List.{List, [], ◌∷◌, map}
use mathlib.Core.Option.{Option, none, some, some-injective, none-ne-some}
use native.Mathlib.Omega.{arith}
use native.Mathlib.Nat.{mul-le-mul, mul-le-mul_right}
use lib.ListN.{length, length-append, length-map, drop}
use Rattle.base.specs.Tests.{◌≤?◌, pick}
use Rattle.base.proofs.TestLaws.{le_fails}
use Rattle.base.proofs.QuantifierLaws.{at_drop}
use Rattle.base.specs.Bytes.{joined}
use Rattle.base.specs.Lists.{gather, gather_all, below, at, Each}
use Rattle.base.proofs.ListLaws.{each_append, each_always, each_filter, each_implied, each_map, each_both, each_at, each_gather, each_gather_all, above_between}
use Rattle.format.specs.Limits.{most_length_limit}
use Rattle.format.specs.Places.{most_retransmission}
use Rattle.format.specs.Types.{Action, State, Record, action, retransmission, state, cpc}
use Rattle.format.specs.Write.{write, length_of}
use Rattle.format.proofs.Lengths.{write_length}
use Rattle.replication.specs.Machine.Types.{Log, Configuration, Server}
use Rattle.replication.specs.Machine.Colours.{cut, find, places_of, shown}
use Rattle.replication.specs.Machine.Plan.{highest, lowest, missing, cut_in, green_in, resender, is_me, resent, resend_green, resend_red, own_part, held_at}
use Rattle.replication.specs.Machine.Requests.{unsent, waiting, waiting_records}
use Rattle.replication.specs.Machine.Step.{own_state}
use Rattle.replication.specs.Machine.WellFormed.{queue}
use Rattle.replication.specs.Machine.WellFormedRanges.{ActionFits, StateFits, ConfigurationFits}
use Rattle.replication.proofs.WellFormed.Clauses.{SizesFit, OwnListFits}
use Rattle.replication.proofs.WellFormed.SentFacts.{sender_of, RecordFits, PutOut}
use Rattle.replication.proofs.WellFormed.Held.{found_fact}
use Rattle.replication.proofs.WellFormed.Logs.{LogFits, green_short}
use Rattle.replication.proofs.WellFormed.Sums.{places_most}
use Rattle.replication.proofs.Step.PartHeld.{part_held}
use Rattle.replication.proofs.WellFormed.OwnList.{OwnId, unsent_short, unsent_ids}
use Rattle.replication.proofs.WellFormed.Decisions.{green_bound}
use Rattle.replication.proofs.WellFormed.Changes.{Body}

-- ---- how many bytes

pub record Products (n q : ℕ) : Type 0 where
  pub two : 2 ≤ n * q
  pub servers : n ≤ n * q
  pub quota : q ≤ n * q

pub products : (n q me : ℕ) → SizesFit n q me → Products n q
products n q me f = record {
  two = omega (arith, mul-le-mul {n₁ = 2} {m₁ = 1} {n₂ = n} {m₂ = q} f.fewest f.least);
  servers = omega (arith, mul-le-mul {n₁ = n} {m₁ = 1} {n₂ = n} {m₂ = q} (omega arith) f.least);
  quota = omega (arith, mul-le-mul {n₁ = 1} {m₁ = q} {n₂ = n} {m₂ = q} (omega (arith, f.fewest)) (omega arith));
}

-- Records of at most b bytes each.
bytes_bound : (b : ℕ) (rs : List Record) → Each (λ r. length_of r ≤ b) rs → length (joined (map write rs)) ≤ length rs * b
unfolding joined
bytes_bound b [] h = omega arith
bytes_bound b (r ∷ rs) h = omega (arith, length-append (write r) (joined (map write rs)), write_length r, h.0, bytes_bound b rs h.1)

-- A record in range, of the server `me`, no longer than a retransmission.
record Short (n q me : ℕ) (r : Record) : Type 0 where
  fit : RecordFits n q r
  own : sender_of r ≡ some me
  short : length_of r ≤ most_retransmission

action_short : (n q me : ℕ) (a : Action) → ActionFits n q a → a.id.creator ≡ me → Short n q me (action a)
unfolding sender_of length_of
action_short n q me a f e = record { fit = f; own = ap (λ k. some k) e; short = omega (arith, f.payload.most) }

retransmission_short : (n q me p : ℕ) (a : Action) → me < n → p ≤ most_length_limit → ActionFits n q a → Short n q me (retransmission me p a)
unfolding sender_of length_of
retransmission_short n q me p a o h f = record { fit = (o, h, f); own = refl; short = omega (arith, f.payload.most) }

short_out : (n q me : ℕ) (rs : List Record) → Each (Short n q me) rs → length rs ≤ 2 * (n * q) → PutOut n q me rs
short_out n q me rs f l = record {
  fit = each_implied (Short n q me) (RecordFits n q) (λ r h. h.fit) rs f;
  own = each_implied (Short n q me) (λ r. sender_of r ≡ some me) (λ r h. h.own) rs f;
  count = l;
  bytes = omega (arith, bytes_bound most_retransmission rs (each_implied (Short n q me) (λ r. length_of r ≤ most_retransmission) (λ r h. h.short) rs f), mul-le-mul_right most_retransmission l);
}

pub none_out : (n q me : ℕ) → PutOut n q me []
unfolding joined
none_out n q me = record { fit = tt; own = tt; count = omega arith; bytes = omega arith }

-- ---- the plan's part

-- What is held at a position is shown.
held_shown : (w : ℕ) (l : Log) (p : ℕ) (a : Action) → held_at w l p ≡ some a → at (drop w l.green) (p - 1 - w) ≡ some a
unfolding held_at pick
held_shown w l p a e = at_drop w l.green (p - 1 - w) ∙ ap (at l.green) there ∙ held_stands w l p a e
  where
    above : w < p
    above = go (p ≤? w) refl e
      where
        go : (b : Bool) → (p ≤? w) ≡ b → pick b none (at l.green (p - 1)) ≡ some a → w < p
        go true h k = absurd (none-ne-some a k)
        go false h k = le_fails _ _ h

    there : w + (p - 1 - w) ≡ p - 1
    there = omega (arith, above)

module _ (n q me : ℕ) (o : me < n) where
  resent_short : (p : ℕ) (x : Option Action) (r : Record) → p ≤ most_length_limit → ((a : Action) → x ≡ some a → ActionFits n q a) → resent me p x ≡ some r → Short n q me r
  unfolding resent
  resent_short p none r h f e = absurd (none-ne-some r e)
  resent_short p (some a) r h f e =
      subst (Short n q me) (some-injective (retransmission me p a) r e) (retransmission_short n q me p a o h (f a refl))

  each_mine : (t : Bool) (xs : List Record) → Each (Short n q me) xs → Each (Short n q me) (pick t xs [])
  unfolding pick
  each_mine true xs f = f
  each_mine false xs f = tt

  length_mine : (t : Bool) (xs : List Record) (k : ℕ) → length xs ≤ k → length (pick t xs []) ≤ k
  unfolding pick
  length_mine true xs k h = h
  length_mine false xs k h = omega arith

  module _ (w : ℕ) (l : Log) (f : LogFits n q me w l) (xs : List State) (g : Each (StateFits n q) xs) where
    greens_short : Each (Short n q me) (resend_green me w l xs)
    unfolding resend_green missing
    greens_short =
        each_mine (is_me me (resender green_in xs)) (gather (λ p. resent me p (held_at w l p)) (missing green_in xs))
        (each_gather (λ p. (lowest green_in xs < p) × (p ≤ highest green_in xs)) (Short n q me) (λ p. resent me p (held_at w l p))
        (λ p r h e.
        resent_short p (held_at w l p) r (omega (arith, h.1, green_bound n q xs g))
        (λ a i. each_at (ActionFits n q) (drop w l.green) (p - 1 - w) a f.shows.ranges.green (held_shown w l p a i)) e)
        (missing green_in xs) (above_between (lowest green_in xs) (highest green_in xs)))

    red_short : (c : ℕ) → Each (Short n q me) (resend_red me w l xs c)
    unfolding resend_red places_of missing
    red_short c =
        each_mine (is_me me (resender (cut_in c) xs)) (gather (λ i. resent me 0 (find (record { creator = c; index = i }) (places_of w l))) (missing (cut_in c) xs))
        (each_gather (λ i. Unit {0}) (Short n q me) (λ i. resent me 0 (find (record { creator = c; index = i }) (places_of w l)))
        (λ i r h e.
        resent_short 0 (find (record { creator = c; index = i }) (places_of w l)) r (omega arith)
        (λ a j.
        found_fact (ActionFits n q) (record { creator = c; index = i }) (places_of w l) a
        (each_append (ActionFits n q) (drop w l.green) l.red f.shows.ranges.green f.shows.ranges.red) j)
        e)
        (missing (cut_in c) xs) (each_always (λ i. Unit {0}) (λ i. tt) (missing (cut_in c) xs)))

    part_short : Each (Short n q me) (own_part n me w l xs)
    unfolding own_part
    part_short =
        each_append (Short n q me) (resend_green me w l xs) (gather_all (resend_red me w l xs) (below n)) greens_short
        (each_gather_all (λ c. Unit {0}) (Short n q me) (resend_red me w l xs) (λ c h. red_short c) (below n) (each_always (λ c. Unit {0}) (λ c. tt) (below n)))

-- ---- each kind

module _ {w : ℕ} (s : Server) (b : Body w s) where
  many : Products s.servers s.quota
  many = products s.servers s.quota s.me b.sizes

  pub cpc_out : (i : ℕ) → i < 2 ^ 32 → PutOut s.servers s.quota s.me (cpc s.me i ∷ [])
  unfolding sender_of length_of
  cpc_out i h = short_out s.servers s.quota s.me (cpc s.me i ∷ []) (record { fit = (b.sizes.own, h); own = refl; short = omega arith }, tt) (omega (arith, many.two))

  pub state_out : (c : Configuration) → ConfigurationFits s.servers s.me c → PutOut s.servers s.quota s.me (state (own_state c s) ∷ [])
  unfolding own_state sender_of length_of cut
  state_out c f = record {
    fit = (fits, tt);
    own = (refl, tt);
    count = omega (arith, many.two);
    bytes =
        omega (
          arith,
          bytes_bound (2 * most_retransmission * (s.servers * s.quota)) (state (own_state c s) ∷ []) (
            omega (
              arith,
              many.two,
              many.servers,
              b.log.shows.ranges.cuts_length,
              b.votes.yellow.few,
            ),
            tt,
          ),
        );
  }
    where
      fits : StateFits s.servers s.quota (own_state c s)
      fits = record {
        sender = b.sizes.own;
        configuration = f.id;
        cuts_length = b.log.shows.ranges.cuts_length;
        cuts = b.log.shows.ranges.cuts;
        green_length = green_short s.servers s.quota s.me w s.log b.sizes.most b.log;
        attempt = b.votes.attempt;
        last = b.votes.last;
        mark = b.votes.mark;
        yellow = b.votes.yellow;
      }

  unsent_out : (k : ℕ) → PutOut s.servers s.quota s.me (map action (unsent k s.log.own))
  unfolding unsent cut
  unsent_out k =
      let xs = unsent k s.log.own in
      short_out s.servers s.quota s.me (map action xs)
      (each_map (Short s.servers s.quota s.me) action xs
      (each_implied (λ a. ActionFits s.servers s.quota a × OwnId s.me s.log a.id) (λ a. Short s.servers s.quota s.me (action a))
      (λ a h. action_short s.servers s.quota s.me a h.0 h.1.creator) xs
      (each_both (ActionFits s.servers s.quota) (λ a. OwnId s.me s.log a.id) xs
      (each_filter (ActionFits s.servers s.quota) _ s.log.own b.log.shows.ranges.own)
      (unsent_ids s.me s.log own k))))
      (omega (arith, length-map xs action, unsent_short s.me s.log own k, b.log.shows.places.own_room, many.quota))
    where
      own : OwnListFits s.me s.log
      own = record { numbered = b.log.shows.own_list.numbered; ids = b.log.shows.own_list.ids }

  -- What waits at u, which has the own list of s.
  pub waiting_out : (u : Server) → s.log.own ≡ u.log.own → PutOut s.servers s.quota s.me (waiting_records u)
  unfolding waiting_records waiting
  waiting_out u e = subst (λ x. PutOut s.servers s.quota s.me (map action (unsent u.log.sent x))) e (unsent_out u.log.sent)

  pub resent_out : s.white ≡ w → (xs : List State) → Each (StateFits s.servers s.quota) xs → PutOut s.servers s.quota s.me (own_part s.servers s.me s.white s.log xs)
  unfolding places_of queue
  resent_out e xs f =
      subst (λ v. PutOut s.servers s.quota s.me (own_part s.servers s.me v s.log xs)) (sym e)
      (short_out s.servers s.quota s.me (own_part s.servers s.me w s.log xs) (part_short s.servers s.quota s.me b.sizes.own w s.log b.log xs f)
      (omega (
        arith,
        part_held s.servers s.me w s.log xs,
        length-append (drop w s.log.green) s.log.red,
        places_most s.servers s.quota (queue (shown w s.log))
            (each_implied (ActionFits s.servers s.quota) (λ x. x.id.creator < s.servers) (λ x h. h.id.creator) (queue (shown w s.log))
            (each_append (ActionFits s.servers s.quota) (drop w s.log.green) s.log.red b.log.shows.ranges.green b.log.shows.ranges.red))
            b.log.shows.places.unwhites,
      )))
