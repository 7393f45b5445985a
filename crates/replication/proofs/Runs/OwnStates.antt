-- In an exchange the own State says what the server has; so (last primary's index, its attempt, attempt) never falls along a server.
use Prim.Native.Nat.{ℕ, suc, ◌≤◌, ◌<◌}
use mathlib.Core.Path.{◌≡◌, refl, sym, ap, subst, ◌∙◌}
use mathlib.Core.Bool.{true}
use mathlib.Core.Logic.{◌⊎◌, inl, inr}
use mathlib.Core.Option.{Option, none, some}
use native.Mathlib.Omega.{arith}
use lib.ListN.{length, get_or}
use Rattle.base.proofs.TestLaws.{not_both}
use Rattle.base.proofs.ListLaws.{there}
use Rattle.base.proofs.Chains.{chain}
use Rattle.base.specs.Sets.{in_set}
use Rattle.format.specs.Types.{State, regular}
use Rattle.replication.specs.Machine.Types.{Mode, Non_prim, Reg_prim, Trans_prim, Exchange_states, Exchange_actions, Construct, No, Un, Configuration}
use Rattle.replication.specs.Machine.Step.{own_state, the_set, here_set, all_states_in}
use Rattle.replication.proofs.WellFormed.Clauses.{MembershipRanges}
use Rattle.replication.specs.Laws.Modes.{InRegular}
use Rattle.replication.specs.Laws.Order.{SameControl, AtMost, in_exchange, OwnStateTrue, hearing}
use Rattle.replication.specs.Runs.Run.{Run, place_at}
use Rattle.replication.specs.Runs.Happenings.{Comes, Falls, by_crash, by_recovery, Takes}
use Rattle.replication.proofs.Runs.Roomy.{Roomy as Allowed}
use Rattle.replication.proofs.Step.Formed.{every_state_in_lem}
use Rattle.replication.proofs.Step.VotesOrder.{at_most_same, at_most_refl, at_most_trans, votes_rise}
use Rattle.replication.proofs.WellFormed.Modes.{all_in_facts}
use Rattle.replication.proofs.Runs.Places.{of_event}
use Rattle.replication.proofs.Runs.Numbers.{numbers, invariant_at, well_formed_at}
use Rattle.replication.proofs.Runs.Modes.{standing, Stands}
use Rattle.replication.proofs.Runs.Coupling.{coupled}
use Rattle.replication.proofs.Runs.AllowedTurns.{memory_at, Acts, AllowedTurn, rests, crashes, saves, refuses, recovers, acts, allowed_turn}
use Rattle.replication.proofs.Runs.ControlPart.{control_next}
use Rattle.replication.proofs.Runs.Hearing.{exchange_votes, hearing_states, HeardSame, hearing_same, heard_length, exchange_kept}
use Rattle.replication.proofs.Runs.StateOrigins.{Entered, states_entered}
use Rattle.replication.proofs.Runs.Stays.{membership_at, in_stay, acts_membership}

-- In an exchange the latest configuration is regular.
pub exchange_regular : (m : Mode) (c : Option Configuration) (t : Option ℕ) → in_exchange m ≡ true → Stands m c t → InRegular c t
unfolding in_exchange
exchange_regular Non_prim c t e h = not_both e
exchange_regular Reg_prim c t e h = not_both e
exchange_regular Trans_prim c t e h = not_both e
exchange_regular Exchange_states c t e h = h
exchange_regular Exchange_actions c t e h = h
exchange_regular Construct c t e h = not_both e
exchange_regular No c t e h = not_both e
exchange_regular Un c t e h = not_both e

module _ {n q : ℕ} {l : Run} (A : Allowed n q l) where
  -- The server i took c at `took_at`; while in the exchange it has the votes with which it entered.
  pub record SinceEntry (p i : ℕ) (c : Configuration) : Type 0 where
    pub took_at : ℕ
    pub earlier : took_at < p
    pub took : Takes n q l took_at i c
    pub votes : in_exchange (membership_at n q l p i).mode ≡ true → (memory_at n q l p i).votes ≡ (memory_at n q l (suc took_at) i).votes

  pub since_entry : (i : ℕ) (c : Configuration) (p : ℕ) → (place_at n q l i p).regular ≡ some c → SinceEntry p i c
  since_entry i c =
      in_stay n q l i c (λ p. SinceEntry p i c) (λ t h. record { took_at = t; earlier = omega arith; took = h; votes = λ e. refl })
      (λ p a b f g h. go p f g h (allowed_turn A p i))
    where
      same : (p : ℕ) → SinceEntry p i c → memory_at n q l (suc p) i ≡ memory_at n q l p i → SinceEntry (suc p) i c
      same p h m = record {
        took_at = h.took_at;
        earlier = omega (arith, h.earlier);
        took = h.took;
        votes = λ e. ap (λ x. x.votes) m ∙ h.votes (ap (λ x. in_exchange x.membership.mode) (sym m) ∙ e);
      }

      go : (p : ℕ) → (Falls n q l p i → ⊥) → ((d : Configuration) → Takes n q l p i d → ⊥) → SinceEntry p i c → AllowedTurn n q l p i
          → SinceEntry (suc p) i c
      go p f g h (rests o m u d) = same p h (ap (λ x. x.memory) m)
      go p f g h (saves x m u d v) = same p h (ap (λ y. y.memory) m)
      go p f g h (crashes x m u d) = absurd (f (by_crash x))
      go p f g h (refuses x) = same p h (ap (λ y. y.memory) x.images_next)
      go p f g h (recovers x) = absurd (f (by_recovery x.comes))
      go p f g h (acts x) = record { took_at = h.took_at; earlier = omega (arith, h.earlier); took = h.took; votes = votes }
        where
          at : ((in_exchange (membership_at n q l p i).mode ≡ true) × (x.after.votes ≡ (memory_at n q l p i).votes))
              ⊎ ((d : Configuration) × (x.by.event ≡ regular d.id d.set)) → (memory_at n q l (suc p) i).votes ≡ (memory_at n q l (suc h.took_at) i).votes
          at (inl u) = ap (λ s. s.votes) x.memory_next ∙ u.1 ∙ h.votes u.0
          at (inr u) =
              absurd (g u.0 (subst (λ r. Comes n q l p i r) u.1 (record { bytes = x.bytes; sent = x.sent; here = x.here; heard = x.heard })))

          votes : in_exchange (membership_at n q l (suc p) i).mode ≡ true → (memory_at n q l (suc p) i).votes ≡ (memory_at n q l (suc h.took_at) i).votes
          votes e = at (exchange_votes x.moves (ap (λ s. in_exchange s.membership.mode) (sym x.memory_next) ∙ e))

  -- The own State, once come, says the votes that the server has while in the exchange.
  pub own_state_says : (p i : ℕ) (c : Configuration) (y : State) → (place_at n q l i p).regular ≡ some c → (place_at n q l i (suc p)).regular ≡ some c
      → in_exchange (membership_at n q l p i).mode ≡ true → get_or (membership_at n q l (suc p) i).states i none ≡ some y
      → (y.last ≡ (memory_at n q l p i).votes.last)
      × (y.attempt ≡ (memory_at n q l p i).votes.attempt)
      × (y.mark ≡ (memory_at n q l p i).votes.mark)
      × (y.yellow ≡ (memory_at n q l p i).votes.yellow)
  unfolding own_state
  own_state_says p i c y b d e f = go (states_entered A i c (suc p) d i y f) (since_entry i c p b)
    where
      go : (v : ℕ) × Entered A v i c y × (v < suc p) × (y.sender ≡ i) → SinceEntry p i c
          → (y.last ≡ (memory_at n q l p i).votes.last)
          × (y.attempt ≡ (memory_at n q l p i).votes.attempt)
          × (y.mark ≡ (memory_at n q l p i).votes.mark)
          × (y.yellow ≡ (memory_at n q l p i).votes.yellow)
      go (v, w, h, g) t =
          let z : (memory_at n q l (suc v) i).votes ≡ (memory_at n q l p i).votes =
          ap (λ a. (memory_at n q l (suc a) i).votes) (A.allowed.once v t.took_at i c w.took t.took) ∙ sym (t.votes e)
          in (
            ap (λ a. a.last) w.is ∙ ap (λ a. a.last) z,
            ap (λ a. a.attempt) w.is ∙ ap (λ a. a.attempt) z,
            ap (λ a. a.mark) w.is ∙ ap (λ a. a.mark) z,
            ap (λ a. a.yellow) w.is ∙ ap (λ a. a.yellow) z,
          )

  module _ (p i : ℕ) (x : Acts n q l p i) where
    -- When every member's State is in, the own one is.
    own_there : (c : Configuration) → (memory_at n q l p i).membership.configuration ≡ some c
        → all_states_in (hearing x.by.event (memory_at n q l p i)) ≡ true
        → (y : State) × (get_or (hearing x.by.event (memory_at n q l p i)).membership.states i none ≡ some y)
    unfolding here_set the_set
    own_there c r f =
        there _
        (all_in_facts (hearing x.by.event (memory_at n q l p i)) long f i (omega (arith, own, h.servers, (numbers n q i l p).memory.servers))
        (ap (λ z. in_set i (the_set z)) (h.configuration ∙ r)
        ∙ subst (λ z. in_set z c.set ≡ true) (numbers n q i l p).memory.me (w.configuration c r).set.own))
      where
        own : i < n
        own = A.allowed.servers p i (of_event x.here)

        h : HeardSame (memory_at n q l p i) (hearing x.by.event (memory_at n q l p i))
        h = hearing_same x.by.event (memory_at n q l p i)

        w : MembershipRanges (memory_at n q l p i).servers (memory_at n q l p i).quota (memory_at n q l p i).me (memory_at n q l p i).membership
        w = (invariant_at n q i A.allowed.sizes own l p).memory.well_formed_lem.membership

        long : length (hearing x.by.event (memory_at n q l p i)).membership.states ≡ (hearing x.by.event (memory_at n q l p i)).servers
        long =
            ap length (hearing_states x.by.event (memory_at n q l p i)) ∙ heard_length x.by.event (memory_at n q l p i).membership.states ∙ w.states_length
            ∙ sym h.servers

    -- In an exchange, with the State that has come, the own State says the last primary and the attempt that the server has.
    pub own_state_true : OwnStateTrue (hearing x.by.event (memory_at n q l p i))
    unfolding OwnStateTrue
    own_state_true e f = go (exchange_regular _ _ _ g (standing n q l i p).memory)
      where
        h : HeardSame (memory_at n q l p i) (hearing x.by.event (memory_at n q l p i))
        h = hearing_same x.by.event (memory_at n q l p i)

        g : in_exchange (memory_at n q l p i).membership.mode ≡ true
        g = ap in_exchange (sym h.mode) ∙ e

        me : (hearing x.by.event (memory_at n q l p i)).me ≡ i
        me = h.me ∙ (numbers n q i l p).memory.me

        ending : (c : Configuration) → (memory_at n q l p i).membership.configuration ≡ some c
            → (y : State) × (get_or (hearing x.by.event (memory_at n q l p i)).membership.states i none ≡ some y)
            → (y : State)
            × (get_or (hearing x.by.event (memory_at n q l p i)).membership.states (hearing x.by.event (memory_at n q l p i)).me none ≡ some y)
            × (y.last ≡ (hearing x.by.event (memory_at n q l p i)).votes.last)
            × (y.attempt ≡ (hearing x.by.event (memory_at n q l p i)).votes.attempt)
        ending c r (y, z) =
            let k = exchange_kept (acts_membership A p i x) g x.running in
            let w =
            own_state_says p i c y (ap (λ u. u.regular) (sym (coupled A p i x.up)) ∙ r)
            (ap (λ u. u.regular) (sym (coupled A (suc p) i x.down_next)) ∙ k.0 ∙ r) g
            (ap (λ u. get_or u i none) (k.1 ∙ sym (hearing_states x.by.event (memory_at n q l p i))) ∙ z)
            in (
              y,
              ap (λ u. get_or (hearing x.by.event (memory_at n q l p i)).membership.states u none) me ∙ z,
              w.0 ∙ ap (λ u. u.last) (sym h.votes),
              w.1 ∙ ap (λ u. u.attempt) (sym h.votes),
            )

        go : InRegular (memory_at n q l p i).membership.configuration (memory_at n q l p i).membership.transitional
            → (y : State)
            × (get_or (hearing x.by.event (memory_at n q l p i)).membership.states (hearing x.by.event (memory_at n q l p i)).me none ≡ some y)
            × (y.last ≡ (hearing x.by.event (memory_at n q l p i)).votes.last)
            × (y.attempt ≡ (hearing x.by.event (memory_at n q l p i)).votes.attempt)
        go r = ending r.configuration r.there (own_there r.configuration r.there f)

    -- So an event never lowers (last primary's index, its attempt, attempt).
    acts_rise : AtMost (memory_at n q l p i).votes (memory_at n q l (suc p) i).votes
    acts_rise =
        subst (λ t. AtMost (memory_at n q l p i).votes t.votes) (sym x.memory_next)
        (votes_rise x.moves
        (λ e. every_state_in_lem (memory_at n q l p i) (well_formed_at n q i A.allowed.sizes (A.allowed.servers p i (of_event x.here)) l p).memory e) own_state_true)

  pub votes_rise_next : (p i : ℕ) → AtMost (memory_at n q l p i).votes (memory_at n q l (suc p) i).votes
  votes_rise_next p i = go (control_next A p i)
    where
      go : SameControl (memory_at n q l p i) (memory_at n q l (suc p) i) ⊎ ((x : Acts n q l p i) × (x.stores ≡ true))
          → AtMost (memory_at n q l p i).votes (memory_at n q l (suc p) i).votes
      go (inl h) = at_most_same h.last h.attempt
      go (inr h) = acts_rise p i h.0

  -- Along a server (last primary's index, its attempt, attempt) never falls, crashes and recoveries included.
  pub votes_rise_between : (i p r : ℕ) → p ≤ r → AtMost (memory_at n q l p i).votes (memory_at n q l r i).votes
  votes_rise_between i p r h =
      chain AtMost at_most_refl (λ a b c. at_most_trans) (λ x. (memory_at n q l x i).votes) p r h (λ x a b. votes_rise_next x i)
