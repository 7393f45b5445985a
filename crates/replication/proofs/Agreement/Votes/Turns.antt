-- What each place of an allowed run does to the votes of a server.
use Prim.Native.Nat.{ℕ, suc}
use mathlib.Core.Path.{◌≡◌, refl, sym, ap, subst, ◌∙◌}
use mathlib.Core.Bool.{true, false}
use mathlib.Core.List.{List}
use mathlib.Core.Logic.{◌⊎◌, inl, inr}
use mathlib.Core.Option.{Option, none, some}
use Rattle.format.specs.Types.{Primary, State, Record, says}
use Rattle.replication.specs.Machine.Types.{Mode, Non_prim, Construct, Un, Votes, Configuration, Server, with_white}
use Rattle.replication.specs.Machine.Exchange.{taken_primary, quorum, taken_votes, attempted}
use Rattle.replication.specs.Machine.Requests.{numbered, send_waiting, recovered}
use Rattle.replication.specs.Machine.Step.{the_set, here_set, collected, decided, attempting, installs_by}
use Rattle.replication.specs.Laws.Modes as M
use Rattle.replication.specs.Laws.Order.{in_exchange}
use Rattle.replication.specs.Laws.Transitions as L
use Rattle.replication.specs.Laws.Transitions.{Ends}
use Rattle.replication.specs.Runs.Run.{Run, world_at, place_at}
use Rattle.replication.specs.Runs.Happenings.{Takes}
use Rattle.replication.proofs.Runs.Roomy.{Roomy as Allowed}
use Rattle.replication.proofs.Step.Formed.{every_state_in_lem}
use Rattle.replication.proofs.WellFormed.Facts.{facts_well_formed}
use Rattle.replication.proofs.Runs.Places.{of_event}
use Rattle.replication.proofs.Runs.Numbers.{numbers, invariant_at}
use Rattle.replication.proofs.Runs.Modes.{Standing, standing, standing_in}
use Rattle.replication.proofs.Runs.Coupling.{coupled}
use Rattle.replication.proofs.Runs.ControlPart.{control_at}
use Rattle.replication.proofs.Runs.AllowedTurns.{memory_at, Acts, Recovers, AllowedTurn, rests, crashes, saves, refuses, recovers, acts, allowed_turn}
use Rattle.replication.proofs.Runs.OwnStates.{exchange_regular}
use Rattle.replication.proofs.Agreement.Terms.{EndsAt, InstallsAt}
use Rattle.replication.proofs.Agreement.Votes.Changes as C
use Rattle.replication.proofs.Agreement.Votes.Changes.{SameVotes, Stays, Joins, Ending, VotesStep, votes_step, same_membership, outside}

module _ (n q : ℕ) (l : Run) where
  abbrev pub votes_at : ℕ → ℕ → Votes
  votes_at p i = (memory_at n q l p i).votes

  abbrev pub last_at : ℕ → ℕ → Primary
  last_at p i = (memory_at n q l p i).votes.last

  abbrev pub mode_at : ℕ → ℕ → Mode
  mode_at p i = (memory_at n q l p i).membership.mode

  pub data VotesTurn (p i : ℕ) : Type 0 where
    keeps : SameVotes (votes_at p i) (votes_at (suc p) i) → Stays (memory_at n q l p i) (memory_at n q l (suc p) i) → VotesTurn p i
    joins : (c : Configuration) → Takes n q l p i c → Joins (memory_at n q l p i) c (memory_at n q l (suc p) i) → VotesTurn p i
    ends : (c : Configuration) → EndsAt n q l p i c → in_exchange (mode_at p i) ≡ true → VotesTurn p i
    installs : (c : Configuration) → InstallsAt n q l p i c → VotesTurn p i

  -- What the end of an exchange leaves.
  pub data Decides (p i : ℕ) (c : Configuration) (xs : List State) : Type 0 where
    with_quorum_lem : quorum xs c.set ≡ true → votes_at (suc p) i ≡ attempted c.set (taken_votes i xs) → mode_at (suc p) i ≡ Construct
        → (memory_at n q l (suc p) i).membership.configuration ≡ some c → Decides p i c xs
    without_quorum_lem : quorum xs c.set ≡ false → votes_at (suc p) i ≡ taken_votes i xs → mode_at (suc p) i ≡ Non_prim → Decides p i c xs

-- A server that installs has a configuration.
pub installer_placed : (s : Server) → (s.membership.mode ≡ Construct) ⊎ (s.membership.mode ≡ Un) → Standing s
    → (c : Configuration) × (s.membership.configuration ≡ some c)
installer_placed s (inl e) h = let g = standing_in s Construct e h in (g.configuration, g.there)
installer_placed s (inr e) h = let g = standing_in s Un e h in (g.configuration, g.there)

module _ {n q : ℕ} {l : Run} where
  decides : (p i : ℕ) (c : Configuration) (j t : Server) (rs : List Record) → Ends j t rs → (w : ℕ) → memory_at n q l (suc p) i ≡ with_white w t → j.me ≡ i
      → j.membership.configuration ≡ some c → Decides n q l p i c (collected j)
  unfolding attempting decided send_waiting numbered here_set the_set
  decides p i c j t rs (L.with_quorum h) w e m d =
      let k : the_set j.membership.configuration ≡ c.set = ap the_set d in
      with_quorum_lem (ap (quorum (collected j)) (sym k) ∙ h)
      (ap (λ s. s.votes) e ∙ (λ z. attempted (k z) (taken_votes (m z) (collected j)))) (ap (λ s. s.membership.mode) e) (ap (λ s. s.membership.configuration) e ∙ d)
  decides p i c j t rs (L.without_quorum h) w e m d =
      without_quorum_lem (ap (λ s. quorum (collected j) (the_set s)) (sym d) ∙ h) (ap (λ s. s.votes) e ∙ ap (λ z. taken_votes z (collected j)) m)
      (ap (λ s. s.membership.mode) e)

  pub ended : {p i : ℕ} {c : Configuration} (x : EndsAt n q l p i c) → Decides n q l p i c (collected x.judged)
  ended {p} {i} {c} x = decides p i c x.judged x.acts.after x.acts.by.records x.ends x.acts.white x.acts.memory_next x.of_me x.configuration

  pub ended_last : {p i : ℕ} {c : Configuration} (x : EndsAt n q l p i c) → last_at n q l (suc p) i ≡ taken_primary (collected x.judged)
  unfolding attempted taken_votes
  ended_last {p} {i} {c} x = go (ended x)
    where
      go : Decides n q l p i c (collected x.judged) → last_at n q l (suc p) i ≡ taken_primary (collected x.judged)
      go (with_quorum_lem h v m d) = ap (λ z. z.last) v
      go (without_quorum_lem h v m) = ap (λ z. z.last) v

module _ {n q : ℕ} {l : Run} (A : Allowed n q l) where
  place_known : (p i : ℕ) → (world_at n q l p).down i ≡ false → (c : Option Configuration) (t : Option ℕ) → (memory_at n q l p i).membership.configuration ≡ c
      → (memory_at n q l p i).membership.transitional ≡ t → place_at n q l i p ≡ record { regular = c; transitional = t }
  place_known p i u c t e f = sym (coupled A p i u) ∙ (λ j. record { regular = e j; transitional = f j })

  -- An exchange that ends, ends in the server's configuration.
  pub ends_at : (p i : ℕ) (x : Acts n q l p i) → x.stores ≡ true → (j : Ending (memory_at n q l p i) x.after x.by.records)
      → (c : Configuration) × (y : EndsAt n q l p i c) × (y.judged ≡ j.judged)
  ends_at p i x b j =
      let s = memory_at n q l p i in
      let g = exchange_regular s.membership.mode s.membership.configuration s.membership.transitional j.exchanging (standing n q l i p).memory in
      let w = (invariant_at n q i A.allowed.sizes (A.allowed.servers p i (of_event x.here)) l p).memory.well_formed_lem in (
        g.configuration,
        record {
          acts = x;
          judged = j.judged;
          ends = j.ends;
          stores = b;
          here = place_known p i x.up (some g.configuration) none g.there g.none_after;
          of_me = j.me ∙ (numbers n q i l p).memory.me;
          votes = j.votes;
          configuration = j.configuration ∙ g.there;
          complete = j.complete (every_state_in_lem s (facts_well_formed s w));
        },
        refl,
      )

  acting : (p i : ℕ) (x : Acts n q l p i) → VotesStep (memory_at n q l p i) x.by.event x.after x.by.records x.stores → VotesTurn n q l p i
  acting p i x (C.keeps r o v s) =
      keeps (subst (λ t. SameVotes (votes_at n q l p i) t.votes) (sym x.memory_next) v) (subst (λ t. Stays (memory_at n q l p i) t) (sym x.memory_next) (record { exchange = s.exchange; attempt = s.attempt }))
  acting p i x (C.joins c e o j) =
      joins c (record { bytes = x.bytes; sent = x.sent; here = x.here; heard = x.heard ∙ ap says e })
      (subst (λ t. Joins (memory_at n q l p i) c t) (sym x.memory_next) (C.joins_raised x.white j))
  acting p i x (C.ends r o b j) = let y = ends_at p i x b j in ends y.0 y.1 j.exchanging
  acting p i x (C.installs r o j) =
      let s = memory_at n q l p i in
      let k = ap (λ z. installs_by z s) (sym x.by.ruled) ∙ o in
      let g = installer_placed s j.from (standing n q l i p).memory in
      installs g.0 (record { acts = x; installs = k; here = ap (λ z. z.regular) (sym (coupled A p i x.up)) ∙ g.1 })

  recovering : (p i : ℕ) → Recovers n q l p i → VotesTurn n q l p i
  unfolding recovered in_exchange M.attempting
  recovering p i x =
      let e = x.memory_next in
      let c = control_at n q l i p in
      keeps
      (record { last = ap (λ s. s.votes.last) e ∙ sym c.last; attempt = ap (λ s. s.votes.attempt) e ∙ sym c.attempt; mark = ap (λ s. s.votes.mark) e ∙ sym c.mark })
      (outside _ _ (ap (λ s. in_exchange s.membership.mode) e) (ap (λ s. M.attempting s.membership.mode) e))

  pub votes_turn : (p i : ℕ) → VotesTurn n q l p i
  votes_turn p i = go (allowed_turn A p i)
    where
      same : memory_at n q l (suc p) i ≡ memory_at n q l p i → VotesTurn n q l p i
      same e =
          keeps (record { last = ap (λ s. s.votes.last) e; attempt = ap (λ s. s.votes.attempt) e; mark = ap (λ s. s.votes.mark) e })
          (same_membership _ _ (ap (λ s. s.membership) e))

      go : AllowedTurn n q l p i → VotesTurn n q l p i
      go (rests o m c d) = same (ap (λ y. y.memory) m)
      go (crashes x m c d) = same (ap (λ y. y.memory) m)
      go (saves x m c d u) = same (ap (λ y. y.memory) m)
      go (refuses x) = same (ap (λ y. y.memory) x.images_next)
      go (recovers x) = recovering p i x
      go (acts x) = acting p i x (votes_step (memory_at n q l p i) x.moves)
