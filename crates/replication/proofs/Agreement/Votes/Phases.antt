-- A server in an exchange has the votes with which it took its configuration; one that attempts a primary component has those that it marked.
use Prim.Native.Nat.{ℕ, zero, suc, ◌≤◌, ◌<◌}
use mathlib.Core.Path.{◌≡◌, sym, ap, subst, ◌∙◌}
use mathlib.Core.Bool.{true}
use mathlib.Core.Logic.{◌⊎◌, inl, inr}
use mathlib.Core.Option.{some}
use native.Mathlib.Omega.{arith}
use native.Mathlib.Decide.{dec_lt}
use Rattle.base.proofs.TestLaws.{not_both}
use Rattle.base.proofs.AtLaws.{some_same}
use Rattle.replication.specs.Machine.Types.{Non_prim, Construct, Un, Configuration, start}
use Rattle.replication.specs.Machine.Step.{collected}
use Rattle.replication.specs.Images.{started}
use Rattle.replication.specs.Laws.Modes.{attempting}
use Rattle.replication.specs.Laws.Order.{in_exchange}
use Rattle.replication.specs.Runs.Run.{Run, beginning}
use Rattle.replication.specs.Runs.Happenings.{Takes}
use Rattle.replication.proofs.Runs.Roomy.{Roomy as Allowed}
use Rattle.replication.proofs.Runs.Places.{world_at_start}
use Rattle.replication.proofs.Runs.Coupling.{coupled}
use Rattle.replication.proofs.Runs.AllowedTurns.{memory_at}
use Rattle.replication.proofs.Agreement.Terms.{EndsAt, MarksAt, InstallsAt}
use Rattle.replication.proofs.Agreement.Votes.Changes.{SameVotes, same_votes_refl, same_votes_trans}
use Rattle.replication.proofs.Agreement.Votes.Turns.{votes_at, mode_at, VotesTurn, keeps, joins, ends, installs, votes_turn, Decides, with_quorum_lem, without_quorum_lem, ended}
use Rattle.replication.proofs.Agreement.Votes.Events.{installing_at, ends_exchange, installs_outside}

module _ (n q : ℕ) (l : Run) where
  pub mode_at_start : (i : ℕ) → mode_at n q l 0 i ≡ Non_prim
  unfolding beginning started start
  mode_at_start i = ap (λ w. (w.images i).memory.membership.mode) (world_at_start n q l)

  -- The server i took c at `took_at`, and has been in c's exchange since.
  pub record ExchangesIn (p i : ℕ) (c : Configuration) : Type 0 where
    pub took_at : ℕ
    pub earlier : took_at < p
    pub took : Takes n q l took_at i c
    pub votes : SameVotes (votes_at n q l (suc took_at) i) (votes_at n q l p i)
    pub throughout : (x : ℕ) → took_at < x → x ≤ p → in_exchange (mode_at n q l x i) ≡ true
    pub configuration : (memory_at n q l p i).membership.configuration ≡ some c

  -- The server i marked its attempt in c at `marked_at`, and has its votes of then.
  pub record AttemptsIn (p i : ℕ) (c : Configuration) : Type 0 where
    pub marked_at : ℕ
    pub earlier : marked_at < p
    pub marking : MarksAt n q l marked_at i c
    pub votes : SameVotes (votes_at n q l (suc marked_at) i) (votes_at n q l p i)
    pub configuration : (memory_at n q l p i).membership.configuration ≡ some c

module _ {n q : ℕ} {l : Run} (A : Allowed n q l) where
  pub exchanges_in : (p i : ℕ) → in_exchange (mode_at n q l p i) ≡ true → (c : Configuration) × ExchangesIn n q l p i c
  unfolding in_exchange
  exchanges_in zero i h = not_both (sym (ap in_exchange (mode_at_start n q l i)) ∙ h)
  exchanges_in (suc p) i h = go (votes_turn A p i) (exchanges_in p i)
    where
      longer : (c : Configuration) → SameVotes (votes_at n q l p i) (votes_at n q l (suc p) i)
          → (memory_at n q l (suc p) i).membership.configuration ≡ (memory_at n q l p i).membership.configuration → ExchangesIn n q l p i c → ExchangesIn n q l (suc p) i c
      longer c v e x = record {
        took_at = x.took_at;
        earlier = omega (arith, x.earlier);
        took = x.took;
        votes = same_votes_trans x.votes v;
        throughout = λ y a b. more y a b (dec_lt p y);
        configuration = e ∙ x.configuration;
      }
        where
          more : (y : ℕ) → x.took_at < y → y ≤ suc p → Dec (p < y) → in_exchange (mode_at n q l y i) ≡ true
          more y a b (yes d) = let k : suc p ≡ y = omega arith in subst (λ z. in_exchange (mode_at n q l z i) ≡ true) k h
          more y a b (no d) = x.throughout y a (omega arith)

      go : VotesTurn n q l p i → (in_exchange (mode_at n q l p i) ≡ true → (c : Configuration) × ExchangesIn n q l p i c)
          → (c : Configuration) × ExchangesIn n q l (suc p) i c
      go (keeps v s) f = let e = s.exchange h in let x = f e.0 in (x.0, longer x.0 v e.1 x.1)
      go (joins c t j) f = (
        c,
        record {
          took_at = p;
          earlier = omega arith;
          took = t;
          votes = same_votes_refl _;
          throughout = λ y a b. let k : suc p ≡ y = omega arith in subst (λ z. in_exchange (mode_at n q l z i) ≡ true) k h;
          configuration = j.configuration;
        },
      )
      go (ends c x e) f = not_both (sym (ends_exchange x) ∙ h)
      go (installs c x) f = not_both (sym (installs_outside x).0 ∙ h)

  -- An exchange that ends was entered in its configuration.
  pub ends_entered : {p i : ℕ} {c : Configuration} → EndsAt n q l p i c → in_exchange (mode_at n q l p i) ≡ true → ExchangesIn n q l p i c
  ends_entered {p} {i} {c} x h =
      let y = exchanges_in p i h in
      subst (λ d. ExchangesIn n q l p i d) (some_same (sym y.1.configuration ∙ ap (λ z. z.regular) (coupled A p i x.acts.up ∙ x.here))) y.1

  pub attempts_in : (p i : ℕ) → attempting (mode_at n q l p i) ≡ true → (c : Configuration) × AttemptsIn n q l p i c
  unfolding attempting
  attempts_in zero i h = not_both (sym (ap attempting (mode_at_start n q l i)) ∙ h)
  attempts_in (suc p) i h = go (votes_turn A p i) (attempts_in p i)
    where
      longer : (c : Configuration) → SameVotes (votes_at n q l p i) (votes_at n q l (suc p) i)
          → (memory_at n q l (suc p) i).membership.configuration ≡ (memory_at n q l p i).membership.configuration → AttemptsIn n q l p i c → AttemptsIn n q l (suc p) i c
      longer c v e x = record {
        marked_at = x.marked_at;
        earlier = omega (arith, x.earlier);
        marking = x.marking;
        votes = same_votes_trans x.votes v;
        configuration = e ∙ x.configuration;
      }

      ending : (c : Configuration) (x : EndsAt n q l p i c) → Decides n q l p i c (collected x.judged) → (c : Configuration) × AttemptsIn n q l (suc p) i c
      ending c x (with_quorum_lem k v m d) =
          (c, record { marked_at = p; earlier = omega arith; marking = record { ending = x; has_quorum = k }; votes = same_votes_refl _; configuration = d })
      ending c x (without_quorum_lem k v m) = not_both (sym (ap attempting m) ∙ h)

      go : VotesTurn n q l p i → (attempting (mode_at n q l p i) ≡ true → (c : Configuration) × AttemptsIn n q l p i c)
          → (c : Configuration) × AttemptsIn n q l (suc p) i c
      go (keeps v s) f = let e = s.attempt h in let x = f e.0 in (x.0, longer x.0 v e.1 x.1)
      go (joins c t j) f = not_both (sym (ap attempting j.mode) ∙ h)
      go (ends c x e) f = ending c x (ended x)
      go (installs c x) f = not_both (sym (installs_outside x).1 ∙ h)

  -- Whoever installs in c marked its attempt in c, and has its votes of then.
  pub installs_attempt : {p i : ℕ} {c : Configuration} → InstallsAt n q l p i c → AttemptsIn n q l p i c
  unfolding attempting
  installs_attempt {p} {i} {c} x = let y = attempts_in p i (under_way (installing_at x).from) in subst (λ d. AttemptsIn n q l p i d) (the_same y.0 y.1) y.1
    where
      under_way : (mode_at n q l p i ≡ Construct) ⊎ (mode_at n q l p i ≡ Un) → attempting (mode_at n q l p i) ≡ true
      under_way (inl e) = ap attempting e
      under_way (inr e) = ap attempting e

      the_same : (d : Configuration) → AttemptsIn n q l p i d → d ≡ c
      the_same d y = some_same (sym y.configuration ∙ ap (λ z. z.regular) (coupled A p i x.acts.up) ∙ x.here)
