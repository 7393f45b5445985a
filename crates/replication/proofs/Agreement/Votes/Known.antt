-- Every last primary that a server knows is the start's or was installed, in a configuration no later than one that the server has taken.
use Prim.Native.Nat.{ℕ, zero, suc, ◌≤◌, ◌<◌}
use mathlib.Core.Path.{◌≡◌, sym, ap, subst, ◌∙◌}
use native.Mathlib.Omega.{arith}
use native.Mathlib.Decide.{dec_lt}
use Rattle.base.proofs.Chains.{strong}
use Rattle.base.specs.Sets.{everyone}
use Rattle.format.specs.Types.{Primary, first_primary, State}
use Rattle.replication.specs.Machine.Types.{Configuration, Server, start}
use Rattle.replication.specs.Machine.Step.{collected}
use Rattle.replication.specs.Images.{started}
use Rattle.replication.specs.Runs.Run.{Run, beginning}
use Rattle.replication.specs.Runs.Happenings.{Of, Takes}
use Rattle.replication.proofs.Runs.Roomy.{Roomy as Allowed}
use Rattle.replication.proofs.Runs.Places.{world_at_start}
use Rattle.replication.proofs.Runs.Shifts.{comes_of}
use Rattle.replication.proofs.Runs.Entries.{had}
use Rattle.replication.proofs.Runs.Order.{time, time_rises, configuration_time}
use Rattle.replication.proofs.Agreement.Terms.{Image, InstallsAt, installed, ExchangeFacts}
use Rattle.replication.proofs.Agreement.Votes.Turns.{last_at, VotesTurn, keeps, joins, ends, installs, votes_turn, ended_last}
use Rattle.replication.proofs.Agreement.Votes.Events.{takes_joins}
use Rattle.replication.proofs.Agreement.Votes.Judging.{taken_from_lem}
use Rattle.replication.proofs.Agreement.Votes.Collected.{StateOf, own_state_lem, state_from_lem}
use Rattle.replication.proofs.Agreement.Votes.Rising.{image_votes}

-- "last primary (index 0, attempt 0, all servers)"
abbrev pub start_primary : ℕ → Primary
start_primary n = first_primary (everyone n)

module _ {n q : ℕ} {l : Run} (A : Allowed n q l) where
  -- Before p the primary a was installed in c, which j took at w, and i took d at e, no earlier in the one order than c.
  pub data KnownPrimary (p i : ℕ) (a : Primary) : Type 0 where
    of_start : a ≡ start_primary n → KnownPrimary p i a
    of_install : (r j w e : ℕ) (c d : Configuration) (x : InstallsAt n q l r j c) → r < p → installed n q l x ≡ a → Takes n q l w j c → Takes n q l e i d → e < p
        → time A w ≤ time A e → KnownPrimary p i a

  -- The primary a was installed in a configuration earlier in the one order than the time u.
  pub data KnownEarlier (u : ℕ) (a : Primary) : Type 0 where
    at_start : a ≡ start_primary n → KnownEarlier u a
    installed_earlier : (r j w : ℕ) (c : Configuration) (x : InstallsAt n q l r j c) → installed n q l x ≡ a → Takes n q l w j c → time A w < u → KnownEarlier u a

  pub time_up_to : {p r i : ℕ} → Of l p i → Of l r i → p ≤ r → time A p ≤ time A r
  time_up_to {p} {r} {i} x y h = go (dec_lt p r)
    where
      go : Dec (p < r) → time A p ≤ time A r
      go (yes a) = omega (arith, time_rises A x y a)
      go (no a) = let e : p ≡ r = omega arith in omega (arith, ap (time A) e)

  last_at_start : (i : ℕ) → last_at n q l 0 i ≡ start_primary n
  unfolding beginning started start
  last_at_start i = ap (λ w. (w.images i).memory.votes.last) (world_at_start n q l)

  known_longer : {p i : ℕ} {a b : Primary} → b ≡ a → KnownPrimary p i a → KnownPrimary (suc p) i b
  known_longer f (of_start e) = of_start (f ∙ e)
  known_longer f (of_install r j w e c d x h g t u k o) = of_install r j w e c d x (omega arith) (g ∙ sym f) t u (omega arith) o

  module _ (X : ExchangeFacts n q l) where
    -- What a member knew on taking c it makes known to whoever ends the exchange in c.
    known_told : {p i k y w : ℕ} {c : Configuration} {a b : Primary} → b ≡ a → KnownPrimary (suc y) k a → Takes n q l y k c → y < p → Takes n q l w i c → w < p
        → KnownPrimary (suc p) i b
    known_told f (of_start e) t h v o = of_start (f ∙ e)
    known_told {p} {i} {k} {y} {w} {c} f (of_install r j x e d g z b s u m o a) t h v d' =
        of_install r j x w d c z (omega arith) (s ∙ sym f) u v (omega arith) (omega (arith, time_up_to (comes_of m) (comes_of t) (omega arith), configuration_time A t v))

    known_next : (p : ℕ) → ((x : ℕ) → x < suc p → (i : ℕ) → KnownPrimary x i (last_at n q l x i)) → (i : ℕ) → VotesTurn n q l p i
        → KnownPrimary (suc p) i (last_at n q l (suc p) i)
    known_next p below i (keeps v s) = known_longer v.last (below p (omega arith) i)
    known_next p below i (joins c t j) = known_longer j.last (below p (omega arith) i)
    known_next p below i (ends c x h) =
        let own = own_state_lem A X x in
        let r = taken_from_lem own.0 (collected x.judged) own.1 in
        let y = state_from_lem A X x r.0 r.1 in
        let s = y.2 in
        known_told (ended_last x ∙ r.2 ∙ s.last) (below (suc s.took_at) (omega (arith, s.earlier)) y.0) s.took s.earlier own.2.took own.2.earlier
    known_next p below i (installs c x) =
        let h = had n q l p i c x.here in
        of_install p i h.took_at h.took_at c c x (omega arith) (ap (λ s. s.votes.last) (sym x.acts.memory_next)) h.took h.took
        (omega (arith, h.earlier)) (omega arith)

    pub known_primary : (p i : ℕ) → KnownPrimary p i (last_at n q l p i)
    known_primary = strong (λ p. (i : ℕ) → KnownPrimary p i (last_at n q l p i)) step
      where
        step : (p : ℕ) → ((x : ℕ) → x < p → (i : ℕ) → KnownPrimary x i (last_at n q l x i)) → (i : ℕ) → KnownPrimary p i (last_at n q l p i)
        step zero below i = of_start (last_at_start i)
        step (suc p) below i = known_next p below i (votes_turn A p i)

    -- .. in every image.
    pub image_known : {p i : ℕ} {s : Server} → Image n q l p i s → KnownPrimary p i s.votes.last
    image_known {p} {i} x = subst (λ a. KnownPrimary p i a) (sym (image_votes x).last) (known_primary p i)

    -- What a State in c says was installed earlier than c.
    pub state_known : {p k : ℕ} {c : Configuration} {s : State} (y : StateOf n q l p k c s) → KnownEarlier (time A y.took_at) s.last
    state_known {p} {k} {c} {s} y = go (y.last ∙ (takes_joins A y.took).last) (known_primary y.took_at k)
      where
        go : s.last ≡ last_at n q l y.took_at k → KnownPrimary y.took_at k (last_at n q l y.took_at k) → KnownEarlier (time A y.took_at) s.last
        go f (of_start e) = at_start (f ∙ e)
        go f (of_install r j w e d g x h i t u o a) =
            installed_earlier r j w d x (i ∙ sym f) t (omega (arith, time_rises A (comes_of u) (comes_of y.took) o))
