-- A server's way through the exchange of one configuration: Exchange_states, Exchange_actions, then past the exchange, never back.
use Prim.Native.Nat.{ℕ, suc, ◌≤◌, ◌<◌}
use mathlib.Core.Path.{◌≡◌, refl, sym, ap, subst, ◌∙◌}
use mathlib.Core.Bool.{Bool, true, false}
use mathlib.Core.Option.{some}
use native.Mathlib.Omega.{arith}
use native.Mathlib.Decide.{dec_lt}
use Rattle.base.proofs.TestLaws.{not_both}
use Rattle.base.proofs.AtLaws.{none_some}
use Rattle.base.proofs.Chains.{chain}
use Rattle.format.specs.Types.{Record, action, retransmission, state, cpc, regular, transitional, request, recovery}
use Rattle.replication.specs.Machine.Types.{Mode, Non_prim, Reg_prim, Trans_prim, Exchange_states, Exchange_actions, Construct, No, Un, Configuration, Membership}
use Rattle.replication.specs.Laws.Transitions as L
use Rattle.replication.specs.Laws.Transitions.{Leads}
use Rattle.replication.specs.Runs.Run.{Run, nowhere, place_at}
use Rattle.replication.specs.Runs.Happenings.{Comes, Falls, by_recovery, Takes}
use Rattle.replication.proofs.Runs.Roomy.{Roomy as Allowed}
use Rattle.replication.proofs.Runs.Shifts as S
use Rattle.replication.proofs.Runs.Entries.{had}
use Rattle.replication.proofs.Runs.Memberships as M
use Rattle.replication.proofs.Runs.Memberships.{Completes, MembershipStep}
use Rattle.replication.proofs.Runs.Stays.{membership_at, entering_membership, StayStep, rested, refused, took, stay_step}

-- The record ends no stay in a configuration: it is no regular configuration and no recovery.
unfoldable pub remains : Record → Bool
remains (action a) = true
remains (retransmission k p a) = true
remains (state x) = true
remains (cpc k i) = true
remains (regular i s) = false
remains (transitional s) = true
remains (request p) = true
remains recovery = false

-- How far a server is in its stay: collecting States, collecting retransmissions, past the exchange without an attempt, past the marking of one.
unfoldable pub stage : Mode → ℕ
stage Non_prim = 2
stage Reg_prim = 3
stage Trans_prim = 3
stage Exchange_states = 0
stage Exchange_actions = 1
stage Construct = 3
stage No = 3
stage Un = 3

-- At the first stage a server is in Exchange_states.
pub first_stage : (m : Mode) → stage m ≤ 0 → m ≡ Exchange_states
unfolding stage
first_stage Non_prim h = absurd (omega arith)
first_stage Reg_prim h = absurd (omega arith)
first_stage Trans_prim h = absurd (omega arith)
first_stage Exchange_states h = refl
first_stage Exchange_actions h = absurd (omega arith)
first_stage Construct h = absurd (omega arith)
first_stage No h = absurd (omega arith)
first_stage Un h = absurd (omega arith)

leads_stage : {m o : Mode} → Leads m o → stage m ≤ stage o
unfolding stage
leads_stage L.stays = omega arith
leads_stage L.parts = omega arith
leads_stage L.interrupts_states = omega arith
leads_stage L.interrupts_actions = omega arith
leads_stage L.interrupts_construct = omega arith

completes_stage : {n : ℕ} {m : Membership} {r : Record} {o : Membership} → Completes n m r o → stage m.mode ≤ 1
unfolding stage
completes_stage (M.by_state x e c d) = omega (arith, ap stage e)
completes_stage (M.by_retransmission k p a e c) = omega (arith, ap stage e)

pub stage_rises : {n : ℕ} {m : Membership} {r : Record} {o : Membership} → MembershipStep n m r o → remains r ≡ true → stage m.mode ≤ stage o.mode
unfolding stage remains
stage_rises (M.ignores r e f) h = omega arith
stage_rises (M.acts a o e t) h = omega arith
stage_rises (M.asks p) h = omega arith
stage_rises (M.collects x e c) h = omega arith
stage_rises (M.resends x e c d) h = omega (arith, ap stage e)
stage_rises (M.counts k p a e c) h = omega arith
stage_rises (M.attempts r o c q) h = omega (arith, completes_stage c)
stage_rises (M.settles r o c q) h = omega (arith, completes_stage c)
stage_rises (M.counts_cpc k i e c) h = omega arith
stage_rises (M.installs k i e c) h = omega (arith, ap stage e)
stage_rises (M.counts_late_cpc k i e c) h = omega arith
stage_rises (M.counts_last_cpc k i e c) h = omega (arith, ap stage e)
stage_rises (M.installs_late a e) h = omega (arith, ap stage e)
stage_rises (M.joins c o e j) h = not_both h
stage_rises (M.leaves o u x e y) h = omega (arith, ap stage e, leads_stage y)
stage_rises M.recovers h = not_both h

-- The server i is in com(c) at p: c is its last regular configuration.
abbrev pub InCom : (n q : ℕ) (l : Run) (p i : ℕ) → Configuration → Type 0
InCom n q l p i c = (place_at n q l i p).regular ≡ some c

module _ {n q : ℕ} {l : Run} {p i : ℕ} where
  -- An event that brings no regular configuration and no fall ends no stay.
  pub remaining : ((d : Configuration) → Takes n q l p i d → ⊥) → (Falls n q l p i → ⊥) → (r : Record) → Comes n q l p i r → remains r ≡ true
  unfolding remains
  remaining f g (action a) x = refl
  remaining f g (retransmission k s a) x = refl
  remaining f g (state s) x = refl
  remaining f g (cpc k s) x = refl
  remaining f g (regular k s) x = absurd (f (record { id = k; set = s }) x)
  remaining f g (transitional s) x = refl
  remaining f g (request s) x = refl
  remaining f g recovery x = absurd (g (by_recovery x))

-- A fact of the membership part that every event of a stay keeps.
abbrev pub KeptInStay : ℕ → (Membership → Type 0) → Type 0
KeptInStay n P = (m o : Membership) (r : Record) → MembershipStep n m r o → remains r ≡ true → P m → P o

module _ {n q : ℕ} {l : Run} (A : Allowed n q l) (i : ℕ) (c : Configuration) where
  -- A stay has no gap.
  pub between : {p r x : ℕ} → InCom n q l p i c → InCom n q l r i c → p ≤ x → x ≤ r → InCom n q l x i c
  between {p} {r} {x} a b f g =
      let h = had n q l p i c a in
      let k = had n q l r i c b in
      k.kept x (omega (arith, h.earlier, A.allowed.once h.took_at k.took_at i c h.took k.took)) g

  kept_at : (P : Membership → Type 0) → KeptInStay n P → (x : ℕ) → (Falls n q l x i → ⊥) → ((d : Configuration) → Takes n q l x i d → ⊥)
      → P (membership_at n q l x i) → P (membership_at n q l (suc x) i)
  kept_at P f x a b h = go (stay_step A x i a)
    where
      go : StayStep A x i → P (membership_at n q l (suc x) i)
      go (rested m) = subst P (sym m) h
      go (refused y m) = subst P (sym m) h
      go (took y z m) = f _ _ _ m (remaining b a _ z) h

  -- What each event of a stay keeps holds from one place of the stay to every later one.
  pub onward : (P : Membership → Type 0) → KeptInStay n P → (p r : ℕ) → InCom n q l p i c → InCom n q l r i c → p ≤ r
      → P (membership_at n q l p i) → P (membership_at n q l r i)
  onward P f p r a b g =
      let h = had n q l p i c a in
      let k = had n q l r i c b in
      let s = A.allowed.once h.took_at k.took_at i c h.took k.took in
      chain (λ m o. P m → P o) (λ m u. u) (λ m o w u v x. v (u x)) (λ x. membership_at n q l x i) p r g
      (λ x u v. kept_at P f x (k.steady x (omega (arith, h.earlier, s)) v) (λ d. k.alone x d (omega (arith, h.earlier, s)) v))

  -- The stage never falls.
  pub stage_onward : (p r : ℕ) → InCom n q l p i c → InCom n q l r i c → p ≤ r
      → stage (membership_at n q l p i).mode ≤ stage (membership_at n q l r i).mode
  stage_onward p r a b g =
      onward (λ m. stage (membership_at n q l p i).mode ≤ stage m.mode) (λ m o x s h k. omega (arith, stage_rises s h)) p r a b g (omega arith)

  -- The stage rises past k at one place of a stay at most.
  pub rises_once : (k p r : ℕ) → InCom n q l p i c → InCom n q l (suc p) i c → InCom n q l r i c → InCom n q l (suc r) i c
      → stage (membership_at n q l p i).mode ≤ k → k < stage (membership_at n q l (suc p) i).mode
      → stage (membership_at n q l r i).mode ≤ k → k < stage (membership_at n q l (suc r) i).mode → p ≡ r
  rises_once k p r a b e f u v w x = go (dec_lt p r) (dec_lt r p)
    where
      go : Dec (p < r) → Dec (r < p) → p ≡ r
      go (yes y) z = absurd (omega (arith, stage_onward (suc p) r b e y))
      go (no y) (yes z) = absurd (omega (arith, stage_onward (suc r) p f a z))
      go (no y) (no z) = omega arith

  -- A server past Exchange_states had its configuration before.
  pub had_before : (p : ℕ) → InCom n q l (suc p) i c → 1 ≤ stage (membership_at n q l (suc p) i).mode → InCom n q l p i c
  unfolding stage nowhere
  had_before p a h = go (S.shift n q l p i)
    where
      go : S.Shift n q l p i → InCom n q l p i c
      go (S.to_regular d t m) = absurd (omega (arith, ap (λ o. stage o.mode) (entering_membership A p i d t)))
      go (S.to_transitional s t m) = sym (ap (λ x. x.regular) m) ∙ a
      go (S.to_nowhere f m) = none_some (sym (ap (λ x. x.regular) m) ∙ a)
      go (S.stays u v m) = sym (ap (λ x. x.regular) m) ∙ a
