-- Every CPC that a server has collected came to it in its configuration, and was put out there by its sender at the end of its exchange.
use Prim.Native.Nat.{ℕ, suc}
use mathlib.Core.Path.{◌≡◌, refl, sym, ap, subst, ◌∙◌}
use mathlib.Core.Bool.{true, false}
use mathlib.Core.Option.{some}
use native.Mathlib.Omega.{arith}
use Rattle.base.specs.Tests.{◌or◌, ◌=?◌}
use Rattle.base.proofs.TestLaws.{not_both, eq_holds, Known, holds, fails, known}
use Rattle.base.specs.Sets.{in_set, with_member}
use Rattle.base.proofs.SetLaws.{in_empty, in_with_member}
use Rattle.format.specs.Types.{Record, cpc}
use Rattle.replication.specs.Machine.Types.{Construct, Configuration, Membership}
use Rattle.replication.specs.Machine.Step.{the_id, here_id}
use Rattle.replication.specs.Laws.Votes.{EndsExchange}
use Rattle.replication.specs.Runs.Run.{Run, place_at}
use Rattle.replication.specs.Runs.Happenings.{is_message, Comes}
use Rattle.replication.proofs.Runs.Roomy.{Roomy as Allowed}
use Rattle.replication.proofs.Step.Kinds.{cpc_sent}
use Rattle.replication.proofs.Runs.AllowedTurns.{memory_at, Acts}
use Rattle.replication.proofs.Runs.Sending.{Puts}
use Rattle.replication.proofs.Runs.PutRecords.{alone_first}
use Rattle.replication.proofs.Runs.Memberships as M
use Rattle.replication.proofs.Runs.Memberships.{Completes, MembershipStep}
use Rattle.replication.proofs.Runs.StateOrigins.{puts_among, puts_by, puts_configuration, Came, came_later, came_now}
use Rattle.replication.proofs.Runs.Stays.{membership_at, in_stay, StayStep, rested, refused, took, stay_step, entering_membership}

pub data CpcsChange (m : Membership) (r : Record) (o : Membership) : Type 0 where
  kept : o.cpcs ≡ m.cpcs → CpcsChange m r o
  added : (k i : ℕ) → r ≡ cpc k i → o.cpcs ≡ with_member k m.cpcs → CpcsChange m r o
  dropped : o.cpcs ≡ 0 → CpcsChange m r o

completes_cpcs : {n : ℕ} {m : Membership} {r : Record} {o : Membership} → Completes n m r o → o.cpcs ≡ m.cpcs
completes_cpcs (M.by_state x e c d) = refl
completes_cpcs (M.by_retransmission k p a e c) = refl

pub cpcs_change : {n : ℕ} {m : Membership} {r : Record} {o : Membership} → MembershipStep n m r o → CpcsChange m r o
cpcs_change (M.ignores r e f) = kept refl
cpcs_change (M.acts a o e t) = kept refl
cpcs_change (M.asks p) = kept refl
cpcs_change (M.collects x e c) = kept refl
cpcs_change (M.resends x e c d) = kept refl
cpcs_change (M.counts k p a e c) = kept refl
cpcs_change (M.attempts r o c q) = kept (completes_cpcs c)
cpcs_change (M.settles r o c q) = kept (completes_cpcs c)
cpcs_change (M.counts_cpc k i e c) = added k i refl refl
cpcs_change (M.installs k i e c) = added k i refl refl
cpcs_change (M.counts_late_cpc k i e c) = added k i refl refl
cpcs_change (M.counts_last_cpc k i e c) = added k i refl refl
cpcs_change (M.installs_late a e) = kept refl
cpcs_change (M.joins c o e j) = dropped refl
cpcs_change (M.leaves o u x e y) = kept refl
cpcs_change M.recovers = kept refl

module _ {n q : ℕ} {l : Run} (A : Allowed n q l) where
  -- The CPC of the server j came to the server i, in c.
  abbrev pub CpcCame : ℕ → ℕ → Configuration → ℕ → Type 0
  CpcCame p i c j = (d : ℕ) × Came A p i c (cpc j d)

  pub cpcs_came : (i : ℕ) (c : Configuration) (p : ℕ) → (place_at n q l i p).regular ≡ some c → (j : ℕ) → in_set j (membership_at n q l p i).cpcs ≡ true
      → (d : ℕ) × Came A p i c (cpc j d)
  unfolding is_message ◌or◌
  cpcs_came i c =
      in_stay n q l i c (λ p. (j : ℕ) → in_set j (membership_at n q l p i).cpcs ≡ true → CpcCame p i c j)
      (λ t h j e. not_both (sym (ap (λ m. in_set j m.cpcs) (entering_membership A t i c h) ∙ in_empty j) ∙ e))
      (λ p a b f g h j e. go p a h j e (stay_step A p i f))
    where
      same : (p : ℕ) → ((j : ℕ) → in_set j (membership_at n q l p i).cpcs ≡ true → CpcCame p i c j) → (j : ℕ)
          → in_set j (membership_at n q l (suc p) i).cpcs ≡ true → (membership_at n q l (suc p) i).cpcs ≡ (membership_at n q l p i).cpcs → CpcCame (suc p) i c j
      same p h j e m = let y = h j (ap (in_set j) (sym m) ∙ e) in (y.0, came_later A (omega arith) y.1)

      taking : (p : ℕ) → (place_at n q l i p).regular ≡ some c → ((j : ℕ) → in_set j (membership_at n q l p i).cpcs ≡ true → CpcCame p i c j) → (j : ℕ)
          → in_set j (membership_at n q l (suc p) i).cpcs ≡ true → (r : Record) → Comes n q l p i r
          → CpcsChange (membership_at n q l p i) r (membership_at n q l (suc p) i) → CpcCame (suc p) i c j
      taking p a h j e r y (kept m) = same p h j e m
      taking p a h j e r y (added k d w m) = at (known (j =? k)) (known (in_set j (membership_at n q l p i).cpcs))
        where
          at : Known (j =? k) → Known (in_set j (membership_at n q l p i).cpcs) → CpcCame (suc p) i c j
          at (holds u) v = (d, came_now A (subst (λ z. Comes n q l p i z) (w ∙ ap (λ z. cpc z d) (sym (eq_holds j k u))) y) refl a)
          at (fails u) (holds v) = let z = h j v in (z.0, came_later A (omega arith) z.1)
          at (fails u) (fails v) =
              not_both (sym (ap (in_set j) m ∙ in_with_member j k _ ∙ ap (λ z. z or (j =? k)) v ∙ ap (λ z. false or z) u) ∙ e)
      taking p a h j e r y (dropped m) = not_both (sym (ap (in_set j) m ∙ in_empty j) ∙ e)

      go : (p : ℕ) → (place_at n q l i p).regular ≡ some c → ((j : ℕ) → in_set j (membership_at n q l p i).cpcs ≡ true → CpcCame p i c j) → (j : ℕ)
          → in_set j (membership_at n q l (suc p) i).cpcs ≡ true → StayStep A p i → CpcCame (suc p) i c j
      go p a h j e (rested m) = same p h j e (ap (λ z. z.cpcs) m)
      go p a h j e (refused y m) = same p h j e (ap (λ z. z.cpcs) m)
      go p a h j e (took y z m) = taking p a h j e _ z (cpcs_change m)

  -- A CPC is put out at the end of an exchange, with a quorum, in the name of the sender and of the configuration.
  pub record Attempted (v k : ℕ) (c : Configuration) : Type 0 where
    pub act : Acts n q l v k
    pub ended : EndsExchange (memory_at n q l v k) act.by.event
    pub constructs : (membership_at n q l (suc v) k).mode ≡ Construct

  pub cpc_attempted : {v k j a d : ℕ} {c : Configuration} → Puts A v k j c (cpc a d) → Attempted v k c × (d ≡ c.id) × (j ≡ 0)
  unfolding here_id the_id
  cpc_attempted {v} {k} {j} {a} {d} {c} u =
      let h = cpc_sent (puts_by A u) a d (puts_among A u) in (
        record { act = u.act; ended = h.ended; constructs = ap (λ s. s.membership.mode) u.act.memory_next ∙ h.to },
        h.configuration ∙ ap the_id (puts_configuration A u),
        alone_first u.act.by.records _ j _ h.alone u.record-there,
      )
