-- CPCs in one configuration: each server sends one at most, at its marking; whoever installs has one of each member.
use Prim.Native.Nat.{ℕ, suc, ◌≤◌}
use mathlib.Core.Path.{◌≡◌, refl, sym, ap, subst, ◌∙◌}
use mathlib.Core.Bool.{true}
use native.Mathlib.Omega.{arith}
use Rattle.base.specs.Sets.{in_set}
use Rattle.base.proofs.SetLaws.{inside_member}
use Rattle.format.specs.Types.{Record, cpc}
use Rattle.replication.specs.Machine.Types.{Configuration, Server}
use Rattle.replication.specs.Machine.Step.{the_set}
use Rattle.replication.proofs.WellFormed.SentFacts.{sender_of}
use Rattle.replication.specs.Laws.Votes as E
use Rattle.replication.specs.Laws.Votes.{EndsExchange}
use Rattle.replication.specs.Runs.Run.{Run}
use Rattle.replication.specs.Runs.Happenings.{Message, Sends}
use Rattle.replication.proofs.Runs.Roomy.{Roomy as Allowed}
use Rattle.replication.proofs.Runs.Deliveries.{Delivery}
use Rattle.replication.proofs.Runs.Order.{delivered_once}
use Rattle.replication.proofs.Runs.StateOrigins.{Came}
use Rattle.replication.proofs.Runs.CpcOrigins.{cpcs_came, cpc_attempted}
use Rattle.replication.proofs.Runs.Progress.{Installable}
use Rattle.replication.proofs.Runs.Stays.{membership_at, stay_configuration}
use Rattle.replication.proofs.Agreement.Terms.{MarksAt}
use Rattle.replication.proofs.Agreement.Exchange.Stages.{stage, InCom, rises_once, had_before}
use Rattle.replication.proofs.Agreement.Exchange.Messages.{same_message_lem, sent_in_lem}
use Rattle.replication.proofs.Agreement.Exchange.Marked.{marked_in_stay}

-- An exchange ends for a server that is in it.
ending_stage : {s : Server} {r : Record} → EndsExchange s r → stage s.membership.mode ≤ 1
unfolding stage
ending_stage (E.with_states e h) = omega (arith, ap stage e)
ending_stage (E.with_actions e h) = omega (arith, ap stage e)

module _ {n q : ℕ} {l : Run} (A : Allowed n q l) where
  -- The message m is the CPC that the server k sent in c.
  pub record CpcMessage (m : Message) (k : ℕ) (c : Configuration) : Type 0 where
    pub first : m.number ≡ 0
    pub sends : Sends n q l k m c
    pub member : in_set k c.set ≡ true
    pub before : InCom n q l m.sending k c
    pub after : InCom n q l (suc m.sending) k c
    pub early : stage (membership_at n q l m.sending k).mode ≤ 1
    pub marking : 3 ≤ stage (membership_at n q l (suc m.sending) k).mode

  pub cpc_message : {p i k x : ℕ} {m : Message} {c : Configuration} (d : Delivery A p i m) → d.what ≡ cpc k x → InCom n q l p i c
      → CpcMessage m k c × (x ≡ c.id)
  unfolding sender_of stage
  cpc_message {p} {i} {k} {x} {m} {c} d e a =
      let u = sent_in_lem A k c d e refl a in
      let w = cpc_attempted A u.puts in
      let z = ap (λ y. y.regular) u.puts.in_regular_lem in
      let t : 3 ≤ stage (membership_at n q l (suc m.sending) k).mode = omega (arith, ap stage w.0.constructs) in (
        record {
          first = w.2;
          sends = u.sends;
          member = u.member;
          before = had_before A k c m.sending z (omega (arith, t));
          after = z;
          early = ending_stage w.0.ended;
          marking = t;
        },
        w.1,
      )

  -- A server sends one CPC in a configuration.
  pub one_cpc : {m m' : Message} {k : ℕ} {c : Configuration} → CpcMessage m k c → CpcMessage m' k c → m ≡ m'
  one_cpc {m} {m'} {k} {c} u v =
      same_message_lem
      (rises_once A k c 1 m.sending m'.sending u.before u.after v.before v.after u.early (omega (arith, u.marking)) v.early
      (omega (arith, v.marking)))
      (u.first ∙ sym v.first)

  -- A server's CPC comes once to each server.
  pub cpc_comes_once : {p r i k x y : ℕ} {m m' : Message} {c : Configuration} (d : Delivery A p i m) (e : Delivery A r i m')
      → d.what ≡ cpc k x → e.what ≡ cpc k y → InCom n q l p i c → InCom n q l r i c → p ≡ r
  cpc_comes_once {p} {r} {i} {k} {x} {y} {m} {m'} {c} d e f g a b =
      delivered_once A d (subst (λ z. Delivery A r i z) (sym (one_cpc (cpc_message d f a).0 (cpc_message e g b).0)) e)

  -- Whoever sent a CPC marked by then.
  pub cpc_marked : {m : Message} {k : ℕ} {c : Configuration} → CpcMessage m k c → (r : ℕ) × (r ≤ m.sending) × MarksAt n q l r k c
  cpc_marked {m} {k} {c} u = let x = marked_in_stay A (suc m.sending) k c u.after u.marking in (x.0, omega (arith, x.1), x.2)

  -- With every CPC in, each member's has come.
  pub every_cpc_came : (p i : ℕ) (c : Configuration) → InCom n q l p i c → Installable n (membership_at n q l p i) → (k : ℕ) → in_set k c.set ≡ true
      → (x : ℕ) × Came A p i c (cpc k x)
  unfolding the_set
  every_cpc_came p i c here h k m =
      cpcs_came A i c p here k
      (inside_member (the_set (membership_at n q l p i).configuration) (membership_at n q l p i).cpcs k h.all_cpcs
      (ap (λ d. in_set k (the_set d)) (stay_configuration A p i c here) ∙ m))
