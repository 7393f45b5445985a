-- One step in an exchange: it changes no votes, and no States but by one that comes.
use Prim.Native.Nat.{ℕ}
use mathlib.Core.Path.{◌≡◌, refl, sym, ap, ◌∙◌}
use mathlib.Core.Bool.{Bool, true, false}
use mathlib.Core.List.{List}
use mathlib.Core.Logic.{◌⊎◌, inl, inr}
use mathlib.Core.Option.{Option, some}
use lib.ListN.{length, set, length-set}
use Rattle.base.proofs.TestLaws.{not_both}
use Rattle.format.specs.Types.{State, Record, action, retransmission, state, cpc, regular, transitional, request, recovery, says}
use Rattle.replication.specs.Machine.Types.{Mode, Configuration, Membership, Server}
use Rattle.replication.specs.Machine.Requests.{numbered, send_waiting, recovered}
use Rattle.replication.specs.Machine.Step.{decided, attempting, with_state, resending, one_more, exchanged, with_cpc, leave, green_and_note}
use Rattle.replication.specs.Images.{is_recovery}
use Rattle.replication.specs.Laws.Order.{in_exchange, hearing}
use Rattle.replication.specs.Laws.Transitions as L
use Rattle.replication.specs.Laws.Transitions.{Transition}
use Rattle.replication.proofs.Step.Control.{yellow_membership}
use Rattle.replication.proofs.Runs.Memberships as M
use Rattle.replication.proofs.Runs.Memberships.{Joinable, Completes, MembershipStep}

-- A server in an exchange was in one before, with the same votes, or has entered it now.
pub exchange_votes : {s : Server} {r : Record} {t : Server} {rs : List Record} {b : Bool} → Transition s r t rs b
    → (in_exchange t.membership.mode ≡ true)
    → ((in_exchange s.membership.mode ≡ true) × (t.votes ≡ s.votes)) ⊎ ((c : Configuration) × (r ≡ regular c.id c.set))
unfolding in_exchange green_and_note exchanged one_more with_state resending with_cpc send_waiting numbered leave recovered attempting decided
exchange_votes (L.ignores_state x e) h = inl (h, refl)
exchange_votes (L.ignores_cpc k j e) h = inl (h, refl)
exchange_votes (L.reddens a e) h = inl (h, refl)
exchange_votes (L.reddens_resent k p a e) h = inl (h, refl)
exchange_votes (L.reddens_in_exchange a e) h = inl (h, refl)
exchange_votes (L.greens a e) h = inl (h, refl)
exchange_votes {s} (L.yellows a e) h = not_both (sym (ap (λ m. in_exchange m.mode) (yellow_membership a s) ∙ ap in_exchange e) ∙ h)
exchange_votes (L.installs_late a e) h = not_both h
exchange_votes (L.exchanges k p a e c) h = inl (h, refl)
exchange_votes (L.exchanges_last k p a t rs e c (L.with_quorum q)) h = not_both h
exchange_votes (L.exchanges_last k p a t rs e c (L.without_quorum q)) h = not_both h
exchange_votes (L.collects x e c) h = inl (h, refl)
exchange_votes (L.collects_last x e c d) h = inl (ap in_exchange e, refl)
exchange_votes (L.collects_whole x t rs e c d (L.with_quorum q)) h = not_both h
exchange_votes (L.collects_whole x t rs e c d (L.without_quorum q)) h = not_both h
exchange_votes (L.counts k j e c) h = inl (h, refl)
exchange_votes (L.installs k j e c) h = not_both h
exchange_votes (L.counts_late k j e c) h = inl (h, refl)
exchange_votes (L.counts_all_late k j e c) h = not_both h
exchange_votes (L.joins c e) h = inr (c, refl)
exchange_votes (L.joins_marked c e) h = inr (c, refl)
exchange_votes (L.joins_unmarked c e) h = inr (c, refl)
exchange_votes (L.joins_yellow c e) h = inr (c, refl)
exchange_votes (L.leaves m o x e L.stays) h = not_both h
exchange_votes (L.leaves m o x e L.parts) h = not_both h
exchange_votes (L.leaves m o x e L.interrupts_states) h = not_both h
exchange_votes (L.leaves m o x e L.interrupts_actions) h = not_both h
exchange_votes (L.leaves m o x e L.interrupts_construct) h = not_both h
exchange_votes (L.sends p c) h = inl (h, refl)
exchange_votes (L.numbers p c) h = inl (h, refl)
exchange_votes L.recovers h = not_both h

-- The States after a record that may bring one.
abbrev pub with_heard : Record → List (Option State) → List (Option State)
with_heard (action a) xs = xs
with_heard (retransmission k p a) xs = xs
with_heard (state x) xs = set xs x.sender (some x)
with_heard (cpc k i) xs = xs
with_heard (regular i c) xs = xs
with_heard (transitional c) xs = xs
with_heard (request p) xs = xs
with_heard recovery xs = xs

pub hearing_states : (r : Record) (s : Server) → (hearing r s).membership.states ≡ with_heard r s.membership.states
unfolding hearing with_state
hearing_states (action a) s = refl
hearing_states (retransmission k p a) s = refl
hearing_states (state x) s = refl
hearing_states (cpc k i) s = refl
hearing_states (regular i c) s = refl
hearing_states (transitional c) s = refl
hearing_states (request p) s = refl
hearing_states recovery s = refl

-- Beside its States, hearing changes nothing.
pub record HeardSame (s t : Server) : Type 0 where
  pub servers : t.servers ≡ s.servers
  pub me : t.me ≡ s.me
  pub votes : t.votes ≡ s.votes
  pub mode : t.membership.mode ≡ s.membership.mode
  pub configuration : t.membership.configuration ≡ s.membership.configuration

pub hearing_same : (r : Record) (s : Server) → HeardSame s (hearing r s)
unfolding hearing with_state
hearing_same (action a) s = record { servers = refl; me = refl; votes = refl; mode = refl; configuration = refl }
hearing_same (retransmission k p a) s = record { servers = refl; me = refl; votes = refl; mode = refl; configuration = refl }
hearing_same (state x) s = record { servers = refl; me = refl; votes = refl; mode = refl; configuration = refl }
hearing_same (cpc k i) s = record { servers = refl; me = refl; votes = refl; mode = refl; configuration = refl }
hearing_same (regular i c) s = record { servers = refl; me = refl; votes = refl; mode = refl; configuration = refl }
hearing_same (transitional c) s = record { servers = refl; me = refl; votes = refl; mode = refl; configuration = refl }
hearing_same (request p) s = record { servers = refl; me = refl; votes = refl; mode = refl; configuration = refl }
hearing_same recovery s = record { servers = refl; me = refl; votes = refl; mode = refl; configuration = refl }

pub heard_length : (r : Record) (xs : List (Option State)) → length (with_heard r xs) ≡ length xs
heard_length (action a) xs = refl
heard_length (retransmission k p a) xs = refl
heard_length (state x) xs = length-set xs x.sender (some x)
heard_length (cpc k i) xs = refl
heard_length (regular i c) xs = refl
heard_length (transitional c) xs = refl
heard_length (request p) xs = refl
heard_length recovery xs = refl

completes_kept : {n : ℕ} {m : Membership} {r : Record} {o : Membership} → Completes n m r o
    → (o.configuration ≡ m.configuration) × (o.states ≡ with_heard r m.states)
completes_kept (M.by_state x e c d) = (refl, refl)
completes_kept (M.by_retransmission k p a e c) = (refl, refl)

not_in_exchange : {X : Type 0} {m o : Mode} → m ≡ o → in_exchange m ≡ true → in_exchange o ≡ false → X
not_in_exchange e h f = not_both (sym f ∙ ap in_exchange (sym e) ∙ h)

not_joinable : {m : Mode} → Joinable m → in_exchange m ≡ false
unfolding in_exchange
not_joinable M.from_non_prim = refl
not_joinable M.from_trans_prim = refl
not_joinable M.from_no = refl
not_joinable M.from_un = refl

-- In an exchange an event brings a State, or leaves the States and the configuration as they are.
pub exchange_kept : {n : ℕ} {m : Membership} {r : Record} {o : Membership} → MembershipStep n m r o → in_exchange m.mode ≡ true
    → is_recovery (says r) ≡ false
    → (o.configuration ≡ m.configuration) × (o.states ≡ with_heard r m.states)
unfolding in_exchange is_recovery
exchange_kept (M.ignores r e f) h g = not_in_exchange f h refl
exchange_kept (M.acts a o e t) h g = (refl, refl)
exchange_kept (M.asks p) h g = (refl, refl)
exchange_kept (M.collects x e c) h g = (refl, refl)
exchange_kept (M.resends x e c d) h g = (refl, refl)
exchange_kept (M.counts k p a e c) h g = (refl, refl)
exchange_kept (M.attempts r o c q) h g = completes_kept c
exchange_kept (M.settles r o c q) h g = completes_kept c
exchange_kept (M.counts_cpc k i e c) h g = (refl, refl)
exchange_kept (M.installs k i e c) h g = (refl, refl)
exchange_kept (M.counts_late_cpc k i e c) h g = (refl, refl)
exchange_kept (M.counts_last_cpc k i e c) h g = (refl, refl)
exchange_kept (M.installs_late a e) h g = (refl, refl)
exchange_kept (M.joins c o e j) h g = not_in_exchange e h (not_joinable j)
exchange_kept (M.leaves o u x e y) h g = (refl, refl)
exchange_kept M.recovers h g = not_both (sym g)
