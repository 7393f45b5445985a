-- Changes of a state's membership in place.
use Prim.Native.Nat.{ℕ, zero, suc, ◌+◌}
use mathlib.Core.Path.{◌≡◌, refl, sym, ap, ◌∙◌}
use mathlib.Core.List.{List}
use mathlib.Core.Logic.{inl, inr}
use Rattle.base.proofs.Prefixes.{begins_refl}
use Rattle.base.specs.Tests.{pick}
use Rattle.base.specs.Lists.{is_there, Begins}
use Rattle.record.specs.declared.State.{State}
use Rattle.replication.specs.Machine.Types.{Votes, Membership, Server, no_states}
use Rattle.image.specs.Image.{image}
use Rattle.image.specs.Header.{header_of, header_in, senders}
use Rattle.image.proofs.HeaderLaws.{header_loaded}
use Rattle.image.specs.Holding.{Becomes}
use Rattle.updates.specs.Lists.{changed_to, Shortened, NumbersOf, BecomesNumbered}

-- No State is in.
pub senders_none : (k n : ℕ) → senders k (no_states n) ≡ 0
unfolding senders no_states is_there pick
senders_none k zero = refl
senders_none k (suc n) = senders_none (k + 1) n

-- Only the membership changes, and its States stay.
pub membership_kept : (s : Server) (m : Membership) → m.states ≡ s.membership.states → Shortened s s.log s.votes m
membership_kept s m e =
    record { cuts = refl; queued = refl; own = begins_refl _; yellow = begins_refl _; states = inl e }

-- They are dropped.
pub membership_dropped : (s : Server) (m : Membership) → m.states ≡ no_states s.servers → Shortened s s.log s.votes m
membership_dropped s m e =
    record { cuts = refl; queued = refl; own = begins_refl _; yellow = begins_refl _; states = inr e }

-- Only the votes change: the yellow list stays, or is empty.
pub votes_kept : (s : Server) (v : Votes) → Begins v.yellow.ids s.votes.yellow.ids → Shortened s s.log v s.membership
votes_kept s v e =
    record { cuts = refl; queued = refl; own = begins_refl _; yellow = e; states = inl refl }

-- The numbers h of f s are written, where f s is s with other numbers.
pub change_made : (f : Server → Server) (b c : List ℕ) → ((s : Server) → f s ≡ changed_to s (f s).log (f s).votes (f s).membership)
    → ((s : Server) → Shortened s (f s).log (f s).votes (f s).membership) → (h : State) → NumbersOf f (header_in b) h → BecomesNumbered h b c
    → Becomes f b c
change_made f b c same short h meant saved s r =
    saved s (f s).log (f s).votes (f s).membership r (short s) (meant s (header_loaded s b r) ∙ ap header_of (same s))
    ∙ ap (λ (t : Server). image t b) (sym (same s))

-- ---- the header of a state without States

-- The numbers h with this set of senders.
abbrev with_senders : State → ℕ → State
with_senders h k = record {
  layout = h.layout;
  servers = h.servers;
  quota = h.quota;
  me = h.me;
  mode = h.mode;
  configuration_status = h.configuration_status;
  configuration_id = h.configuration_id;
  configuration_set = h.configuration_set;
  transitional_status = h.transitional_status;
  transitional_set = h.transitional_set;
  states = k;
  cpcs = h.cpcs;
  come = h.come;
  queue_length = h.queue_length;
  green_count = h.green_count;
  numbered = h.numbered;
  own_count = h.own_count;
  sent = h.sent;
  attempt = h.attempt;
  last = h.last;
  mark = h.mark;
  yellow_status = h.yellow_status;
  yellow_count = h.yellow_count;
}

pub without_senders : (t : Server) (n : ℕ) → t.membership.states ≡ no_states n → with_senders (header_of t) 0 ≡ header_of t
unfolding header_of
without_senders t n e = ap (λ (k : ℕ). with_senders (header_of t) k) (sym (ap (senders 0) e ∙ senders_none 0 n))

-- ---- one member more
