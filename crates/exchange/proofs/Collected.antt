-- The collected States of a state are those in the slots of the buffer that holds it.
use Prim.Native.Nat.{ℕ, zero, suc, ◌+◌}
use mathlib.Core.Path.{◌≡◌, refl, sym, ap, ◌∙◌}
use mathlib.Core.Bool.{Bool, true, false}
use mathlib.Core.List.{List, ◌∷◌}
use mathlib.Core.Option.{Option, none, some}
use native.Mathlib.Omega.{arith}
use lib.ListN.{drop}
use Rattle.base.specs.Tests.{pick}
use Rattle.base.specs.Lists.{present, at_front}
use Rattle.base.specs.Sets.{in_set}
use Rattle.format.specs.Read.{state_at}
use Rattle.replication.specs.Machine.Types.{Server}
use Rattle.replication.specs.Machine.Step.{collected}
use Rattle.image.specs.Layout.{state_size, the_states, offset}
use Rattle.image.specs.Decode.{states_at, decoded, decoded_as, servers_in, quota_in}
use Rattle.image.specs.Header.{header_of, header_in, senders}
use Rattle.image.proofs.HeaderLaws.{header_loaded}
use Rattle.image.proofs.InPlace.{holds_decoded}
use Rattle.image.specs.Holding.{Holds}
use Rattle.exchange.specs.Slots.{slots_of, slots_in, slot_at, state_in, states_from, states_of}

present_pick : {A : Type 0} (t : Bool) (x : A) (l : List (Option A)) → present (pick t (some x) none ∷ l) ≡ pick t (x ∷ present l) (present l)
unfolding present at_front pick
present_pick true x l = refl
present_pick false x l = refl

pub present_states : (n q here : ℕ) (b : List ℕ) (m k at : ℕ) → at ≡ slot_at (slots_of n q here) k
    → present (states_at n q here m k b at) ≡ states_from (slots_of n q here) b m k
unfolding states_at states_from slots_of slot_at state_in present
present_states n q here b zero k at e = refl
present_states n q here b (suc m) k at e =
    let next : at + state_size n q ≡ slot_at (slots_of n q here) (k + 1) = ap (λ (i : ℕ). i + state_size n q) e ∙ omega arith in
    present_pick (in_set k here) (state_at n (drop at b)) (states_at n q here m (k + 1) b (at + state_size n q))
    ∙ rw (present_states n q here b m (k + 1) (at + state_size n q) next, e)

pub states_there : (s : Server) (b : List ℕ) → Holds s b
    → states_at s.servers s.quota (senders 0 s.membership.states) s.servers 0 b (offset s.servers s.quota the_states) ≡ s.membership.states
unfolding decoded decoded_as servers_in quota_in header_in header_of
states_there s b h =
    let e : header_of s ≡ header_in b = sym (header_loaded s b h) in
    (λ i. states_at (e i).servers (e i).quota (e i).states (e i).servers 0 b (offset (e i).servers (e i).quota the_states))
    ∙ ap (λ (t : Server). t.membership.states) (holds_decoded s b h)

-- The code's States are the machine's.
pub collected_slots : (s : Server) (b : List ℕ) → Holds s b → states_of (slots_in s) b ≡ collected s
unfolding collected states_of slots_in slots_of slot_at
collected_slots s b h =
    sym (present_states s.servers s.quota (senders 0 s.membership.states) b s.servers 0 _ (omega arith))
    ∙ ap present (states_there s b h)
