-- Where a buffer holds a state, its slots have room.
use Prim.Native.Nat.{ℕ, zero, suc, ◌+◌, ◌*◌, ◌^◌, ◌<◌}
use mathlib.Core.Path.{◌≡◌, refl, sym, ap, subst, ◌∙◌}
use mathlib.Core.Bool.{true}
use mathlib.Core.List.{List}
use mathlib.Core.Option.{Option, none, some}
use native.Mathlib.Nat.{zero-add, one-le-pow}
use native.Mathlib.Omega.{arith}
use lib.ListN.{length, get_or, drop}
use Rattle.base.specs.Tests.{pick}
use Rattle.base.proofs.TestLaws.{pick_yes}
use Rattle.base.proofs.Branches.{same_truth}
use Rattle.base.specs.Lists.{is_there, sum}
use Rattle.base.specs.Sets.{in_set, inside}
use Rattle.base.proofs.SetLaws.{members_inside, inside_member}
use Rattle.format.specs.Types.{State}
use Rattle.format.specs.Read.{state_at}
use Rattle.replication.specs.Machine.Types.{Configuration, Server, context_of}
use Rattle.replication.specs.Machine.Step.{the_set, all_from, all_states_in, here_set}
use Rattle.replication.specs.Machine.WellFormed.{well_formed}
use Rattle.replication.proofs.WellFormed.Facts.{well_formed_facts}
use Rattle.replication.proofs.WellFormed.Modes.{from_facts, from_ok}
use Rattle.image.specs.Layout.{state_size, sections, state_length, the_states, offset}
use Rattle.image.specs.Header.{senders}
use Rattle.image.specs.Decode.{states_at}
use Rattle.image.proofs.InRange.{in_range}
use Rattle.image.proofs.Slots.{in_senders}
use Rattle.image.specs.Holding.{Holds}
use Rattle.exchange.specs.declared.slots.Slots.{Slots}
use Rattle.exchange.specs.Slots.{Space, Room, slots_of, slots_in, slot_at, state_in}
use Rattle.exchange.proofs.Collected.{states_there}

pub states_at_lem : (n q here : ℕ) (b : List ℕ) (m k at j : ℕ) → j < m
    → get_or (states_at n q here m k b at) j none ≡ pick (in_set (k + j) here) (some (state_at n (drop (at + j * state_size n q) b))) none
unfolding states_at
states_at_lem n q here b zero k at j h = absurd (omega arith)
states_at_lem n q here b (suc m) k at zero h =
    let z : at ≡ at + 0 * state_size n q = omega arith in
    let y : k ≡ k + 0 = omega arith in
    λ i. pick (in_set (y i) here) (some (state_at n (drop (z i) b))) none
states_at_lem n q here b (suc m) k at (suc j) h =
    let z : at + state_size n q + j * state_size n q ≡ at + suc j * state_size n q = omega arith in
    let y : k + 1 + j ≡ k + suc j = omega arith in
    states_at_lem n q here b m (k + 1) (at + state_size n q) j (omega arith)
    ∙ (λ i. pick (in_set (y i) here) (some (state_at n (drop (z i) b))) none)

-- The State that is in at the place k.
pub state_there : (s : Server) (b : List ℕ) → Holds s b → (k : ℕ) → k < s.servers → in_set k (senders 0 s.membership.states) ≡ true
    → get_or s.membership.states k none ≡ some (state_in (slots_in s) b k)
unfolding slots_in state_in slots_of slot_at
state_there s b h k l t =
    let z : in_set (0 + k) (senders 0 s.membership.states) ≡ true = ap (λ (n : ℕ). in_set n (senders 0 s.membership.states)) (zero-add k) ∙ t in
    ap (λ (xs : List (Option State)). get_or xs k none) (sym (states_there s b h))
    ∙ states_at_lem s.servers s.quota (senders 0 s.membership.states) b s.servers 0 (offset s.servers s.quota the_states) k l
    ∙ sym (pick_yes (in_set (0 + k) (senders 0 s.membership.states)) _ _ _ z refl)

pub holds_room : (s : Server) (b : List ℕ) → Holds s b → Room (slots_in s) b
unfolding slots_in slots_of state_size offset sections sum state_length context_of
holds_room s b h =
    record {
      space = record { servers = (in_range s h.formed).context.sizes.most; long = omega arith; inside = omega (arith, h.long) };
      senders = λ k l t. ((well_formed_facts s h.formed).membership.states k _ (state_there s b h k l t)).sender;
    }

-- ---- the slots as the code computes them

pub slots_made : (n q size at here : ℕ) → size ≡ state_size n q → at ≡ offset n q the_states
    → ◌≡◌ {A = Slots} (record { servers = n; size = size; at = at; here = here }) (slots_of n q here)
unfolding slots_of
slots_made n q size at here e f = λ i. record { servers = n; size = e i; at = f i; here = here }

pub space_made : (n q size at here : ℕ) (b : List ℕ) → size ≡ state_size n q → at ≡ offset n q the_states → Space (slots_of n q here) b
    → Space (record { servers = n; size = size; at = at; here = here }) b
space_made n q size at here b e f s = subst (λ (v : Slots). Space v b) (sym (slots_made n q size at here e f)) s

-- ---- every member's State is in

in_senders_at : (xs : List (Option State)) (j : ℕ) → in_set j (senders 0 xs) ≡ is_there (get_or xs j none)
in_senders_at xs j = ap (λ (m : ℕ). in_set m (senders 0 xs)) (sym (zero-add j)) ∙ in_senders 0 xs j

pub all_from_inside : (here : ℕ) (xs : List (Option State)) → here < 2 ^ length xs → all_from here 0 xs ≡ inside here (senders 0 xs)
all_from_inside here xs h =
    same_truth _ _ (λ t. members_inside (length xs) here (senders 0 xs) h
    (λ j l e. in_senders_at xs j ∙ from_facts here 0 xs t j l (ap (λ (m : ℕ). in_set m here) (zero-add j) ∙ e)))
    (λ t. from_ok here 0 xs (λ j l e. sym (in_senders_at xs j) ∙ inside_member here (senders 0 xs) j t (ap (λ (m : ℕ). in_set m here) (sym (zero-add j)) ∙ e)))

here_below : (s : Server) → well_formed s ≡ true → (d : Option Configuration) → s.membership.configuration ≡ d → the_set d < 2 ^ s.servers
unfolding the_set
here_below s ok none e = one-le-pow s.servers 2 (omega arith)
here_below s ok (some d) e = ((well_formed_facts s ok).membership.configuration d e).set.below

pub all_states_in_lem : (s : Server) → well_formed s ≡ true → all_states_in s ≡ inside (here_set s) (senders 0 s.membership.states)
unfolding all_states_in here_set
all_states_in_lem s ok =
    let long : length s.membership.states ≡ s.servers = (well_formed_facts s ok).membership.states_length in
    all_from_inside (the_set s.membership.configuration) s.membership.states (rw long (here_below s ok s.membership.configuration refl))
