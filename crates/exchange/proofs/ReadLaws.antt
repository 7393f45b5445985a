-- The numbers of a State, read from its slot.
use Prim.Native.Nat.{ℕ, ◌+◌, ◌*◌, ◌-◌, ◌<◌, ◌≤◌}
use mathlib.Core.Path.{◌≡◌, refl, sym, ap, ◌∙◌}
use mathlib.Core.List.{List}
use native.Mathlib.Omega.{arith}
use lib.ListN.{length, take, drop}
use Rattle.base.specs.Bytes.{number_at}
use Rattle.base.proofs.BytesLaws.{numbers_at_lem, number_drop}
use Rattle.base.proofs.Over.{rest_whole}
use Rattle.format.specs.Types.{State}
use Rattle.format.specs.Read.{state_at}
use Rattle.record.specs.Events.{head_in, state_from}
use Rattle.record.specs.Values.{state_of}
use Rattle.record.specs.declared.events.StateHead.{StateHead}
use Rattle.record.proofs.PartLaws.{state_is}
use Rattle.replication.specs.Machine.Plan.{cut_in, green_in}
use Rattle.exchange.specs.declared.slots.Slots.{Slots}
use Rattle.exchange.specs.Slots.{Space, slot_at, state_in, head_of}
use Rattle.exchange.proofs.SlotLaws.{slot_inside}
use Rattle.format.specs.Places.{state_cuts_at, standing_size}

pub place_made : (v : Slots) (b : List ℕ) (k : ℕ) → Space v b → k < v.servers
    → (v.at + k * v.size ≡ slot_at v k) × (v.at + k * v.size + v.size ≤ length b)
unfolding slot_at
place_made v b k r h = (refl, slot_inside v b k r h)

pub head_made : (v : Slots) (b : List ℕ) (k at : ℕ) (x : StateHead) → at ≡ slot_at v k
    → x ≡ head_in v.servers (take (length b - at) (drop at b)) (state_cuts_at + 2 * v.servers)
    → x ≡ head_of v b k
unfolding head_of
head_made v b k at x e h =
    let whole : take (length b - at) (drop at b) ≡ drop at b = rest_whole b at in
    h ∙ ap (λ (l : List ℕ). head_in v.servers l (state_cuts_at + 2 * v.servers)) (whole ∙ ap (λ (i : ℕ). drop i b) e)

-- The numbers and lists in the slot k stand for its State.
pub state_stands : (v : Slots) (b : List ℕ) (k : ℕ) (x : StateHead) → x ≡ head_of v b k
    → state_of x (drop (slot_at v k) b) state_cuts_at (drop (slot_at v k) b) (state_cuts_at + 2 * v.servers + standing_size) ≡ state_in v b k
unfolding head_of state_in state_from
state_stands v b k x h = rw h (state_is v.servers (drop (slot_at v k) b))

-- ---- numbers

pub cut_read : (v : Slots) (b : List ℕ) (k c at x : ℕ) → c < v.servers → at ≡ slot_at v k → x ≡ number_at 2 b (at + state_cuts_at + 2 * c)
    → x ≡ cut_in c (state_in v b k)
unfolding cut_in state_in state_at
cut_read v b k c at x h e i =
    let z : at + state_cuts_at + 2 * c ≡ at + (state_cuts_at + 2 * c) = omega arith in
    i ∙ ap (number_at 2 b) z ∙ sym (number_drop 2 b at (state_cuts_at + 2 * c)) ∙ ap (λ (p : ℕ). number_at 2 (drop p b) (state_cuts_at + 2 * c)) e
    ∙ sym (numbers_at_lem 2 v.servers (drop (slot_at v k) b) state_cuts_at c h)

pub green_read : (v : Slots) (b : List ℕ) (k : ℕ) (x : StateHead) → x ≡ head_of v b k → x.green_length ≡ green_in (state_in v b k)
unfolding green_in state_of
green_read v b k x h = ap (λ (s : State). s.green_length) (state_stands v b k x h)

pub sender_read : (v : Slots) (b : List ℕ) (k : ℕ) (x : StateHead) → x ≡ head_of v b k → (state_in v b k).sender ≡ x.sender
unfolding state_of
sender_read v b k x h = ap (λ (s : State). s.sender) (sym (state_stands v b k x h))
