-- The used parts of an image: how long they are, and what writing them twice gives.
use Prim.Native.Nat.{ℕ, suc, ◌*◌, ◌≤◌}
use mathlib.Core.Path.{◌≡◌, refl, sym, ap, ap₂, ◌∙◌}
use mathlib.Core.List.{List, [], ◌∷◌, ◌++◌, append_assoc, append-nil, map-append}
use mathlib.Core.Option.{Option, none, some}
use native.Mathlib.Nat.{suc-mul}
use native.Mathlib.Omega.{arith}
use lib.ListN.{length, take, drop, length-append, length-take, length-drop}
use lib.Seq.{drop_at, take_at}
use Rattle.base.specs.Bytes.{bytes_of, joined, slot}
use Rattle.base.proofs.BytesLaws.{joined_append}
use Rattle.base.specs.Lists.{Each}
use Rattle.base.proofs.Over.{over_length, over_again, slot_length}
use Rattle.format.specs.Types.{Id, Action, State, state}
use Rattle.format.specs.Write.{write, id_bytes, ids_bytes, action_bytes, primary_bytes, mark_bytes}
use Rattle.format.proofs.Lengths.{action_length}
use Rattle.format.proofs.Ranges.{PayloadRange}
use Rattle.record.specs.declared.State.{State as Numbers}
use Rattle.writer.specs.Blocks.{yellow_head_bytes}
use Rattle.replication.specs.Machine.Types.{Server}
use Rattle.image.specs.Layout.{slot_size, header_size}
use Rattle.image.specs.Header.{header_of, written, membership_bytes, counts_bytes, header_written}
use Rattle.image.specs.Image.{header_bytes, noted_bytes, state_over, states_over, action_slots}

-- ---- slots

pub action_slot_length : (a : Action) → PayloadRange a.payload → length (slot slot_size (action_bytes a)) ≡ slot_size
action_slot_length a r = slot_length slot_size (action_bytes a) (omega (arith, action_length a, r.most))

-- An action whose payload fits its slot.
abbrev pub ActionFits : Action → Type 0
ActionFits a = PayloadRange a.payload

pub action_slots_length : (l : List Action) → Each ActionFits l → length (action_slots l) ≡ slot_size * length l
unfolding action_slots joined
action_slots_length [] h = refl
action_slots_length (a ∷ l) h =
    length-append (slot slot_size (action_bytes a)) (action_slots l) ∙ omega (arith, action_slot_length a h.0, action_slots_length l h.1)

-- ---- lists one behind the other

pub slots_append : (x y : List Action) → action_slots (x ++ y) ≡ action_slots x ++ action_slots y
unfolding action_slots
slots_append x y = ap joined (map-append _ x y) ∙ joined_append _ _

pub ids_append : (xs ys : List Id) → ids_bytes (xs ++ ys) ≡ ids_bytes xs ++ ids_bytes ys
unfolding ids_bytes joined
ids_append [] ys = refl
ids_append (x ∷ xs) ys = simp append-nil (ap (λ (l : List ℕ). id_bytes x ++ l) (ids_append xs ys) ∙ sym (append_assoc (id_bytes x) (ids_bytes xs) (ids_bytes ys)))

-- ---- noted lengths

pub noted_length : (l : List ℕ) → length (noted_bytes l) ≡ 4 * length l
unfolding noted_bytes bytes_of
noted_length [] = refl
noted_length (x ∷ l) = omega (arith, noted_length l)

-- ---- the header

pub written_length : (h : Numbers) → length (header_written h) ≡ header_size
unfolding header_written membership_bytes counts_bytes written yellow_head_bytes bytes_of joined primary_bytes mark_bytes
written_length h = refl

pub header_length : (s : Server) → length (header_bytes s) ≡ header_size
unfolding header_bytes
header_length s = written_length (header_of s)

-- ---- States

-- A State that fits its slot, if there.
abbrev pub StateFits : ℕ → Option State → Type 0
StateFits size none = Unit {0}
StateFits size (some x) = length (write (state x)) ≤ size

pub state_over_length : (size : ℕ) (x : Option State) (l : List ℕ) → StateFits size x → length l ≡ size → length (state_over x l) ≡ size
unfolding state_over
state_over_length size none l h e = e
state_over_length size (some x) l h e = over_length (write (state x)) l (omega arith) ∙ e

state_over_again : (x : Option State) (l : List ℕ) → state_over x (state_over x l) ≡ state_over x l
unfolding state_over
state_over_again none l = refl
state_over_again (some x) l = over_again (write (state x)) l

-- The first of at least one slot.
pub first_slot : (size m : ℕ) (l : List ℕ) → suc m * size ≤ length l → length (take size l) ≡ size
first_slot size m l h = length-take size l ∙ omega (arith, suc-mul m size)

pub more_slots : (size m : ℕ) (l : List ℕ) → suc m * size ≤ length l → m * size ≤ length (drop size l)
more_slots size m l h = omega (arith, suc-mul m size, length-drop size l)

pub states_over_length : (size : ℕ) (xs : List (Option State)) (l : List ℕ) → Each (StateFits size) xs → length xs * size ≤ length l
    → length (states_over size xs l) ≡ length l
unfolding states_over
states_over_length size [] l f h = refl
states_over_length size (x ∷ xs) l f h =
    let one : length (take size l) ≡ size = first_slot size (length xs) l h in
    let more : length xs * size ≤ length (drop size l) = more_slots size (length xs) l h in
    length-append (state_over x (take size l)) (states_over size xs (drop size l))
    ∙ omega (arith, state_over_length size x (take size l) f.0 one, states_over_length size xs (drop size l) f.1 more, length-drop size l, length-take size l)

pub states_over_again : (size : ℕ) (xs : List (Option State)) (l : List ℕ) → Each (StateFits size) xs → length xs * size ≤ length l
    → states_over size xs (states_over size xs l) ≡ states_over size xs l
unfolding states_over
states_over_again size [] l f h = refl
states_over_again size (x ∷ xs) l f h =
    let one : length (take size l) ≡ size = first_slot size (length xs) l h in
    let more : length xs * size ≤ length (drop size l) = more_slots size (length xs) l h in
    let y : List ℕ = state_over x (take size l) in
    let r : List ℕ = states_over size xs (drop size l) in
    let long : length y ≡ size = state_over_length size x (take size l) f.0 one in
    let first : take size (y ++ r) ≡ y = take_at y r size long in
    let rest : drop size (y ++ r) ≡ r = drop_at y r size long in
    ap₂ {A = List ℕ} {B = List ℕ} {C = List ℕ} (λ u v. u ++ v) (ap (state_over x) first ∙ state_over_again x (take size l))
    (ap (states_over size xs) rest ∙ states_over_again size xs (drop size l) f.1 more)
