-- Slots and numbers of an image, read where they occur.
use Prim.Native.Nat.{ℕ, zero, suc, ◌+◌, ◌*◌, ◌^◌, ◌≤◌, ◌<◌}
use mathlib.Core.Path.{◌≡◌, refl, sym, ap, ap₂, ◌∙◌}
use mathlib.Core.Bool.{Bool, true, false}
use mathlib.Core.List.{List, [], ◌∷◌}
use mathlib.Core.Option.{Option, none, some}
use native.Mathlib.Nat.{add-zero, one-le-pow}
use native.Mathlib.Omega.{arith}
use lib.ListN.{length, get_or, take, drop}
use Rattle.base.specs.Tests.{pick}
use Rattle.base.proofs.TestLaws.{pick_yes, pick_no}
use Rattle.base.specs.Bytes.{bytes_of, number_at, numbers_at, joined, over, slot}
use Rattle.base.specs.Lists.{is_there, Each}
use Rattle.base.proofs.Occurs.{Occurs, occurs_first, occurs_second, occurs_at, occurs_drop, joined_parts, number_read}
use Rattle.base.specs.Sets.{in_set, with_member}
use Rattle.base.proofs.SetLaws.{in_empty, member_other, member_same, with_member_below}
use Rattle.format.specs.Limits.{most_length_limit}
use Rattle.format.specs.Types.{Action, State, Context, state, kind_number, kind_of}
use Rattle.format.specs.Write.{write, framed, body_of, state_bytes, action_bytes}
use Rattle.format.specs.Read.{action_at, state_at}
use Rattle.format.proofs.Ranges.{ContextRange, ActionRange}
use Rattle.format.proofs.Fields.{action_read, state_read}
use Rattle.image.specs.Layout.{slot_size, state_size}
use Rattle.image.specs.Header.{senders}
use Rattle.image.specs.Image.{noted_bytes, state_over, states_over, action_slots}
use Rattle.image.specs.Decode.{actions_at, states_at}
use Rattle.image.proofs.InRange.{CollectedRange}
use Rattle.image.proofs.Used.{action_slot_length, StateFits, state_over_length, first_slot, more_slots}

pub actions_read : (c : Context) (l : List Action) (e : List ℕ) (at : ℕ) → ContextRange c → Each (ActionRange c) l → Occurs (action_slots l) e at
    → actions_at (length l) e at ≡ l
unfolding action_slots actions_at joined slot
actions_read c [] e at s r o = refl
actions_read c (a ∷ l) e at s r o =
    let first : action_at e at ≡ a = (action_read c a e at s r.0 (occurs_first (action_bytes a) _ e at (occurs_first (slot slot_size (action_bytes a)) (action_slots l) e at o))).1 in
    let place : at + length (slot slot_size (action_bytes a)) ≡ at + slot_size = ap (λ (m : ℕ). at + m) (action_slot_length a r.0.payload) in
    let rest = actions_read c l e (at + slot_size) s r.1 (occurs_second (slot slot_size (action_bytes a)) (action_slots l) e at (at + slot_size) place o) in
    ap₂ {A = Action} {B = List Action} {C = List Action} (λ x xs. x ∷ xs) first rest

-- As many are read as are asked for.

pub actions_count : (m : ℕ) (b : List ℕ) (at : ℕ) → length (actions_at m b at) ≡ m
unfolding actions_at
actions_count zero b at = refl
actions_count (suc m) b at = ap suc (actions_count m b (at + slot_size))

pub noted_read : (l : List ℕ) (e : List ℕ) (at : ℕ) → Each (λ x. x ≤ most_length_limit) l → Occurs (noted_bytes l) e at → numbers_at 4 (length l) e at ≡ l
unfolding noted_bytes numbers_at bytes_of
noted_read [] e at r o = refl
noted_read (x ∷ l) e at r o =
    let first : number_at 4 e at ≡ x = number_read 4 at (occurs_first (bytes_of 4 x) (noted_bytes l) e at o) refl (omega (arith, r.0)) in
    let rest = noted_read l e (at + 4) r.1 (occurs_second (bytes_of 4 x) (noted_bytes l) e at (at + 4) refl o) in
    ap₂ {A = ℕ} {B = List ℕ} {C = List ℕ} (λ y ys. y ∷ ys) first rest

-- ---- the set of those whose State is in

pub senders_from : (k : ℕ) (xs : List (Option State)) (j : ℕ) → j < k → in_set j (senders k xs) ≡ false
unfolding senders
senders_from k [] j h = in_empty j
senders_from k (x ∷ xs) j h =
    let other : j ≡ k → ⊥ = λ e. omega arith in
    member_other (is_there x) j k (senders (k + 1) xs) other ∙ senders_from (k + 1) xs j (omega arith)

pub in_senders : (k : ℕ) (xs : List (Option State)) (j : ℕ) → in_set (k + j) (senders k xs) ≡ is_there (get_or xs j none)
unfolding senders is_there
in_senders k [] j = in_empty (k + j)
in_senders k (x ∷ xs) zero =
    let here : k + 0 ≡ k = add-zero k in
    rw here (member_same (is_there x) k (senders (k + 1) xs) (senders_from (k + 1) xs k (omega arith)))
in_senders k (x ∷ xs) (suc j) =
    let there : k + suc j ≡ k + 1 + j = omega arith in
    let other : k + 1 + j ≡ k → ⊥ = λ e. omega arith in
    rw there (member_other (is_there x) (k + 1 + j) k (senders (k + 1) xs) other ∙ in_senders (k + 1) xs j)

member_below : (t : Bool) (n k s : ℕ) → k < n → s < 2 ^ n → pick t (with_member k s) s < 2 ^ n
unfolding pick
member_below true n k s h l = with_member_below n k s h l
member_below false n k s h l = l

pub senders_below : (n k : ℕ) (xs : List (Option State)) → k + length xs ≤ n → senders k xs < 2 ^ n
unfolding senders
senders_below n k [] h = one-le-pow n 2 (omega arith)
senders_below n k (x ∷ xs) h =
    member_below (is_there x) n k (senders (k + 1) xs) (omega arith) (senders_below n (k + 1) xs (omega arith))

-- ---- States

state_slot_read : (c : Context) (here k : ℕ) (x : Option State) (l e : List ℕ) (at : ℕ) → ContextRange c → CollectedRange c x → in_set k here ≡ is_there x
    → Occurs (state_over x l) e at → pick (in_set k here) (some (state_at c.servers (drop at e))) none ≡ x
unfolding state_over over is_there write framed body_of kind_number kind_of bytes_of
state_slot_read c here k none l e at s r t o = sym (pick_no (in_set k here) none _ _ t refl)
state_slot_read c here k (some x) l e at s r t o =
    let whole = occurs_first (write (state x)) _ e at o in
    let body = (joined_parts _ e at whole).1.1.1.0 in
    let behind : Occurs (state_bytes x) (drop at e) 4 = occurs_drop at 4 (occurs_at body (omega arith)) in
    sym (pick_yes (in_set k here) (some x) _ _ t (ap some (sym (state_read c x (drop at e) s r behind).1)))

pub states_read : (c : Context) (here k : ℕ) (xs : List (Option State)) (l e : List ℕ) (at : ℕ) → ContextRange c → Each (CollectedRange c) xs
    → Each (StateFits (state_size c.servers c.quota)) xs → length xs * state_size c.servers c.quota ≤ length l
    → ((j : ℕ) → j < length xs → in_set (k + j) here ≡ is_there (get_or xs j none))
    → Occurs (states_over (state_size c.servers c.quota) xs l) e at → states_at c.servers c.quota here (length xs) k e at ≡ xs
unfolding states_over states_at
states_read c here k [] l e at s r f h t o = refl
states_read c here k (x ∷ xs) l e at s r f h t o =
    let size : ℕ = state_size c.servers c.quota in
    let y : List ℕ = state_over x (take size l) in
    let long : length y ≡ size = state_over_length size x (take size l) f.0 (first_slot size (length xs) l h) in
    let now : in_set k here ≡ is_there x = ap (λ (m : ℕ). in_set m here) (sym (add-zero k)) ∙ t 0 (omega arith) in
    let first = state_slot_read c here k x (take size l) e at s r.0 now (occurs_first y (states_over size xs (drop size l)) e at o) in
    let place : at + length y ≡ at + size = ap (λ (m : ℕ). at + m) long in
    let later : (j : ℕ) → j < length xs → in_set (k + 1 + j) here ≡ is_there (get_or xs j none) =
    λ j i. let there : k + 1 + j ≡ k + suc j = omega arith in ap (λ (m : ℕ). in_set m here) there ∙ t (suc j) (omega arith) in
    let rest = states_read c here (k + 1) xs (drop size l) e (at + size) s r.1 f.1 (more_slots size (length xs) l h) later (occurs_second y (states_over size xs (drop size l)) e at (at + size) place o) in
    ap₂ {A = Option State} {B = List (Option State)} {C = List (Option State)} (λ z zs. z ∷ zs) first rest
