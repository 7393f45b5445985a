-- A collected State in place.
use Prim.Native.Nat.{ℕ, zero, suc, ◌+◌, ◌*◌, ◌≤◌, ◌<◌}
use mathlib.Core.Path.{◌≡◌, refl, sym, ap, ap₂, ◌∙◌}
use mathlib.Core.Bool.{Bool, true, false}
use mathlib.Core.List.{List, [], ◌∷◌, ◌++◌, append_assoc}
use mathlib.Core.Option.{Option, none, some}
use native.Mathlib.Decide.{ℕ_discrete}
use native.Mathlib.Nat.{zero-add, suc-mul, mul-le-mul_right, mul-le-mul}
use native.Mathlib.Omega.{arith}
use lib.ListN.{length, get_or, take, drop, set, length-set, take-append-drop}
use lib.Seq.{take_at, drop_at, get_or-set_same, get_or-set_other, take-append-add, drop-append-add, drop-append-le}
use Rattle.base.specs.Bytes.{bytes_of, number_at, over}
use Rattle.base.proofs.BytesLaws.{bytes_length}
use Rattle.base.specs.Lists.{is_there, sum, Each}
use Rattle.base.specs.Patched.{patched}
use Rattle.base.proofs.Sections.{begin}
use Rattle.base.specs.Sets.{in_set, with_member}
use Rattle.base.proofs.SetLaws.{in_with_member, with_member_below, same_sets}
use Rattle.base.specs.Tests.{◌or◌}
use Rattle.base.proofs.TestLaws.{eq_yes, eq_no}
use Rattle.format.specs.Types.{State, state}
use Rattle.format.specs.Write.{write}
use Rattle.replication.specs.Machine.Types.{Server, context_of}
use Rattle.replication.specs.Machine.Step.{with_state}
use Rattle.image.specs.Layout.{state_size, the_header, the_states, sections, section_size, offset, state_length, at_servers, at_quota, at_states, most_state_size, most_states_at}
use Rattle.image.specs.Image.{header_bytes, state_over, states_over, section, parts, image}
use Rattle.record.specs.declared.State.{State as Numbers}
use Rattle.image.specs.Header.{header_of, header_in, senders}
use Rattle.image.proofs.HeaderLaws.{header_loaded}
use Rattle.image.specs.Decode.{servers_in, quota_in}
use Rattle.image.proofs.Fit.{well_formed_fits, section_length}
use Rattle.image.proofs.InRange.{in_range}
use Rattle.image.proofs.Used.{StateFits, state_over_length, first_slot, more_slots}
use Rattle.image.proofs.Slots.{in_senders, senders_below}
use Rattle.image.specs.Holding.{Holds}
use Rattle.image.proofs.InPlace.{holds_section}
use Rattle.image.proofs.Fields.{opened_header}
use Rattle.queue.proofs.Holding.{holds_changed}
use Rattle.queue.proofs.Inside.{changed_at}
use Rattle.updates.specs.Lists.{NumberIn, CollectRoom, state_place, state_slot}
use Rattle.updates.proofs.Changes.{changed_image}
use Rattle.image.specs.Counts.{place}
use Rattle.image.proofs.Counts.{numbers, holds_place}
use mir.Syntax.{w64}
use mir.Val.{Fits}
use Rattle.format.specs.Places.{state_cuts_at}
use Rattle.format.specs.Limits.{most_servers_limit}

-- ---- the set of senders

or_no : (t : Bool) → (t or false) ≡ t
unfolding ◌or◌
or_no true = refl
or_no false = refl

or_yes : (t : Bool) → (t or true) ≡ true
unfolding ◌or◌
or_yes true = refl
or_yes false = refl

pub sender_more : (xs : List (Option State)) (k : ℕ) (x : State) → k < length xs → length xs ≤ most_servers_limit
    → with_member k (senders 0 xs) ≡ senders 0 (set xs k (some x))
unfolding is_there
sender_more xs k x h few =
    same_sets most_servers_limit _ _ (with_member_below most_servers_limit k (senders 0 xs) (omega arith) (senders_below most_servers_limit 0 xs (omega arith)))
    (senders_below most_servers_limit 0 (set xs k (some x)) (omega (arith, length-set xs k (some x)))) (λ j l. go j (ℕ_discrete j k))
  where
    in_set_lem : (j : ℕ) (ys : List (Option State)) → in_set j (senders 0 ys) ≡ is_there (get_or ys j none)
    in_set_lem j ys = ap (λ (i : ℕ). in_set i (senders 0 ys)) (sym (zero-add j)) ∙ in_senders 0 ys j

    go : (j : ℕ) → Dec (j ≡ k) → in_set j (with_member k (senders 0 xs)) ≡ in_set j (senders 0 (set xs k (some x)))
    go j (yes e) =
        in_with_member j k (senders 0 xs)
        ∙ ap (λ (t : Bool). in_set j (senders 0 xs) or t) (eq_yes j k e)
        ∙ or_yes (in_set j (senders 0 xs))
        ∙ sym (in_set_lem j (set xs k (some x)) ∙ ap (λ (i : ℕ). is_there (get_or (set xs k (some x)) i none)) e ∙ ap is_there (get_or-set_same xs k (some x) none h))
    go j (no e) =
        in_with_member j k (senders 0 xs)
        ∙ ap (λ (t : Bool). in_set j (senders 0 xs) or t) (eq_no j k e)
        ∙ or_no (in_set j (senders 0 xs))
        ∙ in_set_lem j xs
        ∙ sym (in_set_lem j (set xs k (some x)) ∙ ap is_there (get_or-set_other xs k j (some x) none e))

-- ---- the slot

-- Behind a first part of the size w.
behind : (w m : ℕ) (x y t : List ℕ) → length x ≡ w → patched (w + m) y (x ++ t) ≡ x ++ patched m y t
unfolding patched
behind w m x y t e =
    let low : take (w + m) (x ++ t) ≡ x ++ take m t = ap (λ (k : ℕ). take (k + m) (x ++ t)) (sym e) ∙ take-append-add x t m in
    let k : w + m + length y ≡ length x + (m + length y) = omega arith in
    let high : drop (w + m + length y) (x ++ t) ≡ drop (m + length y) t = ap (λ (j : ℕ). drop j (x ++ t)) k ∙ drop-append-add x t (m + length y) in
    ap₂ (λ (a b : List ℕ). a ++ (y ++ b)) low high ∙ append_assoc x (take m t) (y ++ drop (m + length y) t)

-- At the front of the first slot.
first : (size : ℕ) (y l : List ℕ) → length y ≤ length (take size l) → patched 0 y l ≡ over y (take size l) ++ drop size l
unfolding patched over
first size y l h =
    let split : drop (length y) l ≡ drop (length y) (take size l) ++ drop size l =
    ap (λ (m : List ℕ). drop (length y) m) (sym (take-append-drop size l)) ∙ drop-append-le (length y) (take size l) (drop size l) h in
    ap (λ (k : ℕ). y ++ drop k l) (zero-add (length y)) ∙ ap (λ (m : List ℕ). y ++ m) split ∙ sym (append_assoc y (drop (length y) (take size l)) (drop size l))

-- Where bytes hold the States xs, a record written into the slot k.
pub state_put : (size : ℕ) (xs : List (Option State)) (k : ℕ) (x : State) (l : List ℕ) → Each (StateFits size) xs → length xs * size ≤ length l → k < length xs
    → length (write (state x)) ≤ size → l ≡ states_over size xs l → patched (k * size) (write (state x)) l ≡ states_over size (set xs k (some x)) l
unfolding states_over state_over
state_put size [] k x l f h i w e = absurd (omega arith)
state_put size (y ∷ ys) zero x l f h i w e =
    let one : length (take size l) ≡ size = first_slot size (length ys) l h in
    let here : length (state_over y (take size l)) ≡ size = state_over_length size y (take size l) f.0 one in
    let rest : drop size l ≡ states_over size ys (drop size l) = ap (λ (m : List ℕ). drop size m) e ∙ drop_at (state_over y (take size l)) (states_over size ys (drop size l)) size here in
    let at : 0 * size ≡ 0 = omega arith in
    ap (λ (m : ℕ). patched m (write (state x)) l) at ∙ first size (write (state x)) l (omega arith) ∙ ap (λ (m : List ℕ). over (write (state x)) (take size l) ++ m) rest
state_put size (y ∷ ys) (suc k) x l f h i w e =
    let one : length (take size l) ≡ size = first_slot size (length ys) l h in
    let more : length ys * size ≤ length (drop size l) = more_slots size (length ys) l h in
    let here : length (state_over y (take size l)) ≡ size = state_over_length size y (take size l) f.0 one in
    let rest : drop size l ≡ states_over size ys (drop size l) = ap (λ (m : List ℕ). drop size m) e ∙ drop_at (state_over y (take size l)) (states_over size ys (drop size l)) size here in
    let front : take size l ≡ state_over y (take size l) = ap (λ (m : List ℕ). take size m) e ∙ take_at (state_over y (take size l)) (states_over size ys (drop size l)) size here in
    let at : suc k * size ≡ size + k * size = omega (arith, suc-mul k size) in
    ap (λ (m : ℕ). patched m (write (state x)) l) at
    ∙ ap (patched (size + k * size) (write (state x))) (sym (take-append-drop size l))
    ∙ behind size (k * size) (take size l) (write (state x)) (drop size l) one
    ∙ ap₂ {A = List ℕ} {B = List ℕ} {C = List ℕ} (λ u v. u ++ v) front (state_put size ys k x (drop size l) f.1 more (omega arith) w rest)

-- ---- as the code does it

senders_read : (s : Server) (b : List ℕ) → Holds s b → number_at 1 b at_states ≡ senders 0 s.membership.states
unfolding header_in header_of
senders_read s b r = ap (λ (h : Numbers). h.states) (header_loaded s b r)

senders_written : (s : Server) (x : State) (m : ℕ) → m ≡ senders 0 (set s.membership.states x.sender (some x))
    → patched at_states (bytes_of 1 m) (header_bytes s) ≡ header_bytes (with_state x s)
unfolding with_state opened_header
senders_written s x m e = ap (λ (k : ℕ). patched at_states (bytes_of 1 k) (header_bytes s)) e

pub state_collected : (k : ℕ) (e b b₁ : List ℕ) (at m : ℕ) → CollectRoom k e b → at ≡ state_place k b
    → m ≡ with_member k (number_at 1 b at_states) → b₁ ≡ patched at_states (bytes_of 1 m) (patched at e b)
    → (s : Server) (x : State) → Holds s b → write (state x) ≡ e → x.sender ≡ k → b₁ ≡ image (with_state x s) b
unfolding state_place sections section_size parts sum offset with_state context_of
state_collected k e b b₁ at m room e₁ e₂ e₃ s x r w from =
    let n : ℕ = s.servers in
    let q : ℕ = s.quota in
    let size : ℕ = state_size n q in
    let xs : List (Option State) = s.membership.states in
    let t : Server = with_state x s in
    let f = well_formed_fits s r.formed in
    let g = in_range s r.formed in
    let count : length xs ≡ n = g.states_count in
    let sizes : state_slot b ≡ size = λ i. state_size ((numbers s b r).servers i) ((numbers s b r).quota i) in
    let below : k < length xs = omega (arith, room.number.below, (numbers s b r).servers) in
    let sender : x.sender < length xs = omega arith in
    let few : length xs ≤ most_servers_limit = omega (arith, g.context.sizes.most) in
    let short : length e ≤ size = omega (arith, room.short) in
    let record_short : length (write (state x)) ≤ size = omega (arith, ap length w) in
    let slots : k * size + size ≤ n * size = omega (arith, mul-le-mul_right {m = suc k} {n = n} size (omega arith), suc-mul k size) in
    let there : at ≡ begin (sections n q) the_states + k * size =
    e₁ ∙ ap₂ {A = ℕ} {B = ℕ} {C = ℕ} (λ u v. u + v) (holds_place s b r the_states) (ap (λ (z : ℕ). k * z) sizes) in
    let one = changed_at (sections n q) (parts n q s b) b b (holds_changed s b r) the_states (k * size) at e there (omega arith) (omega arith) in
    let two = changed_at (sections n q) _ b _ one the_header at_states at_states (bytes_of 1 m) refl (omega arith) (omega (arith, bytes_length 1 m)) in
    let sec : List ℕ = section n q the_states b in
    let holds : sec ≡ states_over size xs sec = holds_section s b r the_states (omega arith) in
    let long : length sec ≡ n * size = section_length n q the_states b r.long in
    let put : patched (k * size) e (states_over size xs sec) ≡ states_over size (set xs x.sender (some x)) sec =
    ap (patched (k * size) e) (sym holds)
    ∙ ap₂ {A = ℕ} {B = List ℕ} {C = List ℕ} (λ i y. patched (i * size) y sec) (sym from) (sym w)
    ∙ state_put size xs x.sender x sec f.states (omega (arith, long, ap (λ (z : ℕ). z * size) count)) sender record_short holds in
    let more : m ≡ senders 0 (set xs x.sender (some x)) =
    e₂ ∙ ap₂ {A = ℕ} {B = ℕ} {C = ℕ} (λ i z. with_member i z) (sym from) (senders_read s b r) ∙ sender_more xs x.sender x sender few in
    let header : patched at_states (bytes_of 1 m) (header_bytes s) ≡ header_bytes t = senders_written s x m more in
    e₃ ∙ changed_image t _ b _ two (ap₂ {A = List ℕ} {B = List ℕ} {C = List (List ℕ)} (λ u v. set (set (parts n q s b) the_states v) the_header u) header put)

-- ---- the code's numbers

pub state_room_lem : (b : List ℕ) (k at : ℕ) → NumberIn k b → at ≡ state_place k b → at + state_slot b ≤ length b
unfolding state_place place offset state_length sections sum
state_room_lem b k at h e =
    let size : ℕ = state_slot b in
    omega (arith, h.counts.long, mul-le-mul_right {m = suc k} {n = servers_in b} size h.below, suc-mul k size)

pub state_place_read : (b : List ℕ) (n q k at size all : ℕ) → n ≡ number_at 1 b at_servers → q ≡ number_at 2 b at_quota → at ≡ place the_states b → size ≡ state_size n q → all ≡ k * size
    → at + all ≡ state_place k b
unfolding state_place servers_in quota_in
state_place_read b n q k at size all e f g h i = ap₂ {A = ℕ} {B = ℕ} {C = ℕ} (λ u v. u + v) g (i ∙ ap (λ (z : ℕ). k * z) (h ∙ λ j. state_size (e j) (f j)))

-- The sums as the code makes them.
module _ (b : List ℕ) (k at : ℕ) (h : NumberIn k b) where
  states_low : at ≡ place the_states b → at ≤ most_states_at
  unfolding place offset sections sum
  states_low e = omega (arith, h.counts.sizes.servers)

  slot_low : state_slot b ≤ most_state_size
  unfolding state_size
  slot_low = omega (arith, h.counts.sizes.servers, h.counts.most)

  pub state_place_fits : (size all : ℕ) → at ≡ place the_states b → size ≤ most_state_size → all ≤ most_servers_limit * size → Fits w64 (at + all)
  state_place_fits size all e f g = omega (arith, states_low e)

  pub sent_fits : (n : ℕ) → at ≡ state_place k b → n ≡ number_at 1 b at_servers → Fits w64 (at + (state_cuts_at + 2 * n))
  unfolding state_place servers_in place offset sections sum
  sent_fits n e f =
      let few : k * state_slot b ≤ most_servers_limit * most_state_size = mul-le-mul {n₁ = k} {m₁ = state_slot b} {n₂ = most_servers_limit} {m₂ = most_state_size} (omega (arith, h.below, h.counts.sizes.servers)) slot_low in
      omega (arith, h.counts.sizes.servers)

-- The set of senders as the code reads it.
pub senders_told : (k x y : ℕ) (t : Bool) → x ≡ y → t ≡ in_set k x → t ≡ in_set k y
senders_told k x y t e f = f ∙ ap (in_set k) e

pub senders_with : (k x y m : ℕ) → x ≡ y → m ≡ with_member k x → m ≡ with_member k y
senders_with k x y m e f = f ∙ ap (with_member k) e

pub state_put_room : (b e : List ℕ) (k at : ℕ) → CollectRoom k e b → at ≡ state_place k b → at + length e ≤ length b
state_put_room b e k at h f = omega (arith, state_room_lem b k at h.number f, h.short)
