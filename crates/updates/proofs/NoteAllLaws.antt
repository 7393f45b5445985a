-- The green lengths of all collected States noted, in place.
use Prim.Native.Nat.{ℕ, zero, suc, ◌+◌, ◌*◌, ◌≤◌, ◌<◌}
use mathlib.Core.Path.{◌≡◌, refl, sym, ap, ap₂, subst, ◌∙◌}
use mathlib.Core.Bool.{Bool, true, false, not}
use mathlib.Core.List.{List, [], ◌∷◌}
use mathlib.Core.Option.{Option, none, some}
use native.Mathlib.Nat.{zero-add, suc-mul}
use native.Mathlib.Numerals.{add-one}
use native.Mathlib.Omega.{arith}
use lib.ListN.{length, get_or, take, drop}
use lib.Seq.{take-length}
use Rattle.base.specs.Bytes.{number_at}
use Rattle.base.proofs.BytesLaws.{number_drop}
use Rattle.base.specs.Lists.{present, at_front, Each}
use Rattle.base.specs.Sets.{in_set}
use Rattle.base.specs.Tests.{pick}
use Rattle.base.proofs.TestLaws.{pick_yes, pick_no}
use Rattle.format.specs.Limits.{most_length_limit}
use Rattle.format.specs.Types.{State}
use Rattle.format.specs.Read.{state_at}
use Rattle.replication.specs.Machine.Types.{Server, with_noted}
use Rattle.replication.specs.Machine.Colours.{note}
use Rattle.replication.specs.Machine.Exchange.{note_all}
use Rattle.replication.specs.Machine.Step.{collected}
use Rattle.replication.specs.Machine.WellFormed.{well_formed}
use Rattle.replication.specs.Machine.WellFormedRanges.{StateFits}
use Rattle.replication.proofs.WellFormed.Facts.{well_formed_facts, facts_well_formed}
use Rattle.replication.proofs.WellFormed.Changes.{body, whole, noted_changed, collected_fit_lem}
use Rattle.replication.proofs.WellFormed.Decisions.{note_all_length, note_all_bound}
use Rattle.replication.proofs.WellFormed.Kept.{mode_kept}
use Rattle.image.specs.Layout.{state_size, the_states, at_servers, at_states}
use Rattle.image.specs.Image.{image}
use Rattle.image.specs.Decode.{servers_in, quota_in, states_at, decoded, decoded_as}
use Rattle.image.specs.Holding.{Holds, HoldsSome}
use Rattle.image.proofs.InPlace.{holds_decoded, holds_header}
use Rattle.updates.specs.Lists.{NumberIn, state_place}
use Rattle.updates.specs.Noting.{note_slot, note_first, sent_length}
use Rattle.image.proofs.Chained.{then_holds, Covers, numbers_first, lists_chained}
use Rattle.format.specs.Places.{state_cuts_at}
use Rattle.image.specs.Counts.{place}
use Rattle.image.proofs.Counts.{numbers, holds_counts}
use Rattle.updates.proofs.StateLaws.{state_room_lem}

-- ---- slot by slot

first_more : (k : ℕ) (xs : List (Option State)) (l : List ℕ) → k < length xs → note_first (suc k) xs l ≡ note_slot (get_or xs k none) (note_first k xs l)
unfolding note_first note_slot note_all present at_front
first_more k [] l h = absurd (omega arith)
first_more zero (none ∷ xs) l h = refl
first_more zero (some x ∷ xs) l h = refl
first_more (suc k) (none ∷ xs) l h = first_more k xs l (omega arith)
first_more (suc k) (some x ∷ xs) l h = first_more k xs (note x.sender x.green_length l) (omega arith)

first_none : (xs : List (Option State)) (l : List ℕ) → note_first 0 xs l ≡ l
unfolding note_first note_all present
first_none xs l = refl

first_all : (k : ℕ) (xs : List (Option State)) (l : List ℕ) → k ≡ length xs → note_first k xs l ≡ note_all (present xs) l
unfolding note_first
first_all k xs l e = ap (λ (m : ℕ). note_all (present (take m xs)) l) e ∙ ap (λ (ys : List (Option State)). note_all (present ys) l) (take-length xs)

first_each : (P : State → Type 0) (k : ℕ) (xs : List (Option State)) → Each P (present xs) → Each P (present (take k xs))
unfolding present at_front
first_each P zero xs h = tt
first_each P (suc k) [] h = tt
first_each P (suc k) (none ∷ xs) h = first_each P k xs h
first_each P (suc k) (some x ∷ xs) h = (h.0, first_each P k xs h.1)

-- ---- well-formed all along

pub noted_formed : (s : Server) (l : List ℕ) → well_formed s ≡ true → length l ≡ length s.noted → ((c : ℕ) → get_or l c 0 ≤ most_length_limit)
    → well_formed (with_noted l s) ≡ true
noted_formed s l ok e f =
    let g = well_formed_facts s ok in
    facts_well_formed (with_noted l s)
    (whole (with_noted l s) (noted_changed s (body s g) l e f) (mode_kept s.membership.mode s s.log s.votes l refl g.mode))

abbrev first_noted : ℕ → Server → Server
first_noted k s = with_noted (note_first k s.membership.states s.noted) s

first_length : (k : ℕ) (s : Server) → length (note_first k s.membership.states s.noted) ≡ length s.noted
unfolding note_first
first_length k s = note_all_length (present (take k s.membership.states)) s.noted

first_formed : (k : ℕ) (s : Server) → well_formed s ≡ true → well_formed (first_noted k s) ≡ true
unfolding note_first collected
first_formed k s ok =
    let g = body s (well_formed_facts s ok) in
    noted_formed s (note_first k s.membership.states s.noted) ok (first_length k s)
    (note_all_bound s.servers s.quota (present (take k s.membership.states)) s.noted
    (first_each (StateFits s.servers s.quota) k s.membership.states (collected_fit_lem s g)) g.noted)

pub all_formed : (s : Server) → well_formed s ≡ true → well_formed (with_noted (note_all (collected s) s.noted) s) ≡ true
unfolding collected
all_formed s ok =
    subst (λ (l : List ℕ). well_formed (with_noted l s) ≡ true) (first_all (length s.membership.states) s.membership.states s.noted refl)
    (first_formed (length s.membership.states) s ok)

noted_covers : (s : Server) (l m : List ℕ) → Covers s (with_noted l s) (with_noted m s)
noted_covers s l m = numbers_first s (with_noted l s) (with_noted m s) (refl, refl) (refl, refl) refl refl refl refl

-- ---- the turns of the loop

pub note_start : (b : List ℕ) (s : Server) → Holds s b → b ≡ image (first_noted 0 s) b
note_start b s r = sym r.written ∙ ap (λ (l : List ℕ). image (with_noted l s) b) (sym (first_none s.membership.states s.noted))

pub note_room : (b c : List ℕ) (k n : ℕ) → HoldsSome b → n ≡ number_at 1 b at_servers → k < n → ((s : Server) → Holds s b → c ≡ image (first_noted k s) b) → NumberIn k c
unfolding servers_in
note_room b c k n h e l f =
    let s : Server = h.state in
    let r : Holds s b = h.holds in
    let t : Holds (first_noted k s) c = then_holds s (first_noted k s) b c r (f s r) refl refl (first_formed k s r.formed) r.blank in
    record { counts = holds_counts (first_noted k s) c t; below = omega (arith, (numbers s b r).servers, (numbers (first_noted k s) c t).servers) }

pub note_turn : (b c d : List ℕ) (k n : ℕ) → n ≡ number_at 1 b at_servers → k < n → ((s : Server) → Holds s b → c ≡ image (first_noted k s) b)
    → ((t : Server) → Holds t c → d ≡ image (with_noted (note_slot (get_or t.membership.states k none) t.noted) t) c)
    → (s : Server) → Holds s b → d ≡ image (first_noted (k + 1) s) b
unfolding servers_in
note_turn b c d k n e l f g s r =
    let t : Server = first_noted k s in
    let m : List ℕ = note_slot (get_or s.membership.states k none) t.noted in
    let ok = first_formed k s r.formed in
    let held : Holds t c = then_holds s t b c r (f s r) refl refl ok r.blank in
    let count : length s.membership.states ≡ s.servers = (body s (well_formed_facts s r.formed)).membership.states_length in
    let same : m ≡ note_first (k + 1) s.membership.states s.noted =
    sym (first_more k s.membership.states s.noted (omega (arith, (numbers s b r).servers))) ∙ ap (λ (j : ℕ). note_first j s.membership.states s.noted) (sym (add-one k)) in
    let long : length t.noted ≤ length m = omega (arith, ap length same, first_length k s, first_length (k + 1) s) in
    lists_chained s t (with_noted m s) b r ok (noted_covers s t.noted m) (omega arith) long c d (f s r) (g t held)
    ∙ ap (λ (j : List ℕ). image (with_noted j s) b) same

pub note_end : (b c : List ℕ) (k n : ℕ) → n ≡ number_at 1 b at_servers → k ≤ n → n ≤ k → ((s : Server) → Holds s b → c ≡ image (first_noted k s) b)
    → (s : Server) → Holds s b → c ≡ image (with_noted (note_all (collected s) s.noted) s) b
unfolding servers_in collected
note_end b c k n e l m f s r =
    let count : length s.membership.states ≡ s.servers = (body s (well_formed_facts s r.formed)).membership.states_length in
    let whole : k ≡ length s.membership.states = omega (arith, (numbers s b r).servers) in
    f s r ∙ ap (λ (j : List ℕ). image (with_noted j s) b) (first_all k s.membership.states s.noted whole)

-- ---- one slot

states_at_lem : (n q here m j k : ℕ) (b : List ℕ) (at : ℕ) → k < m
    → get_or (states_at n q here m j b at) k none ≡ pick (in_set (j + k) here) (some (state_at n (drop (at + k * state_size n q) b))) none
unfolding states_at
states_at_lem n q here zero j k b at h = absurd (omega arith)
states_at_lem n q here (suc m) j zero b at h =
    let e : j ≡ j + 0 = omega arith in
    let f : at ≡ at + 0 * state_size n q = omega arith in
    ap₂ {A = ℕ} {B = ℕ} {C = Option State} (λ u v. pick (in_set u here) (some (state_at n (drop v b))) none) e f
states_at_lem n q here (suc m) j (suc k) b at h =
    let e : j + 1 + k ≡ j + suc k = omega arith in
    let f : at + state_size n q + k * state_size n q ≡ at + suc k * state_size n q = omega (arith, suc-mul k (state_size n q)) in
    states_at_lem n q here m (j + 1) k b (at + state_size n q) (omega arith)
    ∙ ap₂ {A = ℕ} {B = ℕ} {C = Option State} (λ u v. pick (in_set u here) (some (state_at n (drop v b))) none) e f

-- The slot of server k, in a buffer that holds s.
slot_read : (s : Server) (b : List ℕ) (k : ℕ) → Holds s b → k < servers_in b
    → get_or s.membership.states k none
    ≡ pick (in_set k (number_at 1 b at_states)) (some (state_at (servers_in b) (drop (state_place k b) b))) none
unfolding decoded decoded_as state_place place
slot_read s b k r h =
    ap (λ (t : Server). get_or t.membership.states k none) (sym (holds_decoded s b r))
    ∙ states_at_lem (servers_in b) (quota_in b) (number_at 1 b at_states) (servers_in b) 0 k b (place the_states b) h
    ∙ ap (λ (j : ℕ). pick (in_set j (number_at 1 b at_states)) (some (state_at (servers_in b) (drop (state_place k b) b))) none) (zero-add k)

pub slot_empty : (b : List ℕ) (k : ℕ) (x : Bool) → NumberIn k b → x ≡ in_set k (number_at 1 b at_states) → x ≡ false
    → (s : Server) → Holds s b → b ≡ image (with_noted (note_slot (get_or s.membership.states k none) s.noted) s) b
unfolding note_slot
slot_empty b k x h e f s r =
    let out : get_or s.membership.states k none ≡ none = slot_read s b k r h.below ∙ sym (pick_no (in_set k (number_at 1 b at_states)) none _ none (sym e ∙ f) refl) in
    sym r.written ∙ ap (λ (y : Option State). image (with_noted (note_slot y s.noted) s) b) (sym out)

pub slot_noted : (b c : List ℕ) (k l : ℕ) (x : Bool) → NumberIn k b → x ≡ in_set k (number_at 1 b at_states) → x ≡ true
    → l ≡ sent_length k b
    → ((s : Server) → Holds s b → c ≡ image (with_noted (note k l s.noted) s) b)
    → (s : Server) → Holds s b → c ≡ image (with_noted (note_slot (get_or s.membership.states k none) s.noted) s) b
unfolding note_slot state_at sent_length
slot_noted b c k l x h e f g i s r =
    let at : ℕ = state_place k b in
    let y : State = state_at (servers_in b) (drop at b) in
    let in_slot : get_or s.membership.states k none ≡ some y = slot_read s b k r h.below ∙ sym (pick_yes (in_set k (number_at 1 b at_states)) (some y) _ none (sym e ∙ f) refl) in
    let sender : y.sender ≡ k = ((body s (well_formed_facts s r.formed)).membership.states k y in_slot).sender in
    let sent : l ≡ y.green_length = g ∙ sym (number_drop 4 b at (state_cuts_at + 2 * servers_in b)) in
    i s r
    ∙ ap₂ {A = ℕ} {B = ℕ} {C = List ℕ} (λ u v. image (with_noted (note u v s.noted) s) b) (sym sender) sent
    ∙ ap (λ (z : Option State). image (with_noted (note_slot z s.noted) s) b) (sym in_slot)

-- ---- the code's numbers

pub front_some : (b : List ℕ) → HoldsSome b → at_servers < length b
front_some b h = omega (arith, holds_header h.state b h.holds)

pub sent_place : (b : List ℕ) (k n at : ℕ) → NumberIn k b → at ≡ state_place k b → n ≡ number_at 1 b at_servers → at + (state_cuts_at + 2 * n) + 4 ≤ length b
unfolding servers_in state_size
sent_place b k n at h e g = omega (arith, state_room_lem b k at h e)

pub sent_read : (b : List ℕ) (k n at l : ℕ) → at ≡ state_place k b → n ≡ number_at 1 b at_servers → l ≡ number_at 4 b (at + (state_cuts_at + 2 * n)) → l ≡ sent_length k b
unfolding sent_length servers_in
sent_read b k n at l e f g = g ∙ ap₂ {A = ℕ} {B = ℕ} {C = ℕ} (λ u v. number_at 4 b (u + (state_cuts_at + 2 * v))) e f
