-- Requests in place: numbered, and sent.
use Prim.Native.Nat.{ℕ, ◌+◌, ◌*◌, ◌≤◌, ◌<◌}
use mathlib.Core.Path.{◌≡◌, refl, sym, ap, ap₂, ◌∙◌}
use mathlib.Core.Bool.{true}
use mathlib.Core.List.{List, [], ◌∷◌, ◌++◌}
use mathlib.Core.Logic.{inl}
use native.Mathlib.Omega.{arith}
use lib.ListN.{length, set, length-append}
use Rattle.base.specs.Bytes.{bytes_of, number_at, over, slot}
use Rattle.base.proofs.BytesLaws.{bytes_length}
use Rattle.base.specs.Lists.{sum}
use Rattle.base.specs.Patched.{patched}
use Rattle.base.specs.Tests.{◌<?◌}
use Rattle.base.proofs.Sections.{begin}
use Rattle.base.proofs.Prefixes.{begins_refl}
use Rattle.base.proofs.TestLaws.{lt_holds, and_holds}
use Rattle.base.proofs.Over.{slot_length, over_extended}
use Rattle.format.specs.Limits.{most_payload_limit, most_number_limit}
use Rattle.format.specs.Types.{Action}
use Rattle.format.specs.Write.{action_bytes}
use Rattle.format.proofs.Lengths.{action_length}
use Rattle.record.specs.Values.{id_of, action_of}
use Rattle.record.specs.declared.ActionHead.{ActionHead}
use Rattle.record.specs.declared.State.{State}
use Rattle.replication.specs.Machine.Types.{Server}
use Rattle.replication.specs.Machine.Requests.{unwhite_own, quota_left, made_of, numbered, send_waiting}
use Rattle.replication.specs.Machine.WellFormed.{queue}
use Rattle.image.specs.Layout.{slot_size, the_header, the_own, sections, offset, at_me, at_numbered, at_own_count}
use Rattle.image.specs.Header.{header_of, header_in}
use Rattle.image.specs.Image.{header_bytes, action_slots, section, parts, image}
use Rattle.image.proofs.Fit.{well_formed_fits}
use Rattle.image.proofs.HeaderLaws.{header_loaded}
use Rattle.image.proofs.Used.{action_slots_length, slots_append}
use Rattle.image.specs.Holding.{Holds, HoldsSuch, Computes}
use Rattle.image.proofs.InPlace.{holds_header}
use Rattle.image.proofs.Fields.{opened_header}
use Rattle.queue.proofs.Holding.{holds_changed}
use Rattle.queue.proofs.Inside.{changed_at}
use Rattle.queue.proofs.SlotLaws.{slots_one}
use mir.Syntax.{w16}
use mir.Val.{Fits}
use Rattle.updates.specs.Lists.{next_head, MayNumber, PayloadRoom, SlotRoom}
use Rattle.updates.proofs.Changes.{changed_image}
use Rattle.image.specs.Counts.{place}
use Rattle.image.proofs.Counts.{holds_place, holds_counts, numbers}

-- There is room on the own list, and a next index.
quota_left_lem : (s : Server) → quota_left s ≡ true → (length s.log.own < s.quota) × (s.log.numbered < most_number_limit)
unfolding quota_left
quota_left_lem s h =
    let t = and_holds (unwhite_own s <? s.quota) (s.log.numbered <? most_number_limit) h in
    (omega (arith, lt_holds (unwhite_own s) s.quota t.0), lt_holds s.log.numbered most_number_limit t.1)

-- The same as the code adds.
pub index_fits : (b : List ℕ) (x : ℕ) → HoldsSuch MayNumber b → x ≡ number_at 2 b at_numbered → Fits w16 (x + 1)
index_fits b x h e = omega (arith, (numbers h.state b h.holds).numbered, (quota_left_lem h.state h.fact).1)

pub own_fits_lem : (b : List ℕ) (x : ℕ) → HoldsSuch MayNumber b → x ≡ number_at 2 b at_own_count → Fits w16 (x + 1)
own_fits_lem b x h e =
    let c = holds_counts h.state b h.holds in
    omega (arith, c.own, c.sizes.quota)

-- Behind the own list is room for a slot.
pub own_room : (p b : List ℕ) (at own : ℕ) → PayloadRoom p b → at ≡ place the_own b → own ≡ number_at 2 b at_own_count → SlotRoom slot_size (at + slot_size * own) p b
own_room p b at own room e f =
    let s : Server = room.holds.state in
    let c = holds_counts s b room.holds.holds in
    record {
      short = room.short;
      room = omega (arith, c.own_end, c.queue_end, c.own, c.some);
      header = holds_header s b room.holds.holds;
    }

pub head_read : (b : List ℕ) (x y z w : ℕ) → x ≡ number_at 1 b at_me → y ≡ number_at 2 b at_numbered → Computes (λ s. length s.log.green) b z
    → Computes (λ s. s.white) b w
    → (s : Server) → Holds s b → record { creator = x; index = y + 1; green_length = z; white_length = w } ≡ next_head s
unfolding next_head
head_read b x y z w e f g k s r =
    let i = numbers s b r in
    λ j. record { creator = (e ∙ i.me) j; index = (f ∙ i.numbered) j + 1; green_length = g s r j; white_length = k s r j }

-- The action that the code makes of the payload p.
pub head_made : (s : Server) (p : List ℕ) → action_of (next_head s) p ≡ made_of p s
unfolding action_of next_head id_of made_of
head_made s p = refl

counts_written : (s : Server) (p : List ℕ) (x y : ℕ) → x ≡ s.log.numbered + 1 → y ≡ length (s.log.own ++ (made_of p s ∷ []))
    → patched at_own_count (bytes_of 2 y) (patched at_numbered (bytes_of 2 x) (header_bytes s)) ≡ header_bytes (numbered p s)
unfolding numbered queue opened_header
counts_written s p x y e f = ap₂ {A = ℕ} {B = ℕ} {C = List ℕ} (λ u v. patched at_own_count (bytes_of 2 v) (patched at_numbered (bytes_of 2 u) (header_bytes s))) e f

action_short : (h : ActionHead) (p : List ℕ) → length p ≤ most_payload_limit → length (action_bytes (action_of h p)) ≤ slot_size
unfolding action_of
action_short h p l = omega (arith, action_length (action_of h p))

pub request_numbered : (p b b₁ : List ℕ) (at own num : ℕ) (h : ActionHead) → PayloadRoom p b → at ≡ place the_own b → own ≡ number_at 2 b at_own_count → num ≡ number_at 2 b at_numbered → Computes next_head b h
    → b₁ ≡ patched at_own_count (bytes_of 2 (own + 1)) (patched at_numbered (bytes_of 2 (num + 1)) (patched (at + slot_size * own) (slot slot_size (action_bytes (action_of h p))) b))
    → (s : Server) → Holds s b → quota_left s ≡ true → b₁ ≡ image (numbered p s) b
unfolding sections parts sum offset numbered queue
request_numbered p b b₁ at own num h room e₁ e₂ e₃ e₄ e₅ s r left =
    let n : ℕ = s.servers in
    let q : ℕ = s.quota in
    let t : Server = numbered p s in
    let list : List Action = s.log.own in
    let x : List ℕ = slot slot_size (action_bytes (action_of h p)) in
    let f = well_formed_fits s r.formed in
    let size : length (action_slots list) ≡ slot_size * length list = action_slots_length list f.own in
    let count : own ≡ length list = e₂ ∙ (numbers s b r).own in
    let nums : num ≡ s.log.numbered = e₃ ∙ (numbers s b r).numbered in
    let long : length x ≡ slot_size = slot_length slot_size (action_bytes (action_of h p)) (action_short h p room.short) in
    let there : at + slot_size * own ≡ begin (sections n q) the_own + length (action_slots list) =
    ap₂ {A = ℕ} {B = ℕ} {C = ℕ} (λ u v. u + v) (e₁ ∙ holds_place s b r the_own) (ap (λ (m : ℕ). slot_size * m) count ∙ sym size) in
    let fits : length (action_slots list) + length x ≤ slot_size * q = omega (arith, (quota_left_lem s left).0) in
    let one = changed_at (sections n q) (parts n q s b) b b (holds_changed s b r) the_own (length (action_slots list)) (at + slot_size * own) x there (omega arith) fits in
    let two = changed_at (sections n q) _ b _ one the_header at_numbered at_numbered (bytes_of 2 (num + 1)) refl (omega arith) (omega (arith, bytes_length 2 (num + 1))) in
    let three = changed_at (sections n q) _ b _ two the_header at_own_count at_own_count (bytes_of 2 (own + 1)) refl (omega arith) (omega (arith, bytes_length 2 (own + 1))) in
    let made : action_of h p ∷ [] ≡ made_of p s ∷ [] = ap (λ (x : Action). x ∷ []) (ap (λ (g : ActionHead). action_of g p) (e₄ s r) ∙ head_made s p) in
    let slots : patched (length (action_slots list)) x (over (action_slots list) (section n q the_own b)) ≡ over (action_slots (list ++ (made_of p s ∷ []))) (section n q the_own b) =
    over_extended (action_slots list) x (section n q the_own b)
    ∙ ap (λ (y : List ℕ). over y (section n q the_own b)) (ap (λ (y : List ℕ). action_slots list ++ y) (sym (slots_one (action_of h p)) ∙ ap action_slots made) ∙ sym (slots_append list (made_of p s ∷ []))) in
    let more : own + 1 ≡ length (list ++ (made_of p s ∷ [])) = omega (arith, count, length-append list (made_of p s ∷ []), ap length made) in
    let less : num + 1 ≡ s.log.numbered + 1 = omega (arith, nums) in
    let header : patched at_own_count (bytes_of 2 (own + 1)) (patched at_numbered (bytes_of 2 (num + 1)) (header_bytes s)) ≡ header_bytes t =
    counts_written s p (num + 1) (own + 1) less more in
    e₅
    ∙ changed_image t _ b _ three (ap₂ {A = List ℕ} {B = List ℕ} {C = List (List ℕ)} (λ u v. set (set (parts n q s b) the_own v) the_header u) header slots)
