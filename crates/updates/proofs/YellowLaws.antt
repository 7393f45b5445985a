-- The yellow list in place.
use Prim.Native.Nat.{ℕ, suc, ◌+◌, ◌*◌, ◌-◌, ◌≤◌, ◌<◌}
use mathlib.Core.Path.{◌≡◌, refl, sym, ap, ap₂, ◌∙◌}
use mathlib.Core.Bool.{Bool, true, false}
use mathlib.Core.List.{List, [], ◌∷◌, ◌++◌, append-nil}
use native.Mathlib.Omega.{arith}
use lib.ListN.{length, set, length-append}
use Rattle.base.specs.Tests.{◌or◌}
use Rattle.base.proofs.TestLaws.{pick_yes, pick_no, pick_lt, pick_ge}
use Rattle.base.specs.Bytes.{bytes_of, number_at, joined, over}
use Rattle.base.proofs.BytesLaws.{bytes_length}
use Rattle.base.specs.Lists.{sum}
use Rattle.base.specs.Patched.{patched}
use Rattle.base.proofs.Sections.{begin}
use Rattle.format.specs.Limits.{most_servers_limit}
use Rattle.format.specs.Types.{Id}
use Rattle.format.specs.Range.{same_id, has_id}
use Rattle.format.specs.Read.{id_at, ids_at}
use Rattle.format.specs.Write.{id_bytes, ids_bytes}
use Rattle.format.proofs.Lengths.{id_length, ids_length}
use Rattle.replication.specs.Machine.Types.{Server, Votes, with_votes}
use Rattle.replication.specs.Machine.Colours.{add_id, add_within, join_yellow}
use Rattle.image.specs.Layout.{the_header, the_yellow, sections, offset, at_servers, at_quota, at_yellow_count}
use Rattle.image.specs.Image.{header_bytes, section, parts, image}
use Rattle.image.proofs.Used.{ids_append}
use Rattle.image.specs.Holding.{Holds}
use Rattle.updates.proofs.Changes.{changed_image}
use Rattle.base.proofs.Over.{over_extended}
use Rattle.queue.proofs.Inside.{changed_at}
use Rattle.queue.proofs.Holding.{holds_changed}
use Rattle.image.proofs.Fields.{opened_header}
use Rattle.image.specs.Counts.{yellow_count, place, most_actions, CountsIn}
use Rattle.image.proofs.Counts.{numbers, holds_place}
use Rattle.image.specs.Decode.{decoded, decoded_as, servers_in, quota_in}
use Rattle.image.proofs.InPlace.{holds_decoded}
use Rattle.format.specs.Places.{id_size}

-- The yellow ids, as they are read from the buffer.
pub holds_ids : (s : Server) (b : List ℕ) → Holds s b → ids_at (yellow_count b) b (place the_yellow b) ≡ s.votes.yellow.ids
unfolding decoded decoded_as place
holds_ids s b r = ap (λ (x : Server). x.votes.yellow.ids) (holds_decoded s b r)

-- ---- ids as bytes

pub ids_one : (d : Id) → ids_bytes (d ∷ []) ≡ id_bytes d
unfolding ids_bytes joined
ids_one d = simp append-nil

-- ---- a yellow list of other ids

-- The votes with these yellow ids.
abbrev pub with_ids : List Id → Votes → Votes
with_ids l v = record { last = v.last; attempt = v.attempt; mark = v.mark; yellow = record { status = v.yellow.status; ids = l } }

count_written : (s : Server) (l : List Id) (m : ℕ) → m ≡ length l
    → patched at_yellow_count (bytes_of 2 m) (header_bytes s) ≡ header_bytes (with_votes (with_ids l s.votes) s)
unfolding opened_header
count_written s l m e = ap (λ (k : ℕ). patched at_yellow_count (bytes_of 2 k) (header_bytes s)) e

-- An id behind the last one, and the count.
pub id_added_lem : (s : Server) (b b₁ b₂ : List ℕ) (d : Id) → Holds s b → length s.votes.yellow.ids + 1 ≤ s.servers * s.quota
    → b₁ ≡ patched (place the_yellow b + id_size * yellow_count b) (id_bytes d) b → b₂ ≡ patched at_yellow_count (bytes_of 2 (yellow_count b + 1)) b₁
    → b₂ ≡ image (with_votes (with_ids (s.votes.yellow.ids ++ (d ∷ [])) s.votes) s) b
unfolding sections parts sum offset
id_added_lem s b b₁ b₂ d r room e₁ e₂ =
    let n : ℕ = s.servers in
    let q : ℕ = s.quota in
    let ids : List Id = s.votes.yellow.ids in
    let t : Server = with_votes (with_ids (ids ++ (d ∷ [])) s.votes) s in
    let count : yellow_count b ≡ length ids = (numbers s b r).yellow in
    let at : place the_yellow b + id_size * yellow_count b ≡ begin (sections n q) the_yellow + length (ids_bytes ids) =
    ap₂ {A = ℕ} {B = ℕ} {C = ℕ} (λ x y. x + y) (holds_place s b r the_yellow) (ap (λ (m : ℕ). id_size * m) count ∙ sym (ids_length ids)) in
    let fits : length (ids_bytes ids) + length (id_bytes d) ≤ id_size * (n * q) = omega (arith, ids_length ids, id_length d) in
    let one = changed_at (sections n q) (parts n q s b) b b (holds_changed s b r) the_yellow (length (ids_bytes ids)) (place the_yellow b + id_size * yellow_count b) (id_bytes d) at (omega arith) fits in
    let two = changed_at (sections n q) _ b _ one the_header at_yellow_count at_yellow_count (bytes_of 2 (yellow_count b + 1)) refl (omega arith) (omega (arith, bytes_length 2 (yellow_count b + 1))) in
    let list : patched (length (ids_bytes ids)) (id_bytes d) (over (ids_bytes ids) (section n q the_yellow b)) ≡ over (ids_bytes (ids ++ (d ∷ []))) (section n q the_yellow b) =
    over_extended (ids_bytes ids) (id_bytes d) (section n q the_yellow b)
    ∙ ap (λ (y : List ℕ). over y (section n q the_yellow b)) (ap (λ (y : List ℕ). ids_bytes ids ++ y) (sym (ids_one d)) ∙ sym (ids_append ids (d ∷ []))) in
    let more : yellow_count b + 1 ≡ length (ids ++ (d ∷ [])) = omega (arith, count, length-append ids (d ∷ [])) in
    let header : patched at_yellow_count (bytes_of 2 (yellow_count b + 1)) (header_bytes s) ≡ header_bytes t = count_written s (ids ++ (d ∷ [])) (yellow_count b + 1) more in
    e₂
    ∙ ap (patched at_yellow_count (bytes_of 2 (yellow_count b + 1))) e₁
    ∙ changed_image t _ b _ two (ap₂ {A = List ℕ} {B = List ℕ} {C = List (List ℕ)} (λ x y. set (set (parts n q s b) the_yellow y) the_header x) header list)

-- ---- the operation

-- The sizes as the code reads them.
pub servers_low : (b : List ℕ) (n : ℕ) → CountsIn b → n ≡ number_at 1 b at_servers → n ≤ most_servers_limit
unfolding servers_in
servers_low b n c e = omega (arith, c.sizes.servers)

pub quota_low : (b : List ℕ) (q : ℕ) → CountsIn b → q ≡ number_at 2 b at_quota → q ≤ 65535
unfolding quota_in
quota_low b q c e = omega (arith, c.sizes.quota)

pub product_read : (b : List ℕ) (n q r : ℕ) → n ≡ number_at 1 b at_servers → q ≡ number_at 2 b at_quota → r ≡ n * q → r ≡ most_actions b
unfolding servers_in quota_in
product_read b n q r e f g = rw (g, e, f)

-- The list is full.
pub list_full : (d : Id) (b : List ℕ) (m most : ℕ) → m ≡ number_at 2 b at_yellow_count → most ≡ most_actions b → most ≤ m
    → (s : Server) → Holds s b → b ≡ image (with_votes (join_yellow (s.servers * s.quota) d s.votes) s) b
unfolding join_yellow add_within
list_full d b m most e₁ e₂ h s r =
    let ids : List Id = s.votes.yellow.ids in
    let n = numbers s b r in
    let sized : most_actions b ≡ s.servers * s.quota = λ i. n.servers i * n.quota i in
    sym r.written
    ∙ ap (λ (l : List Id). image (with_votes (with_ids l s.votes) s) b) (pick_ge (length ids) (s.servers * s.quota) ids (add_id d ids) ids (omega (arith, n.yellow)) refl)

-- There is room in it.
room_in : (s : Server) (b : List ℕ) → Holds s b → yellow_count b < most_actions b → length s.votes.yellow.ids < s.servers * s.quota
room_in s b r h =
    let n = numbers s b r in
    let sized : most_actions b ≡ s.servers * s.quota = λ i. n.servers i * n.quota i in
    omega (arith, n.yellow)

-- The id is there already.
pub id_there : (d : Id) (b : List ℕ) (at m : ℕ) (t : Bool) → yellow_count b < most_actions b → at ≡ place the_yellow b → m ≡ number_at 2 b at_yellow_count
    → t ≡ has_id d (ids_at m b at) → t ≡ true
    → (s : Server) → Holds s b → b ≡ image (with_votes (join_yellow (s.servers * s.quota) d s.votes) s) b
unfolding join_yellow add_within add_id
id_there d b at m t room e₁ e₂ e₃ here s r =
    let ids : List Id = s.votes.yellow.ids in
    let has : has_id d ids ≡ true = ap (has_id d) (sym (holds_ids s b r)) ∙ rw (← e₁, ← e₂) (sym e₃ ∙ here) in
    sym r.written
    ∙ ap (λ (l : List Id). image (with_votes (with_ids l s.votes) s) b)
    (pick_lt (length ids) (s.servers * s.quota) ids (add_id d ids) ids (room_in s b r room) (pick_yes (has_id d ids) ids ids (ids ++ (d ∷ [])) has refl))

-- It is not.
pub id_new : (d : Id) (b b₂ : List ℕ) (at m : ℕ) (t : Bool) → yellow_count b < most_actions b → at ≡ place the_yellow b → m ≡ number_at 2 b at_yellow_count
    → t ≡ has_id d (ids_at m b at) → t ≡ false
    → b₂ ≡ patched at_yellow_count (bytes_of 2 (m + 1)) (patched (at + id_size * m) (id_bytes d) b)
    → (s : Server) → Holds s b → b₂ ≡ image (with_votes (join_yellow (s.servers * s.quota) d s.votes) s) b
unfolding join_yellow add_within add_id
id_new d b b₂ at m t room e₁ e₂ e₃ away f s r =
    let ids : List Id = s.votes.yellow.ids in
    let more : List Id = ids ++ (d ∷ []) in
    let less = room_in s b r room in
    let new : has_id d ids ≡ false = ap (has_id d) (sym (holds_ids s b r)) ∙ rw (← e₁, ← e₂) (sym e₃ ∙ away) in
    let made : b₂ ≡ patched at_yellow_count (bytes_of 2 (yellow_count b + 1)) (patched (place the_yellow b + id_size * yellow_count b) (id_bytes d) b) = rw (← e₁, ← e₂) f in
    id_added_lem s b _ b₂ d r (omega (arith, less)) refl made
    ∙ ap (λ (l : List Id). image (with_votes (with_ids l s.votes) s) b)
    (pick_lt (length ids) (s.servers * s.quota) more (add_id d ids) ids less (pick_no (has_id d ids) more ids more new refl))

-- ---- ids in bytes, one by one

ids_more : (e : List ℕ) (at k m : ℕ) → k < m → ids_at (m - k) e (at + id_size * k) ≡ id_at e (at + id_size * k) ∷ ids_at (m - (k + 1)) e (at + id_size * (k + 1))
unfolding ids_at
ids_more e at k m h =
    let a : m - k ≡ suc (m - (k + 1)) = omega arith in
    let b : at + id_size * (k + 1) ≡ at + id_size * k + id_size = omega arith in
    ap (λ (i : ℕ). ids_at i e (at + id_size * k)) a ∙ rw b

pub has_start : (e : List ℕ) (at m : ℕ) (d : Id) → has_id d (ids_at m e at) ≡ has_id d (ids_at (m - 0) e (at + id_size * 0))
has_start e at m d =
    let a : m - 0 ≡ m = omega arith in
    let b : at + id_size * 0 ≡ at = omega arith in
    rw (a, b)

pub has_found : (e : List ℕ) (at k m : ℕ) (d : Id) (t w : Bool) → k < m → t ≡ same_id d (id_at e (at + id_size * k)) → t ≡ true
    → w ≡ has_id d (ids_at (m - k) e (at + id_size * k)) → true ≡ w
unfolding has_id ◌or◌
has_found e at k m d t w h f g j = sym (j ∙ ap (has_id d) (ids_more e at k m h) ∙ rw (sym f ∙ g))

pub has_again : (e : List ℕ) (at k m : ℕ) (d : Id) (t w : Bool) → k < m → t ≡ same_id d (id_at e (at + id_size * k)) → t ≡ false
    → w ≡ has_id d (ids_at (m - k) e (at + id_size * k)) → w ≡ has_id d (ids_at (m - (k + 1)) e (at + id_size * (k + 1)))
unfolding has_id ◌or◌
has_again e at k m d t w h f g j = j ∙ ap (has_id d) (ids_more e at k m h) ∙ rw (sym f ∙ g)

pub has_end : (e : List ℕ) (at k m : ℕ) (d : Id) (w : Bool) → m ≤ k → w ≡ has_id d (ids_at (m - k) e (at + id_size * k)) → false ≡ w
unfolding has_id ids_at
has_end e at k m d w h j = let a : m - k ≡ 0 = omega arith in sym (j ∙ ap (λ (i : ℕ). has_id d (ids_at i e (at + id_size * k))) a)
