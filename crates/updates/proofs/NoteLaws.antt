-- Noted lengths in place.
use Prim.Native.Nat.{ℕ, zero, suc, ◌+◌, ◌*◌, ◌-◌, ◌≤◌, ◌<◌, max, min}
use mathlib.Core.Path.{◌≡◌, refl, sym, ap, ap₂, ◌∙◌}
use mathlib.Core.List.{List, [], ◌∷◌, ◌++◌}
use native.Mathlib.Omega.{arith}
use lib.ListN.{length, get_or, set}
use lib.Seq.{set-get_or}
use Rattle.base.specs.Bytes.{bytes_of, number_at, numbers_at, over}
use Rattle.base.proofs.BytesLaws.{bytes_length, numbers_at_lem}
use Rattle.base.specs.Lists.{sum}
use Rattle.base.specs.Patched.{patched}
use Rattle.base.proofs.Sections.{begin}
use Rattle.replication.specs.Machine.Types.{Server, with_noted, context_of}
use Rattle.replication.specs.Machine.Colours.{note}
use Rattle.replication.specs.Machine.White.{least}
use Rattle.image.specs.Layout.{the_noted, sections, offset, at_servers}
use Rattle.image.specs.Header.{header_of}
use Rattle.image.specs.Image.{header_bytes, noted_bytes, section, parts, image}
use Rattle.image.specs.Decode.{servers_in, decoded, decoded_as}
use Rattle.image.proofs.InRange.{in_range}
use Rattle.image.proofs.Used.{noted_length}
use Rattle.image.specs.Holding.{Holds, HoldsSome}
use Rattle.image.proofs.InPlace.{holds_decoded}
use Rattle.base.proofs.Over.{over_changed}
use Rattle.queue.proofs.Inside.{changed_at}
use Rattle.queue.proofs.Holding.{holds_changed}
use Rattle.updates.specs.Lists.{NumberIn}
use Rattle.updates.proofs.Changes.{changed_image}
use Rattle.image.specs.Counts.{place}
use Rattle.image.proofs.Counts.{numbers, holds_counts, holds_place}

-- ---- one of the numbers

noted_at_lem : (s : Server) (b : List ℕ) (c : ℕ) → Holds s b → c < servers_in b → number_at 4 b (place the_noted b + 4 * c) ≡ get_or s.noted c 0
unfolding decoded decoded_as place servers_in
noted_at_lem s b c r h =
    sym (numbers_at_lem 4 (servers_in b) b (place the_noted b) c h) ∙ ap (λ (t : Server). get_or t.noted c 0) (holds_decoded s b r)

-- Behind the first four elements.
patched_four : (m t u v w : ℕ) (y l : List ℕ) → patched (suc (suc (suc (suc m)))) y (t ∷ u ∷ v ∷ w ∷ l) ≡ t ∷ u ∷ v ∷ w ∷ patched m y l
unfolding patched
patched_four m t u v w y l = let e : suc (suc (suc (suc m))) + length y ≡ suc (suc (suc (suc (m + length y)))) = omega arith in rw e

patched_first : (t u v w t' u' v' w' : ℕ) (l : List ℕ) → patched 0 (t ∷ u ∷ v ∷ w ∷ []) (t' ∷ u' ∷ v' ∷ w' ∷ l) ≡ t ∷ u ∷ v ∷ w ∷ l
unfolding patched
patched_first t u v w t' u' v' w' l = refl

noted_set : (l : List ℕ) (c v : ℕ) → c < length l → patched (4 * c) (bytes_of 4 v) (noted_bytes l) ≡ noted_bytes (set l c v)
unfolding noted_bytes bytes_of
noted_set [] c v h = absurd (omega arith)
noted_set (x ∷ l) zero v h = patched_first _ _ _ _ _ _ _ _ _
noted_set (x ∷ l) (suc c) v h =
    let e : 4 * suc c ≡ suc (suc (suc (suc (4 * c)))) = omega arith in
    ap (λ (m : ℕ). patched m (bytes_of 4 v) (noted_bytes (x ∷ l))) e
    ∙ patched_four (4 * c) _ _ _ _ (bytes_of 4 v) (noted_bytes l)
    ∙ ap (λ (y : List ℕ). bytes_of 4 x ++ y) (noted_set l c v (omega arith))

-- ---- as the code does it

-- It is as high already.
pub note_kept : (b : List ℕ) (c l at old : ℕ) → NumberIn c b → at ≡ place the_noted b → old ≡ number_at 4 b (at + 4 * c) → l ≤ old
    → (s : Server) → Holds s b → b ≡ image (with_noted (note c l s.noted) s) b
unfolding note
note_kept b c l at old h e f g s r =
    let was : old ≡ get_or s.noted c 0 = f ∙ ap (λ (m : ℕ). number_at 4 b (m + 4 * c)) e ∙ noted_at_lem s b c r h.below in
    let high : get_or s.noted c 0 ≡ max (get_or s.noted c 0) l = omega arith in
    sym r.written ∙ ap (λ (x : List ℕ). image (with_noted x s) b) (sym (set-get_or s.noted c 0) ∙ ap (set s.noted c) high)

-- It rises.
pub note_raised : (b b₁ : List ℕ) (c l at old : ℕ) → NumberIn c b → at ≡ place the_noted b → old ≡ number_at 4 b (at + 4 * c) → old < l
    → b₁ ≡ patched (at + 4 * c) (bytes_of 4 l) b → (s : Server) → Holds s b → b₁ ≡ image (with_noted (note c l s.noted) s) b
unfolding sections parts sum offset note header_bytes header_of
note_raised b b₁ c l at old h e f g k s r =
    let n : ℕ = s.servers in
    let q : ℕ = s.quota in
    let was : old ≡ get_or s.noted c 0 = f ∙ ap (λ (m : ℕ). number_at 4 b (m + 4 * c)) e ∙ noted_at_lem s b c r h.below in
    let high : l ≡ max (get_or s.noted c 0) l = omega arith in
    let count : length s.noted ≡ n = (in_range s r.formed).noted_count in
    let below : c < length s.noted = omega (arith, h.below, (numbers s b r).servers) in
    let there : at + 4 * c ≡ begin (sections n q) the_noted + 4 * c = ap (λ (m : ℕ). m + 4 * c) (e ∙ holds_place s b r the_noted) in
    let one = changed_at (sections n q) (parts n q s b) b b (holds_changed s b r) the_noted (4 * c) (at + 4 * c) (bytes_of 4 l) there (omega arith) (omega (arith, bytes_length 4 l)) in
    let list : patched (4 * c) (bytes_of 4 l) (over (noted_bytes s.noted) (section n q the_noted b)) ≡ over (noted_bytes (set s.noted c (max (get_or s.noted c 0) l))) (section n q the_noted b) =
    over_changed (noted_bytes s.noted) (bytes_of 4 l) (section n q the_noted b) (4 * c) (omega (arith, bytes_length 4 l, noted_length s.noted))
    ∙ ap (λ (y : List ℕ). over y (section n q the_noted b)) (noted_set s.noted c l below ∙ ap (λ (m : ℕ). noted_bytes (set s.noted c m)) high) in
    k ∙ changed_image (with_noted (note c l s.noted) s) _ b _ one (ap (λ (y : List ℕ). set (parts n q s b) the_noted y) list)

-- ---- the least of them

least_next : (l x : ℕ) (xs : List ℕ) → least (l ∷ x ∷ xs) ≡ least (min l x ∷ xs)
unfolding least
least_next l x [] = refl
least_next l x (y ∷ ys) = omega arith

numbers_more : (b : List ℕ) (at k n : ℕ) → k < n → numbers_at 4 (n - k) b (at + 4 * k) ≡ number_at 4 b (at + 4 * k) ∷ numbers_at 4 (n - (k + 1)) b (at + 4 * (k + 1))
unfolding numbers_at
numbers_more b at k n h =
    let e : n - k ≡ suc (n - (k + 1)) = omega arith in
    let f : at + 4 * (k + 1) ≡ at + 4 * k + 4 = omega arith in
    ap (λ (i : ℕ). numbers_at 4 i b (at + 4 * k)) e ∙ rw f

-- There are noted lengths, and they lie in the buffer.
pub some_noted : (b : List ℕ) (n : ℕ) → HoldsSome b → n ≡ number_at 1 b at_servers → 1 ≤ n
unfolding servers_in context_of
some_noted b n h e = omega (arith, (numbers h.state b h.holds).servers, (in_range h.state h.holds.formed).context.sizes.fewest)

pub noted_inside : (b : List ℕ) (at n : ℕ) → HoldsSome b → at ≡ place the_noted b → n ≡ number_at 1 b at_servers → at + 4 * n ≤ length b
unfolding servers_in
noted_inside b at n h e f =
    let c = holds_counts h.state b h.holds in
    omega (arith, c.noted_end, c.yellow_end, c.own_end, c.queue_end)

pub first_inside : (b : List ℕ) (at n : ℕ) → HoldsSome b → at ≡ place the_noted b → n ≡ number_at 1 b at_servers → at + 4 ≤ length b
first_inside b at n h e f = omega (arith, some_noted b n h f, noted_inside b at n h e f)

pub least_start : (b : List ℕ) (at n l : ℕ) → 1 ≤ n → l ≡ number_at 4 b at → least (numbers_at 4 n b at) ≡ least (l ∷ numbers_at 4 (n - 1) b (at + 4 * 1))
least_start b at n l h e =
    let f : at + 4 * 0 ≡ at = omega arith in
    let g : n - 0 ≡ n = omega arith in
    ap₂ {A = ℕ} {B = ℕ} {C = ℕ} (λ i j. least (numbers_at 4 i b j)) (sym g) (sym f)
    ∙ ap least (numbers_more b at 0 n h)
    ∙ ap (λ (x : ℕ). least (x ∷ numbers_at 4 (n - 1) b (at + 4 * 1))) (ap (number_at 4 b) f ∙ sym e)

pub least_again : (b : List ℕ) (at n k l x y w : ℕ) → k < n → x ≡ number_at 4 b (at + 4 * k) → y ≡ min l x → w ≡ least (l ∷ numbers_at 4 (n - k) b (at + 4 * k))
    → w ≡ least (y ∷ numbers_at 4 (n - (k + 1)) b (at + 4 * (k + 1)))
least_again b at n k l x y w h e f g =
    let rest : List ℕ = numbers_at 4 (n - (k + 1)) b (at + 4 * (k + 1)) in
    g
    ∙ ap (λ (m : List ℕ). least (l ∷ m)) (numbers_more b at k n h)
    ∙ least_next l (number_at 4 b (at + 4 * k)) rest
    ∙ ap (λ (z : ℕ). least (z ∷ rest)) (ap (min l) (sym e) ∙ sym f)

pub least_end : (b : List ℕ) (at n k l : ℕ) → n ≤ k → at ≡ place the_noted b → n ≡ number_at 1 b at_servers → least (numbers_at 4 n b at) ≡ least (l ∷ numbers_at 4 (n - k) b (at + 4 * k))
    → (s : Server) → Holds s b → l ≡ least s.noted
unfolding least numbers_at decoded decoded_as place servers_in
least_end b at n k l h e f g s r =
    let none : n - k ≡ 0 = omega arith in
    sym (g ∙ ap (λ (i : ℕ). least (l ∷ numbers_at 4 i b (at + 4 * k))) none)
    ∙ ap₂ {A = ℕ} {B = ℕ} {C = ℕ} (λ i j. least (numbers_at 4 i b j)) f e
    ∙ ap (λ (t : Server). least t.noted) (holds_decoded s b r)
