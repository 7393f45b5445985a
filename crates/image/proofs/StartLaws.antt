-- The start's image: its numbers, and zeros for cuts and noted lengths.
use Prim.Native.Nat.{ℕ, zero, suc, ◌+◌, ◌*◌, ◌≤◌, ◌<◌}
use mathlib.Core.Path.{◌≡◌, refl, sym, ap, ap₂, ◌∙◌}
use mathlib.Core.Bool.{Bool, true, false, not}
use mathlib.Core.List.{List, [], ◌∷◌, ◌++◌, append-nil}
use mathlib.Core.Option.{none}
use native.Mathlib.Omega.{arith}
use lib.ListN.{length, take, drop, replicate, length-replicate, take-append-drop}
use mir.Syntax.{w8, w16}
use mir.Val.{Fits}
use lib.Seq.{drop-length}
use Rattle.base.specs.Bytes.{bytes_of, joined, over, zeros}
use Rattle.base.specs.Lists.{sum, is_there, Each}
use Rattle.base.specs.Patched.{patched}
use Rattle.base.proofs.PatchedLaws.{patched_length, patched_next}
use Rattle.base.proofs.Sections.{patched_all}
use Rattle.base.specs.Tests.{pick}
use Rattle.base.proofs.TestLaws.{pick_lt, pick_ge}
use Rattle.base.proofs.Branches.{pick_answered, pick_denied}
use Rattle.base.proofs.Over.{zeros_length}
use Rattle.format.specs.Limits.{fewest_servers_limit, least_quota_limit}
use Rattle.format.specs.Range.{sizes_ok}
use Rattle.format.specs.Write.{cuts_bytes, ids_bytes}
use Rattle.record.specs.declared.State as declared
use Rattle.record.specs.Start.{start_of}
use Rattle.replication.specs.Machine.Types.{Server, cleared_mark, no_yellow, no_states, start}
use Rattle.replication.specs.Machine.WellFormed.{queue}
use Rattle.image.specs.Layout.{StartRoom, state_size, the_header, the_cuts, the_noted, the_states, sections, section_size, state_length, least_state_length, header_size}
use Rattle.image.specs.Image.{header_bytes, noted_bytes, state_over, states_over, action_slots, section, parts, image}
use Rattle.image.specs.Header.{mode_number, status_of, id_of, set_of, transitional_of, senders, mark_numbers, header_of, header_written}
use Rattle.image.specs.Outcome.{started, start_on}
use Rattle.image.proofs.SizeLaws.{sizes_answered}
use Rattle.image.proofs.Used.{header_length, StateFits}
use Rattle.image.proofs.Fit.{SectionsFit, section_length}
use Rattle.image.proofs.InPlace.{SameBut, same_but, image_patched}

-- ---- zeros

zeros_append : (m k : ℕ) → zeros m ++ zeros k ≡ zeros (m + k)
unfolding zeros
zeros_append zero k = let e : 0 + k ≡ k = omega arith in rw e
zeros_append (suc m) k = let e : suc m + k ≡ suc (m + k) = omega arith in rw e (ap (λ (l : List ℕ). 0 ∷ l) (zeros_append m k))

-- ---- the start's sections

cuts_zero : (n : ℕ) → cuts_bytes (replicate {A = ℕ} n 0) ≡ zeros (2 * n)
unfolding cuts_bytes joined bytes_of zeros
cuts_zero zero = refl
cuts_zero (suc n) =
    let e : 2 * suc n ≡ suc (suc (2 * n)) = omega arith in
    rw (e, append-nil) (ap (λ (l : List ℕ). 0 ∷ 0 ∷ l) (cuts_zero n))

noted_zero : (n : ℕ) → noted_bytes (replicate {A = ℕ} n 0) ≡ zeros (4 * n)
unfolding noted_bytes bytes_of zeros
noted_zero zero = refl
noted_zero (suc n) =
    let e : 4 * suc n ≡ suc (suc (suc (suc (4 * n)))) = omega arith in
    rw e (ap (λ (l : List ℕ). 0 ∷ 0 ∷ 0 ∷ 0 ∷ l) (noted_zero n))

pub states_none : (size n : ℕ) (l : List ℕ) → states_over size (no_states n) l ≡ l
unfolding states_over state_over no_states
states_none size zero l = refl
states_none size (suc n) l = ap (λ (r : List ℕ). take size l ++ r) (states_none size n (drop size l)) ∙ take-append-drop size l

senders_none : (k n : ℕ) → senders k (no_states n) ≡ 0
unfolding senders no_states is_there pick
senders_none k zero = refl
senders_none k (suc n) = senders_none (k + 1) n

none_fit : (size n : ℕ) → Each (StateFits size) (no_states n)
unfolding no_states
none_fit size zero = tt
none_fit size (suc n) = (tt, none_fit size n)

none_length : (n : ℕ) → length (no_states n) ≡ n
unfolding no_states
none_length n = length-replicate n none

over_whole : (y l : List ℕ) → length l ≡ length y → over y l ≡ y
unfolding over
over_whole y l e = ap (λ (m : ℕ). y ++ drop m l) (sym e) ∙ ap (λ (r : List ℕ). y ++ r) (drop-length l) ∙ append-nil y

start_fits : (n q i : ℕ) → SectionsFit (start n q i)
unfolding start queue no_yellow
start_fits n q i = record {
  cuts = omega (arith, length-replicate {A = ℕ} n 0);
  noted = omega (arith, length-replicate {A = ℕ} n 0);
  states_count = omega (arith, none_length n);
  states = none_fit (state_size n q) n;
  ids = omega arith;
  own_count_of = omega arith;
  own = tt;
  queue_count = omega arith;
  actions = tt;
}

start_same : (n q i : ℕ) (b : List ℕ) → SameBut (the_header ∷ the_cuts ∷ the_noted ∷ []) (start n q i) b
unfolding start parts over action_slots ids_bytes joined queue no_yellow
start_same n q i b =
    same_but (the_header ∷ the_cuts ∷ the_noted ∷ []) (start n q i) b (λ m. absurd (m.0 refl)) (λ m. absurd (m.1.0 refl)) (λ m. absurd (m.1.1.0 refl))
    (λ m. sym (states_none (state_size n q) n (section n q the_states b))) (λ m. refl) (λ m. refl) (λ m. refl)

-- A used part that fills its section.
fills : (n q k m : ℕ) (y b : List ℕ) → y ≡ zeros m → section_size n q k ≡ m → state_length n q ≤ length b → over y (section n q k b) ≡ zeros m
fills n q k m y b e size h =
    ap (λ (x : List ℕ). over x (section n q k b)) e
    ∙ over_whole (zeros m) (section n q k b) (section_length n q k b h ∙ size ∙ sym (zeros_length m))

-- Two runs of zeros next to each other.
zeros_next : (n : ℕ) (d : List ℕ) → header_size ≤ length d → patched (header_size + (2 * n + 0)) (zeros (4 * n)) (patched header_size (zeros (2 * n)) d) ≡ patched header_size (zeros (6 * n)) d
zeros_next n d h =
    let place : header_size + (2 * n + 0) ≡ header_size + length (zeros (2 * n)) = omega (arith, zeros_length (2 * n)) in
    let count : 2 * n + 4 * n ≡ 6 * n = omega arith in
    ap (λ (m : ℕ). patched m (zeros (4 * n)) (patched header_size (zeros (2 * n)) d)) place
    ∙ patched_next header_size (zeros (2 * n)) (zeros (4 * n)) d h
    ∙ ap (λ (x : List ℕ). patched header_size x d) (zeros_append (2 * n) (4 * n) ∙ ap zeros count)

header_room : (n q : ℕ) → header_size ≤ state_length n q
unfolding state_length sections sum
header_room n q = omega arith

pub start_image : (n q i : ℕ) (b : List ℕ) → state_length n q ≤ length b
    → image (start n q i) b ≡ patched header_size (zeros (6 * n)) (patched 0 (header_bytes (start n q i)) b)
unfolding start patched_all parts sections section_size sum
start_image n q i b h =
    let s : Server = start n q i in
    let cuts = fills n q the_cuts (2 * n) (cuts_bytes (replicate {A = ℕ} n 0)) b (cuts_zero n) refl h in
    let noted = fills n q the_noted (4 * n) (noted_bytes (replicate {A = ℕ} n 0)) b (noted_zero n) refl h in
    let d : List ℕ = patched 0 (header_bytes s) b in
    let long : length d ≡ length b = patched_length 0 (header_bytes s) b (omega (arith, header_length s, header_room n q)) in
    image_patched s (start_fits n q i) b h (the_header ∷ the_cuts ∷ the_noted ∷ []) (omega arith, (omega arith, (omega arith, tt))) (start_same n q i b)
    ∙ ap₂ {A = List ℕ} {B = List ℕ} {C = List ℕ} (λ x y. patched (header_size + (2 * n + 0)) y (patched header_size x d)) cuts noted
    ∙ zeros_next n d (omega (arith, header_room n q))

header_start : (n q i : ℕ) → header_of (start n q i) ≡ start_of n q i
unfolding header_of start start_of status_of id_of set_of transitional_of mark_numbers cleared_mark no_yellow mode_number queue
header_start n q i = rw (senders_none 0 n)

pub start_made : (n q i : ℕ) (h : declared.State) (s s₁ s₂ : List ℕ) → StartRoom n q s → h ≡ start_of n q i → s₁ ≡ patched 0 (header_written h) s
    → s₂ ≡ patched header_size (replicate {A = ℕ} (6 * n) 0) s₁ → s₂ ≡ image (start n q i) s
unfolding zeros header_bytes
start_made n q i h s s₁ s₂ l e f g =
    let written : header_written h ≡ header_bytes (start n q i) = ap header_written (e ∙ sym (header_start n q i)) in
    g ∙ ap (patched header_size (zeros (6 * n))) (f ∙ ap (λ (x : List ℕ). patched 0 x s) written) ∙ sym (start_image n q i s l.long)

-- ---- as the code makes it

pub save_room : (n q : ℕ) (s : List ℕ) → StartRoom n q s → header_size ≤ length s
save_room n q s h = omega (arith, header_room n q)

pub clear_room : (n q : ℕ) (s s₁ : List ℕ) → StartRoom n q s → length s₁ ≡ length s → header_size + 6 * n ≤ length s₁
unfolding state_length sections sum
clear_room n q s s₁ h e = omega arith

module _ (t : Bool) (n q i m : ℕ) (s : List ℕ) (answer : t ≡ sizes_ok n q) where
  pub short_outside : not t ≡ true → m ≡ least_state_length → length s < m → started 7 s ≡ start_on n q i s
  unfolding start_on least_state_length
  short_outside d e l =
      pick_denied t (sizes_ok n q) _ _ _ answer d (pick_lt (length s) (state_length fewest_servers_limit least_quota_limit) _ _ _ (omega arith) refl)

  pub outside : not t ≡ true → m ≡ least_state_length → m ≤ length s → started 2 s ≡ start_on n q i s
  unfolding start_on least_state_length
  outside d e l = pick_denied t (sizes_ok n q) _ _ _ answer d (pick_ge (length s) (state_length fewest_servers_limit least_quota_limit) _ _ _ (omega arith) refl)

  pub short_inside : not t ≡ false → m ≡ state_length n q → length s < m → started 7 s ≡ start_on n q i s
  unfolding start_on
  short_inside d e l = pick_answered t (sizes_ok n q) _ _ _ answer d (pick_lt (length s) (state_length n q) _ _ _ (omega arith) refl)

  pub own_outside : not t ≡ false → m ≡ state_length n q → m ≤ length s → n ≤ i → started 2 s ≡ start_on n q i s
  unfolding start_on
  own_outside d e l o =
      pick_answered t (sizes_ok n q) _ _ _ answer d (pick_ge (length s) (state_length n q) _ _ _ (omega arith) (pick_ge i n _ _ _ o refl))

  pub start_taken : (s₁ : List ℕ) → not t ≡ false → m ≡ state_length n q → m ≤ length s → i < n → s₁ ≡ image (start n q i) s → started 0 s₁ ≡ start_on n q i s
  unfolding start_on
  start_taken s₁ d e l o f =
      pick_answered t (sizes_ok n q) _ _ _ answer d
      (pick_ge (length s) (state_length n q) _ _ _ (omega arith) (pick_lt i n _ _ _ o (ap (started 0) f)))

  pub begin_room : not t ≡ false → m ≡ state_length n q → m ≤ length s → StartRoom n q s
  begin_room d e l = record { sizes = sizes_answered t n q answer d; long = omega arith }

module _ (t : Bool) (n q : ℕ) (answer : t ≡ sizes_ok n q) (d : not t ≡ false) where
  pub servers_fit : Fits w8 n
  servers_fit = omega (arith, (sizes_answered t n q answer d).servers)

  pub quota_fits : Fits w16 q
  quota_fits = omega (arith, (sizes_answered t n q answer d).quota)

  pub own_fits_lem : (i : ℕ) → i < n → Fits w8 i
  own_fits_lem i h = omega (arith, (sizes_answered t n q answer d).servers)
