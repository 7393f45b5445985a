-- How many were entered, by the cuts in the buffer, and how many of them are white.
use Prim.Native.Nat.{ℕ, suc, ◌+◌, ◌*◌, ◌-◌, ◌^◌, ◌≤◌, ◌<◌}
use mathlib.Core.Path.{◌≡◌, sym, ap, ap₂, ◌∙◌}
use mathlib.Core.List.{List}
use native.Mathlib.Omega.{arith}
use native.Mathlib.Nat.{zero-add, sub-zero}
use lib.ListN.{length}
use Rattle.base.specs.Bytes.{number_at, numbers_at}
use Rattle.base.specs.Lists.{sum}
use Rattle.format.specs.Limits.{most_number_limit}
use Rattle.format.specs.Places.{cut_size}
use Rattle.replication.specs.Machine.Types.{Server}
use Rattle.image.specs.Layout.{header_size, sections, offset, at_servers, at_queue_length, at_green_count}
use Rattle.image.specs.Header.{header_in}
use Rattle.image.specs.Decode.{white_at, decoded_as, decoded, servers_in, greens_in, white_in}
use Rattle.image.specs.Holding.{Holds, HoldsSuch, Computes}
use Rattle.image.specs.Counts.{queue_count, green_count}
use Rattle.image.proofs.InPlace.{holds_decoded}
use Rattle.queue.specs.Queue.{green_slot, QueueIn}
use Rattle.queue.proofs.ReadLaws.{holds_queue}
use Rattle.queue.proofs.GreenHistory.{greens_in_count, green_low}

-- The first k of n cuts in the bytes b are `total` together.
pub record Summed (b : List ℕ) (n total k : ℕ) : Type 0 where
  pub high : k ≤ n
  pub servers : n ≡ servers_in b
  pub few : n < 2 ^ 8
  pub inside : header_size + cut_size * n ≤ length b
  pub small : total ≤ most_number_limit * k
  pub rest : sum (decoded b).log.cuts ≡ total + sum (numbers_at cut_size (n - k) b (header_size + cut_size * k))

pub sum_start : (b : List ℕ) (n : ℕ) → header_size + cut_size * servers_in b ≤ length b → n ≡ number_at 1 b at_servers → n < 2 ^ 8 → Summed b n 0 0
unfolding decoded decoded_as servers_in header_in offset sections sum
sum_start b n l e few = record {
  high = omega arith;
  servers = e;
  few = few;
  inside = rw e l;
  small = omega arith;
  rest = rw (e, sub-zero (number_at 1 b at_servers), zero-add (sum (numbers_at cut_size (number_at 1 b at_servers) b header_size)));
}

pub sum_next : (b : List ℕ) (n total k v : ℕ) → Summed b n total k → k < n → v ≡ number_at cut_size b (header_size + cut_size * k) → v ≤ most_number_limit
    → Summed b n (total + v) (k + 1)
unfolding numbers_at sum
sum_next b n total k v s h e f =
    let less : n - k ≡ suc (n - (k + 1)) = omega arith in
    let next : header_size + cut_size * k + cut_size ≡ header_size + cut_size * (k + 1) = omega arith in
    let split : sum (numbers_at cut_size (n - k) b (header_size + cut_size * k)) ≡ v + sum (numbers_at cut_size (n - (k + 1)) b (header_size + cut_size * (k + 1))) =
    ap (λ (m : ℕ). sum (numbers_at cut_size m b (header_size + cut_size * k))) less
    ∙ (λ i. sym e i + sum (numbers_at cut_size (n - (k + 1)) b (next i))) in
    record { high = omega arith; servers = s.servers; few = s.few; inside = s.inside; small = omega (arith, s.small); rest = omega (arith, s.rest) }

pub sum_end : (b : List ℕ) (n total k : ℕ) → Summed b n total k → n ≤ k → total ≡ sum (decoded b).log.cuts
unfolding numbers_at sum
sum_end b n total k s h =
    let none : n - k ≡ 0 = omega (arith, s.high) in
    let zero : sum (numbers_at cut_size (n - k) b (header_size + cut_size * k)) ≡ 0 = ap (λ (m : ℕ). sum (numbers_at cut_size m b (header_size + cut_size * k))) none in
    omega (arith, s.rest)

-- ---- as the code computes it

module _ (b : List ℕ) (t m : ℕ) (e : t ≡ sum (decoded b).log.cuts) (f : m ≡ number_at 4 b at_queue_length) where
  pub white_made : t - m ≡ white_in b
  unfolding white_in decoded decoded_as white_at header_in
  white_made = ap₂ {A = ℕ} {B = ℕ} {C = ℕ} (λ x y. x - y) e f

  pub white_computed : Computes (λ s. s.white) b (t - m)
  unfolding white_in
  white_computed s r = white_made ∙ ap (λ (x : Server). x.white) (holds_decoded s b r)

  -- All but the red ones.
  module _ (g : ℕ) (h : g ≡ number_at 4 b at_green_count) (q : QueueIn b) where
    pub green_made : t - (m - g) ≡ length (greens_in b)
    green_made = omega (arith, greens_in_count b q, white_made, q.entered, q.counts.green)

    pub green_computed : Computes (λ s. length s.log.green) b (t - (m - g))
    unfolding greens_in
    green_computed s r = green_made ∙ ap (λ (x : Server). length x.log.green) (holds_decoded s b r)

pub slot_made : (b : List ℕ) (k w : ℕ) → w ≡ white_in b → k - w ≡ green_slot b k
unfolding green_slot
slot_made b k w e = ap (λ (x : ℕ). k - x) e

pub slot_low : (b : List ℕ) (k w : ℕ) → QueueIn b → white_in b ≤ k → k < white_in b + green_count b → w ≡ white_in b → k - w < queue_count b
slot_low b k w q l h e = rw (slot_made b k w e) (green_low b q k l h)

-- ---- for a caller

pub such_queue : (P : Server → Type 0) (b : List ℕ) → HoldsSuch P b → QueueIn b
such_queue P b h = holds_queue h.state b h.holds

pub white_read : (s : Server) (b : List ℕ) → Holds s b → white_in b ≡ s.white
unfolding white_in
white_read s b r = ap (λ (x : Server). x.white) (holds_decoded s b r)
