-- What a buffer that holds a state says of its numbers, and the room behind its lists.
use Prim.Native.Nat.{ℕ, ◌+◌, ◌*◌, ◌≤◌}
use mathlib.Core.Path.{◌≡◌, ap}
use mathlib.Core.List.{List}
use native.Mathlib.Nat.{mul-le-mul}
use native.Mathlib.Omega.{arith}
use lib.ListN.{length, length-append}
use Rattle.base.specs.Bytes.{number_at}
use Rattle.base.specs.Lists.{sum}
use Rattle.format.specs.Limits.{most_ids}
use Rattle.format.specs.Places.{id_size}
use Rattle.record.specs.declared.State.{State}
use Rattle.replication.specs.Machine.Types.{Log, Server, context_of}
use Rattle.replication.specs.Machine.WellFormed.{queue}
use Rattle.image.specs.Layout.{SizesIn, the_yellow, the_own, the_queue, sections, offset, state_length, header_size, slot_size, at_servers, at_quota, at_me, the_noted}
use Rattle.image.specs.Header.{shown_log, header_of, header_in}
use Rattle.image.specs.Decode.{servers_in, quota_in}
use Rattle.image.specs.Holding.{Holds, HoldsSuch}
use Rattle.image.specs.Counts.{queue_count, green_count, numbered_in, own_count_of, sent_in, yellow_count, place, CountsIn}
use Rattle.image.proofs.InRange.{InRange, in_range}
use Rattle.image.proofs.HeaderLaws.{header_loaded}

pub record Numbers (s : Server) (b : List ℕ) : Type 0 where
  pub servers : servers_in b ≡ s.servers
  pub quota : quota_in b ≡ s.quota
  pub me : number_at 1 b at_me ≡ s.me
  pub queue : queue_count b ≡ length (queue (shown_log s))
  pub green : green_count b ≡ length (shown_log s).green
  pub numbered : numbered_in b ≡ s.log.numbered
  pub own : own_count_of b ≡ length s.log.own
  pub sent : sent_in b ≡ s.log.sent
  pub yellow : yellow_count b ≡ length s.votes.yellow.ids

pub queue_parts : (l : Log) → length (queue l) ≡ length l.green + length l.red
unfolding queue
queue_parts l = length-append l.green l.red

-- ---- the sections of n servers with the quota q lie one behind the other

module _ (n q : ℕ) where
  cuts_end : header_size + 2 * n ≤ state_length n q
  unfolding state_length sections sum
  cuts_end = omega arith

  noted_end_lem : offset n q the_noted + 4 * n ≤ offset n q the_yellow
  unfolding offset sections sum
  noted_end_lem = omega arith

  yellow_end_lem : offset n q the_yellow + id_size * (n * q) ≤ offset n q the_own
  unfolding offset sections sum
  yellow_end_lem = omega arith

  own_end_lem : offset n q the_own + slot_size * q ≤ offset n q the_queue
  unfolding offset sections sum
  own_end_lem = omega arith

  queue_end_lem : offset n q the_queue + slot_size * (n * q) ≤ state_length n q
  unfolding offset state_length sections sum
  queue_end_lem = omega arith

module _ (s : Server) (b : List ℕ) (r : Holds s b) where
  pub numbers : Numbers s b
  unfolding servers_in quota_in header_in header_of
  numbers =
      let e = header_loaded s b r in
      record {
        servers = ap (λ (h : State). h.servers) e;
        quota = ap (λ (h : State). h.quota) e;
        me = ap (λ (h : State). h.me) e;
        queue = ap (λ (h : State). h.queue_length) e;
        green = ap (λ (h : State). h.green_count) e;
        numbered = ap (λ (h : State). h.numbered) e;
        own = ap (λ (h : State). h.own_count) e;
        sent = ap (λ (h : State). h.sent) e;
        yellow = ap (λ (h : State). h.yellow_count) e;
      }

  pub holds_place : (k : ℕ) → place k b ≡ offset s.servers s.quota k
  unfolding place
  holds_place k = λ i. offset (numbers.servers i) (numbers.quota i) k

  -- A caller that knows the state may change its lists.
  pub holds_counts : CountsIn b
  unfolding context_of place
  holds_counts =
      let f : InRange s = in_range s r.formed in
      let z = f.context.sizes in
      let m = numbers in
      let n = numbers.servers in
      let q = numbers.quota in
      let ids : length s.votes.yellow.ids ≤ s.servers * s.quota = f.yellow.few in
      let one : 1 * 1 ≤ s.servers * s.quota = mul-le-mul {n₁ = 1} {m₁ = 1} {n₂ = s.servers} {m₂ = s.quota} (omega (arith, z.fewest)) (omega (arith, z.least)) in
      let all : s.servers * s.quota ≤ most_ids = mul-le-mul z.most z.highest in
      let parts : length (queue (shown_log s)) ≡ length (shown_log s).green + length s.log.red = queue_parts (shown_log s) in
      let long : state_length (servers_in b) (quota_in b) ≤ length b = rw (n, q) r.long in
      record {
        sizes = record { servers = rw n z.most; quota = rw q z.highest };
        some = rw (n, q) one;
        most = rw (n, q) all;
        long = long;
        cuts = omega (arith, cuts_end (servers_in b) (quota_in b));
        noted_end = noted_end_lem (servers_in b) (quota_in b);
        yellow_end = yellow_end_lem (servers_in b) (quota_in b);
        own_end = own_end_lem (servers_in b) (quota_in b);
        queue_end = omega (arith, queue_end_lem (servers_in b) (quota_in b));
        queue = rw (m.queue, n, q) f.queue_count;
        green = omega (arith, m.queue, m.green);
        numbered = rw m.numbered f.numbered;
        own = rw (m.own, q) f.own_count_of;
        sent = rw (m.sent, m.numbered) f.sent;
        yellow = rw (m.yellow, n, q) ids;
      }

pub such_counts : (P : Server → Type 0) (b : List ℕ) → HoldsSuch P b → CountsIn b
such_counts P b h = holds_counts h.state b h.holds

-- ---- as the code computes it

pub sizes_read : (b : List ℕ) (n q : ℕ) → CountsIn b → n ≡ number_at 1 b at_servers → q ≡ number_at 2 b at_quota → SizesIn n q
unfolding servers_in quota_in
sizes_read b n q c e f = rw (e, f) c.sizes

pub place_read : (k : ℕ) (b : List ℕ) (n q at : ℕ) → n ≡ number_at 1 b at_servers → q ≡ number_at 2 b at_quota → at ≡ offset n q k → at ≡ place k b
unfolding place servers_in quota_in
place_read k b n q at e f g = rw (g, e, f)
