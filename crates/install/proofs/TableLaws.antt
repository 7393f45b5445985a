-- The table of places: filled.
use Prim.Native.Nat.{ℕ, ◌+◌, ◌*◌, ◌≤◌, ◌<◌}
use mathlib.Core.Path.{◌≡◌, sym, ap, ◌∙◌, subst}
use mathlib.Core.List.{List}
use mathlib.Core.Option.{some}
use native.Mathlib.Omega.{arith}
use lib.ListN.{length, get_or, set, replicate, length-set, length-replicate}
use lib.Seq.{get_or-set_same}
use native.Mathlib.Decide.{ℕ_discrete}
use Rattle.base.proofs.AtLaws.{some_same, at_low}
use Rattle.base.specs.Bytes.{number_at}
use Rattle.base.proofs.CountLaws.{count_map}
use Rattle.base.specs.Lists.{at}
use Rattle.base.proofs.ListLaws.{each_at, at_each}
use Rattle.base.specs.Tests.{◌≤?◌}
use Rattle.base.proofs.TestLaws.{le_holds, le_fails, Known, holds, fails, known}
use Rattle.format.specs.Limits.{most_servers_limit, most_ids}
use Rattle.format.specs.Types.{Id, Action}
use Rattle.format.specs.Range.{same_id}
use Rattle.format.specs.Read.{id_at, action_at}
use Rattle.format.proofs.Ranges.{ActionRange}
use Rattle.record.specs.Values.{id_of, the_id, slot}
use Rattle.record.specs.Events.{id_in as record_id}
use Rattle.record.specs.declared.ActionId.{ActionId}
use Rattle.record.proofs.OnePass.{kept_set}
use Rattle.replication.specs.Machine.Types.{Server, context_of}
use Rattle.replication.specs.Machine.WellFormed.{queue, ids_in}
use Rattle.image.specs.Layout.{slot_size, at_queue_length, at_green_count, the_queue}
use Rattle.image.specs.Header.{shown_log}
use Rattle.image.specs.Decode.{decoded}
use Rattle.image.proofs.InRange.{in_range}
use Rattle.image.specs.Holding.{Holds, HoldsSome}
use Rattle.image.proofs.InPlace.{such_decoded, such_header}
use Rattle.queue.proofs.Holding.{log_fits}
use Rattle.queue.proofs.ReadLaws.{queue_read, actions_at_lem}
use Rattle.install.specs.Table.{log_in, Indexed, IndexedFrom, id_in}
use Rattle.install.proofs.SwapLaws.{Once}
use Rattle.image.specs.Counts.{queue_count, green_count, place, CountsIn}
use Rattle.image.proofs.Counts.{numbers, such_counts}

-- ---- the id of a place

pub id_read : (b : List ℕ) (k p : ℕ) (d : ActionId) → p ≡ place the_queue b → d ≡ record_id b (p + slot_size * k) → the_id d ≡ id_in b k
unfolding id_at id_of
id_read b k p d e f = ap (λ (x : ActionId). the_id x) f ∙ ap (λ (q : ℕ). id_at b (q + slot_size * k)) e

pub index_read : (b : List ℕ) (k : ℕ) (d : ActionId) → the_id d ≡ id_in b k → d.index ≡ (id_in b k).index
unfolding id_of
index_read b k d e = ap (λ (x : Id). x.index) e

-- ---- the place of an id in the table

module _ (s : Server) (b : List ℕ) (r : Holds s b) where
  creator_low : (k : ℕ) (a : Action) → at (queue (shown_log s)) k ≡ some a → a.id.creator < most_servers_limit
  unfolding context_of
  creator_low k a e =
      omega (arith, (in_range s r.formed).context.sizes.most, (each_at (ActionRange (context_of s)) (queue (shown_log s)) k a (in_range s r.formed).actions e).id.creator)

  pub queue_once : Once (queue (shown_log s))
  unfolding ids_in
  queue_once d =
      omega (arith, (log_fits s r.formed).shows.once d, count_map (same_id d) (λ (a : Action). a.id) (queue (shown_log s)))

  -- What stands at the place k.
  pub read_at : (k : ℕ) → k < queue_count b → at (queue (shown_log s)) k ≡ some (action_at b (place the_queue b + slot_size * k))
  read_at k h = ap (λ (l : List Action). at l k) (sym (queue_read s b r)) ∙ actions_at_lem (queue_count b) b (place the_queue b) k h

  pub read_id : (k : ℕ) (a : Action) → at (queue (shown_log s)) k ≡ some a → id_at b (place the_queue b + slot_size * k) ≡ a.id
  unfolding action_at
  read_id k a e =
      let h : k < queue_count b = omega (arith, at_low (queue (shown_log s)) k a e, (numbers s b r).queue) in
      ap (λ (x : Action). x.id) (some_same (sym (read_at k h) ∙ e))

pub entry_made : (b : List ℕ) (k r : ℕ) (d : ActionId) → the_id d ≡ id_in b k → r ≡ slot (the_id d) → r ≡ slot (id_in b k)
entry_made b k r d f m = m ∙ ap slot f

pub entry_in : (b : List ℕ) (k : ℕ) (d : ActionId) → HoldsSome b → k < queue_count b → the_id d ≡ id_in b k → d.creator < most_servers_limit
unfolding id_of
entry_in b k d s h f =
    let w : Server = decoded b in
    let a : Action = action_at b (place the_queue b + slot_size * k) in
    let there = read_at w b (such_decoded _ b s) k h in
    let c : d.creator ≡ a.id.creator = ap (λ (j : Id). j.creator) (f ∙ read_id w b (such_decoded _ b s) k a there) in
    omega (arith, creator_low w b (such_decoded _ b s) k a there)

pub count_inside : (b : List ℕ) → HoldsSome b → at_queue_length + 4 ≤ length b
count_inside b s = omega (arith, such_header _ b s)

-- ---- filled

pub below : (j k : ℕ) → j < k + 1 → (j ≡ k → ⊥) → j < k
below j k l d = go (known (k ≤? j))
  where
    go : Known (k ≤? j) → j < k
    go (holds h) = absurd (d (omega (arith, l, le_holds k j h)))
    go (fails h) = le_fails k j h

-- The actions before k have left their hints.
pub record Filled (k : ℕ) (t b : List ℕ) : Type 0 where
  pub counts : CountsIn b
  pub size : length t ≡ most_ids
  pub high : k ≤ queue_count b
  pub left : (j : ℕ) (a : Action) → at (queue (log_in b)) j ≡ some a → j < k → 0 < get_or t (slot a.id) 0

module _ (b : List ℕ) (s : HoldsSome b) where
  pub green_read : green_count b ≡ length (log_in b).green
  unfolding log_in
  green_read = (numbers (decoded b) b (such_decoded _ b s)).green

  pub queue_count_lem : queue_count b ≡ length (queue (log_in b))
  unfolding log_in
  queue_count_lem = (numbers (decoded b) b (such_decoded _ b s)).queue

  pub filled_start : (t : List ℕ) → t ≡ replicate {A = ℕ} most_ids 0 → Filled 0 t b
  filled_start t f = record {
    counts = such_counts _ b s;
    size = ap length f ∙ length-replicate {A = ℕ} most_ids 0;
    high = omega arith;
    left = λ j a e h. absurd (omega arith);
  }

  pub filled_again : (k p n : ℕ) (t u : List ℕ) → Filled k t b → n ≡ number_at 4 b at_queue_length → k < n → p ≡ slot (id_in b k) → p < most_ids
      → u ≡ set t p (k + 1) → Filled (k + 1) u b
  unfolding log_in
  filled_again k p n t u f count h e l made = record {
    counts = f.counts;
    size = ap length made ∙ length-set t p (k + 1) ∙ f.size;
    high = omega arith;
    left = λ j a there low. subst (λ (v : List ℕ). 0 < get_or v (slot a.id) 0) (sym made) (go j a there low (ℕ_discrete j k));
  }
    where
      inside : p < length t
      inside = omega (arith, f.size)

      go : (j : ℕ) (a : Action) → at (queue (shown_log (decoded b))) j ≡ some a → j < k + 1 → Dec (j ≡ k) → 0 < get_or (set t p (k + 1)) (slot a.id) 0
      go j a there low (no d) =
          kept_set t p (slot a.id) (k + 1) inside (omega arith) (f.left j a there (below j k low d))
      go j a there low (yes d) =
          let same : p ≡ slot a.id = e ∙ ap slot (read_id (decoded b) b (such_decoded _ b s) k a (ap (at (queue (shown_log (decoded b)))) (sym d) ∙ there)) in
          omega (arith, ap (λ (i : ℕ). get_or (set t p (k + 1)) i 0) same, get_or-set_same t p (k + 1) 0 inside)

  pub filled_end : (k n : ℕ) (t : List ℕ) → Filled k t b → n ≡ number_at 4 b at_queue_length → n ≤ k → IndexedFrom 0 t b
  filled_end k n t f count h = record {
    holds = s;
    counts = f.counts;
    size = f.size;
    low = omega arith;
    hinted = at_each _ (queue (log_in b)) (λ j a e. f.left j a e (omega (arith, at_low (queue (log_in b)) j a e, queue_count_lem, count, h)));
  }

-- The code's number of green actions.
pub indexed_green : (g : ℕ) (t b : List ℕ) → g ≡ number_at 4 b at_green_count → Indexed t b → IndexedFrom g t b
indexed_green g t b e x = subst (λ (m : ℕ). IndexedFrom m t b) (sym e) x
