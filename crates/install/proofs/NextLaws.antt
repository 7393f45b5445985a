-- The creator's action with the least index over a number, and ids that no action has.
use Prim.Native.Nat.{ℕ, zero, suc, ◌+◌, ◌*◌, ◌-◌, ◌≤◌, ◌<◌}
use mathlib.Core.Path.{◌≡◌, refl, sym, ap, subst, ◌∙◌}
use mathlib.Core.Bool.{Bool, true}
use mathlib.Core.List.{List, map}
use mathlib.Core.Option.{none, some}
use borrow.Author.Tests.{not-false}
use native.Mathlib.Omega.{arith}
use native.Mathlib.Decide.{ℕ_discrete}
use lib.ListN.{drop}
use Rattle.base.proofs.AtLaws.{at_low}
use Rattle.base.proofs.QuantifierLaws.{at_drop}
use Rattle.base.proofs.TestLaws.{le_holds, le_fails, Known, holds, fails, known}
use Rattle.base.specs.Bytes.{number_at}
use Rattle.base.specs.Lists.{at, after}
use Rattle.base.specs.Tests.{◌≤?◌}
use Rattle.format.specs.Range.{same_id}
use Rattle.format.specs.Read.{id_at}
use Rattle.format.specs.Types.{Id, Action}
use Rattle.record.specs.Values.{id_of, the_id}
use Rattle.replication.proofs.WellFormed.Held.{Found, absent, found, found?}
use Rattle.replication.proofs.WellFormed.Ids.{same_id_holds}
use Rattle.replication.specs.Machine.Colours.{find}
use Rattle.replication.specs.Machine.Types.{Log}
use Rattle.replication.specs.Machine.WellFormed.{queue}
use Rattle.image.proofs.InPlace.{such_decoded}
use Rattle.image.specs.Counts.{queue_count, green_count, place}
use Rattle.image.specs.Decode.{decoded}
use Rattle.image.specs.Holding.{HoldsSome}
use Rattle.image.specs.Layout.{slot_size, at_queue_length, at_green_count, the_queue}
use Rattle.queue.proofs.ReadLaws.{find_at}
use Rattle.queue.specs.Queue.{position}
use Rattle.install.specs.Swaps.{green_found, green_swap, green_swaps}
use Rattle.install.specs.Table.{log_in, id_in, EachIndex, NextAt, NextBefore, NextFrom, Nearer}
use Rattle.std.specs.Prelude.{Option, Some, None, IfSome}
use Rattle.record.specs.declared.ActionId.{ActionId}
use Rattle.install.proofs.TableLaws.{below, index_read, read_id, queue_count_lem}

-- ---- one place more

module _ (b : List ℕ) (s : HoldsSome b) (k c i : ℕ) (high : k < queue_count b) (first : ℕ) (low : first ≤ k) where
  id_there : (a : Action) → at (queue (log_in b)) k ≡ some a → id_in b k ≡ a.id
  unfolding log_in
  id_there a e = read_id (decoded b) b (such_decoded _ b s) k a e

  -- What holds of the action at k, and of those before it.
  either : (P : ℕ → Type 0) → EachIndex k first c b P → ((id_in b k).creator ≡ c → P (id_in b k).index) → EachIndex (k + 1) first c b P
  either P before last j a l h e m = go (ℕ_discrete j k)
    where
      go : Dec (j ≡ k) → P a.id.index
      go (no d) = before j a l (below j k h d) e m
      go (yes d) =
          let same : id_in b k ≡ a.id = id_there a (ap (at (queue (log_in b))) (sym d) ∙ e) in
          subst P (ap (λ (x : Id). x.index) same) (last (ap (λ (x : Id). x.creator) same ∙ m))

  -- The one before stays the next.
  stays : (p : ℕ) → NextAt k first c i p b → ((id_in b k).creator ≡ c → i < (id_in b k).index → (id_in b p).index ≤ (id_in b k).index)
      → NextAt (k + 1) first c i p b
  stays p n more = record {
    low = n.low;
    high = n.high;
    creator = n.creator;
    over = n.over;
    least = either (λ x. i < x → (id_in b p).index ≤ x) n.least more;
  }

  -- The action at k is another creator's, or not over i.
  passed_by : (r : Option ℕ) → NextBefore k first c i r b → ((id_in b k).creator ≡ c → (id_in b k).index ≤ i) → NextBefore (k + 1) first c i r b
  passed_by None m mine = either (λ x. x ≤ i) m mine
  passed_by (Some p) n mine = stays p n (λ m o. absurd (omega (arith, mine m)))

  -- It is the next, where none was found before, or one that is higher.
  taken : (id_in b k).creator ≡ c → i < (id_in b k).index → EachIndex k first c b (λ x. i < x → (id_in b k).index ≤ x) → NextAt (k + 1) first c i k b
  taken mine over before = record {
    low = low;
    high = high;
    creator = mine;
    over = over;
    least = either (λ x. i < x → (id_in b k).index ≤ x) before (λ n o. omega arith);
  }

module _ (b : List ℕ) (s : HoldsSome b) (k c i : ℕ) (d : ActionId) (high : k < queue_count b) (read : the_id d ≡ id_in b k) where
  creator : d.creator ≡ (id_in b k).creator
  unfolding id_of
  creator = ap (λ (x : Id). x.creator) read

  index : d.index ≡ (id_in b k).index
  index = index_read b k d read

  pub near_other : (r : Option ℕ) → (d.creator ≡ c → ⊥) → Nearer k c i r r b
  near_other r e first low next = passed_by b s k c i high first low r next (λ m. absurd (e (creator ∙ m)))

  pub near_low : (r : Option ℕ) → d.index ≤ i → Nearer k c i r r b
  near_low r e first low next = passed_by b s k c i high first low r next (λ m. omega (arith, index))

  pub near_first : (r : Option ℕ) → r ≡ None → d.creator ≡ c → i < d.index → Nearer k c i r (Some k) b
  near_first r e same over = subst (λ (x : Option ℕ). Nearer k c i x (Some k) b) (sym e) (λ first low before.
      taken b s k c i high first low (sym creator ∙ same) (omega (arith, index)) (λ j a m h e f o. absurd (omega (arith, before j a m h e f))))

  pub near_kept : (r : Option ℕ) (p z : ℕ) → r ≡ Some p → z ≡ (id_in b p).index → z ≤ d.index → Nearer k c i r (Some p) b
  near_kept r p z e g l = subst (λ (x : Option ℕ). Nearer k c i x (Some p) b) (sym e) (λ first low next.
      stays b s k c i high first low p next (λ m o. omega (arith, index)))

  pub near_taken : (r : Option ℕ) (p z : ℕ) → r ≡ Some p → z ≡ (id_in b p).index → d.index < z → d.creator ≡ c → i < d.index → Nearer k c i r (Some k) b
  near_taken r p z e g l same over = subst (λ (x : Option ℕ). Nearer k c i x (Some k) b) (sym e) (λ first low next.
      taken b s k c i high first low (sym creator ∙ same) (omega (arith, index)) (λ j a m h e f o. omega (arith, index, next.least j a m h e f o)))

-- ---- the pass, and the hint

pub next_start : (b : List ℕ) (first c i : ℕ) → NextBefore first first c i None b
next_start b first c i j a m o = absurd (omega arith)

pub next_again : (b : List ℕ) (first c i k : ℕ) (p r : Option ℕ) → first ≤ k → NextBefore k first c i p b → Nearer k c i p r b → NextBefore (k + 1) first c i r b
next_again b first c i k p r l next near = near first l next

pub next_inside : (b : List ℕ) (first c i k : ℕ) (r : Option ℕ) → NextBefore k first c i r b → IfSome r (λ p. p < queue_count b)
next_inside b first c i k None next = tt
next_inside b first c i k (Some q) next = next.high

pub next_end : (b : List ℕ) (first c i n k : ℕ) (r : Option ℕ) → NextBefore k first c i r b → n ≡ queue_count b → k ≤ n → n ≤ k → NextFrom first c i r b
next_end b first c i n k r next e h l = subst (λ (m : ℕ). NextBefore m first c i r b) (omega arith) next

pub next_hit : (b : List ℕ) (first c i h n : ℕ) (has : Bool) → first < h → n ≡ queue_count b → h ≤ n
    → has ≡ same_id (id_of c (i + 1)) (id_in b (h - 1)) → has ≡ true → NextFrom first c i (Some (h - 1)) b
unfolding id_of
next_hit b first c i h n has low count high f t =
    let same : id_of c (i + 1) ≡ id_in b (h - 1) = same_id_holds _ _ (sym f ∙ t) in
    let index : i + 1 ≡ (id_in b (h - 1)).index = ap (λ (d : Id). d.index) same in
    record {
      low = omega arith;
      high = omega arith;
      creator = ap (λ (d : Id). d.creator) (sym same);
      over = omega (arith, index);
      least = λ j a m o g q r. omega (arith, index);
    }

-- Of the red actions, as the code looks them up.
pub next_as : (r : Option ℕ) (g c i : ℕ) (b d : List ℕ) → NextFrom g c i r d → d ≡ b → g ≡ green_count b → NextFrom (green_count b) c i r b
next_as r g c i b d next e f =
    subst (λ (m : ℕ). NextFrom m c i r b) f (subst (λ (x : List ℕ). NextFrom g c i r x) e next)

pub next_over : (b : List ℕ) (first c i k y : ℕ) → y ≡ (id_in b k).index → NextAt (queue_count b) first c i k b → i < y
next_over b first c i k y e next = omega (arith, next.over)

-- ---- what is passed over

-- No action of the list has an id of the creator c over i up to e.
abbrev pub NoneOver : (c i e : ℕ) → List Action → Type 0
NoneOver c i e l = (p : ℕ) (a : Action) → at l p ≡ some a → a.id.creator ≡ c → i < a.id.index → a.id.index ≤ e → ⊥

module _ (b : List ℕ) (s : HoldsSome b) (first c i : ℕ) where
  abbrev from : List Action
  from = drop first (queue (log_in b))

  there : (p : ℕ) (a : Action) → at from p ≡ some a → at (queue (log_in b)) (first + p) ≡ some a
  there p a e = sym (at_drop first (queue (log_in b)) p) ∙ e

  inside : (p : ℕ) (a : Action) → at from p ≡ some a → first + p < queue_count b
  inside p a e = omega (arith, at_low (queue (log_in b)) (first + p) a (there p a e), queue_count_lem b s)

  -- Where there is no next one.
  pub none_next : (e : ℕ) → NextFrom first c i None b → NoneOver c i e from
  none_next e before p a at_p m over most = omega (arith, before (first + p) a (omega arith) (inside p a at_p) (there p a at_p) m)

  -- Those before the next one.
  pub none_before : (e k : ℕ) → NextAt (queue_count b) first c i k b → e < (id_in b k).index → NoneOver c i e from
  none_before e k next less p a at_p m over most = omega (arith, next.least (first + p) a (omega arith) (inside p a at_p) (there p a at_p) m over)

pub none_found : (c i e x : ℕ) (l : List Action) → NoneOver c i e l → i < x → x ≤ e → find (id_of c x) l ≡ none
unfolding id_of
none_found c i e x l h low high = go (found? (id_of c x) l)
  where
    go : Found (id_of c x) l → find (id_of c x) l ≡ none
    go (absent f n) = f
    go (found a f d n) =
        absurd (h (position (id_of c x) l) a (sym (find_at (id_of c x) l) ∙ f) (ap (λ (y : Id). y.creator) (sym d))
        (omega (arith, ap (λ (y : Id). y.index) d)) (omega (arith, ap (λ (y : Id). y.index) d)))

-- No red action turns green.
swap_passed : (d : Id) (l : Log) → find d l.red ≡ none → green_swap d l ≡ l
unfolding green_swap green_found
swap_passed d l e = rw e

pub swaps_passed : (c i n : ℕ) (l : Log) → NoneOver c i (i + n) l.red → green_swaps (map (id_of c) (after i n)) l ≡ l
unfolding after green_swaps
swaps_passed c i zero l h = refl
swaps_passed c i (suc n) l h =
    let one = swap_passed (id_of c (i + 1)) l (none_found c i (i + suc n) (i + 1) l.red h (omega arith) (omega arith)) in
    ap (green_swaps (map (id_of c) (after (i + 1) n))) one
    ∙ swaps_passed c (i + 1) n l (λ p a e m over most. h p a e m (omega arith) (omega arith))
