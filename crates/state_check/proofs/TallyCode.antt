-- The pass that counts each server's actions: of m from `at` on, those that are left begin at `here`, and the table t has the others.
use Prim.Native.Nat.{ℕ, zero, suc, ◌+◌, ◌*◌, ◌-◌, ◌≤◌, ◌<◌}
use mathlib.Core.Path.{◌≡◌, refl, sym, ap, subst, ◌∙◌}
use mathlib.Core.Bool.{Bool, true, false, not}
use mathlib.Core.List.{List, [], ◌∷◌}
use native.Mathlib.Nat.{mul-le-mul}
use native.Mathlib.Omega.{arith}
use mir.Syntax.{w16}
use mir.Val.{Fits}
use lib.ListN.{length, get_or, set, length-set}
use lib.Seq.{get_or-set_same, get_or-set_other}
use Rattle.base.specs.Tests.{◌≤?◌, ◌=?◌, pick}
use Rattle.base.proofs.TestLaws.{and_holds, and_yes, and_no, eq_holds, eq_fails, eq_yes, eq_no, le_yes, le_no, le_holds, Known, known, holds, fails}
use Rattle.base.specs.Bytes.{number_at}
use Rattle.base.specs.Lists.{every_at, Each}
use Rattle.base.proofs.ListLaws.{each_implied}
use Rattle.base.proofs.Entries.{every_again, every_denied, every_end, every_each, each_every}
use Rattle.base.proofs.Branches.{same_truth}
use Rattle.format.specs.Limits.{most_servers_limit, most_ids}
use Rattle.format.specs.Types.{Action, Context as FormatContext}
use Rattle.format.specs.Range.{ids_in_range, ids_ok}
use Rattle.format.proofs.Ranges.{id_range}
use Rattle.format.specs.Read.{id_at, action_at}
use Rattle.replication.specs.Machine.Colours.{of_creator}
use Rattle.record.specs.Values.{ids_by}
use Rattle.record.specs.Context.{context_of}
use Rattle.record.specs.declared.Context.{Context}
use Rattle.image.specs.Layout.{slot_size, the_queue, offset}
use Rattle.image.specs.Decode.{actions_at}
use Rattle.image.proofs.Slots.{actions_count}
use Rattle.state_check.specs.Slots.{queue_fits}
use Rattle.state_check.specs.Tally.{quotas_fit, Tally, TallyRoom, tally_fits}
use Rattle.state_check.specs.Checks.{place_of, own_cut, last_lists_ok, queue_in, own_room_of, places_ok, Buffer, CreatorsIn}
use Rattle.state_check.proofs.SectionCode.{queue_inside}

-- ---- how many of a creator

-- No more than all.
of_most : (k : ℕ) (xs : List Action) → of_creator k xs ≤ length xs
unfolding of_creator pick
of_most k [] = omega arith
of_most k (x ∷ xs) = go (x.id.creator =? k) (of_most k xs)
  where
    go : (t : Bool) → of_creator k xs ≤ length xs → pick t (suc (of_creator k xs)) (of_creator k xs) ≤ suc (length xs)
    go true h = omega arith
    go false h = omega arith

module _ (b : List ℕ) (here : ℕ) where
  first_is_lem : (m : ℕ) → 0 < m → actions_at m b here ≡ action_at b here ∷ actions_at (m - 1) b (here + slot_size)
  unfolding actions_at
  first_is_lem zero h = absurd (omega arith)
  first_is_lem (suc m) h = let e : suc m - 1 ≡ m = omega arith in rw e

  own_more : (m x : ℕ) → 0 < m → x ≡ number_at 1 b here → of_creator x (actions_at m b here) ≡ suc (of_creator x (actions_at (m - 1) b (here + slot_size)))
  unfolding of_creator pick action_at id_at
  own_more m x h e =
      ap (of_creator x) (first_is_lem m h)
      ∙ ap (λ (t : Bool). pick t (suc (of_creator x (actions_at (m - 1) b (here + slot_size)))) (of_creator x (actions_at (m - 1) b (here + slot_size)))) (eq_yes (number_at 1 b here) x (sym e))

  other_more : (m k : ℕ) → 0 < m → (k ≡ number_at 1 b here → ⊥) → of_creator k (actions_at m b here) ≡ of_creator k (actions_at (m - 1) b (here + slot_size))
  unfolding of_creator pick action_at id_at
  other_more m k h e =
      ap (of_creator k) (first_is_lem m h)
      ∙ ap (λ (t : Bool). pick t (suc (of_creator k (actions_at (m - 1) b (here + slot_size)))) (of_creator k (actions_at (m - 1) b (here + slot_size)))) (eq_no (number_at 1 b here) k (λ z. e (sym z)))

-- ---- the pass

pub record Counted (m : ℕ) (b : List ℕ) (at left here : ℕ) (t : List ℕ) : Type 0 where
  pub few : m ≤ most_ids
  pub inside : here + slot_size * left ≤ length b
  pub creators : Each (λ a. a.id.creator < most_servers_limit) (actions_at left b here)
  pub long : length t ≡ most_servers_limit
  pub counts : (k : ℕ) → k < most_servers_limit → get_or t k 0 + of_creator k (actions_at left b here) ≡ of_creator k (actions_at m b at)

module _ (m : ℕ) (b : List ℕ) (at left here : ℕ) (t : List ℕ) (r : Counted m b at left here t) (h : 0 < left) where
  behind : (l : List Action) → actions_at left b here ≡ l → Each (λ a. a.id.creator < most_servers_limit) l
  behind l e = subst (Each (λ a. a.id.creator < most_servers_limit)) e r.creators

  counted_creator : (x : ℕ) → x ≡ number_at 1 b here → x < most_servers_limit
  unfolding action_at id_at
  counted_creator x e = omega (arith, e, (behind _ (first_is_lem b here left h)).0)

  counted_room : (x : ℕ) → x ≡ number_at 1 b here → Fits w16 (get_or t x 0 + 1)
  counted_room x e =
      omega (arith, r.counts x (counted_creator x e), own_more b here left x h e, of_most x (actions_at m b at), actions_count m b at, r.few)

  counted_again : (x : ℕ) → x ≡ number_at 1 b here → Counted m b at (left - 1) (here + slot_size) (set t x (get_or t x 0 + 1))
  counted_again x e = record {
    few = r.few;
    inside = omega (arith, r.inside);
    creators = (behind _ (first_is_lem b here left h)).1;
    long = length-set t x (get_or t x 0 + 1) ∙ r.long;
    counts = λ k l. go k l (known (k =? x));
  }
    where
      go : (k : ℕ) → k < most_servers_limit → Known (k =? x) → get_or (set t x (get_or t x 0 + 1)) k 0 + of_creator k (actions_at (left - 1) b (here + slot_size)) ≡ of_creator k (actions_at m b at)
      go k l (holds z) =
          let p = eq_holds k x z in
          rw p (omega (arith, get_or-set_same t x (get_or t x 0 + 1) 0 (omega (arith, r.long, counted_creator x e)), own_more b here left x h e, r.counts x (counted_creator x e)))
      go k l (fails z) =
          let p = eq_fails k x z in
          omega (arith, get_or-set_other t x k (get_or t x 0 + 1) 0 p, other_more b here left k h (λ q. p (q ∙ sym e)), r.counts k l)

-- k of them were counted.
module _ (m : ℕ) (b : List ℕ) (at : ℕ) where
  module _ (k : ℕ) (t : List ℕ) (r : Counted m b at (m - k) (at + slot_size * k) t) (h : k < m) where
    module _ (x : ℕ) (e : x ≡ number_at 1 b (at + slot_size * k)) where
      pub tally_creator : x < most_servers_limit
      tally_creator = counted_creator m b at (m - k) (at + slot_size * k) t r (omega arith) x e

      pub tally_more : Fits w16 (get_or t x 0 + 1)
      tally_more = counted_room m b at (m - k) (at + slot_size * k) t r (omega arith) x e

      pub tally_again : Counted m b at (m - (k + 1)) (at + slot_size * (k + 1)) (set t x (get_or t x 0 + 1))
      tally_again =
          let y : m - k - 1 ≡ m - (k + 1) = omega arith in
          let z : at + slot_size * k + slot_size ≡ at + slot_size * (k + 1) = omega arith in
          subst (λ (n : ℕ). Counted m b at n (at + slot_size * (k + 1)) (set t x (get_or t x 0 + 1))) y
          (subst (λ (n : ℕ). Counted m b at (m - k - 1) n (set t x (get_or t x 0 + 1))) z (counted_again m b at (m - k) (at + slot_size * k) t r (omega arith) x e))

counted_end : (m : ℕ) (b : List ℕ) (at left here : ℕ) (t : List ℕ) → Counted m b at left here t → left ≤ 0 → Tally (actions_at m b at) t
unfolding of_creator actions_at
counted_end m b at zero here t r h k l = omega (arith, r.counts k l)
counted_end m b at (suc left) here t r h k l = absurd (omega arith)

pub tally_end : (m : ℕ) (b : List ℕ) (at k : ℕ) (t : List ℕ) → Counted m b at (m - k) (at + slot_size * k) t → m ≤ k → Tally (actions_at m b at) t
tally_end m b at k t r h = counted_end m b at (m - k) (at + slot_size * k) t r (omega arith)

-- ---- the test of the table

abbrev within : (q : ℕ) (t : List ℕ) → ℕ → Bool
within q t k = get_or t k 0 ≤? q

module _ (n q : ℕ) (t : List ℕ) (k : ℕ) (v : Bool) (e : v ≡ tally_fits q t (n - k) k) where
  pub fits_denied : k < n → q < get_or t k 0 → false ≡ v
  unfolding tally_fits
  fits_denied h l = every_denied (within q t) 1 (n - k) k v _ e (omega arith) refl (ap not (le_no _ q l))

  pub fits_again : k < n → get_or t k 0 ≤ q → v ≡ tally_fits q t (n - (k + 1)) (k + 1)
  unfolding tally_fits
  fits_again h l =
      let s : n - k - 1 ≡ n - (k + 1) = omega arith in
      every_again (within q t) 1 (n - k) k v _ e (omega arith) refl (ap not (le_yes _ q l)) ∙ ap (λ (m : ℕ). every_at (within q t) 1 m (k + 1)) s

  pub fits_end : n ≤ k → true ≡ v
  unfolding tally_fits
  fits_end h = every_end (within q t) 1 (n - k) k v e (omega arith)

-- The table tells of the actions that it counts.
pub tally_told : (n q : ℕ) (xs : List Action) (t : List ℕ) → n ≤ most_servers_limit → Tally xs t → tally_fits q t n 0 ≡ quotas_fit n q xs
unfolding tally_fits quotas_fit
tally_told n q xs t h r =
    same_truth _ _
    (λ z. each_every (λ k. of_creator k xs ≤? q) 1 n 0 (λ k l. le_yes _ q (omega (arith, at_place k l, le_holds _ q (every_each (within q t) 1 n 0 z k l)))))
    (λ z. each_every (within q t) 1 n 0 (λ k l. le_yes _ q (omega (arith, at_place k l, le_holds _ q (every_each (λ k. of_creator k xs ≤? q) 1 n 0 z k l)))))
  where
    at_place : (k : ℕ) → k < n → get_or t (0 + 1 * k) 0 ≡ of_creator (0 + 1 * k) xs
    at_place k l = r (0 + 1 * k) (omega arith)

-- ---- the queue of a state's buffer

-- Where its ids are in range, each is of one of the servers.
in_range_creators : (c : FormatContext) (b : List ℕ) (m at : ℕ) → ids_in_range c (ids_by slot_size m b at) ≡ true → Each (λ a. a.id.creator < c.servers) (actions_at m b at)
unfolding ids_in_range ids_by actions_at action_at
in_range_creators c b zero at i = tt
in_range_creators c b (suc m) at i =
    let j = and_holds _ _ i in
    ((id_range c (id_at b at) j.0).creator, in_range_creators c b m (at + slot_size) j.1)

pub creators_made : (c : Context) (ids own actions : ℕ) (b : List ℕ) → actions ≤ c.servers * c.quota → true ≡ last_lists_ok (context_of c) ids own actions b
    → CreatorsIn c actions b
unfolding last_lists_ok queue_fits ids_ok context_of
creators_made c ids own actions b l e =
    let queue = (and_holds _ _ (and_holds _ _ (sym e)).1).1 in
    let in_range = (and_holds _ _ (and_holds _ _ queue).0).0 in
    record { few = l; creators = in_range_creators (context_of c) b actions (place_of (context_of c) the_queue) in_range }

module _ (c : Context) (actions : ℕ) (b : List ℕ) (k : Buffer c b) (r : CreatorsIn c actions b) (at : ℕ) (e : at ≡ offset c.servers c.quota the_queue) where
  pub tally_room : TallyRoom actions b at
  unfolding place_of context_of
  tally_room = record {
    few = omega (arith, r.few, mul-le-mul k.context.most k.context.largest);
    inside = queue_inside c b k at actions e r.few;
    creators =
        subst (λ (i : ℕ). Each (λ a. a.id.creator < most_servers_limit) (actions_at actions b i)) (sym e)
        (each_implied {A = Action} (λ a. a.id.creator < c.servers) (λ a. a.id.creator < most_servers_limit) (λ a l. omega (arith, k.context.most)) (queue_in (context_of c) actions b) r.creators);
  }

  module _ (t : List ℕ) (y : Tally (actions_at actions b at) t) (v : Bool) (f : v ≡ tally_fits c.quota t c.servers 0) where
    quotas_told : v ≡ quotas_fit c.servers c.quota (queue_in (context_of c) actions b)
    unfolding place_of context_of
    quotas_told =
        f ∙ tally_told c.servers c.quota (actions_at actions b at) t k.context.most y ∙ ap (λ (i : ℕ). quotas_fit c.servers c.quota (actions_at actions b i)) e

    pub quotas_denied : (numbered : ℕ) → v ≡ false → v ≡ places_ok (context_of c) numbered actions b
    unfolding places_ok context_of
    quotas_denied numbered h = h ∙ and_no _ _ (sym quotas_told ∙ h)

    pub places_answered : (numbered : ℕ) (q : Bool) → v ≡ true → q ≡ (get_or t c.me 0 + numbered ≤? c.quota + own_cut (context_of c) b) → q ≡ places_ok (context_of c) numbered actions b
    unfolding places_ok own_room_of context_of place_of
    places_answered numbered q h g =
        let own : get_or t c.me 0 ≡ of_creator c.me (queue_in (context_of c) actions b) =
        y c.me (omega (arith, k.context.own, k.context.most)) ∙ ap (λ (i : ℕ). of_creator c.me (actions_at actions b i)) e in
        and_yes _ _ _ (sym quotas_told ∙ h) (g ∙ ap (λ (i : ℕ). i + numbered ≤? c.quota + own_cut (context_of c) b) own)
