-- Turning green by swaps keeps the facts of a well-formed log.
use Prim.Native.Nat.{ℕ, zero, suc, ◌≤◌, ◌<◌}
use mathlib.Core.Path.{◌≡◌, refl, sym, ap, subst, ◌∙◌}
use mathlib.Core.List.{List, [], ◌∷◌, ◌++◌, append_assoc, append-nil}
use mathlib.Core.Option.{Option, none, some}
use native.Mathlib.Omega.{arith}
use lib.ListN.{length, length-append, length-drop, length-set}
use lib.Seq.{drop-append-le}
use Rattle.base.proofs.CountLaws.{count_append, count_single}
use Rattle.base.specs.Lists.{Each}
use Rattle.base.proofs.ListLaws.{each_append, each_first, each_second, each_set}
use Rattle.base.specs.Tests.{◌≤?◌}
use Rattle.base.proofs.TestLaws.{le_holds, le_fails, Known, holds, fails, known}
use Rattle.format.specs.Types.{Id, Action}
use Rattle.format.specs.Range.{same_id}
use Rattle.replication.specs.Machine.Types.{Log}
use Rattle.replication.specs.Machine.Colours.{cut, find, of_creator, shown}
use Rattle.replication.specs.Machine.WellFormed.{queue}
use Rattle.replication.specs.Machine.WellFormedRanges.{ActionFits}
use Rattle.replication.proofs.WellFormed.Clauses.{held_count}
use Rattle.replication.proofs.WellFormed.Creators.{of_append}
use Rattle.replication.proofs.WellFormed.Held.{held_parts, found_fact}
use Rattle.replication.proofs.WellFormed.Logs.{ShownFits, LogFits}
use Rattle.image.proofs.Counts.{queue_parts}
use Rattle.queue.specs.Queue.{position}
use Rattle.queue.proofs.Positions.{Stands, position_found, position_none}
use Rattle.install.specs.Swaps.{swap_out, green_found, green_swap, green_swaps}
use Rattle.install.proofs.SwapLaws.{Once, swapped_count, swapped_of}

-- What one swap does.
pub data Swap (d : Id) (l : Log) : Type 0 where
  unmoved : length l.red ≤ position d l.red → green_swap d l ≡ l → Swap d l
  moved : (k : Stands d l.red (position d l.red)) → green_swap d l ≡ green_found (some k.it) (position d l.red) l → Swap d l

pub swap? : (d : Id) (l : Log) → Swap d l
unfolding green_swap green_found
swap? d l = go (known (length l.red ≤? position d l.red))
  where
    go : Known (length l.red ≤? position d l.red) → Swap d l
    go (holds h) = let m = le_holds _ _ h in unmoved m (rw (position_none d l.red m))
    go (fails h) = let k = position_found d l.red (le_fails _ _ h) in moved k (rw k.found)

-- ---- the list without one

swap_out_each : (P : Action → Type 0) (k : ℕ) (l : List Action) → Each P l → Each P (swap_out k l)
unfolding swap_out
swap_out_each P k [] h = tt
swap_out_each P zero (y ∷ l) h = h.1
swap_out_each P (suc k) (y ∷ l) h = each_set P l k y h.1 h.0

swap_out_length : (k : ℕ) (l : List Action) → k < length l → suc (length (swap_out k l)) ≡ length l
unfolding swap_out
swap_out_length k [] h = absurd (omega arith)
swap_out_length zero (y ∷ l) h = refl
swap_out_length (suc k) (y ∷ l) h = ap suc (length-set l k y)

stands_low : (d : Id) (l : List Action) (k : ℕ) → Stands d l k → k < length l
stands_low d l k r = omega (arith, r.count, ap length r.whole, length-append r.before (r.it ∷ r.behind))

-- ---- what stays

pub record Kept (l m : Log) : Type 0 where
  pub cuts : m.cuts ≡ l.cuts
  pub own : m.own ≡ l.own
  pub numbered : m.numbered ≡ l.numbered
  pub count : length (queue m) ≡ length (queue l)
  pub more : List Action
  pub green : m.green ≡ l.green ++ more

found_kept : (d : Id) (l : Log) (k : Stands d l.red (position d l.red)) → Kept l (green_found (some k.it) (position d l.red) l)
unfolding green_found queue
found_kept d l k = record {
  cuts = refl;
  own = refl;
  numbered = refl;
  count =
      length-append (l.green ++ (k.it ∷ [])) (swap_out (position d l.red) l.red)
      ∙ omega (
        arith,
        length-append l.green (k.it ∷ []),
        swap_out_length (position d l.red) l.red (stands_low d l.red (position d l.red) k),
        length-append l.green l.red,
      );
  more = k.it ∷ [];
  green = refl;
}

unmoved_kept : (l : Log) → Kept l l
unmoved_kept l = record { cuts = refl; own = refl; numbered = refl; count = refl; more = []; green = sym (append-nil l.green) }

swap_kept : (d : Id) (l : Log) → Kept l (green_swap d l)
swap_kept d l = go (swap? d l)
  where
    go : Swap d l → Kept l (green_swap d l)
    go (unmoved h e) = rw e (unmoved_kept l)
    go (moved k e) = rw e (found_kept d l k)

pub swaps_kept : (ds : List Id) (l : Log) → Kept l (green_swaps ds l)
unfolding green_swaps
swaps_kept [] l = unmoved_kept l
swaps_kept (d ∷ ds) l =
    let a = swap_kept d l in
    let b = swaps_kept ds (green_swap d l) in
    record {
      cuts = b.cuts ∙ a.cuts;
      own = b.own ∙ a.own;
      numbered = b.numbered ∙ a.numbered;
      count = b.count ∙ a.count;
      more = a.more ++ b.more;
      green = b.green ∙ ap (λ (g : List Action). g ++ b.more) a.green ∙ append_assoc l.green a.more b.more;
    }

-- The slots that are shown stay as many.
pub shown_count : (w : ℕ) (l m : Log) → Kept l m → w ≤ length l.green → length (queue (shown w m)) ≡ length (queue (shown w l))
shown_count w l m k h =
    omega (
      arith,
      k.count,
      queue_parts l,
      queue_parts m,
      queue_parts (shown w l),
      queue_parts (shown w m),
      length-drop w l.green,
      length-drop w m.green,
      ap length k.green,
      length-append l.green k.more,
    )

-- What holds of every action still does.
pub swap_each : (P : Action → Type 0) (d : Id) (l : Log) → Each P (queue l) → Each P (queue (green_swap d l))
unfolding queue green_found
swap_each P d l h = go (swap? d l)
  where
    reds : Each P l.red
    reds = each_second P l.green l.red h

    go : Swap d l → Each P (queue (green_swap d l))
    go (unmoved m e) = rw e h
    go (moved k e) =
        rw e (each_append P (l.green ++ (k.it ∷ [])) (swap_out (position d l.red) l.red)
        (each_append P l.green (k.it ∷ []) (each_first P l.green l.red h) (found_fact P d l.red k.it reds k.found, tt))
        (swap_out_each P (position d l.red) l.red reds))

-- ---- row 8

pub fits_once : (n q me w : ℕ) (l : Log) → ShownFits n q me w l → Once l.red
fits_once n q me w l f d = omega (arith, f.once d, held_parts d l)

found_held : (d : Id) (l : Log) → Once l.red → (k : Stands d l.red (position d l.red)) → (e : Id)
    → held_count e (green_found (some k.it) (position d l.red) l) ≡ held_count e l
unfolding green_found
found_held d l once k e =
    omega (
      arith,
      held_parts e (green_found (some k.it) (position d l.red) l),
      held_parts e l,
      swapped_count d l.red once k e,
      count_append (λ (a : Action). same_id e a.id) l.green (k.it ∷ []),
      count_single (λ (a : Action). same_id e a.id) k.it,
    )

found_of : (d : Id) (l : Log) → Once l.red → (k : Stands d l.red (position d l.red)) → (c : ℕ)
    → of_creator c (queue (green_found (some k.it) (position d l.red) l)) ≡ of_creator c (queue l)
unfolding green_found queue
found_of d l once k c =
    of_append c (l.green ++ (k.it ∷ [])) (swap_out (position d l.red) l.red)
    ∙ omega (arith, of_append c l.green (k.it ∷ []), swapped_of d l.red once k c, of_append c l.green l.red)

found_fits : (n q me w : ℕ) (d : Id) (l : Log) → Stands d l.red (position d l.red) → ShownFits n q me w l → ShownFits n q me w (green_swap d l)
unfolding green_swap green_found cut
found_fits n q me w d l k f = rw k.found (record {
  ranges = record {
    green = each_append (ActionFits n q) l.green (k.it ∷ []) f.ranges.green (found_fact (ActionFits n q) d l.red k.it f.ranges.red k.found, tt);
    red = swap_out_each (ActionFits n q) (position d l.red) l.red f.ranges.red;
    cuts_length = f.ranges.cuts_length;
    cuts = f.ranges.cuts;
    own = f.ranges.own;
    numbered = f.ranges.numbered;
    sent = f.ranges.sent;
  };
  once = λ e. omega (arith, kept e, f.once e);
  within = λ e h. f.within e (omega (arith, kept e));
  places = record {
    counted = omega (arith, (found_kept d l k).count, f.places.counted);
    unwhites = λ c h. omega (arith, found_of d l once k c, f.places.unwhites c h);
    own_room = omega (arith, found_of d l once k me, f.places.own_room);
  };
  own_list = record { numbered = f.own_list.numbered; ids = f.own_list.ids };
})
  where
    once : Once l.red
    once = fits_once n q me w l f

    kept : (e : Id) → held_count e (green_found (some k.it) (position d l.red) l) ≡ held_count e l
    kept = found_held d l once k

-- What the slots show of it.
pub shown_found : (w : ℕ) (o : Option Action) (k : ℕ) (l : Log) → w ≤ length l.green → green_found o k (shown w l) ≡ shown w (green_found o k l)
unfolding green_found
shown_found w none k l h = refl
shown_found w (some x) k l h = λ i. record {
  green = sym (drop-append-le w l.green (x ∷ []) h) i;
  red = swap_out k l.red;
  cuts = l.cuts;
  own = l.own;
  numbered = l.numbered;
  sent = l.sent;
}

pub shown_swap : (w : ℕ) (d : Id) (l : Log) → w ≤ length l.green → green_swap d (shown w l) ≡ shown w (green_swap d l)
unfolding green_swap
shown_swap w d l h = shown_found w (find d l.red) (position d l.red) l h

swap_fits : (n q me w : ℕ) (d : Id) (l : Log) → LogFits n q me w l → LogFits n q me w (green_swap d l)
swap_fits n q me w d l f =
    let k = swap_kept d l in
    record {
      shows = subst (ShownFits n q me w) (shown_swap w d l f.low) (go (swap? d (shown w l)));
      low = omega (arith, f.low, ap length k.green, length-append l.green k.more);
    }
  where
    go : Swap d (shown w l) → ShownFits n q me w (green_swap d (shown w l))
    go (unmoved h e) = rw e f.shows
    go (moved k e) = found_fits n q me w d (shown w l) k f.shows

pub swaps_fits : (n q me w : ℕ) (ds : List Id) (l : Log) → LogFits n q me w l → LogFits n q me w (green_swaps ds l)
unfolding green_swaps
swaps_fits n q me w [] l f = f
swaps_fits n q me w (d ∷ ds) l f = swaps_fits n q me w ds (green_swap d l) (swap_fits n q me w d l f)

pub swaps_append : (ds es : List Id) (l : Log) → green_swaps (ds ++ es) l ≡ green_swaps es (green_swaps ds l)
unfolding green_swaps
swaps_append [] es l = refl
swaps_append (d ∷ ds) es l = swaps_append ds es (green_swap d l)
