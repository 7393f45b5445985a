-- Turning green, and turning white, keep the facts of a well-formed log.
use Rattle.base.specs.Counts.{count}
use Rattle.replication.proofs.WellFormed.Creators.{of_append, of_split, of_more}
use Rattle.base.proofs.AtLaws.{some_same}
use Rattle.base.proofs.TestLaws.{Known, holds, fails, known}
use Rattle.base.specs.Tests.{◌=?◌, pick}
use lib.Seq.{drop-append-le}
use mathlib.Core.Option.{Option, none, some, none-ne-some}
use Prim.Native.Nat.{ℕ, zero, suc, ◌+◌, ◌≤◌, ◌-◌}
use mathlib.Core.Path.{◌≡◌, refl, sym, ap, ◌∙◌, subst}
use mathlib.Core.Bool.{false, Bool, true}
use mathlib.Core.List.{List, [], ◌∷◌, ◌++◌}
use native.Mathlib.Omega.{arith}
use lib.ListN.{length, drop, length-append, length-drop}
use Rattle.base.specs.Lists.{Each}
use Rattle.base.proofs.ListLaws.{each_append, drop_more}
use Rattle.format.specs.Types.{Id, Action}
use Rattle.format.specs.Range.{same_id}
use Rattle.replication.specs.Machine.Types.{Log}
use Rattle.replication.specs.Machine.Colours.{cut, red, promote, green_id, green_ids, green, find, remove, promote_found, of_creator, shown}
use Rattle.replication.specs.Machine.Install.{install_log, ids_up_to}
use Rattle.replication.specs.Machine.WellFormed.{ids_in, queue}
use Rattle.replication.specs.Machine.WellFormedRanges.{ActionFits, id_count}
use Rattle.replication.specs.Laws.RuleFits.{Came, Numbered}
use Rattle.replication.proofs.WellFormed.Clauses.{held_count}
use Rattle.replication.proofs.WellFormed.Ids.{same_id_holds}
use Rattle.replication.proofs.WellFormed.Held.{found_fact, each_remove, Greened, unmoved, moved, greened?, each_drop}
use Rattle.replication.proofs.WellFormed.Logs.{ShownFits, LogFits, HasPlace, red_fits}

-- ---- turning green

-- What is found and removed.
removed_of : (c : ℕ) (d : Id) (xs : List Action) (x : Action) → find d xs ≡ some x → of_creator c xs ≡ of_creator c (remove d xs) + of_creator c (x ∷ [])
unfolding find remove of_creator pick
removed_of c d [] x e = absurd (none-ne-some x e)
removed_of c d (a ∷ xs) x e = go (known (same_id d a.id)) (removed_of c d xs x)
  where
    tail : (b : Bool) → of_creator c xs ≡ of_creator c (remove d xs) + of_creator c (x ∷ [])
        → pick b (suc (of_creator c xs)) (of_creator c xs) ≡ pick b (suc (of_creator c (remove d xs))) (of_creator c (remove d xs)) + of_creator c (x ∷ [])
    tail true h = omega arith
    tail false h = h

    go : Known (same_id d a.id) → (find d xs ≡ some x → of_creator c xs ≡ of_creator c (remove d xs) + of_creator c (x ∷ []))
        → of_creator c (a ∷ xs) ≡ of_creator c (pick (same_id d a.id) xs (a ∷ remove d xs)) + of_creator c (x ∷ [])
    go (holds t) r =
        let z : a ≡ x = some_same (sym (ap (λ b. pick b (some a) (find d xs)) t) ∙ e) in
        omega (arith, ap (λ b. of_creator c (pick b xs (a ∷ remove d xs))) t, of_append c (a ∷ []) xs, ap (λ y. of_creator c (y ∷ [])) z)
    go (fails t) r =
        tail (a.id.creator =? c) (r (sym (ap (λ b. pick b (some a) (find d xs)) t) ∙ e)) ∙ ap (λ b. of_creator c (pick b xs (a ∷ remove d xs)) + of_creator c (x ∷ [])) (sym t)

removed_length : (d : Id) (xs : List Action) (x : Action) → find d xs ≡ some x → length xs ≡ suc (length (remove d xs))
unfolding find remove pick
removed_length d [] x e = absurd (none-ne-some x e)
removed_length d (a ∷ xs) x e = go (known (same_id d a.id)) (removed_length d xs x)
  where
    go : Known (same_id d a.id) → (find d xs ≡ some x → length xs ≡ suc (length (remove d xs))) → suc (length xs) ≡ suc (length (pick (same_id d a.id) xs (a ∷ remove d xs)))
    go (holds t) r = ap (λ b. suc (length (pick b xs (a ∷ remove d xs)))) (sym t)
    go (fails t) r = ap suc (r (sym (ap (λ b. pick b (some a) (find d xs)) t) ∙ e)) ∙ ap (λ b. suc (length (pick b xs (a ∷ remove d xs)))) (sym t)

promote_shown : (n q me w : ℕ) (d : Id) (x : Action) (l : Log) → ActionFits n q x → find d l.red ≡ some x → x.id ≡ d → ((d : Id) → held_count d (promote x l) ≡ held_count d l)
    → ShownFits n q me w l → ShownFits n q me w (promote x l)
unfolding promote cut queue
promote_shown n q me w d x l fits found named kept f = record {
  ranges = record {
    green = each_append (ActionFits n q) l.green (x ∷ []) f.ranges.green (fits, tt);
    red = each_remove (ActionFits n q) x.id l.red f.ranges.red;
    cuts_length = f.ranges.cuts_length;
    cuts = f.ranges.cuts;
    own = f.ranges.own;
    numbered = f.ranges.numbered;
    sent = f.ranges.sent;
  };
  once = λ d. omega (arith, kept d, f.once d);
  within = λ d h. f.within d (omega (arith, kept d));
  places = record {
    counted = omega (arith, f.places.counted, length-append l.green l.red, length-append (l.green ++ (x ∷ [])) (remove x.id l.red), length-append l.green (x ∷ []), removed_length x.id l.red x here);
    unwhites = λ c k. omega (arith, same c, f.places.unwhites c k);
    own_room = omega (arith, same me, f.places.own_room);
  };
  own_list = record { numbered = f.own_list.numbered; ids = f.own_list.ids };
}
  where
    here : find x.id l.red ≡ some x
    here = ap (λ z. find z l.red) named ∙ found

    same : (c : ℕ) → of_creator c ((l.green ++ (x ∷ [])) ++ remove x.id l.red) ≡ of_creator c (l.green ++ l.red)
    same c =
        omega (arith, of_append c (l.green ++ (x ∷ [])) (remove x.id l.red), of_append c l.green (x ∷ []), of_append c l.green l.red, removed_of c x.id l.red x here)

found_named : (d : Id) (xs : List Action) (x : Action) → find d xs ≡ some x → x.id ≡ d
unfolding find pick
found_named d [] x e = absurd (none-ne-some x e)
found_named d (a ∷ xs) x e = go (known (same_id d a.id)) (found_named d xs x)
  where
    go : Known (same_id d a.id) → (find d xs ≡ some x → x.id ≡ d) → x.id ≡ d
    go (holds t) r = ap (λ y. y.id) (sym (some_same (sym (ap (λ b. pick b (some a) (find d xs)) t) ∙ e))) ∙ sym (same_id_holds d a.id t)
    go (fails t) r = r (sym (ap (λ b. pick b (some a) (find d xs)) t) ∙ e)

green_id_shown : (n q me w : ℕ) (d : Id) (l : Log) → ShownFits n q me w l → ShownFits n q me w (green_id d l)
green_id_shown n q me w d l f = go (greened? d l)
  where
    go : Greened d l → ShownFits n q me w (green_id d l)
    go (unmoved e) = rw e f
    go (moved x r e kept) = rw e (promote_shown n q me w d x l (found_fact (ActionFits n q) d l.red x f.ranges.red r) r (found_named d l.red x r) kept f)

-- Turning green and showing.
shown_green_id : (w : ℕ) (d : Id) (l : Log) → w ≤ length l.green → green_id d (shown w l) ≡ shown w (green_id d l)
unfolding green_id promote_found promote
shown_green_id w d l h = go (find d l.red)
  where
    go : (o : Option Action) → promote_found o (shown w l) ≡ shown w (promote_found o l)
    go none = refl
    go (some x) = λ i. record { green = sym (drop-append-le w l.green (x ∷ []) h) i; red = remove x.id l.red; cuts = l.cuts; own = l.own; numbered = l.numbered; sent = l.sent }

green_id_longer : (d : Id) (l : Log) → length l.green ≤ length (green_id d l).green
unfolding green_id promote_found promote
green_id_longer d l = go (find d l.red)
  where
    go : (o : Option Action) → length l.green ≤ length (promote_found o l).green
    go none = omega arith
    go (some x) = omega (arith, length-append l.green (x ∷ []))

pub green_id_fits : (n q me w : ℕ) (d : Id) (l : Log) → LogFits n q me w l → LogFits n q me w (green_id d l)
green_id_fits n q me w d l f =
    record { shows = subst (ShownFits n q me w) (shown_green_id w d l f.low) (green_id_shown n q me w d (shown w l) f.shows); low = omega (arith, f.low, green_id_longer d l) }

pub green_ids_fits : (n q me w : ℕ) (ds : List Id) (l : Log) → LogFits n q me w l → LogFits n q me w (green_ids ds l)
unfolding green_ids
green_ids_fits n q me w [] l f = f
green_ids_fits n q me w (d ∷ ds) l f = green_ids_fits n q me w ds (green_id d l) (green_id_fits n q me w d l f)

pub green_fits : (n q me w : ℕ) (a : Action) (l : Log) → LogFits n q me w l → Came n q a → Numbered me l.numbered a → HasPlace q w a l → LogFits n q me w (green a l)
unfolding green
green_fits n q me w a l f fits own room = green_id_fits n q me w a.id (red a l) (red_fits n q me w a l f fits own room)

pub install_log_fits : (n q me w : ℕ) (yellows : List Id) (l : Log) → LogFits n q me w l → LogFits n q me w (install_log yellows l)
unfolding install_log
install_log_fits n q me w yellows l f = green_ids_fits n q me w (ids_up_to 0 l.cuts) (green_ids yellows l) (green_ids_fits n q me w yellows l f)

-- ---- more turn white

of_drop : (c v w : ℕ) (xs : List Action) → v ≤ w → of_creator c (drop w xs) ≤ of_creator c (drop v xs)
of_drop c v w xs h = omega (arith, of_split c v xs, of_split c w xs, of_more c v w xs h)

count_drop : (d : Id) (k : ℕ) (xs ys : List Action) → id_count d (ids_in (drop k xs ++ ys)) ≤ id_count d (ids_in (xs ++ ys))
unfolding ids_in count
count_drop d zero xs ys = omega arith
count_drop d (suc k) [] ys = omega arith
count_drop d (suc k) (x ∷ xs) ys = omega (arith, count_drop d k xs ys)

-- A higher number leaves less shown.
pub raise_fits : (n q me v w : ℕ) (l : Log) → LogFits n q me v l → v ≤ w → w ≤ length l.green → LogFits n q me w l
unfolding cut queue
raise_fits n q me v w l f h low = record {
  shows = record {
    ranges = record {
      green = subst (Each (ActionFits n q)) (drop_more v w l.green h) (each_drop (ActionFits n q) (w - v) (drop v l.green) f.shows.ranges.green);
      red = f.shows.ranges.red;
      cuts_length = f.shows.ranges.cuts_length;
      cuts = f.shows.ranges.cuts;
      own = f.shows.ranges.own;
      numbered = f.shows.ranges.numbered;
      sent = f.shows.ranges.sent;
    };
    once = λ d. omega (arith, fewer d, f.shows.once d);
    within = λ d k. f.shows.within d (omega (arith, fewer d));
    places = record {
      counted = omega (arith, f.shows.places.counted, length-append (drop v l.green) l.red, length-append (drop w l.green) l.red, length-drop v l.green, length-drop w l.green);
      unwhites = λ c k. omega (arith, less c, f.shows.places.unwhites c k);
      own_room = omega (arith, less me, f.shows.places.own_room);
    };
    own_list = record { numbered = f.shows.own_list.numbered; ids = f.shows.own_list.ids };
  };
  low = low;
}
  where
    less : (c : ℕ) → of_creator c (drop w l.green ++ l.red) ≤ of_creator c (drop v l.green ++ l.red)
    less c = omega (arith, of_append c (drop w l.green) l.red, of_append c (drop v l.green) l.red, of_drop c v w l.green h)

    fewer : (d : Id) → id_count d (ids_in (drop w l.green ++ l.red)) ≤ id_count d (ids_in (drop v l.green ++ l.red))
    fewer d = subst (λ z. id_count d (ids_in (z ++ l.red)) ≤ id_count d (ids_in (drop v l.green ++ l.red))) (drop_more v w l.green h) (count_drop d (w - v) (drop v l.green) l.red)
