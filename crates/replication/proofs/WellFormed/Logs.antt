-- A well-formed log: what its places show fits, and entering actions keeps it so.
use native.Mathlib.Nat.{mul-le-mul}
use Rattle.replication.proofs.WellFormed.Creators.{of_append, sum_set}
use Rattle.format.specs.Limits.{most_number_limit, most_servers_limit, most_length_limit}
use Rattle.base.proofs.TestLaws.{eq_yes, eq_no}
use Rattle.base.specs.Tests.{pick}
use native.Mathlib.Decide.{ℕ_discrete}
use Prim.Native.Nat.{ℕ, ◌*◌, zero, suc, ◌+◌, ◌≤◌, ◌<◌}
use mathlib.Core.Path.{◌≡◌, refl, sym, ap, ◌∙◌}
use mathlib.Core.Bool.{false}
use mathlib.Core.List.{List, [], ◌∷◌, map, ◌++◌, append_assoc}
use native.Mathlib.Omega.{arith}
use lib.ListN.{length, length-set, drop, length-append, length-drop}
use Rattle.base.specs.Lists.{above, Each, sum}
use Rattle.base.proofs.ListLaws.{each_append, each_always, each_map, above_next, sum_bound, bounded_each, bounded_set}
use Rattle.format.specs.Types.{Id, Action}
use Rattle.format.specs.Range.{same_id}
use Rattle.replication.specs.Machine.Types.{Log}
use Rattle.replication.specs.Machine.Colours.{cut, enter, red, reds, of_creator, shown}
use Rattle.replication.specs.Machine.WellFormed.{ids_in, queue}
use Rattle.replication.specs.Machine.WellFormedRanges.{ActionFits}
use Rattle.replication.specs.Laws.RuleFits.{Came, Numbered}
use Rattle.replication.proofs.WellFormed.Clauses.{LogRanges, held_count, OwnListFits, PlacesFit}
use Rattle.replication.proofs.Step.Numbered.{numbered_red}
use Rattle.replication.proofs.WellFormed.Ids.{SameId, same, other, same-id?, same_id_no}
use Rattle.replication.proofs.WellFormed.Held.{each_remove, remove_first, remove_absent, Entered, entered, ignored, entered?, held_enter, CutAfter, risen, left, cut-after?}

-- The clauses of row 8 on what a log's places show, w more being white.
pub record ShownFits (n q me w : ℕ) (l : Log) : Type 0 where
  pub ranges : LogRanges n q l
  pub once : (d : Id) → held_count d l ≤ 1
  pub within : (d : Id) → 1 ≤ held_count d l → d.index ≤ cut l d.creator
  pub places : PlacesFit n q me w l
  pub own_list : OwnListFits me l

-- Of a log whose first w green actions are white.
pub record LogFits (n q me w : ℕ) (l : Log) : Type 0 where
  pub shows : ShownFits n q me w (shown w l)
  pub low : w ≤ length l.green

pub beyond_none : (l : Log) → ((d : Id) → 1 ≤ held_count d l → d.index ≤ cut l d.creator) → (d : Id) → cut l d.creator < d.index → held_count d l ≡ 0
beyond_none l f d h = go (held_count d l) refl
  where
    go : (k : ℕ) → held_count d l ≡ k → k ≡ 0
    go zero e = refl
    go (suc k) e = absurd (omega (arith, f d (omega arith)))

-- The server's own action with the index i.
abbrev pub own_id : ℕ → ℕ → Id
own_id me i = record { creator = me; index = i }

pub came : (n q : ℕ) (a : Action) → ActionFits n q a → Came n q a
came n q a f = record { creator = f.id.creator; most = f.id.most; green_length = f.green_length; white_length = f.white_length; payload = f.payload }

pub entered_fits : (n q k : ℕ) (a : Action) → Came n q a → a.id.index ≡ k + 1 → ActionFits n q a
entered_fits n q k a f e = record { id = record { creator = f.creator; least = omega (arith, e); most = f.most }; green_length = f.green_length; white_length = f.white_length; payload = f.payload }

-- ---- entering

module _ (n q me w : ℕ) (a : Action) (l : Log) (f : ShownFits n q me w l) (fits : ActionFits n q a) (next : a.id.index ≡ cut l a.id.creator + 1)
    (own : Numbered me l.numbered a) (room : of_creator a.id.creator (queue l) < q) where
  enters : a.id.creator < length l.cuts
  enters = omega (arith, f.ranges.cuts_length, fits.id.creator)

  entered_sum : sum (enter a l).cuts ≡ sum l.cuts + 1
  unfolding enter cut
  entered_sum = omega (arith, sum_set l.cuts a.id.creator a.id.index enters)

  enter_ranges : LogRanges n q (enter a l)
  unfolding enter cut
  enter_ranges = record {
    green = f.ranges.green;
    red = each_append (ActionFits n q) l.red (a ∷ []) f.ranges.red (fits, tt);
    cuts_length = length-set l.cuts a.id.creator a.id.index ∙ f.ranges.cuts_length;
    cuts = bounded_set l.cuts a.id.creator a.id.index most_number_limit f.ranges.cuts fits.id.most;
    own = each_remove (ActionFits n q) a.id l.own f.ranges.own;
    numbered = f.ranges.numbered;
    sent = f.ranges.sent;
  }

  enter_once : (d : Id) → held_count d (enter a l) ≤ 1
  enter_once d = go (same-id? d a.id)
    where
      go : SameId d a.id → held_count d (enter a l) ≤ 1
      go (same e p i t u) = omega (arith, held_enter a l d, beyond_none l f.within d (omega (arith, ap (cut l) p)))
      go (other m t u) = omega (arith, held_enter a l d, f.once d)

  enter_within : (d : Id) → 1 ≤ held_count d (enter a l) → d.index ≤ cut (enter a l) d.creator
  enter_within d h = go (same-id? d a.id) (cut-after? a l d.creator enters)
    where
      go : SameId d a.id → CutAfter a l d.creator → d.index ≤ cut (enter a l) d.creator
      go (same e p i t u) (risen c k) = omega arith
      go (same e p i t u) (left c k) = absurd (c p)
      go (other m t u) (risen c k) = omega (arith, f.within d (omega (arith, held_enter a l d)), ap (cut l) c)
      go (other m t u) (left c k) = omega (arith, f.within d (omega (arith, held_enter a l d)))

  entered_queue : queue (enter a l) ≡ queue l ++ (a ∷ [])
  unfolding enter queue
  entered_queue = sym (append_assoc l.green l.red (a ∷ []))

  entered_of : (c : ℕ) → of_creator c (queue (enter a l)) ≡ of_creator c (queue l) + of_creator c (a ∷ [])
  entered_of c = ap (of_creator c) entered_queue ∙ of_append c (queue l) (a ∷ [])

  of_one : (c : ℕ) → (a.id.creator ≡ c → of_creator c (a ∷ []) ≡ 1) × ((a.id.creator ≡ c → ⊥) → of_creator c (a ∷ []) ≡ 0)
  unfolding of_creator pick
  of_one c = (λ e. ap (λ b. pick b 1 0) (eq_yes _ _ e), λ e. ap (λ b. pick b 1 0) (eq_no _ _ e))

  enter_places : PlacesFit n q me w (enter a l)
  unfolding enter
  enter_places = record { counted = counted; unwhites = unwhites; own_room = go (cut-after? a l me enters) }
    where
      counted : w + length (queue (enter a l)) ≡ sum (enter a l).cuts
      counted =
          omega (arith, f.places.counted, ap length entered_queue, length-append (queue l) (a ∷ []), entered_sum)

      unwhites : (c : ℕ) → c < n → of_creator c (queue (enter a l)) ≤ q
      unwhites c k = by (ℕ_discrete a.id.creator c)
        where
          by : Dec (a.id.creator ≡ c) → of_creator c (queue (enter a l)) ≤ q
          by (yes e) = omega (arith, entered_of c, (of_one c).0 e, room, ap (λ z. of_creator z (queue l)) e)
          by (no e) = omega (arith, entered_of c, (of_one c).1 e, f.places.unwhites c k)

      go : CutAfter a l me → of_creator me (queue (enter a l)) + (enter a l).numbered ≤ q + cut (enter a l) me
      go (risen c k) = omega (arith, entered_of me, (of_one me).0 (sym c), f.places.own_room, ap (cut l) c)
      go (left c k) = omega (arith, entered_of me, (of_one me).1 (λ e. c (sym e)), f.places.own_room)

  enter_own : OwnListFits me (enter a l)
  unfolding enter
  enter_own = go (cut-after? a l me enters)
    where
      first : me ≡ a.id.creator → ids_in l.own ≡ a.id ∷ map (own_id me) (above a.id.index l.numbered)
      first c =
          let k : cut l me + 1 ≡ a.id.index = omega (arith, ap (cut l) c) in
          let e : own_id me (cut l me + 1) ≡ a.id = λ i. record { creator = c i; index = k i } in
          f.own_list.ids
          ∙ ap (map (own_id me)) (above_next (cut l me) l.numbered (omega (arith, own (sym c))))
          ∙ (λ i. e i ∷ map (own_id me) (above (k i) l.numbered))

      others : (me ≡ a.id.creator → ⊥) → Each (λ x. same_id a.id x ≡ false) (ids_in l.own)
      others c =
          rw f.own_list.ids
          (each_map (λ x. same_id a.id x ≡ false) (own_id me) (above (cut l me) l.numbered)
          (each_always (λ i. same_id a.id (own_id me i) ≡ false) (λ i. same_id_no a.id (own_id me i) (λ e. c (sym e))) (above (cut l me) l.numbered)))

      go : CutAfter a l me → OwnListFits me (enter a l)
      go (risen c k) = record {
        numbered = omega (arith, own (sym c));
        ids = remove_first a.id l.own (map (own_id me) (above a.id.index l.numbered)) (first c) ∙ ap (λ i. map (own_id me) (above i l.numbered)) (sym k);
      }
      go (left c k) = record {
        numbered = omega (arith, f.own_list.numbered);
        ids = ap ids_in (remove_absent a.id l.own (others c)) ∙ f.own_list.ids ∙ ap (λ i. map (own_id me) (above i l.numbered)) (sym k);
      }

  pub enter_shown : ShownFits n q me w (enter a l)
  enter_shown = record { ranges = enter_ranges; once = enter_once; within = enter_within; places = enter_places; own_list = enter_own }

-- There is room for it, if it is its creator's next.
abbrev pub HasPlace : (q w : ℕ) → Action → Log → Type 0
HasPlace q w a l = a.id.index ≡ cut l a.id.creator + 1 → of_creator a.id.creator (queue (shown w l)) < q

pub red_fits : (n q me w : ℕ) (a : Action) (l : Log) → LogFits n q me w l → Came n q a → Numbered me l.numbered a → HasPlace q w a l → LogFits n q me w (red a l)
unfolding enter cut
red_fits n q me w a l f fits own room = go (entered? a l)
  where
    go : Entered a l → LogFits n q me w (red a l)
    go (entered next t e) = rw e (record { shows = enter_shown n q me w a (shown w l) f.shows (entered_fits n q _ a fits next) next own (room next); low = f.low })
    go (ignored t e) = rw e f

-- ---- the own list

-- There is room for what is on it.
own_place : (n q me w : ℕ) (a : Action) (l : Log) → LogFits n q me w l → a.id.creator ≡ me → a.id.index ≤ l.numbered → HasPlace q w a l
unfolding cut
own_place n q me w a l f e h next =
    omega (arith, f.shows.places.own_room, ap (λ c. of_creator c (queue (shown w l))) e, ap (cut l) e)

pub reds_fits : (n q me w : ℕ) (more : List Action) (l : Log) → LogFits n q me w l → Each (ActionFits n q) more → Each (Numbered me l.numbered) more
    → Each (λ a. a.id.creator ≡ me) more → LogFits n q me w (reds more l)
unfolding reds
reds_fits n q me w [] l f fits own mine = f
reds_fits n q me w (a ∷ more) l f fits own mine =
    reds_fits n q me w more (red a l) (red_fits n q me w a l f (came n q a fits.0) own.0 (own_place n q me w a l f mine.0 (own.0 mine.0))) fits.1
    (rw (numbered_red a l) own.1) mine.1

-- ---- how long the green list is

pub green_short : (n q me w : ℕ) (l : Log) → n ≤ most_servers_limit → LogFits n q me w l → length l.green ≤ most_length_limit
unfolding cut queue
green_short n q me w l few f =
    omega (arith, f.shows.places.counted, length-append (drop w l.green) l.red, length-drop w l.green, f.low, sum_bound most_number_limit l.cuts (bounded_each most_number_limit l.cuts f.shows.ranges.cuts), f.shows.ranges.cuts_length, mul-le-mul {n₁ = n} {m₁ = most_number_limit} {n₂ = most_servers_limit} {m₂ = most_number_limit} few (omega arith), ap (λ k. k * most_number_limit) f.shows.ranges.cuts_length)
