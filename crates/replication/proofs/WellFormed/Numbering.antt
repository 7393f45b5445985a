-- Placing a retransmission's action and numbering keep the facts of a well-formed log; a log's length.
use Rattle.replication.proofs.WellFormed.OwnList.{own_length}
use Rattle.format.specs.Limits.{most_servers_limit, most_number_limit, most_length_limit}
use Prim.Native.Nat.{ℕ, ◌+◌, ◌≤◌, ◌<◌}
use mathlib.Core.Path.{◌≡◌, refl, sym, ◌∙◌}
use mathlib.Core.Bool.{Bool, true, false}
use mathlib.Core.List.{List, [], ◌∷◌, ◌++◌, map, map-append}
use native.Mathlib.Omega.{arith}
use lib.ListN.{length}
use Rattle.base.specs.Tests.{◌and◌, ◌=?◌, ◌≤?◌}
use Rattle.base.proofs.TestLaws.{pick_as, eq_holds, le_no}
use Rattle.base.specs.Lists.{after, above}
use Rattle.base.proofs.ListLaws.{each_append, above_more}
use Rattle.format.specs.Types.{Action}
use Rattle.replication.specs.Machine.Types.{Log, with_own, with_sent}
use Rattle.replication.specs.Machine.Colours.{cut, of_creator, shown}
use Rattle.replication.specs.Machine.Step.{placed}
use Rattle.replication.specs.Machine.WellFormed.{ids_in, queue}
use Rattle.replication.specs.Machine.WellFormedRanges.{PayloadFits, ActionFits}
use Rattle.replication.specs.Laws.RuleFits.{Numbered, Came}
use Rattle.replication.proofs.WellFormed.Logs.{LogFits, own_id, red_fits, HasPlace, green_short}
use Rattle.replication.proofs.WellFormed.Colours.{green_fits}

-- ---- a retransmission's action

pub placed_fits : (n q me w p : ℕ) (a : Action) (l : Log) → LogFits n q me w l → Came n q a → Numbered me l.numbered a
    → ((1 ≤? p and p ≤? length l.green) ≡ false → HasPlace q w a l) → LogFits n q me w (placed p a l)
unfolding placed ◌and◌
placed_fits n q me w p a l f fits own place =
    pick_as (LogFits n q me w) (p =? length l.green + 1) _ _ (λ h. green_fits n q me w a l f fits own (place (above h)))
    (λ h. pick_as (LogFits n q me w) (1 ≤? p and p ≤? length l.green) _ _ (λ k. f) (λ k. red_fits n q me w a l f fits own (place k)))
  where
    above : (p =? length l.green + 1) ≡ true → (1 ≤? p and p ≤? length l.green) ≡ false
    above h = go (1 ≤? p)
      where
        go : (b : Bool) → (b and p ≤? length l.green) ≡ false
        go true = le_no p (length l.green) (omega (arith, eq_holds _ _ h))
        go false = refl

-- ---- numbering

-- The action that a server makes of the payload p.
abbrev pub made_with : (me g w k : ℕ) → List ℕ → Action
made_with me g w k p = record { id = own_id me (k + 1); green_length = g; white_length = w; payload = p }

pub made_fits : (n q me g w k : ℕ) (p : List ℕ) → me < n → g ≤ most_length_limit → w ≤ g → k < most_number_limit → PayloadFits p → ActionFits n q (made_with me g w k p)
made_fits n q me g w k p own short white room fits =
    record { id = record { creator = own; least = omega arith; most = omega arith }; green_length = short; white_length = omega arith; payload = fits }

pub numbering_fits : (n q me v w : ℕ) (p : List ℕ) (l : Log) → me < n → n ≤ most_servers_limit → LogFits n q me v l → w ≤ length l.green
    → of_creator me (queue (shown v l)) + length l.own < q → l.numbered < most_number_limit → PayloadFits p
    → LogFits n q me v (with_own (made_with me (length l.green) w l.numbered p) l)
unfolding cut queue ids_in after
numbering_fits n q me v w p l own few f white room more fits = record {
  shows = record {
    ranges = record {
      green = f.shows.ranges.green;
      red = f.shows.ranges.red;
      cuts_length = f.shows.ranges.cuts_length;
      cuts = f.shows.ranges.cuts;
      own = each_append (ActionFits n q) l.own (made ∷ []) f.shows.ranges.own
          (made_fits n q me (length l.green) w l.numbered p own (green_short n q me v l few f) white more fits, tt);
      numbered = omega arith;
      sent = omega (arith, f.shows.ranges.sent);
    };
    once = f.shows.once;
    within = f.shows.within;
    places = record {
      counted = f.shows.places.counted;
      unwhites = f.shows.places.unwhites;
      own_room = omega (arith, own_length me l (record { numbered = f.shows.own_list.numbered; ids = f.shows.own_list.ids }), f.shows.own_list.numbered, room);
    };
    own_list = record { numbered = omega (arith, f.shows.own_list.numbered); ids = ids };
  };
  low = f.low;
}
  where
    made : Action
    made = made_with me (length l.green) w l.numbered p

    ids : ids_in (l.own ++ (made ∷ [])) ≡ map (own_id me) (above (cut l me) (l.numbered + 1))
    ids =
        map-append (λ a. a.id) l.own (made ∷ [])
        ∙ (rw (f.shows.own_list.ids, above_more (cut l me) l.numbered 1 f.shows.own_list.numbered)
        (sym (map-append (own_id me) (above (cut l me) l.numbered) (after l.numbered 1))))

-- ---- sending what waits

pub sent_fits : (n q me w : ℕ) (l : Log) → LogFits n q me w l → LogFits n q me w (with_sent l.numbered l)
unfolding cut queue ids_in
sent_fits n q me w l f = record {
  shows = record {
    ranges = record {
      green = f.shows.ranges.green;
      red = f.shows.ranges.red;
      cuts_length = f.shows.ranges.cuts_length;
      cuts = f.shows.ranges.cuts;
      own = f.shows.ranges.own;
      numbered = f.shows.ranges.numbered;
      sent = omega arith;
    };
    once = f.shows.once;
    within = f.shows.within;
    places = record { counted = f.shows.places.counted; unwhites = f.shows.places.unwhites; own_room = f.shows.places.own_room };
    own_list = record { numbered = f.shows.own_list.numbered; ids = f.shows.own_list.ids };
  };
  low = f.low;
}
