-- Document 01, 'What each event does', second paragraph: Red, Yellow, Green.
use Rattle.std.specs.Prelude.{ℕ, suc, ◌+◌, ◌*◌, max, Bool, List, [], ◌∷◌, ◌++◌, length, drop, get_or, set}
use Rattle.std.proofs.Math.Option.{Option, none, some}
use Rattle.base.specs.Tests.{◌=?◌, ◌<?◌, pick}
use Rattle.format.specs.Types.{Id, Action}
use Rattle.format.specs.Range.{same_id, has_id}
use Rattle.replication.specs.Machine.Types.{Log, Votes, Server, with_log, with_votes, with_yellow}

-- ---- actions in a list, by id

-- The first action with the id d.
unfoldable pub find : Id → List Action → Option Action
find d [] = none
find d (a ∷ l) = pick (same_id d a.id) (some a) (find d l)

-- The list without the first action with the id d.
unfoldable pub remove : Id → List Action → List Action
remove d [] = []
remove d (a ∷ l) = pick (same_id d a.id) l (a ∷ remove d l)

-- ---- Red: "an action is entered only if its index is its creator's cut plus one; the cut rises. Any other is ignored unless already held."

unfoldable pub cut : Log → ℕ → ℕ
cut l c = get_or l.cuts c 0

-- The index that the creator c's next action must have to be entered.
unfoldable pub next_index : Log → ℕ → ℕ
next_index l c = cut l c + 1

unfoldable pub is_next : Log → Action → Bool
is_next l a = a.id.index =? next_index l a.id.creator

-- "An own action leaves the own list when entered."
unfoldable pub enter : Action → Log → Log
enter a l = record {
  green = l.green;
  red = l.red ++ (a ∷ []);
  cuts = set l.cuts a.id.creator a.id.index;
  own = remove a.id l.own;
  numbered = l.numbered;
  sent = l.sent;
}

unfoldable pub red : Action → Log → Log
red a l = pick (is_next l a) (enter a l) l

unfoldable pub reds : List Action → Log → Log
reds [] l = l
reds (a ∷ more) l = reds more (red a l)

-- ---- Green: "as red, then a newly green action goes directly above the last green one, and reds above it move up. One already green stays."

-- The held red action x becomes the last green one.
unfoldable pub promote : Action → Log → Log
promote x l = record {
  green = l.green ++ (x ∷ []);
  red = remove x.id l.red;
  cuts = l.cuts;
  own = l.own;
  numbered = l.numbered;
  sent = l.sent;
}

unfoldable pub promote_found : Option Action → Log → Log
promote_found none l = l
promote_found (some x) l = promote x l

-- The action with the id d turns green, if it is held and red.
unfoldable pub green_id : Id → Log → Log
green_id d l = promote_found (find d l.red) l

unfoldable pub green_ids : List Id → Log → Log
green_ids [] l = l
green_ids (d ∷ ds) l = green_ids ds (green_id d l)

unfoldable pub green : Action → Log → Log
green a l = green_id a.id (red a l)

-- ---- Yellow: "as red, and its id joins the yellow list if it was entered."

-- "Ids in a yellow list differ": an id that is already there has joined.
unfoldable pub add_id : Id → List Id → List Id
add_id d ids = pick (has_id d ids) ids (ids ++ (d ∷ []))

-- K6: "A yellow list has at most n × q ids; none joins a full one."
unfoldable pub add_within : ℕ → Id → List Id → List Id
add_within most d ids = pick (length ids <? most) (add_id d ids) ids

unfoldable pub join_yellow : ℕ → Id → Votes → Votes
join_yellow most d v = with_yellow (record { status = v.yellow.status; ids = add_within most d v.yellow.ids }) v

unfoldable pub yellow : Action → Server → Server
yellow a s = pick (is_next s.log a) (with_votes (join_yellow (s.servers * s.quota) a.id s.votes) (with_log (enter a s.log) s)) s

-- ---- noted lengths: "a noted length never falls"

unfoldable pub note : ℕ → ℕ → List ℕ → List ℕ
note c l noted = set noted c (max (get_or noted c 0) l)

-- ---- K6: what has a place

-- How many of these actions the server c made.
unfoldable pub of_creator : ℕ → List Action → ℕ
of_creator c [] = 0
of_creator c (a ∷ l) = pick (a.id.creator =? c) (suc (of_creator c l)) (of_creator c l)

-- What has a place: all entered that is not white.
unfoldable pub places_of : ℕ → Log → List Action
places_of w l = drop w l.green ++ l.red

-- The log with the first w green actions left out: what a state's places show.
abbrev pub shown : ℕ → Log → Log
shown w l = record { green = drop w l.green; red = l.red; cuts = l.cuts; own = l.own; numbered = l.numbered; sent = l.sent }

-- How many actions of the creator c are entered and not white, the first w green ones being white.
unfoldable pub unwhite : ℕ → ℕ → Log → ℕ
unwhite c w l = of_creator c (places_of w l)
