-- With no red action, greening appends the action if it is entered; yellowing adds its id if it is entered: one fold over the delivered actions.
use Prim.Native.Nat.{ℕ, ◌*◌, ◌<◌}
use mathlib.Core.Path.{◌≡◌, refl, sym, ap, ◌∙◌}
use mathlib.Core.Bool.{true, false}
use mathlib.Core.List.{List, [], ◌∷◌, ◌++◌, append-nil}
use mathlib.Core.Option.{some}
use Rattle.base.specs.Tests.{pick}
use lib.ListN.{length}
use Rattle.base.proofs.TestLaws.{lt_yes, Known, holds, fails, known}
use Rattle.format.specs.Types.{Action}
use Rattle.replication.specs.Machine.Types.{Log, Server}
use Rattle.replication.specs.Machine.Colours.{find, remove, cut, next_index, is_next, enter, promote, promote_found, green_id, green, add_within, join_yellow, yellow}
use Rattle.replication.specs.Laws.Folds.{follows, cuts_with, cuts_after, entered, add_ids, Greened, Yellowed}
use Rattle.replication.proofs.Step.Logs.{red_entered, red_ignored, yellow_as}
use Rattle.replication.proofs.WellFormed.Ids.{same_id_yes}

-- An action is the next one by the log's cuts alone.
pub next_follows : (l : Log) (a : Action) → is_next l a ≡ follows l.cuts a
unfolding is_next next_index cut follows
next_follows l a = refl

-- ---- one action

-- The action just entered is found among the reds, and leaves none.
find_alone : (a : Action) (l : List Action) → l ≡ [] → find a.id (l ++ (a ∷ [])) ≡ some a
unfolding find pick
find_alone a l r = rw (r, same_id_yes a.id a.id refl refl)

remove_alone : (a : Action) (l : List Action) → l ≡ [] → remove a.id (l ++ (a ∷ [])) ≡ []
unfolding remove pick
remove_alone a l r = rw (r, same_id_yes a.id a.id refl refl)

green_entered : (a : Action) (l : Log) → l.red ≡ [] → is_next l a ≡ true → green a l ≡ promote a (enter a l)
unfolding green green_id promote_found enter
green_entered a l r e = rw (red_entered a l e, find_alone a l.red r)

green_ignored : (a : Action) (l : Log) → l.red ≡ [] → is_next l a ≡ false → green a l ≡ l
unfolding green green_id promote_found find
green_ignored a l r e = rw (red_ignored a l e, r)

pub green_one : (a : Action) (l : Log) → l.red ≡ [] → Greened (a ∷ []) l (green a l)
unfolding promote enter entered cuts_after cuts_with pick
green_one a l r = go (known (is_next l a))
  where
    go : Known (is_next l a) → Greened (a ∷ []) l (green a l)
    go (holds e) =
        let f : follows l.cuts a ≡ true = sym (next_follows l a) ∙ e in
        rw (green_entered a l r e) (record { green = rw f; red = remove_alone a l.red r; cuts = rw f })
    go (fails e) =
        let f : follows l.cuts a ≡ false = sym (next_follows l a) ∙ e in
        rw (green_ignored a l r e) (record { green = rw f (sym (append-nil l.green)); red = r; cuts = rw f })

-- If it is entered, the yellow list has room for its id.
abbrev pub YellowRoom : Server → Action → Type 0
YellowRoom s a = is_next s.log a ≡ true → length s.votes.yellow.ids < s.servers * s.quota

pub yellow_one : (a : Action) (s : Server) → YellowRoom s a → Yellowed (a ∷ []) s (yellow a s)
unfolding join_yellow add_within add_ids enter entered cuts_after cuts_with pick
yellow_one a s room =
    yellow_as (Yellowed (a ∷ []) s) a s
    (λ e.
    let f : follows s.log.cuts a ≡ true = sym (next_follows s.log a) ∙ e in
    record { ids = rw (f, lt_yes _ _ (room e)); status = refl; green = refl; red = rw f; cuts = rw f })
    (λ e.
    let f : follows s.log.cuts a ≡ false = sym (next_follows s.log a) ∙ e in
    record { ids = rw f; status = refl; green = refl; red = rw f (sym (append-nil _)); cuts = rw f })

-- ---- one after another

pub entered_append : (cuts : List ℕ) (x y : List Action) → entered cuts (x ++ y) ≡ entered cuts x ++ entered (cuts_after cuts x) y
unfolding entered cuts_after pick
entered_append cuts [] y = refl
entered_append cuts (a ∷ x) y = go (known (follows cuts a)) (entered_append (cuts_with a cuts) x y)
  where
    go : Known (follows cuts a) → entered (cuts_with a cuts) (x ++ y) ≡ entered (cuts_with a cuts) x ++ entered (cuts_after (cuts_with a cuts) x) y
        → entered cuts (a ∷ (x ++ y)) ≡ entered cuts (a ∷ x) ++ entered (cuts_after cuts (a ∷ x)) y
    go (holds e) h = rw e (ap (λ z. a ∷ z) h)
    go (fails e) h = rw e h

pub cuts_append : (cuts : List ℕ) (x y : List Action) → cuts_after cuts (x ++ y) ≡ cuts_after (cuts_after cuts x) y
unfolding cuts_after
cuts_append cuts [] y = refl
cuts_append cuts (a ∷ x) y = cuts_append (cuts_with a cuts) x y

-- ---- one action, with the test written out
