-- The terms of the agreement of green lists, on ids: the green list at an Install, how far each member of its configuration gets in the whole run, and what of
-- that can still be known after a fall.
use Prim.Native.Nat.{ℕ, zero, suc, max, ◌≤◌, ◌<◌}
use mathlib.Core.Path.{◌≡◌}
use mathlib.Core.Bool.{Bool, true, false}
use mathlib.Core.List.{List, [], ◌++◌}
use lib.ListN.{length, take}
use Rattle.base.specs.Tests.{◌and◌, ◌=?◌, pick}
use Rattle.base.specs.Sets.{in_set}
use Rattle.format.specs.Types.{Id, Mark}
use Rattle.replication.specs.Machine.Types.{Configuration, Server, with_white}
use Rattle.replication.specs.Machine.WellFormed.{ids_in}
use Rattle.replication.specs.Laws.Folds.{entered}
use Rattle.replication.specs.Laws.Modes.{attempting}
use Rattle.replication.specs.Runs.Run.{Run, place_at}
use Rattle.replication.proofs.Runs.DeliveryFacts.{within, within_regular}
use Rattle.replication.specs.Runs.Happenings.{Falls, Takes}
use Rattle.replication.proofs.Runs.Roomy.{Roomy as Allowed}
use Rattle.replication.proofs.Runs.Shifts.{Shift, to_regular, to_transitional, to_nowhere, stays, shift}
use Rattle.replication.proofs.Runs.AllowedTurns.{memory_at, store_at}
use Rattle.replication.proofs.Agreement.Terms.{Within, InstallsAt, installed}
use Rattle.replication.proofs.Agreement.Votes.Judging.{Alike}
pub use Rattle.replication.proofs.Agreement.Lists.Plus.{plus}
use Rattle.replication.proofs.Agreement.Lists.Fifo as F
use Rattle.replication.proofs.Agreement.Primaries.Acted.{acted_in}
use Rattle.replication.proofs.Agreement.Greens.Beginnings.{Prefix, Comparable}

-- ---- lists of ids

-- The ids of the green list.
abbrev pub greens : Server → List Id
greens u = ids_in u.log.green

-- Each creator's ids stand 1, 2, 3 .. in order: `Follows` from no cuts, as a record, so that the list is read off it.
pub record Fifo (x : List Id) : Type 0 where
  pub follows : F.Fifo x

-- The yellow ids, if yellow is valid.
unfoldable pub valid_yellow : Server → List Id
valid_yellow u = pick (u.votes.yellow.status =? 1) u.votes.yellow.ids []

-- ---- an Install, and what follows it in its configuration

module _ {n q : ℕ} {l : Run} (A : Allowed n q l) where
  module _ {p i : ℕ} {c : Configuration} (x : InstallsAt n q l p i c) where
    -- The green list after the Install; the cuts at it.
    unfoldable pub base_of : List Id
    base_of = greens (memory_at n q l (suc p) i)

    unfoldable pub cuts_of : List ℕ
    cuts_of = (memory_at n q l p i).log.cuts

    -- How far the member d gets in the regular configuration, in the whole run.
    unfoldable pub reach : ℕ → List Id
    reach d = base_of ++ ids_in (entered cuts_of (acted_in A (within_regular c) d (length l)))

  -- The mark of the attempt that was installed.
  abbrev pub mark_of_install : {p i : ℕ} {c : Configuration} → InstallsAt n q l p i c → Mark
  mark_of_install {p} {i} x = (memory_at n q l p i).votes.mark

  -- The server d goes down or recovers at t, in c or c's transitional configuration.
  unfoldable pub is_fall : {t d : ℕ} → Shift n q l t d → Bool
  is_fall (to_regular c k m) = false
  is_fall (to_transitional s k m) = false
  is_fall (to_nowhere f m) = true
  is_fall (stays f g m) = false

  unfoldable pub falls_in : Configuration → ℕ → ℕ → Bool
  falls_in c d t = within c (place_at n q l d t) and is_fall (shift n q l t d)

  -- What of that can still be known at t: after a fall, no more than the store had.
  unfoldable pub residue : {p i : ℕ} {c : Configuration} → InstallsAt n q l p i c → ℕ → ℕ → List Id
  residue x zero d = reach x d
  residue {p} {i} {c} x (suc t) d =
      pick (falls_in c d t) (take (max (length (base_of x)) (length (greens (store_at n q l t d)))) (residue x t d)) (residue x t d)

  -- ---- the invariants, at t

  -- The list g is empty, or within an installed primary component: within what was green at the Install, or within what can be known of a member that is no
  -- longer in its configuration.
  pub data Settled (t : ℕ) (g : List Id) : Type 0 where
    nothing : g ≡ [] → Settled t g
    at_base : (p i : ℕ) (c : Configuration) (x : InstallsAt n q l p i c) → p < t → Prefix g (base_of x) → Settled t g
    left : (p i d : ℕ) (c : Configuration) (x : InstallsAt n q l p i c) → p < t → in_set d c.set ≡ true → (Within n q l t d c → ⊥) → Prefix g (residue x t d)
        → Settled t g

  -- .. or of s itself.
  pub data Reached (t s : ℕ) (g : List Id) : Type 0 where
    settled : Settled t g → Reached t s g
    own : (p i : ℕ) (c : Configuration) (x : InstallsAt n q l p i c) → p < t → in_set s c.set ≡ true → Prefix g (residue x t s) → Reached t s g

  -- The image u of s answers for all that can be known of the primary component that it knows last: its yellow list is valid, or its attempt is under way, or it
  -- is of a member that no longer has the mark.
  pub data Answers {p i : ℕ} {c : Configuration} (x : InstallsAt n q l p i c) (s : ℕ) (u : Server) : Type 0 where
    by_yellow : u.votes.yellow.status ≡ 1 → Answers x s u
    by_attempt : attempting u.membership.mode ≡ true → Answers x s u
    by_mark : in_set s c.set ≡ true → (Alike (mark_of_install x) u.votes.mark → ⊥) → Answers x s u

  -- What d had, if it was more than the base, it fell with, and the image u, which knows the primary component or a later one, has what was stored then.
  pub data Known {p i : ℕ} {c : Configuration} (x : InstallsAt n q l p i c) (t d : ℕ) (u : Server) : Type 0 where
    nothing_more : reach x d ≡ base_of x → Known x t d u
    fell : (y : ℕ) → y < t → Falls n q l y d → Within n q l y d c → (installed n q l x).index ≤ u.votes.last.index
        → Prefix (greens (store_at n q l y d)) (greens u) → Known x t d u

  -- A raise changes neither.
  pub answers_raised : {p i : ℕ} {c : Configuration} (x : InstallsAt n q l p i c) {s : ℕ} {u : Server} (w : ℕ) → Answers x s u → Answers x s (with_white w u)
  answers_raised x w (by_yellow e) = by_yellow e
  answers_raised x w (by_attempt e) = by_attempt e
  answers_raised x w (by_mark h f) = by_mark h f

  pub answers_lowered : {p i : ℕ} {c : Configuration} (x : InstallsAt n q l p i c) {s : ℕ} {u : Server} (w : ℕ) → Answers x s (with_white w u) → Answers x s u
  answers_lowered x w (by_yellow e) = by_yellow e
  answers_lowered x w (by_attempt e) = by_attempt e
  answers_lowered x w (by_mark h f) = by_mark h f

  pub known_raised : {p i : ℕ} {c : Configuration} (x : InstallsAt n q l p i c) {t d : ℕ} {u : Server} (w : ℕ) → Known x t d u → Known x t d (with_white w u)
  known_raised x w (nothing_more e) = nothing_more e
  known_raised x w (fell y h f g k o) = fell y h f g k o

  pub known_lowered : {p i : ℕ} {c : Configuration} (x : InstallsAt n q l p i c) {t d : ℕ} {u : Server} (w : ℕ) → Known x t d (with_white w u) → Known x t d u
  known_lowered x w (nothing_more e) = nothing_more e
  known_lowered x w (fell y h f g k o) = fell y h f g k o

  -- When they took c, its members had comparable green lists, each in order.
  pub record Agreeable (c : Configuration) : Type 0 where
    pub comparable : (e f j k : ℕ) → Takes n q l e j c → Takes n q l f k c → Comparable (greens (memory_at n q l (suc e) j)) (greens (memory_at n q l (suc f) k))
    pub fifo : (e j : ℕ) → Takes n q l e j c → Fifo (greens (memory_at n q l (suc e) j))
