-- In a primary component each creator's actions stand in order, if they do at the Install: in what each member reaches, and in the green list with the yellow ids
-- above it, which differ from it.
use Prim.Native.Nat.{ℕ, ◌+◌, ◌≤◌, ◌<◌}
use mathlib.Core.Path.{◌≡◌, sym, ap, subst, ◌∙◌}
use mathlib.Core.Bool.{Bool, true}
use mathlib.Core.List.{List, ◌++◌}
use native.Mathlib.Omega.{arith}
use lib.ListN.{length, get_or}
use Rattle.base.specs.Counts.{count}
use Rattle.base.proofs.CountLaws.{count_append}
use Rattle.format.specs.Types.{Id}
use Rattle.format.specs.Range.{same_id}
use Rattle.replication.specs.Machine.Types.{Trans_prim, Configuration}
use Rattle.replication.specs.Machine.Colours.{cut}
use Rattle.replication.specs.Machine.Install.{install_log}
use Rattle.replication.specs.Machine.WellFormed.{ids_in, queue}
use Rattle.replication.proofs.WellFormed.Clauses.{Invariant}
use Rattle.replication.specs.Laws.Folds.{entered}
use Rattle.replication.specs.Runs.Run.{Run, Place, place_at}
use Rattle.replication.proofs.Runs.Roomy.{Roomy as Allowed}
use Rattle.replication.proofs.Runs.DeliveryFacts.{within, within_regular}
use Rattle.replication.proofs.Step.ModeColours.{install_no_red}
use Rattle.replication.proofs.WellFormed.Ids.{has_counted}
use Rattle.replication.proofs.Runs.AllowedTurns.{memory_at}
use Rattle.replication.proofs.Runs.DeliveryLists.{within_holds, within_yes, within_regular_holds}
use Rattle.replication.proofs.Runs.Numbers.{numbers, invariant_at, well_formed_at}
use Rattle.replication.proofs.Runs.Progress.{stay_member}
use Rattle.replication.proofs.Runs.Stays.{membership_at}
use Rattle.replication.proofs.Agreement.Terms.{InstallsAt}
use Rattle.replication.proofs.Step.Apart.{mode_number, other_mode}
use Rattle.replication.proofs.Agreement.Exchange.Stages.{InCom}
use Rattle.replication.proofs.Agreement.Lists.Entered.{Creators, fifo_entered}
use Rattle.replication.proofs.Agreement.Lists.Fifo.{created_by, Fifo}
use Rattle.replication.proofs.Agreement.Lists.Held.{held_exactly}
use Rattle.replication.proofs.Agreement.Lists.Install.{install_cuts, install_exactly, green_created}
use Rattle.replication.proofs.Agreement.Lists.Plus.{plus, Once, member_has, plus_apart}
use Rattle.replication.proofs.Agreement.Primaries.Acted.{acted_in, each_acted}
use Rattle.replication.proofs.Agreement.Primaries.Installed.{AfterInstall, in_regular_lem, in_transitional, after_install, base_installed}
use Rattle.replication.proofs.Agreement.Primaries.Leaving.{reached}
use Rattle.replication.proofs.Agreement.Primaries.Parts.{InTransPrim, ids_append}
use Rattle.replication.proofs.Agreement.Primaries.Terms.{base, cuts_of, regularly, in_com, creator_server}

-- ---- lists of ids

-- If all ids of two lists differ, the second joins the first whole.
pub apart_joins : (g y : List Id) → Once (g ++ y) → plus g y ≡ g ++ y
apart_joins g y h = plus_apart g y (λ d. omega (arith, h d, both d)) (λ d m k. omega (arith, h d, both d, has_counted d y (member_has d y m), has_counted d g (member_has d g k)))
  where
    both : (d : Id) → count (same_id d) (g ++ y) ≡ count (same_id d) g + count (same_id d) y
    both d = count_append (same_id d) g y

module _ {n q : ℕ} {l : Run} (A : Allowed n q l) where
  module _ {u i : ℕ} {c : Configuration} (x : InstallsAt n q l u i c) where
    server : i < n
    server = (stay_member A i u c x.here).0

    now : Invariant (memory_at n q l u i)
    now = (invariant_at n q i A.allowed.sizes server l u).memory

    cuts_length : length (cuts_of A x) ≡ n
    cuts_length = now.well_formed_lem.log.cuts_length ∙ (numbers n q i l u).memory.servers

    -- Every action that a member delivers there has its creator's cut.
    creators : (t : Place → Bool) → ((y : Place) → t y ≡ true → within c y ≡ true) → (d p : ℕ) → Creators (cuts_of A x) (acted_in A t d p)
    creators t f d p =
        each_acted A t d (λ a. a.id.creator < length (cuts_of A x))
        (λ y a come h. omega (arith, cuts_length, creator_server A y d a come c (within_holds c (place_at n q l d y) (f (place_at n q l d y) h)))) p

    -- After the Install a creator has as many green ids as its cut says.
    pub base_created : Fifo (ids_in (base A x)) → (k : ℕ) → created_by k (ids_in (base A x)) ≡ get_or (cuts_of A x) k 0
    unfolding cut
    base_created f k =
        let s = memory_at n q l u i in
        let after = install_log s.votes.yellow.ids s.log in
        let e = base_installed A x in
        ap (λ g. created_by k (ids_in g)) e
        ∙ green_created after (install_exactly s.votes.yellow.ids s.log (held_exactly s now)) (install_no_red s (well_formed_at n q i A.allowed.sizes server l u).memory)
        (subst (λ g. Fifo (ids_in g)) e f) k
        ∙ ap (λ z. get_or z k 0) (install_cuts s.votes.yellow.ids s.log)

    fifo_acted : (t : Place → Bool) → ((y : Place) → t y ≡ true → within c y ≡ true) → Fifo (ids_in (base A x)) → (d p : ℕ)
        → Fifo (ids_in (base A x ++ entered (cuts_of A x) (acted_in A t d p)))
    fifo_acted t f h d p =
        subst Fifo (sym (ids_append (base A x) (entered (cuts_of A x) (acted_in A t d p))))
        (fifo_entered (ids_in (base A x)) (cuts_of A x) (acted_in A t d p) h (λ k b. base_created h k) (creators t f d p))

    -- What a member reaches is in order.
    pub reached_fifo : Fifo (ids_in (base A x)) → (d p : ℕ) → Fifo (ids_in (reached A c (base A x) (cuts_of A x) d p))
    reached_fifo = fifo_acted (within_regular c) (λ y h. within_yes c y (ap (λ z. z.regular) (within_regular_holds c y h)))

    pub com_fifo : Fifo (ids_in (base A x)) → (d p : ℕ) → Fifo (ids_in (base A x ++ entered (cuts_of A x) (in_com A c d p)))
    com_fifo = fifo_acted (within c) (λ y h. h)

    -- ---- Trans_prim

    module _ (p : ℕ) (b : u < p) (here : InCom n q l p i c) (m : (membership_at n q l p i).mode ≡ Trans_prim) where
      -- The green list with the yellow ids above it.
      abbrev pub green_and_yellow : List Id
      green_and_yellow = ids_in (memory_at n q l p i).log.green ++ (memory_at n q l p i).votes.yellow.ids

      in_trans : InTransPrim (base A x) (cuts_of A x) (regularly A c i p) (in_com A c i p) (memory_at n q l p i)
      unfolding mode_number
      in_trans = go (after_install A x p b here)
        where
          go : AfterInstall A x p → InTransPrim (base A x) (cuts_of A x) (regularly A c i p) (in_com A c i p) (memory_at n q l p i)
          go (in_regular_lem z) = other_mode z.mode m (λ w. omega arith)
          go (in_transitional z) = z

      yellow_once : Once green_and_yellow
      unfolding queue
      yellow_once d =
          let s = memory_at n q l p i in
          let w = (invariant_at n q i A.allowed.sizes server l p).memory.whole.once d in
          subst (λ z. count (same_id d) z ≤ 1) (ids_append s.log.green s.log.red ∙ ap (λ z. ids_in s.log.green ++ z) in_trans.red) w

      -- No yellow id is green.
      pub yellow_joins : plus (ids_in (memory_at n q l p i).log.green) (memory_at n q l p i).votes.yellow.ids ≡ green_and_yellow
      yellow_joins = apart_joins _ _ yellow_once

      pub yellow_fifo : Fifo (ids_in (base A x)) → Fifo (plus (ids_in (memory_at n q l p i).log.green) (memory_at n q l p i).votes.yellow.ids)
      yellow_fifo h = subst Fifo (sym (yellow_joins ∙ in_trans.ids)) (com_fifo h i p)
