-- Demand 3 from the invariant: an id is of one action, so green lists with comparable ids agree.
use Prim.Native.Nat.{ℕ, max, ◌≤◌, ◌<◌}
use mathlib.Core.Path.{◌≡◌, sym, ap, subst₂}
use mathlib.Core.Bool.{false}
use mathlib.Core.List.{List, [], ◌∷◌}
use native.Mathlib.Omega.{arith}
use lib.ListN.{length}
use Rattle.base.specs.Lists.{Each}
use Rattle.base.specs.Tests.{pick}
use Rattle.base.proofs.TestLaws.{Known, holds, fails, known}
use Rattle.format.specs.Types.{Action}
use Rattle.replication.specs.Machine.Types.{Server}
use Rattle.replication.specs.Machine.WellFormed.{ids_in}
use Rattle.replication.specs.Runs.Run.{Run, world_at}
use Rattle.replication.proofs.Runs.Roomy.{Roomy as Allowed}
use Rattle.replication.specs.Runs.Claim.{ListsAgree, stored_green, memory_green, green_at, Agreement}
use Rattle.replication.proofs.Runs.AllowedTurns.{memory_at, store_at}
use Rattle.replication.proofs.Runs.ControlPart.{store_grows_between}
use Rattle.replication.proofs.Runs.Made.{Made, made_one, all_made}
use Rattle.replication.proofs.Agreement.Terms.{Image, in_memory, in_store, ExchangeFacts}
use Rattle.replication.proofs.Agreement.Votes.Primaries.{primaries_agree}
use Rattle.replication.proofs.Agreement.Greens.Beginnings.{Prefix, Comparable, shorter, longer, prefix_nil, prefix_cons, prefix_head, prefix_tail, prefix_length, prefix_refl, comparable_beginnings, shorter_begins, equal_lengths, comparable_sym}
use Rattle.replication.proofs.Agreement.Greens.Terms.{greens}
use Rattle.replication.proofs.Agreement.Greens.Parts.{Parts}
use Rattle.replication.proofs.Agreement.Greens.Invariant.{Invariant}
use Rattle.replication.proofs.Agreement.Greens.Comparing.{agree}
use Rattle.replication.proofs.Agreement.Greens.Taking.{grows_greens}

comparable_agree : (x y : List Action) → Comparable x y → ListsAgree x y
comparable_agree x y c = record {
  equal = (λ e. ap length e, λ e. equal_lengths x y c e);
  shorter = λ h. (shorter_begins x y c (omega arith)).begins;
  longer = λ h. (shorter_begins y x (comparable_sym c) (omega arith)).begins;
}

module _ {n q : ℕ} {l : Run} (A : Allowed n q l) where
  same_ids_prefix : (p r : ℕ) (x y : List Action) → Each (Made A p) x → Each (Made A r) y → Prefix (ids_in x) (ids_in y) → Prefix x y
  unfolding ids_in
  same_ids_prefix p r [] y f g h = prefix_nil
  same_ids_prefix p r (a ∷ x) [] f g h = absurd (omega (arith, prefix_length h))
  same_ids_prefix p r (a ∷ x) (b ∷ y) f g h =
      prefix_cons a b (made_one A f.0 g.0 (prefix_head h)) (same_ids_prefix p r x y f.1 g.1 (prefix_tail h))

  -- Comparable by their ids, made actions are comparable.
  same_ids_lem : (p r : ℕ) (x y : List Action) → Each (Made A p) x → Each (Made A r) y → Comparable (ids_in x) (ids_in y) → Comparable x y
  same_ids_lem p r x y f g (shorter h) = shorter (same_ids_prefix p r x y f g h)
  same_ids_lem p r x y f g (longer h) = longer (same_ids_prefix r p y x g f h)

  image_made : {p i : ℕ} {u : Server} → Image n q l p i u → Each (Made A p) u.log.green
  image_made {p} {i} (in_memory h) = (all_made A p i).memory.green
  image_made {p} {i} in_store = (all_made A p i).store.green

  module _ (X : ExchangeFacts n q l) (P : Parts A) (I : (t : ℕ) → Invariant A t) where
    pub images_agree : {p i j : ℕ} {u v : Server} → Image n q l p i u → Image n q l p j v → ListsAgree u.log.green v.log.green
    images_agree {p} {i} {j} {u} {v} x y = comparable_agree _ _ (same_ids_lem p p u.log.green v.log.green (image_made x) (image_made y) (agree A X P (I p) x y))

    -- What Demand 3 reads: the memory while up, the store while down.
    read_image_lem : (p i : ℕ) → (u : Server) × Image n q l p i u × (green_at n q l p i ≡ u.log.green)
    unfolding green_at stored_green memory_green pick
    read_image_lem p i = go (known ((world_at n q l p).down i))
      where
        go : Known ((world_at n q l p).down i) → (u : Server) × Image n q l p i u × (green_at n q l p i ≡ u.log.green)
        go (holds h) = (store_at n q l p i, in_store, rw h)
        go (fails h) = (memory_at n q l p i, in_memory h, rw h)

    pub green_agree : (p i j : ℕ) → i < n → j < n → ListsAgree (green_at n q l p i) (green_at n q l p j)
    green_agree p i j h k =
        let a = read_image_lem p i in
        let b = read_image_lem p j in
        subst₂ (λ x y. ListsAgree x y) (sym a.2) (sym b.2) (images_agree a.1 b.1)

    -- A store's green list at p, and a list of actions made before r that begins an image's green list at t.
    later_agrees : (p r t i j : ℕ) (v : Server) (x : List Action) → p ≤ t → Image n q l t j v → Each (Made A r) x → Prefix (ids_in x) (greens v)
        → ListsAgree (stored_green n q l p i) x
    unfolding stored_green
    later_agrees p r t i j v x h y f e =
        let a : Image n q l t i (store_at n q l t i) = in_store in
        comparable_agree _ _
        (same_ids_lem p r (store_at n q l p i).log.green x (all_made A p i).store.green f
        (comparable_beginnings (grows_greens (store_at n q l p i) (store_at n q l t i) (store_grows_between n q l i p t h)) e (agree A X P (I t) a y)))

    pub stored_agree : (p r i j : ℕ) → i < n → j < n → ListsAgree (stored_green n q l p i) (stored_green n q l r j)
    unfolding stored_green
    stored_agree p r i j h k =
        let t = max p r in
        let b : Image n q l t j (store_at n q l t j) = in_store in
        later_agrees p r t i j (store_at n q l t j) (store_at n q l r j).log.green (omega arith) b (all_made A r j).store.green
        (grows_greens (store_at n q l r j) (store_at n q l t j) (store_grows_between n q l j r t (omega arith)))

    pub later_agree : (p r i j : ℕ) → p ≤ r → i < n → j < n → (world_at n q l r).down j ≡ false → ListsAgree (stored_green n q l p i) (memory_green n q l r j)
    unfolding memory_green
    later_agree p r i j h x y d =
        let b : Image n q l r j (memory_at n q l r j) = in_memory d in
        later_agrees p r r i j (memory_at n q l r j) (memory_at n q l r j).log.green h b (all_made A r j).memory.green prefix_refl

    pub agreement : Agreement n q l
    agreement = record { green = green_agree; primary = primaries_agree A X }
