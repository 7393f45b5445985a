-- All who end the exchange of one configuration have the same green list, the same cuts, and hold the same actions.
use Prim.Native.Nat.{ℕ, suc}
use mathlib.Core.Path.{◌≡◌, refl, sym, ap, ◌∙◌}
use mathlib.Core.List.{List, [], ◌∷◌, map}
use native.Mathlib.Omega.{arith}
use lib.ListN.{length}
use lib.Seq.{ext_get_or}
use Rattle.base.specs.Lists.{present, Each}
use Rattle.format.specs.Types.{Action}
use Rattle.replication.specs.Machine.Types.{Configuration}
use Rattle.replication.specs.Machine.Colours.{cut}
use Rattle.replication.specs.Machine.Plan.{highest, resender, cut_in, green_in}
use Rattle.replication.specs.Machine.WellFormed.{ids_in}
use Rattle.replication.specs.Runs.Run.{Run}
use Rattle.replication.proofs.Runs.Roomy.{Roomy as Allowed}
use Rattle.replication.proofs.Runs.Numbers.{numbers, invariant_at}
use Rattle.replication.proofs.Runs.AllowedTurns.{memory_at}
use Rattle.replication.proofs.Runs.Memberships.{states_in_of}
use Rattle.replication.proofs.Runs.Stays.{membership_at}
use Rattle.replication.proofs.Runs.Progress.{stay_member}
use Rattle.replication.proofs.Runs.Made.{Made, made_one, all_made}
use Rattle.replication.proofs.Agreement.Exchange.Stages.{InCom}
use Rattle.replication.proofs.Agreement.Exchange.SameStates.{complete_same}
use Rattle.replication.proofs.Agreement.Contents.Agreeable.{green_ids_at, Agreeable}
use Rattle.replication.proofs.Agreement.Contents.Ended as E
use Rattle.replication.proofs.Agreement.Contents.Places.{EndedAt}

module _ {n q : ℕ} {l : Run} (A : Allowed n q l) where
  -- ---- an id fixes the action

  -- Lists of actions that were made are the same if their ids are.
  pub same_actions : (p r : ℕ) (xs ys : List Action) → Each (Made A p) xs → Each (Made A r) ys → ids_in xs ≡ ids_in ys → xs ≡ ys
  unfolding ids_in
  same_actions p r [] [] h k e = refl
  same_actions p r [] (y ∷ ys) h k e = let z : ◌≡◌ {A = ℕ} 0 1 = cc in absurd (omega arith)
  same_actions p r (x ∷ xs) [] h k e = let z : ◌≡◌ {A = ℕ} 0 1 = cc in absurd (omega arith)
  same_actions p r (x ∷ xs) (y ∷ ys) h k e =
      let u : x.id ≡ y.id = cc in
      let v : map (λ a. a.id) xs ≡ map (λ a. a.id) ys = cc in
      let w = made_one A h.0 k.0 u in
      let z = same_actions p r xs ys h.1 k.1 v in
      λ j. w j ∷ z j

  -- So green lists are the same if their ids are.
  pub same_greens : (p r i j : ℕ) → green_ids_at n q l p i ≡ green_ids_at n q l r j → (memory_at n q l p i).log.green ≡ (memory_at n q l r j).log.green
  same_greens p r i j e = same_actions p r _ _ (all_made A p i).memory.green (all_made A r j).memory.green e

  -- ---- two ends in one configuration

  module _ {y z i j : ℕ} {c : Configuration} (e : EndedAt A y i c) (f : EndedAt A z j c) (G : Agreeable n q l y c) (H : Agreeable n q l z c) where
    states_same : states_in_of (membership_at n q l (suc y) i) ≡ states_in_of (membership_at n q l (suc z) j)
    states_same =
        ap present
        (complete_same A (suc y) (suc z) i j c e.after f.after (E.full A y i c e.here e.after e.before e.late e.whole G)
        (E.full A z j c f.here f.after f.before f.late f.whole H))

    pub same_ids_lem : green_ids_at n q l (suc y) i ≡ green_ids_at n q l (suc z) j
    same_ids_lem =
        let r = E.ended_leader A y i c e.here e.after e.before e.late e.whole G in
        E.green_ended A y i c e.here e.after e.before e.late e.whole G r.at_place r.server r.named r.took
        ∙ sym
        (E.green_ended A z j c f.here f.after f.before f.late f.whole H r.at_place r.server (ap (resender green_in) (sym states_same) ∙ r.named)
        r.took)

    cuts_length : (p k : ℕ) → InCom n q l p k c → length (memory_at n q l p k).log.cuts ≡ n
    cuts_length p k h = (invariant_at n q k A.allowed.sizes (stay_member A k p c h).0 l p).memory.well_formed_lem.log.cuts_length ∙ (numbers n q k l p).memory.servers

    pub same_cuts : (memory_at n q l (suc y) i).log.cuts ≡ (memory_at n q l (suc z) j).log.cuts
    unfolding cut
    same_cuts =
        ext_get_or 0 _ _ (cuts_length (suc y) i e.after ∙ sym (cuts_length (suc z) j f.after))
        (λ d h.
        E.cuts_ended A y i c e.here e.after e.before e.late e.whole G d (omega (arith, cuts_length (suc y) i e.after))
        ∙ ap (highest (cut_in d)) states_same
        ∙ sym (E.cuts_ended A z j c f.here f.after f.before f.late f.whole H d (omega (arith, cuts_length (suc y) i e.after))))
