-- Every green list is within an installed primary component, one place further.
use Prim.Native.Nat.{ℕ, suc, ◌<◌}
use mathlib.Core.Path.{◌≡◌, refl, sym, ap, subst, ◌∙◌}
use mathlib.Core.Bool.{true}
use mathlib.Core.Logic.{inl}
use native.Mathlib.Omega.{arith}
use Rattle.format.specs.Types.{says}
use Rattle.replication.specs.Machine.Types.{Reg_prim, Exchange_actions, Configuration, Server}
use Rattle.replication.specs.Machine.Requests.{recovered}
use Rattle.replication.specs.Machine.Rules.{rule_for, on_action, on_cpc}
use Rattle.replication.specs.Machine.Step.{installs_by}
use Rattle.replication.specs.Machine.WellFormed.{ids_in}
use Rattle.replication.specs.Laws.Greens as G
use Rattle.replication.specs.Laws.Greens.{GreenChange}
use Rattle.replication.specs.Runs.Run.{Run, moved, place_at}
use Rattle.replication.proofs.Runs.Roomy.{Roomy as Allowed}
use Rattle.replication.proofs.Step.Greens.{reds_green, green_changes}
use Rattle.replication.proofs.Runs.AllowedTurns.{memory_at, store_at, Acts}
use Rattle.replication.proofs.Runs.Modes.{standing, standing_in}
use Rattle.replication.proofs.Runs.Order.{taker_member}
use Rattle.replication.proofs.Runs.Entries.{had}
use Rattle.replication.proofs.Runs.Sending.{regular_acts}
use Rattle.replication.proofs.Agreement.Terms.{Image, in_memory, in_store, Within, InstallsAt, ExchangeFacts}
use Rattle.replication.proofs.Agreement.Votes.Changes.{installing}
use Rattle.replication.proofs.Agreement.Votes.Events.{installer_configured}
use Rattle.replication.proofs.Agreement.Greens.Beginnings.{prefix_to, prefix_from, prefix_same}
use Rattle.replication.proofs.Agreement.Greens.Terms.{greens, base_of, Reached, settled, own, at_base}
use Rattle.replication.proofs.Agreement.Greens.Parts.{Parts}
use Rattle.replication.proofs.Agreement.Greens.Invariant.{UpTo}
use Rattle.replication.proofs.Agreement.Greens.Residues.{residue_whole}
use Rattle.replication.proofs.Agreement.Greens.Taking.{agreeable}
use Rattle.replication.proofs.Agreement.Greens.Images.{ImageStep, kept, fallen, restored, acted, image_step, acts_no_fall, configured_within}
use Rattle.replication.proofs.Agreement.Greens.Settling.{settled_prefix, settled_between, reached_next, reached_fallen, reached_settled}

module _ {n q : ℕ} {l : Run} (A : Allowed n q l) where
  -- An event that installs, at a server that takes it.
  pub installs_here : {t s : ℕ} (x : Acts n q l t s) → installing (memory_at n q l t s) x.by.event ≡ true
      → (c : Configuration) × (y : InstallsAt n q l t s c) × (y.acts ≡ x)
  installs_here {t} {s} x h =
      let k = ap (λ z. installs_by z (memory_at n q l t s)) (sym x.by.ruled) ∙ h in
      let c = installer_configured A x k in
      (c.0, record { acts = x; installs = k; here = c.1 }, refl)

  pub base_after : {t s : ℕ} {c : Configuration} (x : InstallsAt n q l t s c) → greens x.acts.after ≡ base_of A x
  unfolding base_of
  base_after x = ap greens (sym x.acts.memory_next)

  pub recovered_greens : (u : Server) → greens (recovered u) ≡ greens u
  unfolding recovered
  recovered_greens u = ap (λ g. ids_in g) (reds_green u.log.own u.log)

  module _ (X : ExchangeFacts n q l) (P : Parts A) {t : ℕ} (U : UpTo A t) where
    memory_reached : {s : ℕ} (x : Acts n q l t s) → Reached A t s (greens (memory_at n q l t s))
    memory_reached {s} x = (U t (omega arith)).reached s (memory_at n q l t s) (in_memory x.up)

    installing_reached : {s : ℕ} (x : Acts n q l t s) → (c : Configuration) × (y : InstallsAt n q l t s c) × (y.acts ≡ x)
        → greens (memory_at n q l (suc t) s) ≡ greens x.after
        → Reached A (suc t) s (greens x.after)
    unfolding base_of
    installing_reached {s} x (c, y, z) e = settled (at_base t s c y (omega arith) (prefix_same (sym e)))

    acting : {s : ℕ} (x : Acts n q l t s) → GreenChange (memory_at n q l t s) x.by.event x.after → Reached A (suc t) s (greens x.after)
    unfolding moved installs_by rule_for on_action on_cpc
    acting {s} x (G.unchanged e) =
        subst (λ g. Reached A (suc t) s g) (sym (ap (λ g. ids_in g) e)) (reached_next A X (acts_no_fall x) (memory_reached x))
    acting {s} x (G.delivered a m r e) =
        let c = standing_in (memory_at n q l t s) Reg_prim m (standing n q l s t).memory in
        let w : Within n q l t s c.configuration = configured_within A x.up c.there in
        let y = P.primaries.in_primary_lem t s c.configuration w (inl m) in
        let v : Within n q l (suc t) s c.configuration =
        record { up = x.down_next; here = ap (λ z. z.regular) (x.place_next ∙ ap (λ z. moved (says z) (place_at n q l s t)) r) ∙ w.here } in
        own y.0 s c.configuration y.2 (omega (arith, y.1)) (taker_member (had n q l t s c.configuration w.here).took)
        (prefix_from (ap greens (sym x.memory_next))
        (prefix_to (P.primaries.begins_reach (suc t) y.0 s c.configuration y.2 (omega (arith, y.1)) v) (sym (residue_whole A y.2 (suc t) s v))))
    acting {s} x (G.resent k p a m r h e) =
        let c = standing_in (memory_at n q l t s) Exchange_actions m (standing n q l s t).memory in
        let w : Within n q l t s c.configuration = configured_within A x.up c.there in
        let g = agreeable A X P c.configuration (U t (omega arith)) (λ f j o. P.contents.all_took t s f j c.configuration w m o) in
        let y = P.contents.resent_from t s c.configuration g w m x in
        let b : y.1 < t = P.contents.all_took t s y.1 y.0 c.configuration w m y.2 in
        let z : Image n q l (suc y.1) y.0 (memory_at n q l (suc y.1) y.0) = in_memory (regular_acts A y.1 y.0 c.configuration y.2).0.down_next in
        settled (settled_prefix A X (prefix_from (ap greens (sym x.memory_next)) y.3)
        (settled_between A X (omega (arith, b)) (reached_settled A X y.2 ((U (suc y.1) b).reached y.0 _ z))))
    acting {s} x (G.installed k i m r c e) =
        installing_reached x (installs_here x (ap (λ z. installing (memory_at n q l t s) z) r ∙ ap (λ z. installs_by (on_cpc z k) (memory_at n q l t s)) m ∙ c))
        (ap greens x.memory_next)
    acting {s} x (G.installed_late a m r e) =
        installing_reached x (installs_here x (ap (λ z. installing (memory_at n q l t s) z) r ∙ ap (λ z. installs_by (on_action z a) (memory_at n q l t s)) m))
        (ap greens x.memory_next)

    pub reached_after : (s : ℕ) (u : Server) → Image n q l (suc t) s u → Reached A (suc t) s (greens u)
    reached_after s u y = go (image_step A y)
      where
        from_store : Reached A (suc t) s (greens (store_at n q l t s))
        from_store = let z : Image n q l t s (store_at n q l t s) = in_store in reached_fallen A X ((U t (omega arith)).reached s (store_at n q l t s) z)

        go : ImageStep n q l t s u → Reached A (suc t) s (greens u)
        go (kept z f) = reached_next A X f ((U t (omega arith)).reached s u z)
        go (fallen f e) = subst (λ v. Reached A (suc t) s (greens v)) (sym e) from_store
        go (restored f w e) = subst (λ v. Reached A (suc t) s (greens v)) (sym e) (subst (λ g. Reached A (suc t) s g) (sym (recovered_greens (store_at n q l t s))) from_store)
        go (acted x e) = subst (λ v. Reached A (suc t) s (greens v)) (sym e) (acting x (green_changes (memory_at n q l t s) x.moves))
