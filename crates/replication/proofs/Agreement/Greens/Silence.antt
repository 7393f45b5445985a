-- In a primary component a server has the mark of its attempt and no valid yellow list: it does not answer for the primary component.
use Prim.Native.Nat.{ℕ, suc}
use mathlib.Core.Path.{◌≡◌, sym, ap, subst, ◌∙◌}
use mathlib.Core.Bool.{false}
use mathlib.Core.Logic.{inl, inr}
use native.Mathlib.Omega.{arith}
use Rattle.base.proofs.TestLaws.{not_both}
use Rattle.replication.specs.Machine.Types.{Configuration, Server, no_yellow}
use Rattle.replication.specs.Laws.Modes as M
use Rattle.replication.specs.Laws.Modes.{Attained, ModeFacts, ModeFactsOf, ColourFactsOf, ColourFacts}
use Rattle.replication.specs.Laws.Images.{OfBoth}
use Rattle.replication.specs.Runs.Run.{Run}
use Rattle.replication.proofs.Runs.Roomy.{Roomy as Allowed}
use Rattle.replication.proofs.WellFormed.Runs.{colour_facts}
use Rattle.replication.proofs.Runs.Lived.{at_place}
use Rattle.replication.proofs.Runs.AllowedTurns.{memory_at, Acts}
use Rattle.replication.proofs.Runs.Modes.{mode_facts_at}
use Rattle.replication.proofs.Runs.Places.{of_event}
use Rattle.replication.proofs.Agreement.Terms.{Image, in_memory, InstallsAt, installed, ExchangeFacts}
use Rattle.replication.proofs.Agreement.Votes.Events.{installing_at}
use Rattle.replication.proofs.Agreement.Votes.Attempts.{installed_index}
use Rattle.replication.proofs.Agreement.Votes.Judging.{Alike}
use Rattle.replication.proofs.Agreement.Votes.Unique.{unique_known}
use Rattle.replication.proofs.Agreement.Greens.Terms.{mark_of_install, Answers, by_yellow, by_attempt, by_mark}
use Rattle.replication.proofs.Agreement.Greens.Steps.{InPrimary, MarkSet, MarkSetOf, mark_set_at_lem}
use Rattle.replication.proofs.Agreement.Greens.Covering.{installing_attempts}

in_primary_facts : (u : Server) → InPrimary u → ModeFactsOf u → Attained u.votes u.membership.configuration
in_primary_facts u (inl e) f = (subst (λ m. ModeFacts m u.votes u.membership.configuration u.membership.transitional) e f).1
in_primary_facts u (inr e) f = (subst (λ m. ModeFacts m u.votes u.membership.configuration u.membership.transitional) e f).1

in_primary_marked : (u : Server) → InPrimary u → MarkSetOf u → u.votes.mark.status ≡ 1
in_primary_marked u (inl e) f = subst (λ m. MarkSet m u.votes) e f
in_primary_marked u (inr e) f = subst (λ m. MarkSet m u.votes) e f

in_primary_yellow : (u : Server) → InPrimary u → ColourFactsOf u → u.votes.yellow.status ≡ 0
unfolding no_yellow
in_primary_yellow u (inl e) f = ap (λ y. y.status) (subst (λ m. ColourFacts m u.votes.yellow u.log.red) e f).0
in_primary_yellow u (inr e) f = (subst (λ m. ColourFacts m u.votes.yellow u.log.red) e f).0

in_primary_idle : (u : Server) → InPrimary u → M.attempting u.membership.mode ≡ false
unfolding M.attempting
in_primary_idle u (inl e) = ap M.attempting e
in_primary_idle u (inr e) = ap M.attempting e

module _ {n q : ℕ} {l : Run} (A : Allowed n q l) where
  -- The mark of an Install, in the terms of what is installed.
  pub record InstallMark {p i : ℕ} {c : Configuration} (x : InstallsAt n q l p i c) : Type 0 where
    pub status : (mark_of_install A x).status ≡ 1
    pub index : (installed n q l x).index ≡ suc (mark_of_install A x).index
    pub attempt : (installed n q l x).attempt ≡ (mark_of_install A x).attempt
    pub set : (installed n q l x).set ≡ (mark_of_install A x).set

  pub install_mark : {p i : ℕ} {c : Configuration} (x : InstallsAt n q l p i c) → InstallMark x
  install_mark {p} {i} x =
      let m = (installing_attempts A x).1.mark in
      let g = installing_at x in
      let e = ap (λ s. s.votes.last) (sym x.acts.memory_next) in
      record {
        status = ap (λ z. z.status) m;
        index = omega (arith, installed_index x, ap (λ z. z.index) m);
        attempt = ap (λ z. z.attempt) e ∙ g.attempt ∙ ap (λ z. z.attempt) (sym m);
        set = ap (λ z. z.set) e ∙ g.set;
      }

  colours_after : {t s : ℕ} → Acts n q l t s → ColourFactsOf (memory_at n q l (suc t) s)
  colours_after {t} {s} y =
      (at_place n q l (OfBoth ColourFactsOf) s (colour_facts n q s A.allowed.sizes (A.allowed.servers t s (of_event y.here))) (suc t)).memory

  -- Yellow is not valid.
  pub no_yellow_after : {t s : ℕ} (y : Acts n q l t s) → InPrimary y.after → y.after.votes.yellow.status ≡ 0
  no_yellow_after {t} {s} y h = in_primary_yellow y.after h (subst (λ u. ColourFactsOf u) y.memory_next (colours_after y))

  module _ (X : ExchangeFacts n q l) where
    pub primary_marked : {t s p i : ℕ} {c : Configuration} (y : Acts n q l t s) → InPrimary y.after → (x : InstallsAt n q l p i c)
        → y.after.votes.last.index ≡ (installed n q l x).index → Alike (mark_of_install A x) y.after.votes.mark
    primary_marked {t} {s} {p} {i} y h x e =
        let u = y.after in
        let f = in_primary_facts u h (subst (λ v. ModeFactsOf v) y.memory_next (mode_facts_at n q l s (suc t)).memory) in
        let g = install_mark x in
        let a : Image n q l (suc t) s (memory_at n q l (suc t) s) = in_memory y.down_next in
        let b : Image n q l (suc p) i (memory_at n q l (suc p) i) = in_memory x.acts.down_next in
        let k : u.votes.last ≡ installed n q l x =
        ap (λ v. v.votes.last) (sym y.memory_next)
        ∙ unique_known A X a b (ap (λ v. v.votes.last.index) y.memory_next ∙ e ∙ ap (λ v. v.votes.last.index) (sym x.acts.memory_next))
        ∙ ap (λ v. v.votes.last) x.acts.memory_next in
        record {
          status = in_primary_marked u h (subst (λ v. MarkSetOf v) y.memory_next (mark_set_at_lem n q l s (suc t)).memory);
          index = omega (arith, f.index, g.index, e);
          attempt = sym f.attempt ∙ ap (λ z. z.attempt) k ∙ g.attempt;
          set = sym f.set ∙ ap (λ z. z.set) k ∙ g.set;
        }

    pub silent : {t s p i : ℕ} {c : Configuration} (y : Acts n q l t s) → InPrimary y.after → (x : InstallsAt n q l p i c)
        → y.after.votes.last.index ≡ (installed n q l x).index → Answers A x s y.after → ⊥
    silent y h x e (by_yellow f) = omega (arith, no_yellow_after y h, f)
    silent y h x e (by_attempt f) = not_both (sym (in_primary_idle y.after h) ∙ f)
    silent y h x e (by_mark m f) = f (primary_marked y h x e)
