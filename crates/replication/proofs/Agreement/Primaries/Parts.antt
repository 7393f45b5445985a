-- What a server in a primary component has, by the actions that it has delivered there since the Install, and how each event keeps it.
use Prim.Native.Nat.{ℕ, ◌<◌}
use mathlib.Core.Path.{◌≡◌, sym, ap, subst, ◌∙◌}
use mathlib.Core.List.{List, [], ◌++◌, map-append, append-nil, append_assoc}
use lib.ListN.{length}
use Rattle.base.specs.Lists.{Each}
use Rattle.format.specs.Types.{Action}
use Rattle.replication.specs.Machine.Types.{Reg_prim, Trans_prim, Server, no_yellow}
use Rattle.replication.specs.Machine.WellFormed.{ids_in}
use Rattle.replication.proofs.WellFormed.Clauses.{YellowWithinCuts}
use Rattle.replication.specs.Laws.Folds.{cuts_after, entered, Greened, Yellowed}
use Rattle.replication.specs.Laws.Order.{SameHeld}
use Rattle.replication.proofs.Step.Folds.{entered_append, cuts_append}
use Rattle.replication.proofs.Step.Yellows.{yellow_gained}

-- The server s, in Reg_prim: at the Install the green list was `base` and the cuts `cuts`; these actions were delivered since, in the regular
-- configuration and in all.
pub record InRegPrim (base : List Action) (cuts : List ℕ) (in_regular inAll : List Action) (s : Server) : Type 0 where
  pub mode : s.membership.mode ≡ Reg_prim
  pub green : s.log.green ≡ base ++ entered cuts in_regular
  pub cuts_now : s.log.cuts ≡ cuts_after cuts inAll
  pub all_regular : inAll ≡ in_regular
  pub yellow : s.votes.yellow ≡ no_yellow
  pub red : s.log.red ≡ []

-- .. in Trans_prim.
pub record InTransPrim (base : List Action) (cuts : List ℕ) (in_regular inAll : List Action) (s : Server) : Type 0 where
  pub mode : s.membership.mode ≡ Trans_prim
  pub green : s.log.green ≡ base ++ entered cuts in_regular
  pub cuts_now : s.log.cuts ≡ cuts_after cuts inAll
  pub red : ids_in s.log.red ≡ s.votes.yellow.ids
  pub ids : ids_in s.log.green ++ s.votes.yellow.ids ≡ ids_in (base ++ entered cuts inAll)

-- ---- lists

pub ids_append : (x y : List Action) → ids_in (x ++ y) ≡ ids_in x ++ ids_in y
unfolding ids_in
ids_append x y = map-append (λ (a : Action). a.id) x y

-- What is entered of more actions, by the cuts that the earlier ones left.
entered_more : (base : List Action) (cuts now : List ℕ) (x y z : List Action) → now ≡ cuts_after cuts x → z ≡ x ++ y
    → base ++ entered cuts z ≡ (base ++ entered cuts x) ++ entered now y
entered_more base cuts now x y z e f =
    ap (λ w. base ++ entered cuts w) f
    ∙ ap (λ w. base ++ w) (entered_append cuts x y ∙ ap (λ k. entered cuts x ++ entered k y) (sym e))
    ∙ sym (append_assoc base (entered cuts x) (entered now y))

cuts_more : (cuts now : List ℕ) (x y z : List Action) → now ≡ cuts_after cuts x → z ≡ x ++ y → cuts_after now y ≡ cuts_after cuts z
cuts_more cuts now x y z e f = ap (λ k. cuts_after k y) e ∙ sym (cuts_append cuts x y) ∙ ap (cuts_after cuts) (sym f)

-- ---- the steps

module _ (base : List Action) (cuts : List ℕ) (r a r' a' more : List Action) (s t : Server) where
  -- More actions are delivered in Reg_prim.
  pub greened_kept : InRegPrim base cuts r a s → t.membership.mode ≡ s.membership.mode → t.votes ≡ s.votes → Greened more s.log t.log
      → r' ≡ r ++ more → a' ≡ a ++ more → InRegPrim base cuts r' a' t
  greened_kept h m v g e f =
      record {
        mode = m ∙ h.mode;
        green =
            g.green
            ∙ ap (λ w. w ++ entered s.log.cuts more) h.green
            ∙ sym (entered_more base cuts s.log.cuts r more r' (h.cuts_now ∙ ap (cuts_after cuts) h.all_regular) e);
        cuts_now = g.cuts ∙ cuts_more cuts s.log.cuts a more a' h.cuts_now f;
        all_regular = f ∙ ap (λ w. w ++ more) h.all_regular ∙ sym e;
        yellow = ap (λ w. w.yellow) v ∙ h.yellow;
        red = g.red;
      }

  -- More actions are delivered in Trans_prim.
  pub yellowed_kept : InTransPrim base cuts r a s → t.membership.mode ≡ s.membership.mode → Yellowed more s t → YellowWithinCuts s
      → Each (λ x. x.id.creator < length s.log.cuts) more → r' ≡ r → a' ≡ a ++ more → InTransPrim base cuts r' a' t
  unfolding ids_in
  yellowed_kept h m y w c e f =
      let g = (yellow_gained more s t y w c).ids in
      record {
        mode = m ∙ h.mode;
        green = y.green ∙ h.green ∙ ap (λ z. base ++ entered cuts z) (sym e);
        cuts_now = y.cuts ∙ cuts_more cuts s.log.cuts a more a' h.cuts_now f;
        red =
            ap ids_in y.red
            ∙ ids_append s.log.red (entered s.log.cuts more)
            ∙ ap (λ z. z ++ ids_in (entered s.log.cuts more)) h.red
            ∙ sym g;
        ids =
            ap (λ z. ids_in z ++ t.votes.yellow.ids) y.green
            ∙ ap (λ z. ids_in s.log.green ++ z) g
            ∙ sym (append_assoc (ids_in s.log.green) s.votes.yellow.ids (ids_in (entered s.log.cuts more)))
            ∙ ap (λ z. z ++ ids_in (entered s.log.cuts more)) h.ids
            ∙ sym (ids_append (base ++ entered cuts a) (entered s.log.cuts more))
            ∙ ap ids_in (sym (entered_more base cuts s.log.cuts a more a' h.cuts_now f));
      }

module _ (base : List Action) (cuts : List ℕ) (r a r' a' : List Action) (s t : Server) (e : r' ≡ r) (f : a' ≡ a) where
  -- A transitional configuration comes.
  pub parted : InRegPrim base cuts r a s → t.membership.mode ≡ Trans_prim → t.votes ≡ s.votes → t.log ≡ s.log → InTransPrim base cuts r' a' t
  unfolding ids_in no_yellow
  parted h m v g =
      let none_yellow : t.votes.yellow.ids ≡ [] = ap (λ w. w.yellow.ids) v ∙ ap (λ y. y.ids) h.yellow in
      let now : t.log.green ≡ base ++ entered cuts r = ap (λ w. w.green) g ∙ h.green in
      record {
        mode = m;
        green = now ∙ ap (λ z. base ++ entered cuts z) (sym e);
        cuts_now = ap (λ w. w.cuts) g ∙ h.cuts_now ∙ ap (cuts_after cuts) (sym f);
        red = ap (λ w. ids_in w.red) g ∙ ap ids_in h.red ∙ sym none_yellow;
        ids =
            ap (λ z. ids_in t.log.green ++ z) none_yellow
            ∙ append-nil (ids_in t.log.green)
            ∙ ap ids_in (now ∙ ap (λ z. base ++ entered cuts z) (sym (f ∙ h.all_regular)));
      }

  -- Nothing of it changes.
  pub regular_unchanged : InRegPrim base cuts r a s → t ≡ s → InRegPrim base cuts r' a' t
  regular_unchanged h u =
      subst (λ z. InRegPrim base cuts z a' t) (sym e)
      (subst (λ z. InRegPrim base cuts r z t) (sym f) (subst (λ z. InRegPrim base cuts r a z) (sym u) h))

  pub transitional_unchanged : InTransPrim base cuts r a s → t.membership.mode ≡ s.membership.mode → t.votes ≡ s.votes → SameHeld s.log t.log
      → InTransPrim base cuts r' a' t
  transitional_unchanged h m v g =
      let y = ap (λ w. w.yellow.ids) v in
      let x = g.green in
      record {
        mode = m ∙ h.mode;
        green = x ∙ h.green ∙ ap (λ z. base ++ entered cuts z) (sym e);
        cuts_now = g.cuts ∙ h.cuts_now ∙ ap (cuts_after cuts) (sym f);
        red = ap ids_in g.red ∙ h.red ∙ sym y;
        ids = (λ j. ids_in (x j) ++ y j) ∙ h.ids ∙ ap (λ z. ids_in (base ++ entered cuts z)) (sym f);
      }
