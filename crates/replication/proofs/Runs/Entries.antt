-- Where a server took the configuration that it has.
use Prim.Native.Nat.{ℕ, zero, suc, ◌≤◌, ◌<◌}
use mathlib.Core.Path.{◌≡◌, sym, ap, subst, ◌∙◌}
use mathlib.Core.Option.{none, some}
use native.Mathlib.Omega.{arith}
use native.Mathlib.Decide.{dec_lt}
use Rattle.base.proofs.AtLaws.{none_some, some_same}
use Rattle.replication.specs.Machine.Types.{Configuration}
use Rattle.replication.specs.Runs.Run.{Run, nowhere, place_at}
use Rattle.replication.specs.Runs.Happenings.{Falls, Takes}
use Rattle.replication.proofs.Runs.Places.{place_at_start}
use Rattle.replication.proofs.Runs.Shifts.{stays_no_fall, stays_no_regular, transitional_no_fall, transitional_not_regular, Shift, to_regular, to_transitional, to_nowhere, stays, shift}

module _ (n q : ℕ) (l : Run) where
  -- Before p the server i took c, at `took_at`, and has had it since.
  pub record Had (i p : ℕ) (c : Configuration) : Type 0 where
    pub took_at : ℕ
    pub earlier : took_at < p
    pub took : Takes n q l took_at i c
    pub steady : (x : ℕ) → took_at < x → x < p → Falls n q l x i → ⊥
    pub alone : (x : ℕ) (d : Configuration) → took_at < x → x < p → Takes n q l x i d → ⊥
    pub kept : (x : ℕ) → took_at < x → x ≤ p → (place_at n q l i x).regular ≡ some c
    pub not_left : (place_at n q l i p).transitional ≡ none → (x : ℕ) → took_at < x → x ≤ p → (place_at n q l i x).transitional ≡ none

  had_longer : {i p : ℕ} {c : Configuration} → (place_at n q l i (suc p)).regular ≡ some c → (Falls n q l p i → ⊥)
      → ((d : Configuration) → Takes n q l p i d → ⊥) → ((place_at n q l i (suc p)).transitional ≡ none → (place_at n q l i p).transitional ≡ none)
      → Had i p c → Had i (suc p) c
  had_longer {i} {p} {c} e f t u h =
      record {
        took_at = h.took_at;
        earlier = omega (arith, h.earlier);
        took = h.took;
        steady = λ x a b. steady x a b (dec_lt x p);
        alone = λ x d a b. alone x d a b (dec_lt x p);
        kept = λ x a b. kept x a b (dec_lt x (suc p));
        not_left = λ g x a b. not_left g x a b (dec_lt x (suc p));
      }
    where
      steady : (x : ℕ) → h.took_at < x → x < suc p → Dec (x < p) → Falls n q l x i → ⊥
      steady x a b (yes d) y = h.steady x a d y
      steady x a b (no d) y = let z : x ≡ p = omega arith in f (subst (λ w. Falls n q l w i) z y)

      alone : (x : ℕ) (d : Configuration) → h.took_at < x → x < suc p → Dec (x < p) → Takes n q l x i d → ⊥
      alone x d a b (yes u) y = h.alone x d a u y
      alone x d a b (no u) y = let z : x ≡ p = omega arith in t d (subst (λ w. Takes n q l w i d) z y)

      kept : (x : ℕ) → h.took_at < x → x ≤ suc p → Dec (x < suc p) → (place_at n q l i x).regular ≡ some c
      kept x a b (yes d) = h.kept x a (omega arith)
      kept x a b (no d) = let z : x ≡ suc p = omega arith in subst (λ w. (place_at n q l i w).regular ≡ some c) (sym z) e

      not_left : (place_at n q l i (suc p)).transitional ≡ none → (x : ℕ) → h.took_at < x → x ≤ suc p → Dec (x < suc p)
          → (place_at n q l i x).transitional ≡ none
      not_left g x a b (yes d) = h.not_left (u g) x a (omega arith)
      not_left g x a b (no d) = let z : x ≡ suc p = omega arith in subst (λ w. (place_at n q l i w).transitional ≡ none) (sym z) g

  -- A configuration that a server has was taken.
  pub had : (p i : ℕ) (c : Configuration) → (place_at n q l i p).regular ≡ some c → Had i p c
  unfolding nowhere
  had zero i c e = none_some (sym (ap (λ x. x.regular) (place_at_start n q l i)) ∙ e)
  had (suc p) i c e = go (shift n q l p i) (had p i c)
    where
      go : Shift n q l p i → ((place_at n q l i p).regular ≡ some c → Had i p c) → Had i (suc p) c
      go (to_regular d t m) k =
          let z : d ≡ c = some_same (sym (ap (λ x. x.regular) m) ∙ e) in
          record {
            took_at = p;
            earlier = omega arith;
            took = subst (λ w. Takes n q l p i w) z t;
            steady = λ x a b y. omega arith;
            alone = λ x d a b y. omega arith;
            not_left = λ g x a b. let w : suc p ≡ x = omega arith in subst (λ v. (place_at n q l i v).transitional ≡ none) w g;
            kept = λ x a b. let w : suc p ≡ x = omega arith in subst (λ v. (place_at n q l i v).regular ≡ some c) w e;
          }
      go (to_transitional s t m) k =
          had_longer e (λ f. transitional_no_fall t f) (λ d y. transitional_not_regular t y)
          (λ g. none_some (sym g ∙ ap (λ x. x.transitional) m)) (k (sym (ap (λ x. x.regular) m) ∙ e))
      go (to_nowhere f m) k = none_some (sym (ap (λ x. x.regular) m) ∙ e)
      go (stays u v m) k =
          had_longer e (λ f. stays_no_fall u v f) (λ d y. stays_no_regular u y) (λ g. sym (ap (λ x. x.transitional) m) ∙ g) (k (sym (ap (λ x. x.regular) m) ∙ e))
