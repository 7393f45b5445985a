-- A member that nothing disturbs is in the regular configuration.
use Prim.Native.Nat.{ℕ, zero, suc, ◌≤◌, ◌<◌}
use mathlib.Core.Path.{◌≡◌, sym, ap, subst, ◌∙◌}
use mathlib.Core.Bool.{true}
use native.Mathlib.Omega.{arith}
use native.Mathlib.Decide.{dec_lt}
use Rattle.base.specs.Sets.{in_set}
use Rattle.base.proofs.AtLaws.{none_some}
use Rattle.base.proofs.TestLaws.{not_both}
use Rattle.format.specs.Types.{transitional}
use Rattle.replication.specs.Machine.Types.{Configuration}
use Rattle.replication.specs.Runs.Run.{Run, place_at}
use Rattle.replication.specs.Runs.Happenings.{Comes, Takes}
use Rattle.replication.proofs.Runs.Roomy.{Roomy as Allowed}
use Rattle.replication.specs.Runs.Settling.{ReachesAll, Undisturbed}
use Rattle.replication.proofs.Runs.Entries.{Had, had}
use Rattle.replication.proofs.Runs.Order.{in_regular_of}
use Rattle.replication.proofs.Runs.Shifts as S

module _ {n q : ℕ} {l : Run} (A : Allowed n q l) (c : Configuration) (r : ReachesAll n q l c) where
  pub undisturbed_earlier : {k p x : ℕ} → r.took k < x → x ≤ p → Undisturbed n q l c r k p → Undisturbed n q l c r k x
  undisturbed_earlier a b u = record {
    member = u.member;
    since = a;
    no_fall = λ y f g. u.no_fall y f (omega arith);
    no_transitional = λ y s f g. u.no_transitional y s f (omega arith);
  }

  pub undisturbed_place : (k p : ℕ) → Undisturbed n q l c r k p → place_at n q l k p ≡ in_regular_of c
  undisturbed_place k zero u = absurd (omega (arith, u.since))
  undisturbed_place k (suc p) u = go (dec_lt (r.took k) p) (λ h. undisturbed_place k p (undisturbed_earlier h (omega arith) u))
    where
      taking : Takes n q l p k c → S.Shift n q l p k → place_at n q l k (suc p) ≡ in_regular_of c
      taking t (S.to_regular d x m) = m ∙ ap in_regular_of (S.takes_same x t)
      taking t (S.to_transitional s x m) = absurd (S.transitional_not_regular x t)
      taking t (S.to_nowhere f m) = absurd (S.takes_no_fall t f)
      taking t (S.stays f g m) = absurd (S.stays_no_regular f t)

      staying : r.took k < p → place_at n q l k p ≡ in_regular_of c → S.Shift n q l p k → place_at n q l k (suc p) ≡ in_regular_of c
      staying h e (S.to_regular d x m) = absurd (A.allowed.between p k d c x (ap (λ y. y.regular) e) (ap (λ y. y.transitional) e))
      staying h e (S.to_transitional s x m) = absurd (u.no_transitional p s h (omega arith) x)
      staying h e (S.to_nowhere f m) = absurd (u.no_fall p h (omega arith) f)
      staying h e (S.stays f g m) = m ∙ e

      go : Dec (r.took k < p) → (r.took k < p → place_at n q l k p ≡ in_regular_of c) → place_at n q l k (suc p) ≡ in_regular_of c
      go (yes h) f = staying h (f h) (S.shift n q l p k)
      go (no h) f =
          let e : r.took k ≡ p = omega (arith, u.since) in
          taking (subst (λ x. Takes n q l x k c) e (r.takes k u.member)) (S.shift n q l p k)

  -- And who is in it is undisturbed.
  pub place_undisturbed : (k p : ℕ) → in_set k c.set ≡ true → place_at n q l k p ≡ in_regular_of c → Undisturbed n q l c r k p
  unfolding S.changes
  place_undisturbed k p m e = record {
    member = m;
    since = omega (arith, h.earlier, same);
    no_fall = λ x a b. h.steady x (omega (arith, same)) b;
    no_transitional = λ x s a b t. came x s a b t (S.shift n q l x k);
  }
    where
      h : Had n q l k p c
      h = had n q l p k c (ap (λ y. y.regular) e)

      same : h.took_at ≡ r.took k
      same = A.allowed.once h.took_at (r.took k) k c h.took (r.takes k m)

      came : (x s : ℕ) → r.took k < x → x < p → Comes n q l x k (transitional s) → S.Shift n q l x k → ⊥
      came x s a b t (S.to_regular d y w) = S.transitional_not_regular t y
      came x s a b t (S.to_transitional u y w) =
          none_some (sym (h.not_left (ap (λ y. y.transitional) e) (suc x) (omega (arith, same)) b) ∙ ap (λ y. y.transitional) w)
      came x s a b t (S.to_nowhere f w) = S.transitional_no_fall t f
      came x s a b t (S.stays f g w) = not_both (sym (f (transitional s) t))
