-- What comes next in a slice: as the code finds it, and what is known of an event that comes next.
use Prim.Native.Nat.{ℕ, ◌+◌, ◌-◌, ◌≤◌, ◌<◌}
use mathlib.Core.Path.{◌≡◌, refl, sym, ap, subst, ◌∙◌}
use mathlib.Core.Bool.{Bool, true, false}
use mathlib.Core.List.{List}
use native.Mathlib.Omega.{arith}
use native.Mathlib.Decide.{dec_lt}
use lib.ListN.{length, get_or, take, drop, take-append-drop}
use lib.Seq.{length-take-le, take_all}
use Rattle.base.specs.Tests.{◌<?◌, ◌=?◌, pick}
use Rattle.base.proofs.TestLaws.{not_both, pick_as, pick_yes, pick_no, pick_lt, pick_ge, lt_fails, and_holds, eq_holds, Known, holds, fails, known}
use Rattle.base.specs.Bytes.{number_at}
use Rattle.base.proofs.BytesLaws.{number_front, number2}
use Rattle.format.specs.Places.{length_size, at_body}
use Rattle.daemons.specs.Buffers.{is_recovery}
use Rattle.daemons.specs.Sending.{first_size}
use Rattle.burst.specs.Next.{Next}
use Rattle.burst.specs.Next.{Event, Stop}
use Rattle.burst.specs.Burst.{cut_short, next_of, EndsIn}

-- ---- what the code finds

pub cut_first : (f : Bool) → f ≡ true → Stop 1 ≡ cut_short f
unfolding cut_short
cut_first f e = pick_yes f (Stop 1) _ _ e refl

pub cut_behind : (f : Bool) → f ≡ false → Stop 0 ≡ cut_short f
unfolding cut_short
cut_behind f e = pick_no f (Stop 0) _ _ e refl

pub stop_fits : (k : ℕ) (e : List ℕ) → EndsIn (Stop k) e
unfolding EndsIn
stop_fits k e = tt

pub cut_fits : (f : Bool) (r : Next) (e : List ℕ) → r ≡ cut_short f → EndsIn r e
unfolding cut_short
cut_fits f r e h = subst (λ (x : Next). EndsIn x e) (sym h) (pick_as (λ (x : Next). EndsIn x e) f _ _ (λ p. stop_fits 1 e) (λ p. stop_fits 0 e))

pub event_fits : (k : ℕ) (e : List ℕ) → k + length_size ≤ length e → EndsIn (Event (k + length_size)) e
unfolding EndsIn
event_fits k e h = (omega arith, h)

module _ (f : Bool) (e : List ℕ) where
  pub next_none : length e < 1 → Stop 0 ≡ next_of f e
  unfolding next_of
  next_none h = pick_lt (length e) 1 (Stop 0) _ _ h refl

  pub next_short : (r : Next) → 1 ≤ length e → length e < length_size → r ≡ cut_short f → r ≡ next_of f e
  unfolding next_of
  next_short r some h q = pick_ge (length e) 1 r _ _ some (pick_lt (length e) length_size r _ _ h q)

  module _ (k : ℕ) (long : length_size ≤ length e) (is-k : k ≡ number_at length_size e 0) where
    pub next_cut : (r : Next) → length e < k + length_size → r ≡ cut_short f → r ≡ next_of f e
    unfolding next_of
    next_cut r h q =
        pick_ge (length e) 1 r _ _ (omega arith)
        (pick_ge (length e) length_size r _ _ long (pick_lt (length e) (first_size e) r _ _ (omega arith) q))

    module _ (whole : k + length_size ≤ length e) where
      next_whole : (r : Next) → r ≡ pick f (Event (first_size e)) (pick (is_recovery (take (first_size e) e)) (Stop 0) (Event (first_size e))) → r ≡ next_of f e
      unfolding next_of
      next_whole r q =
          pick_ge (length e) 1 r _ _ (omega arith)
          (pick_ge (length e) length_size r _ _ long (pick_ge (length e) (first_size e) r _ _ (omega arith) q))

      size_is : Event (k + length_size) ≡ Event (first_size e)
      size_is = ap (λ (m : ℕ). Event (m + length_size)) is-k

      recovery_is : (t : Bool) → t ≡ is_recovery (take (k + length_size) e) → is_recovery (take (first_size e) e) ≡ t
      recovery_is t q = ap (λ (m : ℕ). is_recovery (take (m + length_size) e)) (sym is-k) ∙ sym q

      pub next_first : f ≡ true → Event (k + length_size) ≡ next_of f e
      next_first h = next_whole (Event (k + length_size)) (pick_yes f (Event (k + length_size)) _ _ h size_is)

      pub next_recovery : (t : Bool) → f ≡ false → t ≡ is_recovery (take (k + length_size) e) → t ≡ true → Stop 0 ≡ next_of f e
      next_recovery t h q r =
          next_whole (Stop 0) (pick_no f (Stop 0) _ _ h (pick_yes (is_recovery (take (first_size e) e)) (Stop 0) _ _ (recovery_is t q ∙ r) refl))

      pub next_behind : (t : Bool) → f ≡ false → t ≡ is_recovery (take (k + length_size) e) → t ≡ false → Event (k + length_size) ≡ next_of f e
      next_behind t h q r =
          next_whole (Event (k + length_size))
          (pick_no f (Event (k + length_size)) _ _ h
          (pick_no (is_recovery (take (first_size e) e)) (Event (k + length_size)) _ _ (recovery_is t q ∙ r) size_is))

-- ---- an event that comes next

pub record Whole (f : Bool) (e : List ℕ) (m : ℕ) : Type 0 where
  pub size : m ≡ first_size e
  pub inside : m ≤ length e
  pub running : f ≡ false → is_recovery (take m e) ≡ false

data Comes (f : Bool) (e : List ℕ) : Next → Type 0 where
  whole : (m : ℕ) → Whole f e m → Comes f e (Event m)
  stop : (k : ℕ) → Comes f e (Stop k)

comes : (f : Bool) (e : List ℕ) → Comes f e (next_of f e)
unfolding next_of cut_short
comes f e =
    pick_as P (length e <? 1) _ _ (λ h. stop 0)
    (λ h. pick_as P (length e <? length_size) _ _ (λ l. short)
    (λ l. pick_as P (length e <? first_size e) _ _ (λ q. short)
    (λ q. pick_as P f _ _
    (λ y. whole (first_size e) (record { size = refl; inside = lt_fails (length e) (first_size e) q; running = λ n. not_both (sym n ∙ y) }))
    (λ n. pick_as P (is_recovery (take (first_size e) e)) _ _ (λ r. stop 0)
    (λ r. whole (first_size e) (record { size = refl; inside = lt_fails (length e) (first_size e) q; running = λ z. r }))))))
  where
    P : Next → Type 0
    P x = Comes f e x

    short : P (pick f (Stop 1) (Stop 0))
    short = pick_as P f _ _ (λ y. stop 1) (λ n. stop 0)

pub whole_event : (f : Bool) (e : List ℕ) (m : ℕ) → next_of f e ≡ Event m → Whole f e m
whole_event f e m h = go (subst (Comes f e) h (comes f e))
  where
    go : Comes f e (Event m) → Whole f e m
    go (whole m w) = w

module _ (f : Bool) (e : List ℕ) (m : ℕ) (w : Whole f e m) where
  pub whole_length : length (take m e) ≡ m
  whole_length = length-take-le m e w.inside

  -- It is as long as its length bytes say.
  pub whole_said : first_size (take m e) ≡ length (take m e)
  whole_said =
      let front : number_at length_size e 0 ≡ number_at length_size (take m e) 0
      = ap (λ (x : List ℕ). number_at length_size x 0) (sym (take-append-drop m e))
      ∙ number_front length_size (take m e) (drop m e) 0 (omega (arith, whole_length, w.size)) in
      omega (arith, front, whole_length, w.size)

-- ---- no event comes first

event_not_stop : {X : Type 0} (m k : ℕ) → Event m ≡ Stop k → X
event_not_stop m k h = let z : ◌≡◌ {A = ℕ} 0 1 = cc in absurd (omega arith)

recovery_size_lem : (e : List ℕ) → is_recovery e ≡ true → first_size e ≡ length e
unfolding is_recovery
recovery_size_lem e h =
    let p = and_holds (length e =? at_body) _ h in
    let p₀ = and_holds (get_or e 0 0 =? 0) _ p.1 in
    let p₁ = and_holds (get_or e 1 0 =? at_body - length_size) _ p₀.1 in
    omega (arith, number2 e 0, eq_holds (length e) at_body p.0, eq_holds (get_or e 0 0) 0 p₀.0, eq_holds (get_or e 1 0) (at_body - length_size) p₁.0)

-- A recovery that stands first is an event that comes next.
pub stop_running : (e : List ℕ) (k : ℕ) → next_of true e ≡ Stop k → is_recovery (take (first_size e) e) ≡ false
stop_running e k h = go (dec_lt (length e) (first_size e)) (known (is_recovery (take (first_size e) e)))
  where
    go : Dec (length e < first_size e) → Known (is_recovery (take (first_size e) e)) → is_recovery (take (first_size e) e) ≡ false
    go (no l) r = event_not_stop _ k (next_first true e (number_at length_size e 0) (omega arith) refl (omega arith) refl ∙ h)
    go (yes l) (fails r) = r
    go (yes l) (holds r) =
        let all : take (first_size e) e ≡ e = take_all (first_size e) e (omega arith) in
        absurd (omega (arith, recovery_size_lem e (ap is_recovery (sym all) ∙ r)))
