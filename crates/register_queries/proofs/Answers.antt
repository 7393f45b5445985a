-- The exported functions, by the numbers tested.
use Prim.Native.Nat.{ℕ, ◌+◌, ◌*◌, ◌≤◌, ◌<◌}
use mathlib.Core.Path.{◌≡◌, refl, sym, ap, subst, ◌∙◌}
use mathlib.Core.Bool.{Bool, true, false}
use mathlib.Core.List.{List, [], ◌∷◌}
use mathlib.Core.Option.{none, some}
use native.Mathlib.Omega.{arith}
use lib.ListN.{length}
use Rattle.std.specs.Prelude.{Result, Ok, Err, MatchResult, IfOk}
use Rattle.refusals.specs.declared.Refusal.{Refusal}
use Rattle.refusals.specs.Numbers.{refusal_number}
use Rattle.register_check.specs.declared.contents.Register.{Register}
use Rattle.register_check.specs.declared.refusing.RegisterRefusal.{RegisterRefusal}
use Rattle.register_check.specs.Numbers.{refused_number}
use Rattle.register_check.proofs.Found.{refusal_some, refused_some}
use Rattle.register_check.proofs.Held.{held_room, held_slot}
use Rattle.register_queries.specs.Arguments.{held_number}
use Rattle.base.specs.Tests.{◌=?◌}
use Rattle.base.specs.Lists.{first_from}
use Rattle.base.proofs.AtLaws.{at_low}
use Rattle.base.proofs.TestLaws.{lt_yes, lt_no, eq_yes, eq_no, pick_yes, pick_no}
use Rattle.plane.specs.declared.Point.{Point}
use Rattle.plane.specs.declared.Rectangle.{Rectangle}
use Rattle.plane.specs.declared.Region.{Region}
use Rattle.plane.specs.declared.Region.TheVariants.{Inside, Within}
use Rattle.plane.specs.Plane.{sides_rise}
use Rattle.pegs.specs.Register.{most_pegs}
use Rattle.pegs.specs.Image.{count_size, peg_size, register_length, register_image, peg_at, peg_count, pegs_in}
use Rattle.pegs.specs.Outcome.{register_short, register_number, changed, Found, not_found, found_if}
use Rattle.pegs.specs.Regions.{pegs_inside, nearest}
use Rattle.pegs.specs.Queries.{both_number, sides_number, region_number, region_on, found_peg, found_at, nearest_on}
use Rattle.pegs.proofs.ImageLaws.{slots_count, slot_at_lem}
use Rattle.pegs.proofs.Nearest.{nearest_closest}
use Rattle.pegs.proofs.Regions.{region_taken, region_refused}

-- ---- 7 and 8

pub both_short : (r b : List ℕ) → length b < register_length → 7 ≡ both_number r b
unfolding both_number register_short
both_short r b h = pick_yes _ _ _ _ (lt_yes (length b) register_length h) refl

pub both_long : (r b : List ℕ) (k : ℕ) → register_length ≤ length b → k ≡ register_number r → k ≡ both_number r b
unfolding both_number register_short
both_long r b k h e = pick_no _ _ _ _ (lt_no (length b) register_length h) e

pub read_number : (x : Result Register Refusal) (r b : List ℕ) → MatchResult x (λ it. it.bytes.now ≡ r) (λ f. refusal_number f ≡ register_number r)
    → register_length ≤ length b → held_number x ≡ both_number r b
read_number (Ok it) r b e h = both_long r b 0 h (sym (subst (λ (x : List ℕ). register_number x ≡ 0) e it.reads))
read_number (Err f) r b e h = both_long r b (refusal_number f) h e

pub read_lent : (x : Result Register Refusal) (r : List ℕ) → MatchResult x (λ it. it.bytes.now ≡ r) (λ f. refusal_number f ≡ register_number r)
    → IfOk x (λ it. it.bytes.now ≡ r)
read_lent (Ok it) r e = e
read_lent (Err f) r e = tt

pub read_room : (x : Result Register Refusal) (b : List ℕ) → register_length ≤ length b → IfOk x (λ _. register_length ≤ length b)
read_room (Ok it) b h = h
read_room (Err f) b h = tt

-- ---- 12, and their order

pub sides_within : (a : Region) (p : Point) (m : ℕ) → a ≡ Within p m → 0 ≡ sides_number a
unfolding sides_number
sides_within a p m e = ap sides_number (sym e)

module _ (a : Region) (s : Rectangle) (e : a ≡ Inside s) (t : Bool) (test : t ≡ sides_rise s) where
  pub sides_good : t ≡ true → 0 ≡ sides_number a
  unfolding sides_number
  sides_good y = pick_yes (sides_rise s) _ _ _ (sym test ∙ y) refl ∙ ap sides_number (sym e)

  pub sides_bad : t ≡ false → 12 ≡ sides_number a
  unfolding sides_number
  sides_bad n = pick_no (sides_rise s) _ _ _ (sym test ∙ n) refl ∙ ap sides_number (sym e)

module _ (a : Region) (r b : List ℕ) where
  left_as : (k : ℕ) → k ≡ region_number a r b → (k ≡ 0 → ⊥) → changed k b ≡ region_on a r b
  left_as k e n = ap (λ (m : ℕ). changed m b) e ∙ sym (region_refused a r b (λ z. n (e ∙ z)))

  pub left_buffers : (f : Refusal) → refusal_number f ≡ both_number r b → changed (refusal_number f) b ≡ region_on a r b
  unfolding region_number
  left_buffers f e = left_as (refusal_number f) (pick_no _ _ _ _ (eq_no _ 0 (λ z. refusal_some f (e ∙ z))) e) (refusal_some f)

  module _ (ok : 0 ≡ both_number r b) where
    by_sides : (k : ℕ) → k ≡ sides_number a → k ≡ region_number a r b
    unfolding region_number
    by_sides k e = pick_yes _ _ _ _ (eq_yes _ 0 (sym ok)) e

    pub left_sides : (g : RegisterRefusal) → refused_number g ≡ sides_number a → changed (refused_number g) b ≡ region_on a r b
    left_sides g e = left_as (refused_number g) (by_sides (refused_number g) e) (refused_some g)

    pub all_collected : 0 ≡ sides_number a → (d c : List ℕ) → d ≡ r → c ≡ register_image (pegs_inside a (pegs_in d)) b → changed 0 c ≡ region_on a r b
    all_collected e d c h f =
        ap (changed 0) (f ∙ ap (λ (x : List ℕ). register_image (pegs_inside a (pegs_in x)) b) h) ∙ sym (region_taken a r b (sym (by_sides 0 e)))

-- ---- the nearest peg

empty : {A : Type 0} (l : List A) → length l ≡ 0 → l ≡ []
empty [] h = refl
empty (x ∷ l) h = absurd (omega arith)

pub nearest_empty : (b : List ℕ) (p : Point) (n : ℕ) → n ≡ peg_count b → n ≡ 0 → none ≡ nearest p (pegs_in b)
unfolding nearest first_from
nearest_empty b p n e h = ap (nearest p) (sym (empty (pegs_in b) (slots_count b ∙ sym e ∙ h)))

pub nearest_inside : (b : List ℕ) (p : Point) (i : ℕ) → some i ≡ nearest p (pegs_in b) → i < peg_count b
nearest_inside b p i e =
    let c = nearest_closest p (pegs_in b) i (sym e) in
    omega (arith, at_low (pegs_in b) i c.0 c.1.stands, slots_count b)

-- The nearest peg has a slot.
module _ (c : List ℕ) (p : Point) (ok : register_number c ≡ 0) (i : ℕ) (h : some i ≡ nearest p (pegs_in c)) where
  pub nearest_few : i < most_pegs
  nearest_few = (held_slot c ok i (nearest_inside c p i h)).few

  pub nearest_room : (b : List ℕ) → c ≡ b → count_size + peg_size * i + peg_size ≤ length b
  nearest_room b e = omega (arith, ap length e, held_room c ok i (nearest_inside c p i h))

module _ (b : List ℕ) (p : Point) (r : Found) where
  pub nearest_refused : (f : Refusal) (k : ℕ) → k ≡ refusal_number f → refusal_number f ≡ register_number b → r ≡ not_found k → r ≡ nearest_on b p
  unfolding nearest_on
  nearest_refused f k e n h =
      pick_no (register_number b =? 0) r _ _ (eq_no _ 0 (λ z. refusal_some f (n ∙ z))) (h ∙ ap not_found (e ∙ n))

  module _ (c : List ℕ) (e : c ≡ b) (ok : register_number c ≡ 0) where
    searched : r ≡ found_at (pegs_in c) (nearest p (pegs_in c)) → r ≡ nearest_on b p
    unfolding nearest_on
    searched h = subst (λ (x : List ℕ). r ≡ nearest_on x p) e (pick_yes (register_number c =? 0) r _ _ (eq_yes _ 0 ok) h)

    pub nearest_none : none ≡ nearest p (pegs_in c) → r ≡ not_found 0 → r ≡ nearest_on b p
    unfolding found_at
    nearest_none h f = searched (f ∙ ap (found_at (pegs_in c)) h)

    pub nearest_found : (i : ℕ) → some i ≡ nearest p (pegs_in c) → r ≡ found_if i (some (peg_at b (count_size + peg_size * i)).place) → r ≡ nearest_on b p
    unfolding found_at found_peg
    nearest_found i h f =
        searched
        (f ∙ ap (λ (x : List ℕ). found_if i (some (peg_at x (count_size + peg_size * i)).place)) (sym e)
        ∙ sym (ap (found_at (pegs_in c)) (sym h) ∙ ap (found_peg i) (slot_at_lem c i (nearest_inside c p i h))))
