-- The register after payloads, and its buffer.
use Prim.Native.Nat.{ℕ, ◌+◌}
use mathlib.Core.Path.{◌≡◌, refl, sym, ap, ◌∙◌}
use mathlib.Core.Bool.{true, false}
use mathlib.Core.List.{List, [], ◌∷◌, ◌++◌}
use mathlib.Core.Option.{Option, none, some}
use native.Mathlib.Omega.{arith}
use lib.ListN.{length}
use Rattle.base.specs.Tests.{◌and◌, ◌≤?◌, ◌=?◌}
use Rattle.base.specs.Bytes.{Bytes}
use Rattle.base.specs.Lists.{all, Each}
use Rattle.base.proofs.ListLaws.{each_all}
use Rattle.base.proofs.TestLaws.{le_yes, eq_holds, both_yes, pick_as}
use Rattle.pegs.specs.Operations.{Peg, Operation, operation_of}
use Rattle.pegs.specs.Register.{most_pegs, number_if, payload_number, after_if, after_payload, advance, refusals}
use Rattle.pegs.specs.Image.{register_bytes, register_image, pegs_in, peg_fits, rising, formed, used_in}
use Rattle.pegs.specs.Outcome.{register_number, Changed, changed, applied, applied_all}
use Rattle.pegs.proofs.Numbers.{after_refused}
use Rattle.pegs.proofs.Places.{formed_most, formed_sorted, sorted_rising}
use Rattle.pegs.proofs.PegLaws.{PegRange, range_fits}
use Rattle.pegs.proofs.ImageLaws.{Holds, number_zero, formed_range, image_length, image_number_lem, pegs_image, used_is}
use Rattle.pegs.proofs.Kept.{Kept, kept_payload, payload_pegs}

-- ---- one after another

pub advance_append : (l : List Peg) (xs ys : List (List ℕ)) → advance (advance l xs) ys ≡ advance l (xs ++ ys)
unfolding advance
advance_append l [] ys = refl
advance_append l (x ∷ xs) ys = advance_append (after_payload x l) xs ys

pub refusals_append : (l : List Peg) (xs ys : List (List ℕ)) → refusals l (xs ++ ys) ≡ refusals l xs + refusals (advance l xs) ys
unfolding advance refusals
refusals_append l [] ys = omega arith
refusals_append l (x ∷ xs) ys = omega (arith, refusals_append (after_payload x l) xs ys)

-- ---- formed

pub formed_kept : (l : List Peg) → formed l ≡ true → Kept PegRange l
formed_kept l ok = record { most = formed_most l ok; sorted = formed_sorted l ok; every = formed_range l ok }

pub kept_formed : (l : List Peg) → Kept PegRange l → formed l ≡ true
unfolding formed
kept_formed l k =
    both_yes _ _ (le_yes (length l) most_pegs k.most)
    (both_yes _ _ (each_all peg_fits PegRange range_fits l k.every) (sorted_rising l k.sorted))

pub formed_empty : formed [] ≡ true
unfolding formed all rising ◌and◌ ◌≤?◌
formed_empty = refl

pub formed_after : (p : List ℕ) (l : List Peg) → formed l ≡ true → Bytes p → formed (after_payload p l) ≡ true
formed_after p l ok b = kept_formed (after_payload p l) (kept_payload PegRange p l (payload_pegs p b) (formed_kept l ok))

-- ---- in the buffer

-- A refused payload leaves the register.
refused_if : (x : Option Operation) (l : List Peg) → (number_if x l =? 0) ≡ false → after_if x l ≡ l
unfolding number_if after_if
refused_if none l e = refl
refused_if (some o) l e = after_refused o l e

pub refused_leaves : (p : List ℕ) (l : List Peg) → (payload_number p l =? 0) ≡ false → after_payload p l ≡ l
unfolding payload_number after_payload
refused_leaves p l e = refused_if (operation_of p) l e

pub applied_number : (p : List ℕ) (l : List Peg) (r : List ℕ) → (applied p l r).number ≡ payload_number p l
unfolding applied changed
applied_number p l r =
    pick_as (λ (c : Changed). c.number ≡ payload_number p l) (payload_number p l =? 0) _ _ (λ t. sym (eq_holds (payload_number p l) 0 t)) (λ t. refl)

module _ (p r : List ℕ) (z : register_number r ≡ 0) where
  held : Holds r
  held = number_zero r z

  pub applied_is : (applied p (pegs_in r) r).register ≡ register_image (after_payload p (pegs_in r)) r
  unfolding applied changed
  applied_is =
      pick_as (λ (c : Changed). c.register ≡ register_image (after_payload p (pegs_in r)) r) (payload_number p (pegs_in r) =? 0) _ _ (λ t. refl)
      (λ t. sym (ap (λ (l : List Peg). register_image l r) (refused_leaves p (pegs_in r) t) ∙ held.image))

  module _ (b : Bytes p) where
    after_formed : formed (after_payload p (pegs_in r)) ≡ true
    after_formed = formed_after p (pegs_in r) held.formed b

    pub applied_zero : register_number (applied p (pegs_in r) r).register ≡ 0
    applied_zero = ap register_number applied_is ∙ image_number_lem (after_payload p (pegs_in r)) r after_formed held.long

    pub applied_length : length (applied p (pegs_in r) r).register ≡ length r
    applied_length = ap (λ (c : List ℕ). length c) applied_is ∙ image_length (after_payload p (pegs_in r)) r after_formed held.long

    pub applied_pegs : pegs_in (applied p (pegs_in r) r).register ≡ after_payload p (pegs_in r)
    applied_pegs = ap pegs_in applied_is ∙ pegs_image (after_payload p (pegs_in r)) r after_formed held.long

-- ---- many in the buffer

pub applied_all_append : (xs ys : List (List ℕ)) (r : List ℕ) → applied_all (xs ++ ys) r ≡ applied_all ys (applied_all xs r)
unfolding applied_all
applied_all_append [] ys r = refl
applied_all_append (x ∷ xs) ys r = applied_all_append xs ys (applied x (pegs_in r) r).register

-- One more.
pub applied_all_next : (xs : List (List ℕ)) (p r : List ℕ)
    → applied_all (xs ++ (p ∷ [])) r ≡ (applied p (pegs_in (applied_all xs r)) (applied_all xs r)).register
unfolding applied_all
applied_all_next xs p r = applied_all_append xs (p ∷ []) r

pub record AppliedAll (ps : List (List ℕ)) (r : List ℕ) : Type 0 where
  pub number : register_number (applied_all ps r) ≡ 0
  pub long : length (applied_all ps r) ≡ length r
  pub pegs : pegs_in (applied_all ps r) ≡ advance (pegs_in r) ps
  pub used : used_in (applied_all ps r) ≡ register_bytes (advance (pegs_in r) ps)

all_pegs : (ps : List (List ℕ)) (r : List ℕ) → register_number r ≡ 0 → Each Bytes ps
    → (register_number (applied_all ps r) ≡ 0) × (length (applied_all ps r) ≡ length r) × (pegs_in (applied_all ps r) ≡ advance (pegs_in r) ps)
unfolding applied_all advance
all_pegs [] r z b = (z, refl, refl)
all_pegs (p ∷ ps) r z b =
    let i = all_pegs ps (applied p (pegs_in r) r).register (applied_zero p r z b.0) b.1 in
    (i.0, i.1 ∙ applied_length p r z b.0, i.2 ∙ ap (λ (l : List Peg). advance l ps) (applied_pegs p r z b.0))

pub applied_all_lem : (ps : List (List ℕ)) (r : List ℕ) → register_number r ≡ 0 → Each Bytes ps → AppliedAll ps r
applied_all_lem ps r z b =
    let a = all_pegs ps r z b in
    record {
      number = a.0;
      long = a.1;
      pegs = a.2;
      used = used_is (applied_all ps r) (number_zero (applied_all ps r) a.0) ∙ ap register_bytes a.2;
    }
