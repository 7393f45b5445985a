-- The pegs of a region: what is in them, their order, and their register in the answer's buffer.
use Prim.Native.Nat.{ℕ, ◌≤◌}
use mathlib.Core.Path.{◌≡◌, refl, sym, ap, ◌∙◌}
use mathlib.Core.Bool.{Bool, true, false}
use mathlib.Core.List.{List, [], ◌∷◌, Memᴰ}
use mathlib.Core.Logic.{◌↔◌}
use mathlib.Core.Option.{some}
use native.Mathlib.Omega.{arith}
use lib.ListN.{length}
use Rattle.base.specs.Lists.{filter}
use Rattle.base.specs.Tests.{◌=?◌, pick}
use Rattle.base.proofs.Filters.{filter_yes, filter_no, filter_all, filter_length}
use Rattle.base.proofs.ListLaws.{each_filter}
use Rattle.base.proofs.Members.{filter_has, filter_from}
use Rattle.base.proofs.TestLaws.{Known, known, holds, fails, eq_yes, eq_no, eq_holds, eq_fails, lt_fails, pick_yes, pick_no}
use Rattle.plane.specs.declared.Region.{Region}
use Rattle.pegs.specs.Names.{before}
use Rattle.pegs.specs.Operations.{Peg}
use Rattle.pegs.specs.Claim.{Sorted}
use Rattle.pegs.specs.Image.{register_length, register_image, pegs_in, formed, read_register}
use Rattle.pegs.specs.Outcome.{register_short, register_number, Changed, changed}
use Rattle.pegs.specs.Regions.{peg_inside, pegs_inside}
use Rattle.pegs.specs.Queries.{both_number, sides_number, region_number, region_on}
use Rattle.pegs.specs.QueriesClaim.{RegionTheorem}
use Rattle.pegs.proofs.PegLaws.{PegRange}
use Rattle.pegs.proofs.ImageLaws.{number_zero, image_number_lem, register_read}
use Rattle.pegs.proofs.Advance.{formed_kept, kept_formed}

-- ---- a filter of pegs

pub sorted_filter : (t : Peg → Bool) (l : List Peg) → Sorted l → Sorted (filter t l)
unfolding filter
sorted_filter t [] s = tt
sorted_filter t (g ∷ l) s = go (known (t g)) (sorted_filter t l s.1)
  where
    go : Known (t g) → Sorted (filter t l) → Sorted (filter t (g ∷ l))
    go (holds e) f = rw (filter_yes t g l e) (each_filter (λ h. before g.name h.name ≡ true) t l s.0, f)
    go (fails e) f = rw (filter_no t g l e) f

pub formed_filter : (t : Peg → Bool) (l : List Peg) → formed l ≡ true → formed (filter t l) ≡ true
formed_filter t l ok =
    let k = formed_kept l ok in
    kept_formed (filter t l) (record {
      most = omega (arith, filter_length t l, k.most);
      sorted = sorted_filter t l k.sorted;
      every = each_filter PegRange t l k.every;
    })

-- ---- numbers

-- Where the region is answered: both buffers are long enough, and the register's holds one.
pub record Answered (a : Region) (r b : List ℕ) : Type 0 where
  pub both : both_number r b ≡ 0
  pub sides : sides_number a ≡ 0
  pub long : register_length ≤ length b
  pub number : register_number r ≡ 0

either_zero : (t : Bool) (k : ℕ) → pick t 7 k ≡ 0 → (t ≡ false) × (k ≡ 0)
unfolding pick
either_zero true k e = absurd (omega (arith, e))
either_zero false k e = (refl, e)

sides_zero : (k s : ℕ) → pick (k =? 0) s k ≡ 0 → (k ≡ 0) × (s ≡ 0)
sides_zero k s e = go (known (k =? 0))
  where
    go : Known (k =? 0) → (k ≡ 0) × (s ≡ 0)
    go (holds t) = (eq_holds k 0 t, pick_yes (k =? 0) s s k t refl ∙ e)
    go (fails t) = absurd (eq_fails k 0 t (pick_no (k =? 0) k s k t refl ∙ e))

not_short : (b : List ℕ) → register_short b ≡ false → register_length ≤ length b
unfolding register_short
not_short b e = lt_fails _ _ e

pub answered : (a : Region) (r b : List ℕ) → region_number a r b ≡ 0 → Answered a r b
unfolding region_number both_number
answered a r b e =
    let s = sides_zero (both_number r b) (sides_number a) e in
    let f = either_zero _ (register_number r) s.0 in
    record { both = s.0; sides = s.1; long = omega (arith, not_short _ f.0); number = f.1 }

pub region_taken : (a : Region) (r b : List ℕ) → region_number a r b ≡ 0 → region_on a r b ≡ changed 0 (register_image (pegs_inside a (pegs_in r)) b)
unfolding region_on
region_taken a r b e = sym (pick_yes (region_number a r b =? 0) _ _ _ (eq_yes _ 0 e) refl)

pub region_refused : (a : Region) (r b : List ℕ) → (region_number a r b ≡ 0 → ⊥) → region_on a r b ≡ changed (region_number a r b) b
unfolding region_on
region_refused a r b n = sym (pick_no (region_number a r b =? 0) _ _ _ (eq_no _ 0 n) refl)

-- The number is the one returned.
region_number_lem : (a : Region) (r b : List ℕ) → (region_on a r b).number ≡ region_number a r b
unfolding changed
region_number_lem a r b = go (known (region_number a r b =? 0))
  where
    go : Known (region_number a r b =? 0) → (region_on a r b).number ≡ region_number a r b
    go (holds t) = ap (λ (c : Changed). c.number) (region_taken a r b (eq_holds _ 0 t)) ∙ sym (eq_holds _ 0 t)
    go (fails t) = ap (λ (c : Changed). c.number) (region_refused a r b (eq_fails _ 0 t))

module _ (a : Region) (r b : List ℕ) (e : (region_on a r b).number ≡ 0) where
  zero_number : region_number a r b ≡ 0
  zero_number = sym (region_number_lem a r b) ∙ e

  image_is : (region_on a r b).register ≡ register_image (pegs_inside a (pegs_in r)) b
  unfolding changed
  image_is = ap (λ (c : Changed). c.register) (region_taken a r b zero_number)

  inside_formed : formed (pegs_inside a (pegs_in r)) ≡ true
  unfolding pegs_inside
  inside_formed = formed_filter (peg_inside a) (pegs_in r) (number_zero r (answered a r b zero_number).number).formed

  region_read : read_register (region_on a r b).register ≡ some (pegs_inside a (pegs_in r))
  region_read = ap read_register image_is ∙ register_read (pegs_inside a (pegs_in r)) b inside_formed (answered a r b zero_number).long

  region_reads : register_number (region_on a r b).register ≡ 0
  region_reads = ap register_number image_is ∙ image_number_lem (pegs_inside a (pegs_in r)) b inside_formed (answered a r b zero_number).long

-- ---- the theorem

inside_listed : (a : Region) (l : List Peg) (g : Peg) → Memᴰ g (pegs_inside a l) ↔ (Memᴰ g l × (peg_inside a g ≡ true))
unfolding pegs_inside
inside_listed a l g = (λ m. filter_from (peg_inside a) g l m, λ m. filter_has (peg_inside a) g l m.0 m.1)

inside_sorted : (a : Region) (l : List Peg) → Sorted l → Sorted (pegs_inside a l)
unfolding pegs_inside
inside_sorted a l s = sorted_filter (peg_inside a) l s

inside_again : (a : Region) (l : List Peg) → pegs_inside a (pegs_inside a l) ≡ pegs_inside a l
unfolding pegs_inside
inside_again a l = filter_all (peg_inside a) (filter (peg_inside a) l) (λ g m. (filter_from (peg_inside a) g l m).1)

left_alone : (a : Region) (r b : List ℕ) → ((region_on a r b).number ≡ 0 → ⊥) → (region_on a r b).register ≡ b
unfolding changed
left_alone a r b n = ap (λ (c : Changed). c.register) (region_refused a r b (λ e. n (region_number_lem a r b ∙ e)))

pub region_theorem : RegionTheorem
region_theorem = record {
  listed = inside_listed;
  ordered = inside_sorted;
  read = region_read;
  number = region_reads;
  again = inside_again;
  refused = left_alone;
}
