-- What is given back of a peg that was searched.
use Prim.Native.Nat.{ℕ, ◌+◌, ◌*◌, ◌≤◌, ◌<◌}
use mathlib.Core.Path.{◌≡◌, refl, sym, ap, ap₂, subst, ◌∙◌}
use mathlib.Core.List.{List}
use mathlib.Core.Option.{Option, some}
use native.Mathlib.Omega.{arith}
use lib.IntN.{ℤ, pos}
use lib.ListN.{length}
use mir.Syntax.{w32}
use mir.Val.{SFits}
use mir.Facts.{to_z-of_z}
use Rattle.std.specs.Prelude.{Ok, Err}
use Rattle.refusals.specs.declared.Refusal.{Refusal}
use Rattle.refusals.specs.declared.Refusal.TheVariants.{BadRecord, OutOfRange, QuotaUsed, NotNow, NotFromHere, ShortBuffer, BadState}
use Rattle.refusals.specs.Numbers.{refusal_number}
use Rattle.base.specs.Tests.{◌=?◌}
use Rattle.base.specs.Bytes.{number_at}
use Rattle.base.specs.Lists.{at}
use Rattle.base.proofs.AtLaws.{some_same}
use Rattle.base.proofs.TestLaws.{eq_yes, eq_no, pick_yes, pick_no}
use Rattle.plane.specs.declared.Point.{Point}
use Rattle.plane.proofs.Signed.{bits_of}
use Rattle.pegs.specs.Operations.{Place, Peg, coordinate, coordinate_size, place_at}
use Rattle.pegs.specs.Register.{most_pegs, find}
use Rattle.pegs.specs.Image.{count_size, at_place, peg_size, peg_at, pegs_in}
use Rattle.pegs.specs.Regions.{point_of}
use Rattle.pegs.specs.Outcome.{Found, register_number, position, not_found, found_if, find_on}
use Rattle.pegs.proofs.Numbers.{not_there}
use Rattle.pegs.proofs.Places.{found_at}
use Rattle.pegs.proofs.ImageLaws.{slot_at_lem}
use Rattle.register_check.specs.declared.refusing.RegisterRefusal.{RegisterRefusal}
use Rattle.register_check.specs.declared.refusing.RegisterRefusal.TheVariants.{Buffer, PegThere, PegNotThere, NoOperation, BadRectangle, RegisterFull}
use Rattle.register_check.specs.Numbers.{refused_number}
use Rattle.register_check.specs.Answers.{located}
use Rattle.register_check.specs.Search.{search_in}
use Rattle.register_check.proofs.Held.{held_sorted, held_room, held_slot}
use Rattle.register_check.proofs.Searched.{found, found_inside, absent}

pub none_located : (k : ℕ) → located (record { number = k; found = 0; index = 0; easting = pos 0; northing = pos 0 }) ≡ not_found k
unfolding located not_found
none_located k = refl

pub point_read : (b : List ℕ) (p x y : ℕ) (e n : ℤ) → x ≡ number_at coordinate_size b (p + at_place) → y ≡ number_at coordinate_size b (p + at_place + coordinate_size)
    → e ≡ coordinate x → n ≡ coordinate y → record { easting = e; northing = n } ≡ point_of (peg_at b p).place
unfolding point_of peg_at place_at
point_read b p x y e n h i f g = λ j. record { easting = (f ∙ ap coordinate h) j; northing = (g ∙ ap coordinate i) j }

pub peg_located : (b : List ℕ) (p k : ℕ) (q : Point) → SFits w32 q.easting → SFits w32 q.northing → q ≡ point_of (peg_at b p).place
    → located (record { number = 0; found = 1; index = k; easting = bits_of q.easting; northing = bits_of q.northing }) ≡ found_if k (some (peg_at b p).place)
unfolding located found_if point_of
peg_located b p k q fe fn e = λ j. record {
  number = 0;
  found = 1;
  index = k;
  easting = (to_z-of_z fe ∙ ap (λ (x : Point). x.easting) e) j;
  northing = (to_z-of_z fn ∙ ap (λ (x : Point). x.northing) e) j;
}

-- ---- by the number and the search

-- No refusal has the number 0.
pub refusal_some : (f : Refusal) → refusal_number f ≡ 0 → ⊥
refusal_some BadRecord e = absurd (omega arith)
refusal_some OutOfRange e = absurd (omega arith)
refusal_some QuotaUsed e = absurd (omega arith)
refusal_some NotNow e = absurd (omega arith)
refusal_some NotFromHere e = absurd (omega arith)
refusal_some ShortBuffer e = absurd (omega arith)
refusal_some BadState e = absurd (omega arith)

pub refused_some : (g : RegisterRefusal) → refused_number g ≡ 0 → ⊥
refused_some (Buffer f) e = refusal_some f e
refused_some PegThere e = absurd (omega arith)
refused_some PegNotThere e = absurd (omega arith)
refused_some NoOperation e = absurd (omega arith)
refused_some BadRectangle e = absurd (omega arith)
refused_some RegisterFull e = absurd (omega arith)

-- A peg that was found has a slot.
module _ (c m : List ℕ) (ok : register_number c ≡ 0) (k : ℕ) (f : Ok k ≡ search_in m (pegs_in c)) where
  pub found_few : k < most_pegs
  found_few = (held_slot c ok k (found_inside c ok m k f)).few

  pub found_room : (b : List ℕ) → c ≡ b → count_size + peg_size * k + peg_size ≤ length b
  found_room b e = omega (arith, ap length e, held_room c ok k (found_inside c ok m k f))

module _ (b m : List ℕ) (r : Found) where
  pub refused_found : (f : Refusal) (k : ℕ) → k ≡ refusal_number f → refusal_number f ≡ register_number b → r ≡ not_found k → r ≡ find_on b m
  unfolding find_on
  refused_found f k e n h =
      pick_no (register_number b =? 0) r _ _ (eq_no _ 0 (λ z. refusal_some f (n ∙ z))) (h ∙ ap not_found (e ∙ n))

  module _ (c : List ℕ) (e : c ≡ b) (ok : register_number c ≡ 0) (k : ℕ) where
    searched : r ≡ found_if (position m (pegs_in c)) (find m (pegs_in c)) → r ≡ find_on b m
    unfolding find_on
    searched h = subst (λ (x : List ℕ). r ≡ find_on x m) e (pick_yes (register_number c =? 0) r _ _ (eq_yes _ 0 ok) h)

    pub absent_found : Err k ≡ search_in m (pegs_in c) → r ≡ not_found 0 → r ≡ find_on b m
    unfolding found_if
    absent_found f h = searched (h ∙ ap (found_if (position m (pegs_in c))) (sym (not_there (find m (pegs_in c)) (absent c ok m k f))))

    pub present_found : Ok k ≡ search_in m (pegs_in c) → r ≡ found_if k (some (peg_at b (count_size + peg_size * k)).place) → r ≡ find_on b m
    present_found f h =
        let it = found c ok m k f in
        let here = found_at m (pegs_in c) (held_sorted c ok) it.there in
        let same : peg_at c (count_size + peg_size * k) ≡ here.peg =
        some_same (sym (slot_at_lem c k it.inside) ∙ ap (at (pegs_in c)) it.index ∙ here.stands) in
        let place : find m (pegs_in c) ≡ some (peg_at c (count_size + peg_size * k)).place = here.placed ∙ ap (λ (g : Peg). some g.place) (sym same) in
        searched
        (h ∙ ap (λ (x : List ℕ). found_if k (some (peg_at x (count_size + peg_size * k)).place)) (sym e)
        ∙ ap₂ {A = ℕ} {B = Option Place} {C = Found} found_if it.index (sym place))
