-- The laws of a state's image over the bytes of its buffer.
use Prim.Native.Nat.{ℕ, ◌≤◌}
use mathlib.Core.Path.{◌≡◌, refl, sym, ap, ◌∙◌}
use mathlib.Core.Bool.{Bool, true, false}
use mathlib.Core.List.{List}
use mathlib.Core.Option.{none, some}
use native.Mathlib.Omega.{arith}
use lib.ListN.{length}
use Rattle.base.specs.Tests.{pick}
use Rattle.base.proofs.TestLaws.{pick_yes, both_yes, and_holds}
use Rattle.base.specs.Lists.{same}
use Rattle.base.proofs.SameLaws.{same_yes, same_holds}
use Rattle.replication.specs.Machine.Types.{Server}
use Rattle.replication.specs.Machine.WellFormed.{well_formed}
use Rattle.image.specs.Layout.{state_length}
use Rattle.image.specs.Image.{image}
use Rattle.image.specs.Decode.{decoded, reads, read_image}
use Rattle.image.proofs.InRange.{in_range}
use Rattle.image.proofs.Fit.{well_formed_fits, image_fits}
use Rattle.image.proofs.Again.{image_twice}
use Rattle.image.specs.Holding.{blanked}
use Rattle.image.proofs.Decoded.{decoded_back}
use Rattle.image.proofs.Blanks.{image_blanked, blanked_formed}

module _ (s : Server) (old : List ℕ) (ok : well_formed s ≡ true) (h : state_length s.servers s.quota ≤ length old) where
  pub image_length : length (image s old) ≡ length old
  image_length = image_fits s (well_formed_fits s ok) old h

  -- What is read of the image is the state, its white actions blank.
  pub decoded_image : decoded (image s old) ≡ blanked s
  decoded_image = decoded_back s (in_range s ok) old h

  pub image_again : image s (image s old) ≡ image s old
  image_again = image_twice s (well_formed_fits s ok) old h

  pub image_reads : reads (image s old) ≡ true
  unfolding reads
  image_reads =
      let again : image (decoded (image s old)) (image s old) ≡ image s old = ap (λ (t : Server). image t (image s old)) decoded_image ∙ image_blanked s (image s old) ∙ image_again in
      both_yes _ _ (ap well_formed decoded_image ∙ blanked_formed s ok) (ap (λ (c : List ℕ). same c (image s old)) again ∙ same_yes (image s old))

  pub read_image_lem : read_image (image s old) ≡ some (blanked s)
  unfolding read_image
  read_image_lem = sym (pick_yes (reads (image s old)) (some (blanked s)) _ _ image_reads (ap some (sym decoded_image)))

-- ---- what is read

some_same : {A : Type 0} (x y : A) → some x ≡ some y → x ≡ y
some_same x y h = cc

none_some : {A X : Type 0} (x : A) → none ≡ some x → X
none_some x h = let z : ◌≡◌ {A = ℕ} 0 1 = cc in absurd (omega arith)

read_some : (t : Bool) (x s : Server) → pick t (some x) none ≡ some s → (t ≡ true) × (x ≡ s)
unfolding pick
read_some true x s h = (refl, some_same x s h)
read_some false x s h = none_some s h

pub image_read : (b : List ℕ) (s : Server) → read_image b ≡ some s → (image s b ≡ b) × (well_formed s ≡ true) × (s ≡ decoded b)
unfolding read_image reads
image_read b s h =
    let r = read_some (reads b) (decoded b) s h in
    let t = and_holds _ _ r.0 in
    let written : image (decoded b) b ≡ b = same_holds _ b t.1 in
    (ap (λ (x : Server). image x b) (sym r.1) ∙ written, ap well_formed (sym r.1) ∙ t.0, sym r.1)
