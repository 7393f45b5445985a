-- From a buffer that holds a state to the image of another.
use Prim.Native.Nat.{ℕ, ◌<◌}
use mathlib.Core.Path.{◌≡◌, ap, ap₂, subst, ◌∙◌}
use mathlib.Core.List.{List, [], ◌++◌}
use lib.ListN.{get_or}
use Rattle.base.specs.Bytes.{joined}
use Rattle.base.proofs.Occurs.{Occurs}
use Rattle.base.specs.Patched.{patched}
use Rattle.replication.specs.Machine.Types.{Server}
use Rattle.image.specs.Layout.{sections, offset, state_length, section_count}
use Rattle.image.specs.Image.{parts, image}
use Rattle.image.proofs.Decoded.{image_part}
use Rattle.image.proofs.Fit.{well_formed_fits}
use Rattle.image.specs.Holding.{Holds}
use Rattle.queue.proofs.Inside.{Changed}

-- Where the parts have become those of t.
pub changed_image : (t : Server) (ps : List (List ℕ)) (old b : List ℕ) → Changed (sections t.servers t.quota) ps old b
    → ps ≡ parts t.servers t.quota t old → b ≡ image t old
unfolding image state_length
changed_image t ps old b c e =
    c.laid.whole ∙ ap₂ {A = List (List ℕ)} {B = List ℕ} {C = List ℕ} (λ xs r. joined xs ++ r) e c.rest

-- Each part of the image occurs where its section begins.
pub part_here : (s : Server) (b : List ℕ) → Holds s b → (k : ℕ) → k < section_count
    → Occurs (get_or (parts s.servers s.quota s b) k []) b (offset s.servers s.quota k)
part_here s b r k l =
    subst (λ (c : List ℕ). Occurs (get_or (parts s.servers s.quota s b) k []) c (offset s.servers s.quota k)) r.written
    (image_part s (well_formed_fits s r.formed) b r.long k l)

-- Two stores, one after the other.
pub two_stores : (at i : ℕ) (x y b b₁ b₂ : List ℕ) → b₁ ≡ patched at x b → b₂ ≡ patched i y b₁ → b₂ ≡ patched i y (patched at x b)
two_stores at i x y b b₁ b₂ e f = f ∙ ap (patched i y) e

pub three_stores : (at i j : ℕ) (x y z b b₁ b₂ : List ℕ) → b₁ ≡ patched at x b → b₂ ≡ patched j z (patched i y b₁) → b₂ ≡ patched j z (patched i y (patched at x b))
three_stores at i j x y z b b₁ b₂ e f = f ∙ ap (λ (l : List ℕ). patched j z (patched i y l)) e

pub stores_more : (i j k : ℕ) (x y z b b₁ b₂ : List ℕ) → b₁ ≡ patched j y (patched i x b) → b₂ ≡ patched k z b₁ → b₂ ≡ patched k z (patched j y (patched i x b))
stores_more i j k x y z b b₁ b₂ e f = f ∙ ap (patched k z) e
