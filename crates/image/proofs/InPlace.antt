-- Changes in place: an image is made of the buffer by writing the sections that change.
use Prim.Native.Nat.{ℕ, zero, suc, ◌≤◌, ◌<◌}
use mathlib.Core.Path.{◌≡◌, refl, sym, ap, subst, ◌∙◌}
use mathlib.Core.Bool.{true}
use mathlib.Core.List.{List, [], ◌++◌, append_assoc}
use mathlib.Core.Option.{some}
use native.Mathlib.Omega.{arith}
use native.Mathlib.Nat.{zero-add}
use lib.ListN.{length, get_or, take, drop}
use lib.Seq.{drop_at}
use Rattle.base.specs.Bytes.{part_at, over}
use Rattle.base.specs.Lists.{sum, Each}
use Rattle.base.proofs.Sections.{cut_by, cut_at, laid_cut, NoneOf, patched_all, all_patched}
use Rattle.replication.specs.Machine.Types.{Server}
use Rattle.replication.specs.Machine.WellFormed.{well_formed}
use Rattle.image.specs.Layout.{the_header, the_cuts, the_noted, the_states, the_yellow, the_own, the_queue, sections, section_size, offset, state_length, header_size, section_count}
use Rattle.image.specs.Image.{section, parts, image}
use Rattle.image.specs.Decode.{decoded, read_image}
use Rattle.image.specs.Holding.{Blank, Holds, HoldsSuch, HoldsSome}
use Rattle.image.proofs.Fit.{SectionsFit, well_formed_fits, parts_sized, image_section}
use Rattle.image.proofs.Blanks.{blank_same, decoded_blank}
use Rattle.image.proofs.ImageLaws.{image_length, image_again, decoded_image, image_read}

pub read_holds : (s : Server) (b : List ℕ) → read_image b ≡ some s → state_length s.servers s.quota ≤ length b → Holds s b
read_holds s b h l = let r = image_read b s h in record { formed = r.1; written = r.0; long = l; blank = subst Blank (sym r.2) (decoded_blank b) }

pub holds_decoded : (s : Server) (b : List ℕ) → Holds s b → decoded b ≡ s
holds_decoded s b r = ap decoded (sym r.written) ∙ decoded_image s b r.formed r.long ∙ blank_same s r.blank

-- A buffer holds one state.
pub holds_one : (s t : Server) (b : List ℕ) → Holds s b → Holds t b → s ≡ t
holds_one s t b r k = sym (holds_decoded s b r) ∙ holds_decoded t b k

pub holds_header : (s : Server) (b : List ℕ) → Holds s b → header_size ≤ length b
unfolding state_length sections sum
holds_header s b r = omega (arith, r.long)

-- The image of a well-formed state is held.
pub image_holds : (s t : Server) (b : List ℕ) → Holds s b → t.servers ≡ s.servers → t.quota ≡ s.quota → well_formed t ≡ true → Blank t
    → Holds t (image t b)
image_holds s t b r e f ok k =
    let room : state_length t.servers t.quota ≤ length b = subst (λ (m : ℕ). m ≤ length b) (λ i. state_length (sym e i) (sym f i)) r.long in
    record { formed = ok; written = image_again t b ok room; long = omega (arith, image_length t b ok room); blank = k }

-- ---- a state of which something is known

pub holds_some : (s : Server) (b : List ℕ) → Holds s b → HoldsSome b
holds_some s b r = record { state = s; holds = r; fact = tt }

pub such_some : (P : Server → Type 0) (b : List ℕ) → HoldsSuch P b → HoldsSome b
such_some P b h = holds_some h.state b h.holds

-- What is known of a state that the buffer holds is known of any.
pub such_fact : (P : Server → Type 0) (b : List ℕ) (s : Server) → HoldsSuch P b → Holds s b → P s
such_fact P b s h r = subst P (holds_one h.state s b h.holds r) h.fact

-- It is what the buffer says.
pub such_decoded : (P : Server → Type 0) (b : List ℕ) → HoldsSuch P b → Holds (decoded b) b
such_decoded P b h = subst (λ (s : Server). Holds s b) (sym (holds_decoded h.state b h.holds)) h.holds

pub such_header : (P : Server → Type 0) (b : List ℕ) → HoldsSuch P b → header_size ≤ length b
such_header P b h = holds_header h.state b h.holds

-- ---- sections

-- Each section of a buffer that holds s: the used part, and behind it the rest.
pub holds_section : (s : Server) (b : List ℕ) → Holds s b → (k : ℕ) → k < section_count
    → section s.servers s.quota k b ≡ get_or (parts s.servers s.quota s b) k []
holds_section s b r k l =
    ap (λ (c : List ℕ). section s.servers s.quota k c) (sym r.written) ∙ image_section s (well_formed_fits s r.formed) b r.long k l

-- Every section of t but those of these numbers is what the buffer has.
abbrev pub SameBut : List ℕ → Server → List ℕ → Type 0
SameBut ks t b =
    (j : ℕ) → j < section_count → NoneOf ks j → section t.servers t.quota j b ≡ get_or (parts t.servers t.quota t b) j []

-- The image of t over b is b with these sections written anew.
pub image_patched : (t : Server) → SectionsFit t → (b : List ℕ) → state_length t.servers t.quota ≤ length b → (ks : List ℕ) → Each (λ k. k < section_count) ks
    → SameBut ks t b → image t b ≡ patched_all (sections t.servers t.quota) ks (parts t.servers t.quota t b) b
unfolding image state_length sections section section_size offset
image_patched t f b h ks few same =
    let ws : List ℕ = sections t.servers t.quota in
    let ts : List (List ℕ) = parts t.servers t.quota t b in
    sym (all_patched ws ks (cut_by ws 0 b) ts b (laid_cut ws b h) (parts_sized t f b h) few agree)
  where
    agree : (j : ℕ) → j < section_count → NoneOf ks j → get_or (cut_by (sections t.servers t.quota) 0 b) j [] ≡ get_or (parts t.servers t.quota t b) j []
    agree j l other =
        let ws : List ℕ = sections t.servers t.quota in
        cut_at ws 0 b j l ∙ ap (λ (m : ℕ). part_at (get_or ws j 0) b m) (zero-add (sum (take j ws))) ∙ same j l other

-- The same, section by section.
pub same_but : (ks : List ℕ) (t : Server) (b : List ℕ)
    → (NoneOf ks the_header → section t.servers t.quota the_header b ≡ get_or (parts t.servers t.quota t b) the_header [])
    → (NoneOf ks the_cuts → section t.servers t.quota the_cuts b ≡ get_or (parts t.servers t.quota t b) the_cuts [])
    → (NoneOf ks the_noted → section t.servers t.quota the_noted b ≡ get_or (parts t.servers t.quota t b) the_noted [])
    → (NoneOf ks the_states → section t.servers t.quota the_states b ≡ get_or (parts t.servers t.quota t b) the_states [])
    → (NoneOf ks the_yellow → section t.servers t.quota the_yellow b ≡ get_or (parts t.servers t.quota t b) the_yellow [])
    → (NoneOf ks the_own → section t.servers t.quota the_own b ≡ get_or (parts t.servers t.quota t b) the_own [])
    → (NoneOf ks the_queue → section t.servers t.quota the_queue b ≡ get_or (parts t.servers t.quota t b) the_queue [])
    → SameBut ks t b
same_but ks t b e₀ e₁ e₂ e₃ e₄ e₅ e₆ zero l = e₀
same_but ks t b e₀ e₁ e₂ e₃ e₄ e₅ e₆ (suc zero) l = e₁
same_but ks t b e₀ e₁ e₂ e₃ e₄ e₅ e₆ (suc (suc zero)) l = e₂
same_but ks t b e₀ e₁ e₂ e₃ e₄ e₅ e₆ (suc (suc (suc zero))) l = e₃
same_but ks t b e₀ e₁ e₂ e₃ e₄ e₅ e₆ (suc (suc (suc (suc zero)))) l = e₄
same_but ks t b e₀ e₁ e₂ e₃ e₄ e₅ e₆ (suc (suc (suc (suc (suc zero))))) l = e₅
same_but ks t b e₀ e₁ e₂ e₃ e₄ e₅ e₆ (suc (suc (suc (suc (suc (suc zero)))))) l = e₆
same_but ks t b e₀ e₁ e₂ e₃ e₄ e₅ e₆ (suc (suc (suc (suc (suc (suc (suc j))))))) l = absurd (omega arith)

-- ---- changes of a used part

-- Only its beginning is used from now on: nothing is to be written.
pub over_less : (y z l : List ℕ) → l ≡ over (y ++ z) l → over y l ≡ l
unfolding over
over_less y z l e =
    let r : List ℕ = drop (length (y ++ z)) l in
    let split : l ≡ y ++ (z ++ r) = e ∙ append_assoc y z r in
    ap (λ (m : List ℕ). y ++ drop (length y) m) split ∙ ap (λ (m : List ℕ). y ++ m) (drop_at y (z ++ r) (length y) refl) ∙ sym split
