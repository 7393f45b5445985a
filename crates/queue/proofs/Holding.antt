-- What a buffer that holds a state says of its actions, and what its image becomes when the log changes.
use Prim.Native.Nat.{ℕ}
use mathlib.Core.Path.{◌≡◌, refl, ap₂, subst, ◌∙◌}
use mathlib.Core.Bool.{true}
use mathlib.Core.List.{List, [], ◌∷◌, ◌++◌}
use Rattle.base.specs.Bytes.{joined, over}
use Rattle.base.proofs.Sections.{Laid}
use Rattle.format.specs.Write.{cuts_bytes, ids_bytes}
use Rattle.replication.specs.Machine.Types.{Log, Server, with_log, with_white}
use Rattle.replication.specs.Machine.Colours.{shown}
use Rattle.replication.specs.Machine.WellFormed.{queue, well_formed}
use Rattle.replication.proofs.WellFormed.Facts.{well_formed_facts, facts_well_formed}
use Rattle.replication.proofs.WellFormed.Changes.{body, whole, log_changed}
use Rattle.replication.proofs.WellFormed.Kept.{mode_kept}
use Rattle.replication.proofs.WellFormed.Logs.{LogFits}
use Rattle.image.specs.Layout.{state_size, the_cuts, the_noted, the_states, the_yellow, the_own, the_queue, sections, state_length}
use Rattle.image.specs.Image.{header_bytes, noted_bytes, states_over, action_slots, section, parts, image}
use Rattle.image.proofs.Fit.{well_formed_fits, image_laid}
use Rattle.image.specs.Holding.{Holds}
use Rattle.queue.proofs.Inside.{Changed}

-- A state with another log.
pub log_formed : (s : Server) (l : Log) → well_formed s ≡ true → LogFits s.servers s.quota s.me s.white l → well_formed (with_log l s) ≡ true
log_formed s l ok f =
    let g = well_formed_facts s ok in
    facts_well_formed (with_log l s)
    (whole (with_log l s) (log_changed s (body s g) l f) (mode_kept s.membership.mode s l s.votes s.noted refl g.mode))

pub log_fits : (s : Server) → well_formed s ≡ true → LogFits s.servers s.quota s.me s.white s.log
log_fits s ok = (body s (well_formed_facts s ok)).log

-- ---- sections

pub holds_changed : (s : Server) (b : List ℕ) → Holds s b → Changed (sections s.servers s.quota) (parts s.servers s.quota s b) b b
holds_changed s b r =
    record { laid = subst (λ (c : List ℕ). Laid (sections s.servers s.quota) (parts s.servers s.quota s b) c) r.written (image_laid s (well_formed_fits s r.formed) b r.long); rest = refl }

-- The parts of s over b, with this header, these cuts, this own list and this queue.
abbrev parts_with : Server → List ℕ → (h x y z : List ℕ) → List (List ℕ)
parts_with s b h x y z =
    h
    ∷ x
    ∷ over (noted_bytes s.noted) (section s.servers s.quota the_noted b)
    ∷ states_over (state_size s.servers s.quota) s.membership.states (section s.servers s.quota the_states b)
    ∷ over (ids_bytes s.votes.yellow.ids) (section s.servers s.quota the_yellow b)
    ∷ y
    ∷ z
    ∷ []

-- The parts of a state with another log and white length, from those of s.
pub places_image : (s : Server) (l : Log) (w : ℕ) (b c : List ℕ) (h x y z : List ℕ)
    → Changed (sections s.servers s.quota) (parts_with s b h x y z) b c
    → h ≡ header_bytes (with_white w (with_log l s))
    → x ≡ over (cuts_bytes l.cuts) (section s.servers s.quota the_cuts b)
    → y ≡ over (action_slots l.own) (section s.servers s.quota the_own b)
    → z ≡ over (action_slots (queue (shown w l))) (section s.servers s.quota the_queue b) → c ≡ image (with_white w (with_log l s)) b
unfolding image parts state_length
places_image s l w b c h x y z m eh ex ey ez =
    m.laid.whole
    ∙ ap₂ {A = List (List ℕ)} {B = List ℕ} {C = List ℕ} (λ ps r. joined ps ++ r)
    (λ i. parts_with s b (eh i) (ex i) (ey i) (ez i))
    m.rest

-- The same, as many white.
pub log_image : (s : Server) (l : Log) (b c : List ℕ) (h x y z : List ℕ)
    → Changed (sections s.servers s.quota) (parts_with s b h x y z) b c
    → h ≡ header_bytes (with_log l s)
    → x ≡ over (cuts_bytes l.cuts) (section s.servers s.quota the_cuts b)
    → y ≡ over (action_slots l.own) (section s.servers s.quota the_own b)
    → z ≡ over (action_slots (queue (shown s.white l))) (section s.servers s.quota the_queue b) → c ≡ image (with_log l s) b
log_image s l b c h x y z m = places_image s l s.white b c h x y z m
