-- A state written over the image of another: where no list has become shorter, nothing of the other one is left.
use Prim.Native.Nat.{ℕ, ◌*◌, ◌≤◌, ◌<◌}
use mathlib.Core.Path.{◌≡◌, refl, sym, ap, ap₂, ◌∙◌}
use mathlib.Core.List.{List, [], ◌∷◌, ◌++◌}
use mathlib.Core.Logic.{◌⊎◌, inl, inr}
use mathlib.Core.Option.{Option}
use native.Mathlib.Nat.{mul-le-mul_right}
use native.Mathlib.Omega.{arith}
use lib.ListN.{length, get_or, drop}
use lib.Seq.{drop_at}
use Rattle.base.specs.Bytes.{joined, over}
use Rattle.base.proofs.ListLaws.{drop_same}
use Rattle.format.specs.Types.{State}
use Rattle.format.specs.Write.{cuts_bytes, ids_bytes}
use Rattle.replication.specs.Machine.Types.{Server}
use Rattle.replication.specs.Machine.WellFormed.{queue}
use Rattle.image.specs.Layout.{state_size, the_cuts, the_noted, the_states, the_yellow, the_own, the_queue, sections, section_size, state_length, section_count}
use Rattle.image.specs.Header.{shown_log}
use Rattle.image.specs.Image.{header_bytes, noted_bytes, states_over, action_slots, section, parts, image}
use Rattle.image.proofs.Used.{states_over_again}
use Rattle.image.proofs.Fit.{SectionsFit, section_length, image_rest, image_section}

-- ---- one section

pub over_over : (y z l : List ℕ) → length y ≤ length z → over z (over y l) ≡ over z l
unfolding over
over_over y z l h =
    ap (λ (r : List ℕ). z ++ r) (drop_same (length y) (length z) (y ++ drop (length y) l) l h (drop_at y (drop (length y) l) (length y) refl))

-- z over y over l leaves nothing of y: l holds y anyway, or y is no longer than z.
abbrev pub CoversBytes : List ℕ → List ℕ → List ℕ → Type 0
CoversBytes z y l = (l ≡ over y l) ⊎ (length y ≤ length z)

covered : (z y l c : List ℕ) → c ≡ over y l → CoversBytes z y l → over z c ≡ over z l
covered z y l c e (inl h) = ap (over z) (e ∙ sym h)
covered z y l c e (inr h) = ap (over z) e ∙ over_over y z l h

states_covered : (size : ℕ) (zs ys : List (Option State)) (l c : List ℕ) → c ≡ states_over size ys l
    → states_over size ys (states_over size ys l) ≡ states_over size ys l → (l ≡ states_over size ys l) ⊎ (zs ≡ ys) → states_over size zs c ≡ states_over size zs l
states_covered size zs ys l c e a (inl h) = ap (states_over size zs) (e ∙ sym h)
states_covered size zs ys l c e a (inr h) =
    ap (states_over size zs) e
    ∙ ap (λ (w : List (Option State)). states_over size w (states_over size ys l)) h
    ∙ a
    ∙ ap (λ (w : List (Option State)). states_over size w l) (sym h)

-- ---- all of them

-- t with the sizes of s.
abbrev pub alike : Server → Server → Server
alike s t = record { servers = s.servers; quota = s.quota; me = t.me; log = t.log; votes = t.votes; membership = t.membership; noted = t.noted; white = t.white }

-- The lists of t over those of s over the bytes b.
pub record Covering (s t : Server) (b : List ℕ) : Type 0 where
  pub cuts : CoversBytes (cuts_bytes t.log.cuts) (cuts_bytes s.log.cuts) (section s.servers s.quota the_cuts b)
  pub noted : CoversBytes (noted_bytes t.noted) (noted_bytes s.noted) (section s.servers s.quota the_noted b)
  pub states : (section s.servers s.quota the_states b ≡ states_over (state_size s.servers s.quota) s.membership.states (section s.servers s.quota the_states b)) ⊎ (t.membership.states ≡ s.membership.states)
  pub ids : CoversBytes (ids_bytes t.votes.yellow.ids) (ids_bytes s.votes.yellow.ids) (section s.servers s.quota the_yellow b)
  pub own : CoversBytes (action_slots t.log.own) (action_slots s.log.own) (section s.servers s.quota the_own b)
  pub actions : CoversBytes (action_slots (queue (shown_log t))) (action_slots (queue (shown_log s))) (section s.servers s.quota the_queue b)

module _ (s : Server) (f : SectionsFit s) (b : List ℕ) (h : state_length s.servers s.quota ≤ length b) where
  module _ (t : Server) (c : Covering s t b) where
    part : (k : ℕ) → k < section_count → (z y : List ℕ) → get_or (parts s.servers s.quota s b) k [] ≡ over y (section s.servers s.quota k b)
        → CoversBytes z y (section s.servers s.quota k b) → over z (section s.servers s.quota k (image s b)) ≡ over z (section s.servers s.quota k b)
    part k l z y e g = covered z y (section s.servers s.quota k b) (section s.servers s.quota k (image s b)) (image_section s f b h k l ∙ e) g

    states : states_over (state_size s.servers s.quota) t.membership.states (section s.servers s.quota the_states (image s b))
        ≡ states_over (state_size s.servers s.quota) t.membership.states (section s.servers s.quota the_states b)
    unfolding parts section_size sections
    states =
        let size : ℕ = state_size s.servers s.quota in
        let l : List ℕ = section s.servers s.quota the_states b in
        let room : length s.membership.states * size ≤ s.servers * size = mul-le-mul_right size f.states_count in
        let again = states_over_again size s.membership.states l f.states (omega (arith, section_length s.servers s.quota the_states b h)) in
        states_covered size t.membership.states s.membership.states l _ (image_section s f b h the_states (omega arith)) again c.states

    parts_over : parts s.servers s.quota (alike s t) (image s b) ≡ parts s.servers s.quota (alike s t) b
    unfolding parts
    parts_over =
        let cuts = part the_cuts (omega arith) (cuts_bytes t.log.cuts) (cuts_bytes s.log.cuts) refl c.cuts in
        let noted = part the_noted (omega arith) (noted_bytes t.noted) (noted_bytes s.noted) refl c.noted in
        let collected = states in
        let ids = part the_yellow (omega arith) (ids_bytes t.votes.yellow.ids) (ids_bytes s.votes.yellow.ids) refl c.ids in
        let own = part the_own (omega arith) (action_slots t.log.own) (action_slots s.log.own) refl c.own in
        let actions = part the_queue (omega arith) (action_slots (queue (shown_log t))) (action_slots (queue (shown_log s))) refl c.actions in
        λ i. header_bytes (alike s t) ∷ cuts i ∷ noted i ∷ collected i ∷ ids i ∷ own i ∷ actions i ∷ []

    pub covering_over : image (alike s t) (image s b) ≡ image (alike s t) b
    unfolding image
    covering_over = ap₂ {A = List (List ℕ)} {B = List ℕ} {C = List ℕ} (λ ps r. joined ps ++ r) parts_over (image_rest s f b h)

  -- The state itself.
  itself : Covering s s b
  itself =
      record { cuts = inr (omega arith); noted = inr (omega arith); states = inr refl; ids = inr (omega arith); own = inr (omega arith); actions = inr (omega arith) }

  pub parts_again : parts s.servers s.quota s (image s b) ≡ parts s.servers s.quota s b
  parts_again = parts_over s itself

  pub image_twice : image s (image s b) ≡ image s b
  image_twice = covering_over s itself
