-- One change in place after another: the image of the last state over the bytes at the beginning.
use Prim.Native.Nat.{ℕ, ◌*◌, ◌≤◌, ◌<◌}
use mathlib.Core.Path.{◌≡◌, refl, sym, ap, subst, ◌∙◌}
use mathlib.Core.Bool.{true}
use mathlib.Core.List.{List, [], ◌∷◌, ◌++◌}
use mathlib.Core.Logic.{◌⊎◌, inl, inr}
use mathlib.Core.Option.{Option}
use native.Mathlib.Omega.{arith}
use lib.ListN.{length, get_or, length-append, length-replicate}
use Rattle.base.specs.Bytes.{joined, over, zeros, slot}
use Rattle.base.specs.Lists.{Begins}
use Rattle.base.proofs.Prefixes.{begins_refl}
use Rattle.format.specs.Types.{Action, State}
use Rattle.format.specs.Write.{action_bytes, ids_bytes}
use Rattle.format.proofs.Lengths.{cuts_length, ids_length}
use Rattle.replication.specs.Machine.Types.{Server}
use Rattle.replication.specs.Machine.WellFormed.{queue, well_formed}
use Rattle.image.specs.Layout.{slot_size, state_size, the_states, the_yellow, the_own, the_queue, state_length, section_count}
use Rattle.image.specs.Header.{shown_log}
use Rattle.image.specs.Image.{states_over, action_slots, section, parts, image}
use Rattle.image.proofs.InRange.{in_range}
use Rattle.image.proofs.Used.{action_slots_length, noted_length, slots_append, ids_append}
use Rattle.image.proofs.Fit.{SectionsFit, well_formed_fits}
use Rattle.image.proofs.Again.{CoversBytes, alike, Covering, covering_over}
use Rattle.image.specs.Holding.{Blank, Holds}
use Rattle.image.proofs.InPlace.{image_holds, holds_section, over_less}

-- The buffer that a change left.
pub then_holds : (s t : Server) (b c : List ℕ) → Holds s b → c ≡ image t b → t.servers ≡ s.servers → t.quota ≡ s.quota → well_formed t ≡ true → Blank t → Holds t c
then_holds s t b c r f n q ok k = subst (Holds t) (sym f) (image_holds s t b r n q ok k)

-- ---- from s to t, then from t to u

-- A list of t is no longer than that of u, or a beginning of that of s: then it leaves nothing behind.
abbrev pub Gone : {A : Type 0} → (s t u : List A) → Type 0
Gone s t u = (length t ≤ length u) ⊎ Begins t s

pub record Covers (s t u : Server) : Type 0 where
  pub servers : (t.servers ≡ s.servers) × (u.servers ≡ s.servers)
  pub quota : (t.quota ≡ s.quota) × (u.quota ≡ s.quota)
  pub states : (t.membership.states ≡ u.membership.states) ⊎ (t.membership.states ≡ s.membership.states)
  pub ids : Gone s.votes.yellow.ids t.votes.yellow.ids u.votes.yellow.ids
  pub own : Gone s.log.own t.log.own u.log.own
  pub actions : Gone (queue (shown_log s)) (queue (shown_log t)) (queue (shown_log u))

same_length : {A : Type 0} (s t u : List A) → u ≡ t → Gone s t u
same_length s t u e = inl (omega (arith, ap length e))

pub same_begins : {A : Type 0} (s t u : List A) → t ≡ s → Gone s t u
same_begins s t u e = inr (subst (Begins t) e (begins_refl t))

-- The lists of t are those of u.
pub numbers_then : (s t u : Server) → (t.servers ≡ s.servers) × (u.servers ≡ s.servers) → (t.quota ≡ s.quota) × (u.quota ≡ s.quota)
    → t.membership.states ≡ u.membership.states → u.votes.yellow.ids ≡ t.votes.yellow.ids → u.log.own ≡ t.log.own
    → queue (shown_log u) ≡ queue (shown_log t)
    → Covers s t u
numbers_then s t u n q states ids own actions = record {
  servers = n;
  quota = q;
  states = inl states;
  ids = same_length s.votes.yellow.ids t.votes.yellow.ids u.votes.yellow.ids ids;
  own = same_length s.log.own t.log.own u.log.own own;
  actions = same_length (queue (shown_log s)) (queue (shown_log t)) (queue (shown_log u)) actions;
}

-- Those of t are those of s.
pub numbers_first : (s t u : Server) → (t.servers ≡ s.servers) × (u.servers ≡ s.servers) → (t.quota ≡ s.quota) × (u.quota ≡ s.quota)
    → t.membership.states ≡ s.membership.states → t.votes.yellow.ids ≡ s.votes.yellow.ids → t.log.own ≡ s.log.own
    → queue (shown_log t) ≡ queue (shown_log s)
    → Covers s t u
numbers_first s t u n q states ids own actions = record {
  servers = n;
  quota = q;
  states = inr states;
  ids = same_begins s.votes.yellow.ids t.votes.yellow.ids u.votes.yellow.ids ids;
  own = same_begins s.log.own t.log.own u.log.own own;
  actions = same_begins (queue (shown_log s)) (queue (shown_log t)) (queue (shown_log u)) actions;
}

-- ---- lists as bytes

slot_least : (size : ℕ) (y : List ℕ) → size ≤ length (slot size y)
unfolding slot zeros
slot_least size y = simp (length-append, length-replicate) (omega arith)

action_slots_least : (l : List Action) → slot_size * length l ≤ length (action_slots l)
unfolding action_slots joined
action_slots_least [] = omega arith
action_slots_least (a ∷ l) =
    omega (arith, length-append (slot slot_size (action_bytes a)) (action_slots l), slot_least slot_size (action_bytes a), action_slots_least l)

-- In a section l that holds the list of s: what is longer takes more bytes, and what begins a list begins its bytes.
covers : {A : Type 0} (f : List A → List ℕ) → ((x y : List A) → f (x ++ y) ≡ f x ++ f y) → (s t u : List A) (l : List ℕ) → l ≡ over (f s) l
    → (length t ≤ length u → length (f t) ≤ length (f u)) → Gone s t u → CoversBytes (f u) (f t) l
unfolding Begins
covers f append s t u l here m (inl h) = inr (m h)
covers f append s t u l here m (inr h) =
    inl (sym (over_less (f t) (f h.0) l (here ∙ ap (λ (w : List ℕ). over w l) (ap f h.1 ∙ append t h.0))))

states_cover : (size : ℕ) (s t u : List (Option State)) (l : List ℕ) → l ≡ states_over size s l → (t ≡ u) ⊎ (t ≡ s) → (l ≡ states_over size t l) ⊎ (u ≡ t)
states_cover size s t u l here (inl h) = inr (sym h)
states_cover size s t u l here (inr h) = inl (here ∙ ap (λ (w : List (Option State)). states_over size w l) (sym h))

-- ---- all of them

module _ (s t u : Server) (b : List ℕ) (r : Holds s b) (ok : well_formed t ≡ true) (e : Covers s t u) where
  fits : SectionsFit t
  fits = well_formed_fits t ok

  long : state_length t.servers t.quota ≤ length b
  long = subst (λ (m : ℕ). m ≤ length b) (λ i. state_length (sym e.servers.0 i) (sym e.quota.0 i)) r.long

  here : (k : ℕ) (x : List ℕ) → k < section_count → get_or (parts s.servers s.quota s b) k [] ≡ over x (section s.servers s.quota k b)
      → section t.servers t.quota k b ≡ over x (section t.servers t.quota k b)
  here k x l f =
      (λ i. section (e.servers.0 i) (e.quota.0 i) k b) ∙ holds_section s b r k l ∙ f ∙ (λ i. over x (section (sym e.servers.0 i) (sym e.quota.0 i) k b))

  states_here_lem : section t.servers t.quota the_states b
      ≡ states_over (state_size t.servers t.quota) s.membership.states (section t.servers t.quota the_states b)
  unfolding parts
  states_here_lem =
      (λ i. section (e.servers.0 i) (e.quota.0 i) the_states b)
      ∙ holds_section s b r the_states (omega arith)
      ∙ (λ i. states_over (state_size (sym e.servers.0 i) (sym e.quota.0 i)) s.membership.states (section (sym e.servers.0 i) (sym e.quota.0 i) the_states b))

  sizes : alike t u ≡ u
  sizes =
      let n : t.servers ≡ u.servers = e.servers.0 ∙ sym e.servers.1 in
      let q : t.quota ≡ u.quota = e.quota.0 ∙ sym e.quota.1 in
      λ i. record { servers = n i; quota = q i; me = u.me; log = u.log; votes = u.votes; membership = u.membership; noted = u.noted; white = u.white }

  module _ (cuts : length t.log.cuts ≤ length u.log.cuts) (noted : length t.noted ≤ length u.noted) where
    covering : Covering t u b
    unfolding parts
    covering = record {
      cuts = inr (omega (arith, cuts_length t.log.cuts, cuts_length u.log.cuts));
      noted = inr (omega (arith, noted_length t.noted, noted_length u.noted));
      states =
          states_cover (state_size t.servers t.quota) s.membership.states t.membership.states u.membership.states
          (section t.servers t.quota the_states b) states_here_lem e.states;
      ids =
          covers ids_bytes ids_append s.votes.yellow.ids t.votes.yellow.ids u.votes.yellow.ids (section t.servers t.quota the_yellow b)
          (here the_yellow (ids_bytes s.votes.yellow.ids) (omega arith) refl)
          (λ h. omega (arith, ids_length t.votes.yellow.ids, ids_length u.votes.yellow.ids)) e.ids;
      own =
          covers action_slots slots_append s.log.own t.log.own u.log.own (section t.servers t.quota the_own b)
          (here the_own (action_slots s.log.own) (omega arith) refl)
          (λ h. omega (arith, action_slots_length t.log.own fits.own, action_slots_least u.log.own)) e.own;
      actions =
          covers action_slots slots_append (queue (shown_log s)) (queue (shown_log t)) (queue (shown_log u)) (section t.servers t.quota the_queue b)
          (here the_queue (action_slots (queue (shown_log s))) (omega arith) refl)
          (λ h. omega (arith, action_slots_length (queue (shown_log t)) fits.actions, action_slots_least (queue (shown_log u)))) e.actions;
    }

    -- The image of u over that of t is that over the bytes at the beginning, where cuts and noted lengths are no fewer in u.
    pub lists_over : image u (image t b) ≡ image u b
    lists_over = subst (λ (x : Server). image x (image t b) ≡ image x b) sizes (covering_over t fits b long u covering)

    pub lists_chained : (c d : List ℕ) → c ≡ image t b → d ≡ image u c → d ≡ image u b
    lists_chained c d f g = g ∙ ap (image u) f ∙ lists_over

-- The same where u too is well-formed.
module _ (s t u : Server) (b : List ℕ) (r : Holds s b) (ok : well_formed t ≡ true) (fine : well_formed u ≡ true) (e : Covers s t u) where
  pub image_over : image u (image t b) ≡ image u b
  image_over =
      let n : t.servers ≡ u.servers = e.servers.0 ∙ sym e.servers.1 in
      lists_over s t u b r ok e (omega (arith, (in_range t ok).cuts_count, (in_range u fine).cuts_count)) (omega (arith, (in_range t ok).noted_count, (in_range u fine).noted_count))

  -- As the code makes them, one after the other.
  pub chained : (c d : List ℕ) → c ≡ image t b → d ≡ image u c → d ≡ image u b
  chained c d f g = g ∙ ap (image u) f ∙ image_over
