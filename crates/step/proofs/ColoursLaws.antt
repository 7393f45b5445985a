-- Actions coloured in place: green with the creator's length noted, and yellow.
use Prim.Native.Nat.{ℕ, ◌+◌, ◌*◌, ◌≤◌}
use mathlib.Core.Path.{◌≡◌, refl, sym, ap, subst, ◌∙◌}
use mathlib.Core.Bool.{true, false}
use mathlib.Core.List.{List}
use mathlib.Core.Logic.{inl, inr}
use native.Mathlib.Omega.{arith}
use lib.ListN.{length}
use Rattle.base.specs.Bytes.{number_at}
use Rattle.base.proofs.Prefixes.{begins_refl}
use Rattle.base.specs.Tests.{pick}
use Rattle.base.proofs.TestLaws.{eq_yes, eq_no}
use Rattle.format.specs.Types.{Action}
use Rattle.replication.specs.Machine.Types.{Log, Votes, Server, with_log, with_votes, with_noted}
use Rattle.replication.specs.Machine.Colours.{cut, next_index, is_next, enter, green, join_yellow, yellow, note}
use Rattle.replication.specs.Machine.Step.{green_and_note}
use Rattle.replication.specs.Machine.WellFormed.{well_formed}
use Rattle.replication.proofs.WellFormed.Facts.{well_formed_facts, facts_well_formed}
use Rattle.replication.proofs.WellFormed.Colours.{green_fits}
use Rattle.replication.proofs.WellFormed.Changes.{Body, body, whole}
use Rattle.replication.proofs.WellFormed.Effects.{green_and_note_body, yellow_body}
use Rattle.replication.proofs.WellFormed.Kept.{mode_kept}
use Rattle.record.specs.declared.ActionHead.{ActionHead}
use Rattle.record.specs.Values.{id_of, action_of}
use Rattle.image.specs.Image.{image}
use Rattle.image.specs.Holding.{Holds, HoldsSuch}
use Rattle.image.proofs.InPlace.{such_fact}
use Rattle.queue.specs.Queue.{Placed, RoomFor}
use Rattle.queue.proofs.Holding.{log_formed, log_fits}
use Rattle.queue.proofs.Entered.{has_place, entered_formed, room_for}
use Rattle.queue.proofs.RedLaws.{cut_read, room_if_next}
use Rattle.updates.specs.Lists.{NumberIn}
use Rattle.replication.proofs.Step.Growth.{green_grows}
use Rattle.image.proofs.Chained.{Covers, chained, then_holds}
use Rattle.step.proofs.BlankLaws.{grown_holds}
use Rattle.image.specs.Layout.{header_size}
use Rattle.image.specs.Counts.{CountsIn}
use Rattle.image.proofs.Counts.{numbers, holds_counts}

-- ---- well-formed states on the way

-- The membership and the last primary's index stay.
pub formed_alike : (s : Server) (l : Log) (v : Votes) (w : List ℕ) → well_formed s ≡ true → v.last.index ≡ s.votes.last.index
    → Body s.white (record { servers = s.servers; quota = s.quota; me = s.me; log = l; votes = v; membership = s.membership; noted = w; white = s.white })
    → well_formed (record { servers = s.servers; quota = s.quota; me = s.me; log = l; votes = v; membership = s.membership; noted = w; white = s.white }) ≡ true
formed_alike s l v w ok e b =
    facts_well_formed _ (whole _ b (mode_kept s.membership.mode s l v w e (well_formed_facts s ok).mode))

module _ (s : Server) (a : Action) (ok : well_formed s ≡ true) (d : Placed s a) where
  pub green_formed : well_formed (with_log (green a s.log) s) ≡ true
  green_formed =
      log_formed s (green a s.log) ok
      (green_fits s.servers s.quota s.me s.white a s.log (log_fits s ok) d.delivered.fits d.delivered.own (has_place s a d))

  pub noted_formed : well_formed (green_and_note a s) ≡ true
  unfolding green_and_note
  noted_formed =
      formed_alike s (green a s.log) s.votes (note a.id.creator a.green_length s.noted) ok refl
      (green_and_note_body s (body s (well_formed_facts s ok)) a d.delivered (has_place s a d))

  pub yellow_entered : is_next s.log a ≡ true → yellow a s ≡ with_votes (join_yellow (s.servers * s.quota) a.id s.votes) (with_log (enter a s.log) s)
  unfolding yellow pick
  yellow_entered next = rw next

  pub yellow_ignored : is_next s.log a ≡ false → yellow a s ≡ s
  unfolding yellow pick
  yellow_ignored next = rw next

  pub joined_formed : is_next s.log a ≡ true → well_formed (with_votes (join_yellow (s.servers * s.quota) a.id s.votes) (with_log (enter a s.log) s)) ≡ true
  unfolding join_yellow
  joined_formed next =
      formed_alike s (enter a s.log) (join_yellow (s.servers * s.quota) a.id s.votes) s.noted ok refl
      (subst (Body s.white) (yellow_entered next) (yellow_body s (body s (well_formed_facts s ok)) a d.delivered (has_place s a d)))

-- ---- green, as the code makes it

module _ (h : ActionHead) (p b : List ℕ) where
  green_holds : (c : List ℕ) → ((s : Server) → Holds s b → Placed s (action_of h p) → c ≡ image (with_log (green (action_of h p) s.log) s) b)
      → (s : Server) → Holds s b → Placed s (action_of h p) → Holds (with_log (green (action_of h p) s.log) s) c
  green_holds c f s r d =
      grown_holds s (green (action_of h p) s.log) b c r (f s r d) (green_formed s (action_of h p) r.formed d) (green_grows (action_of h p) s.log).greens

  pub note_room : (c : List ℕ) → HoldsSuch (λ s. Placed s (action_of h p)) b
      → ((s : Server) → Holds s b → Placed s (action_of h p) → c ≡ image (with_log (green (action_of h p) s.log) s) b) → NumberIn h.creator c
  unfolding action_of id_of
  note_room c m f =
      let t : Server = with_log (green (action_of h p) m.state.log) m.state in
      let r : Holds t c = green_holds c f m.state m.holds m.fact in
      record { counts = holds_counts t c r; below = rw (numbers t c r).servers m.fact.delivered.fits.creator }

  pub green_noted : (c e : List ℕ) → HoldsSuch (λ s. Placed s (action_of h p)) b
      → ((s : Server) → Holds s b → Placed s (action_of h p) → c ≡ image (with_log (green (action_of h p) s.log) s) b)
      → ((t : Server) → Holds t c → e ≡ image (with_noted (note h.creator h.green_length t.noted) t) c)
      → (s : Server) → Holds s b → e ≡ image (green_and_note (action_of h p) s) b
  unfolding action_of id_of green_and_note
  green_noted c e m f g s r =
      let a : Action = action_of h p in
      let d : Placed s a = such_fact (λ x. Placed x a) b s m r in
      let t : Server = with_log (green a s.log) s in
      chained s t (green_and_note a s) b r (green_formed s a r.formed d) (noted_formed s a r.formed d) covers c e (f s r d) (g t (green_holds c f s r d))
    where
      covers : Covers s (with_log (green (action_of h p) s.log) s) (green_and_note (action_of h p) s)
      covers = record {
        servers = (refl, refl);
        quota = (refl, refl);
        states = inl refl;
        ids = inl (omega arith);
        own = inl (omega arith);
        actions = inl (omega arith);
      }

-- ---- yellow

module _ (h : ActionHead) (p b : List ℕ) where
  enter_holds : (c : List ℕ)
      → ((s : Server) → Holds s b → Placed s (action_of h p) → is_next s.log (action_of h p) ≡ true → c ≡ image (with_log (enter (action_of h p) s.log) s) b)
      → (s : Server) → Holds s b → Placed s (action_of h p) → is_next s.log (action_of h p) ≡ true → Holds (with_log (enter (action_of h p) s.log) s) c
  unfolding enter
  enter_holds c f s r d next =
      then_holds s (with_log (enter (action_of h p) s.log) s) b c r (f s r d next) refl refl (entered_formed s (action_of h p) b r d next) r.blank

  pub next_room : HoldsSuch (λ s. Placed s (action_of h p) × (is_next s.log (action_of h p) ≡ true)) b → RoomFor h.creator (length p) b
  unfolding action_of id_of
  next_room m = room_for m.state (action_of h p) b m.holds m.fact.0 m.fact.1

  pub join_room : (c : List ℕ) → HoldsSuch (λ s. Placed s (action_of h p) × (is_next s.log (action_of h p) ≡ true)) b
      → ((s : Server) → Holds s b → Placed s (action_of h p) → is_next s.log (action_of h p) ≡ true → c ≡ image (with_log (enter (action_of h p) s.log) s) b)
      → CountsIn c
  join_room c m f =
      holds_counts (with_log (enter (action_of h p) m.state.log) m.state) c (enter_holds c f m.state m.holds m.fact.0 m.fact.1)

  pub yellow_joined : (c e : List ℕ) → HoldsSuch (λ s. Placed s (action_of h p) × (is_next s.log (action_of h p) ≡ true)) b
      → ((s : Server) → Holds s b → Placed s (action_of h p) → is_next s.log (action_of h p) ≡ true → c ≡ image (with_log (enter (action_of h p) s.log) s) b)
      → ((t : Server) → Holds t c → e ≡ image (with_votes (join_yellow (t.servers * t.quota) (id_of h.creator h.index) t.votes) t) c)
      → (s : Server) → Holds s b → e ≡ image (yellow (action_of h p) s) b
  unfolding action_of
  yellow_joined c e m f g s r =
      let a : Action = action_of h p in
      let both = such_fact (λ x. Placed x a × (is_next x.log a ≡ true)) b s m r in
      let t : Server = with_log (enter a s.log) s in
      let u : Server = with_votes (join_yellow (s.servers * s.quota) a.id s.votes) t in
      chained s t u b r (entered_formed s a b r both.0 both.1) (joined_formed s a r.formed both.0 both.1) covers c e (f s r both.0 both.1)
      (g t (enter_holds c f s r both.0 both.1))
      ∙ ap (λ (x : Server). image x b) (sym (yellow_entered s a r.formed both.0 both.1))
    where
      covers : Covers s (with_log (enter (action_of h p) s.log) s) (with_votes (join_yellow (s.servers * s.quota) (action_of h p).id s.votes) (with_log (enter (action_of h p) s.log) s))
      covers = record {
        servers = (refl, refl);
        quota = (refl, refl);
        states = inl refl;
        ids = inr (begins_refl _);
        own = inl (omega arith);
        actions = inl (omega arith);
      }

  pub cut_inside : HoldsSuch (λ s. Placed s (action_of h p)) b → header_size + 2 * h.creator + 2 ≤ length b
  unfolding action_of id_of
  cut_inside m = let r = room_if_next m.state (action_of h p) b m.holds m.fact in omega (arith, r.counts.cuts, r.creator)

  module _ (k : ℕ) (e : k ≡ number_at 2 b (header_size + 2 * h.creator)) (m : HoldsSuch (λ s. Placed s (action_of h p)) b) where
    cut_known : (s : Server) → Holds s b → Placed s (action_of h p) → k ≡ cut s.log h.creator
    unfolding action_of id_of
    cut_known s r d = e ∙ cut_read s b h.creator r d.delivered.fits.creator

    pub yellow_next : k + 1 ≡ h.index → HoldsSuch (λ s. Placed s (action_of h p) × (is_next s.log (action_of h p) ≡ true)) b
    unfolding is_next next_index action_of id_of
    yellow_next f =
        let j = cut_known m.state m.holds m.fact in
        record { state = m.state; holds = m.holds; fact = (m.fact, eq_yes _ _ (omega arith)) }

    pub yellow_passed : (k + 1 ≡ h.index → ⊥) → (s : Server) → Holds s b → b ≡ image (yellow (action_of h p) s) b
    unfolding is_next next_index action_of id_of
    yellow_passed f s r =
        let a : Action = action_of h p in
        let d : Placed s a = such_fact (λ x. Placed x a) b s m r in
        let j = cut_known s r d in
        let other : is_next s.log a ≡ false = eq_no _ _ (λ g. f (omega arith)) in
        sym (ap (λ (x : Server). image x b) (yellow_ignored s a r.formed d other) ∙ r.written)
