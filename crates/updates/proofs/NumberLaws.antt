-- Only the header is written: the other sections stay, where the lists are the same or shorter.
use Prim.Native.Nat.{ℕ, zero, suc, ◌<◌}
use mathlib.Core.Path.{◌≡◌, refl, sym, ap, ◌∙◌}
use mathlib.Core.List.{List, [], ◌∷◌, ◌++◌}
use mathlib.Core.Logic.{⊎_elim}
use mathlib.Core.Option.{Option}
use native.Mathlib.Omega.{arith}
use lib.ListN.{length, get_or, take, drop, set, take-append-drop}
use Rattle.base.specs.Lists.{Begins, sum}
use Rattle.base.specs.Patched.{patched}
use Rattle.base.proofs.PatchedLaws.{patched_whole}
use Rattle.base.specs.Bytes.{over}
use Rattle.format.specs.Types.{Action, State as Collected}
use Rattle.format.specs.Write.{ids_bytes, cuts_bytes}
use Rattle.record.specs.declared.State.{State}
use Rattle.replication.specs.Machine.Types.{Log, Votes, Membership, Server, no_states}
use Rattle.replication.specs.Machine.Colours.{shown}
use Rattle.replication.specs.Machine.WellFormed.{queue}
use Rattle.image.specs.Layout.{state_size, the_header, the_cuts, the_noted, the_states, the_yellow, the_own, the_queue, sections, section_count}
use Rattle.image.specs.Image.{header_bytes, noted_bytes, state_over, states_over, action_slots, section, parts, image}
use Rattle.image.specs.Header.{header_of, shown_log, header_written}
use Rattle.image.proofs.Used.{header_length, slots_append, ids_append, written_length}
use Rattle.image.proofs.HeaderLaws.{header_written_lem}
use Rattle.image.specs.Holding.{Holds}
use Rattle.image.proofs.InPlace.{holds_section, over_less}
use Rattle.updates.specs.Lists.{changed_to, Shortened}
use Rattle.updates.proofs.Changes.{changed_image}
use Rattle.queue.proofs.Inside.{changed_at}
use Rattle.queue.proofs.Holding.{holds_changed}

-- ---- a beginning of a used part, dropped States

-- A used part w that begins with y, over bytes that hold it.
pub begun : (w y z l : List ℕ) → w ≡ y ++ z → l ≡ over w l → over w l ≡ over y l
begun w y z l e h = sym h ∙ sym (over_less y z l (h ∙ ap (λ (x : List ℕ). over x l) e))

dropped : (size m : ℕ) (l : List ℕ) → states_over size (no_states m) l ≡ l
unfolding no_states states_over state_over
dropped size zero l = refl
dropped size (suc m) l = ap (λ (r : List ℕ). take size l ++ r) (dropped size m (drop size l)) ∙ take-append-drop size l

module _ (s : Server) (b : List ℕ) (r : Holds s b) where
  here : (k : ℕ) → k < section_count → section s.servers s.quota k b ≡ get_or (parts s.servers s.quota s b) k []
  here k h = holds_section s b r k h

  -- Where only numbers change, every other section stays.
  parts_kept : (l : Log) (v : Votes) (m : Membership) → Shortened s l v m
      → set (parts s.servers s.quota s b) the_header (header_bytes (changed_to s l v m)) ≡ parts s.servers s.quota (changed_to s l v m) b
  unfolding parts Begins
  parts_kept l v m e =
      let n : ℕ = s.servers in
      let q : ℕ = s.quota in
      let cuts : over (cuts_bytes s.log.cuts) (section n q the_cuts b) ≡ over (cuts_bytes l.cuts) (section n q the_cuts b) =
      ap (λ (x : List ℕ). over (cuts_bytes x) (section n q the_cuts b)) (sym e.cuts) in
      let states : states_over (state_size n q) s.membership.states (section n q the_states b) ≡ states_over (state_size n q) m.states (section n q the_states b) =
      ⊎_elim (λ h. ap (λ (x : List (Option Collected)). states_over (state_size n q) x (section n q the_states b)) (sym h))
      (λ h. sym (here the_states (omega arith)) ∙ sym (dropped (state_size n q) n (section n q the_states b)) ∙ ap (λ (x : List (Option Collected)). states_over (state_size n q) x (section n q the_states b)) (sym h))
      e.states in
      let ids : over (ids_bytes s.votes.yellow.ids) (section n q the_yellow b) ≡ over (ids_bytes v.yellow.ids) (section n q the_yellow b) =
      begun (ids_bytes s.votes.yellow.ids) (ids_bytes v.yellow.ids) (ids_bytes e.yellow.0) (section n q the_yellow b) (ap ids_bytes e.yellow.1 ∙ ids_append v.yellow.ids e.yellow.0) (here the_yellow (omega arith)) in
      let own : over (action_slots s.log.own) (section n q the_own b) ≡ over (action_slots l.own) (section n q the_own b) =
      begun (action_slots s.log.own) (action_slots l.own) (action_slots e.own.0) (section n q the_own b) (ap action_slots e.own.1 ∙ slots_append l.own e.own.0) (here the_own (omega arith)) in
      let actions : over (action_slots (queue (shown_log s))) (section n q the_queue b) ≡ over (action_slots (queue (shown s.white l))) (section n q the_queue b) =
      ap (λ (x : List Action). over (action_slots x) (section n q the_queue b)) (sym e.queued) in
      λ i. header_bytes (changed_to s l v m)
      ∷ cuts i
      ∷ over (noted_bytes s.noted) (section n q the_noted b)
      ∷ states i
      ∷ ids i
      ∷ own i
      ∷ actions i
      ∷ []

-- The numbers of the changed state, saved.
pub numbers_saved : (h : State) (b b₁ : List ℕ) → b₁ ≡ patched 0 (header_written h) b
    → (s : Server) (l : Log) (v : Votes) (m : Membership) → Holds s b → Shortened s l v m → h ≡ header_of (changed_to s l v m)
    → b₁ ≡ image (changed_to s l v m) b
unfolding sections sum parts
numbers_saved h b b₁ f s l v m r e g =
    let n : ℕ = s.servers in
    let q : ℕ = s.quota in
    let t : Server = changed_to s l v m in
    let size : length (header_written h) ≡ length (header_bytes s) = written_length h ∙ sym (header_length s) in
    let header : patched 0 (header_written h) (header_bytes s) ≡ header_bytes t =
    patched_whole (header_written h) (header_bytes s) size ∙ ap header_written g ∙ header_written_lem t in
    let one = changed_at (sections n q) (parts n q s b) b b (holds_changed s b r) the_header 0 0 (header_written h) refl (omega arith) (omega (arith, written_length h)) in
    f ∙ changed_image t _ b _ one (ap (λ (x : List ℕ). set (parts n q s b) the_header x) header ∙ parts_kept s b r l v m e)
