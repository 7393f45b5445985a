-- The State that a server sends when a regular configuration comes.
use Prim.Native.Nat.{ℕ, ◌+◌, ◌*◌, ◌-◌, ◌≤◌}
use mathlib.Core.Path.{◌≡◌, refl, sym, ap, subst, ◌∙◌}
use mathlib.Core.Bool.{true}
use mathlib.Core.List.{List}
use native.Mathlib.Nat.{mul-le-mul}
use native.Mathlib.Omega.{arith}
use mir.Syntax.{w32}
use mir.Val.{Fits}
use lib.ListN.{length, take, drop, length-drop}
use Rattle.base.specs.Bytes.{numbers_at, over}
use Rattle.base.specs.Lists.{sum}
use Rattle.base.proofs.Occurs.{Occurs, occurs_first, occurs_drop, occurs_at}
use Rattle.base.specs.Tests.{◌≤?◌, ◌and◌}
use Rattle.base.proofs.TestLaws.{pick_yes, both_yes, le_yes}
use Rattle.base.proofs.Over.{rest_whole}
use Rattle.format.specs.Limits.{most_number_limit}
use Rattle.format.specs.Types.{Id, State, state}
use Rattle.format.specs.Read.{ids_at}
use Rattle.format.specs.Write.{write, length_of, cuts_bytes, ids_bytes, record_bytes}
use Rattle.format.proofs.Fields.{cuts_read, ids_read}
use Rattle.format.proofs.Lengths.{write_length}
use Rattle.record.specs.declared.State as declared
use Rattle.record.specs.declared.events.StateHead.{StateHead}
use Rattle.std.specs.Prelude.{Option, Some, None}
use Rattle.std.specs.Option.{unwrap_or}
use Rattle.record.specs.Values.{primary_of, mark_of, state_of, last_of}
use Rattle.writer.specs.Written.{put, put_of, put_state}
use Rattle.writer.proofs.WriterRoundTrip.{Fitted}
use Rattle.replication.specs.Machine.Types.{Server, context_of}
use Rattle.replication.specs.Machine.Step.{own_state}
use Rattle.image.specs.Layout.{the_cuts, the_yellow, sections, offset, state_length, out_length, header_size, most_state_size}
use Rattle.image.specs.Header.{mark_numbers, header_of, header_in}
use Rattle.image.specs.Decode.{greens_in}
use Rattle.image.specs.Image.{parts}
use Rattle.image.proofs.Fit.{well_formed_fits}
use Rattle.image.proofs.HeaderLaws.{header_loaded}
use Rattle.image.proofs.InPlace.{holds_decoded}
use Rattle.image.proofs.InRange.{InRange, in_range}
use Rattle.image.specs.Holding.{Holds}
use Rattle.updates.specs.Lists.{configuration_of}
use Rattle.outgoing.specs.Lent.{LentSuch}
use Rattle.outgoing.specs.Sending.{own_head, own_record}
use Rattle.outgoing.proofs.LentFacts.{lent_room}
use Rattle.outgoing.proofs.LentLaws.{holds_products, holds_part, put_room, put_done, one_record}
use Rattle.image.specs.Counts.{place}
use Rattle.image.proofs.Counts.{holds_place}

pub numbers_taken : (b : List ℕ) (id k : ℕ) (h : declared.State) (g : StateHead) → h ≡ header_in b → k ≡ length (greens_in b) → g ≡ own_head h k id
    → g ≡ own_head (header_in b) (length (greens_in b)) id
numbers_taken b id k h g e i f = f ∙ (λ j. own_head (e j) (i j) id)

-- ---- the record made of the buffer's bytes

module _ (s : Server) (b : List ℕ) (r : Holds s b) where
  range : InRange s
  range = in_range s r.formed

  own_cuts : numbers_at 2 s.servers (drop header_size b) 0 ≡ s.log.cuts
  unfolding parts context_of offset sections sum over
  own_cuts =
      let there : Occurs (cuts_bytes s.log.cuts) b (header_size + 0) =
      occurs_first (cuts_bytes s.log.cuts) _ b header_size (holds_part s b r the_cuts (omega arith)) in
      ap (λ (m : ℕ). numbers_at 2 m (drop header_size b) 0) (sym range.cuts_count)
      ∙ cuts_read most_number_limit s.log.cuts (drop header_size b) 0 (omega arith) range.cuts (occurs_drop header_size 0 there)

  own_ids : ids_at (length s.votes.yellow.ids) (drop (offset s.servers s.quota the_yellow) b) 0 ≡ s.votes.yellow.ids
  unfolding parts over
  own_ids =
      let ids : List Id = s.votes.yellow.ids in
      let at : ℕ = offset s.servers s.quota the_yellow in
      let there : Occurs (ids_bytes ids) b (at + 0) =
      occurs_at (occurs_first (ids_bytes ids) _ b at (holds_part s b r the_yellow (omega arith))) (omega arith) in
      ids_read (context_of s) ids (drop at b) 0 range.context range.yellow.ids (occurs_drop at 0 there)

  own_made : (id set : ℕ) → state_of (own_head (header_of s) (length s.log.green) id) (drop header_size b) 0 (drop (offset s.servers s.quota the_yellow) b) 0
      ≡ own_state (configuration_of id set) s
  unfolding state_of own_head header_of last_of mark_numbers primary_of mark_of own_state configuration_of
  own_made id set =
      λ i. record {
        sender = s.me;
        configuration = id;
        cuts = own_cuts i;
        green_length = length s.log.green;
        attempt = s.votes.attempt;
        last = s.votes.last;
        mark = s.votes.mark;
        yellow = record { status = s.votes.yellow.status; ids = own_ids i };
      }

  -- It fits the outgoing buffer.
  own_short : (id set : ℕ) → length (write (state (own_state (configuration_of id set) s))) ≤ out_length s.servers s.quota
  unfolding own_state length_of out_length
  own_short id set =
      omega (
        arith,
        write_length (state (own_state (configuration_of id set) s)),
        range.cuts_count,
        (well_formed_fits s r.formed).ids,
        (holds_products s b r).two,
        (holds_products s b r).servers,
      )

  own_most : (id set : ℕ) → length (write (state (own_state (configuration_of id set) s))) ≤ most_state_size
  unfolding own_state length_of context_of
  own_most id set =
      let all : s.servers * s.quota ≤ 8 * 256 =
      mul-le-mul {n₁ = s.servers} {m₁ = s.quota} {n₂ = 8} {m₂ = 256} range.context.sizes.most range.context.sizes.highest in
      omega (
        arith,
        write_length (state (own_state (configuration_of id set) s)),
        range.cuts_count,
        range.context.sizes.most,
        (well_formed_fits s r.formed).ids,
      )

  own_end_lem : (header_size + 2 * s.servers ≤ length b) × (offset s.servers s.quota the_yellow + 3 * length s.votes.yellow.ids ≤ length b)
  unfolding offset state_length sections sum
  own_end_lem = (omega (arith, r.long), omega (arith, r.long, (well_formed_fits s r.formed).ids))

  green_said_lem : length (greens_in b) ≡ length s.log.green
  unfolding greens_in
  green_said_lem = ap (λ (t : Server). length t.log.green) (holds_decoded s b r)

  -- What the writer leaves.
  own_put : (o : List ℕ) (id set at : ℕ) (g : StateHead) → g ≡ own_head (header_in b) (length (greens_in b)) id → at ≡ place the_yellow b
      → put_state g (take (length b - header_size) (drop header_size b)) (take (length b - at) (drop at b)) o
      ≡ put (write (state (own_state (configuration_of id set) s))) o
  unfolding put_state own_head header_of
  own_put o id set at g e f =
      let n : ℕ = s.servers in
      let m : ℕ = length s.votes.yellow.ids in
      let y : ℕ = offset s.servers s.quota the_yellow in
      let head : g ≡ own_head (header_of s) (length s.log.green) id = e ∙ (λ i. own_head (header_loaded s b r i) (green_said_lem i) id) in
      let there : at ≡ y = f ∙ holds_place s b r the_yellow in
      let fits : (2 * n ≤? length (drop header_size b) and 3 * m ≤? length (drop y b)) ≡ true =
      both_yes _ _ (le_yes (2 * n) (length (drop header_size b)) (omega (arith, length-drop header_size b, own_end_lem.0)))
      (le_yes (3 * m) (length (drop y b)) (omega (arith, length-drop y b, own_end_lem.1))) in
      (λ i. put_state (head i) (rest_whole b header_size i) (rest_whole b (there i) i) o)
      ∙ sym (pick_yes (2 * n ≤? length (drop header_size b) and 3 * m ≤? length (drop y b)) (put (write (state (own_state (configuration_of id set) s))) o)
      _ _ fits
      (ap (λ (x : State). put (write (state x)) o) (sym (own_made id set))))

-- ---- as the code writes it

module _ (b o o₁ : List ℕ) (id at r : ℕ) (g : StateHead) (w : Option ℕ) (h : LentSuch (λ s. 0 ≤ 0) b o)
    (i : g ≡ own_head (header_in b) (length (greens_in b)) id) (j : at ≡ place the_yellow b)
    (e : put_of w o₁ ≡ put_state g (take (length b - header_size) (drop header_size b)) (take (length b - at) (drop at b)) o)
    (is-r : r ≡ unwrap_or w 0) where
  written : (s : Server) (set : ℕ) → Holds s b → Fitted (write (state (own_state (configuration_of id set) s))) o r o₁
  written s set k = go w refl
    where
      x : List ℕ
      x = write (state (own_state (configuration_of id set) s))

      puts : put_of w o₁ ≡ put x o
      puts = e ∙ own_put s b k o id set at g i j

      go : (v : Option ℕ) → w ≡ v → Fitted x o r o₁
      go None f = put_room x o o₁ w puts (omega (arith, own_short s b k id set, lent_room (λ s. 0 ≤ 0) b o s h k)) f
      go (Some n) f =
          let same : n ≡ r = sym (is-r ∙ ap (λ (v : Option ℕ). unwrap_or v 0) f) in
          subst (λ (m : ℕ). Fitted x o m o₁) same (put_done x o o₁ w puts n f)

  pub state_done : (s : Server) (set : ℕ) → Holds s b
      → (r ≡ length (record_bytes (own_record id set s))) × (o₁ ≡ over (record_bytes (own_record id set s)) o)
  unfolding own_record
  state_done s set k =
      let x : List ℕ = write (state (own_state (configuration_of id set) s)) in
      let done = written s set k in
      let bytes : x ≡ record_bytes (own_record id set s) = sym (one_record (state (own_state (configuration_of id set) s))) in
      (omega (arith, done.sized, ap length bytes), done.filled ∙ ap (λ (y : List ℕ). over y o) bytes)

  pub state_small : Fits w32 r
  state_small = let done = written h.state 0 h.holds in omega (arith, done.sized, own_most h.state b h.holds id 0)
