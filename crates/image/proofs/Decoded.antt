-- What is read of an image is the state written.
use Prim.Native.Nat.{ℕ, ◌+◌, ◌*◌, ◌≤◌, ◌<◌}
use mathlib.Core.Path.{◌≡◌, sym, ap, ap₂, ◌∙◌}
use mathlib.Core.List.{List, [], ◌++◌}
use mathlib.Core.Option.{Option, none}
use native.Mathlib.Nat.{mul-le-mul_right}
use native.Mathlib.Omega.{arith}
use lib.ListN.{length, get_or, take, drop}
use lib.Seq.{take-append_seam, drop-append_seam}
use Rattle.base.specs.Bytes.{numbers_at, part_at}
use Rattle.base.specs.Lists.{is_there, sum}
use Rattle.base.proofs.Occurs.{Occurs}
use Rattle.base.proofs.Sections.{sized_at}
use Rattle.base.specs.Sets.{in_set}
use Rattle.base.proofs.Over.{used_part}
use Rattle.format.specs.Limits.{most_number_limit}
use Rattle.format.specs.Types.{Action, State}
use Rattle.format.specs.Read.{ids_at}
use Rattle.format.proofs.Fields.{cuts_read, ids_read}
use Rattle.record.specs.Values.{primary_of, last_of, mark_of}
use Rattle.replication.specs.Machine.Types.{Server, context_of}
use Rattle.replication.specs.Machine.WellFormed.{queue}
use Rattle.image.specs.Layout.{state_size, the_header, the_cuts, the_noted, the_states, the_yellow, the_own, the_queue, sections, section_size, offset, state_length, section_count}
use Rattle.image.specs.Header.{shown_log, senders, mark_numbers, header_of, header_in}
use Rattle.image.specs.Image.{header_bytes, section, parts, image}
use Rattle.image.specs.Decode.{blanks, white_at, regular_of, transitional_in, actions_at, states_at, decoded_as, servers_in, quota_in, decoded}
use Rattle.image.specs.Holding.{blanked}
use Rattle.image.proofs.InRange.{InRange}
use Rattle.image.proofs.Fit.{SectionsFit, range_fits, section_length, parts_sized, image_section}
use Rattle.image.proofs.Slots.{actions_read, noted_read, in_senders, states_read}
use Rattle.image.proofs.HeaderRead.{header_read, mode_named_lem, regular_said, transitional_said}

-- Each part of an image occurs where its section begins.
pub image_part : (s : Server) → SectionsFit s → (b : List ℕ) → state_length s.servers s.quota ≤ length b → (k : ℕ) → k < section_count
    → Occurs (get_or (parts s.servers s.quota s b) k []) (image s b) (offset s.servers s.quota k)
unfolding section section_size
image_part s f b h k l =
    let size = sized_at (sections s.servers s.quota) (parts s.servers s.quota s b) k (parts_sized s f b h) in
    record { part = ap (λ (m : ℕ). part_at m (image s b) (offset s.servers s.quota k)) size ∙ image_section s f b h k l }

module _ (s : Server) (r : InRange s) (b : List ℕ) (h : state_length s.servers s.quota ≤ length b) where
  at_section : (k : ℕ) → k < section_count → Occurs (get_or (parts s.servers s.quota s b) k []) (image s b) (offset s.servers s.quota k)
  at_section k l = image_part s (range_fits s r) b h k l

  header_back : header_in (image s b) ≡ header_of s
  unfolding parts offset sections sum header_bytes
  header_back = header_read s (image s b) r (at_section the_header (omega arith))

  cuts_back : numbers_at 2 s.servers (image s b) (offset s.servers s.quota the_cuts) ≡ s.log.cuts
  unfolding parts context_of
  cuts_back =
      let e : List ℕ = image s b in
      let at : ℕ = offset s.servers s.quota the_cuts in
      ap (λ (m : ℕ). numbers_at 2 m e at) (sym r.cuts_count)
      ∙ cuts_read most_number_limit s.log.cuts e at (omega arith) r.cuts (used_part _ _ e at (at_section the_cuts (omega arith)))

  noted_back : numbers_at 4 s.servers (image s b) (offset s.servers s.quota the_noted) ≡ s.noted
  unfolding parts
  noted_back =
      let e : List ℕ = image s b in
      let at : ℕ = offset s.servers s.quota the_noted in
      ap (λ (m : ℕ). numbers_at 4 m e at) (sym r.noted_count) ∙ noted_read s.noted e at r.noted (used_part _ _ e at (at_section the_noted (omega arith)))

  ids_back : ids_at (length s.votes.yellow.ids) (image s b) (offset s.servers s.quota the_yellow) ≡ s.votes.yellow.ids
  unfolding parts
  ids_back =
      let e : List ℕ = image s b in
      let at : ℕ = offset s.servers s.quota the_yellow in
      ids_read (context_of s) s.votes.yellow.ids e at r.context r.yellow.ids (used_part _ _ e at (at_section the_yellow (omega arith)))

  own_back : actions_at (length s.log.own) (image s b) (offset s.servers s.quota the_own) ≡ s.log.own
  unfolding parts
  own_back =
      let e : List ℕ = image s b in
      let at : ℕ = offset s.servers s.quota the_own in
      actions_read (context_of s) s.log.own e at r.context r.own (used_part _ _ e at (at_section the_own (omega arith)))

  queue_back : actions_at (length (queue (shown_log s))) (image s b) (offset s.servers s.quota the_queue) ≡ queue (shown_log s)
  unfolding parts
  queue_back =
      let e : List ℕ = image s b in
      let at : ℕ = offset s.servers s.quota the_queue in
      actions_read (context_of s) (queue (shown_log s)) e at r.context r.actions (used_part _ _ e at (at_section the_queue (omega arith)))

  white_back : white_at s.servers s.quota (header_of s) (image s b) ≡ s.white
  unfolding white_at header_of
  white_back = omega (arith, ap sum cuts_back, r.counted)

  green_back : blanks (white_at s.servers s.quota (header_of s) (image s b)) ++ take (length (shown_log s).green) (actions_at (length (queue (shown_log s))) (image s b) (offset s.servers s.quota the_queue))
      ≡ (blanked s).log.green
  unfolding queue blanked
  green_back =
      ap₂ {A = List Action} {B = List Action} {C = List Action} (λ x y. x ++ y) (ap blanks white_back)
      (ap (take (length (shown_log s).green)) queue_back ∙ take-append_seam (shown_log s).green s.log.red)

  red_back : drop (length (shown_log s).green) (actions_at (length (queue (shown_log s))) (image s b) (offset s.servers s.quota the_queue)) ≡ s.log.red
  unfolding queue
  red_back = ap (drop (length (shown_log s).green)) queue_back ∙ drop-append_seam (shown_log s).green s.log.red

  states_back : states_at s.servers s.quota (senders 0 s.membership.states) s.servers 0 (image s b) (offset s.servers s.quota the_states)
      ≡ s.membership.states
  unfolding parts context_of section_size sections
  states_back =
      let e : List ℕ = image s b in
      let at : ℕ = offset s.servers s.quota the_states in
      let xs : List (Option State) = s.membership.states in
      let size : ℕ = state_size s.servers s.quota in
      let room : length xs * size ≤ s.servers * size = mul-le-mul_right size (omega (arith, r.states_count)) in
      let long = section_length s.servers s.quota the_states b h in
      let there : (j : ℕ) → j < length xs → in_set (0 + j) (senders 0 xs) ≡ is_there (get_or xs j none) = λ j l. in_senders 0 xs j in
      ap (λ (m : ℕ). states_at s.servers s.quota (senders 0 xs) m 0 e at) (sym r.states_count)
      ∙ states_read (context_of s) (senders 0 xs) 0 xs (section s.servers s.quota the_states b) e at r.context r.states (range_fits s r).states (omega arith) there
      (at_section the_states (omega arith))

  -- The numbers of s with the lists in its image are s, its white actions blank.
  as_back : decoded_as s.servers s.quota (header_of s) (image s b) ≡ blanked s
  unfolding decoded_as blanked header_of regular_of transitional_in last_of primary_of mark_numbers mark_of
  as_back =
      λ i. record {
        servers = s.servers;
        quota = s.quota;
        me = s.me;
        log = record { green = green_back i; red = red_back i; cuts = cuts_back i; own = own_back i; numbered = s.log.numbered; sent = s.log.sent };
        votes = record { last = s.votes.last; attempt = s.votes.attempt; mark = s.votes.mark; yellow = record { status = s.votes.yellow.status; ids = ids_back i } };
        membership = record {
          mode = mode_named_lem s.membership.mode i;
          configuration = regular_said s.membership.configuration i;
          transitional = transitional_said s.membership.transitional i;
          states = states_back i;
          cpcs = s.membership.cpcs;
          come = s.membership.come;
        };
        noted = noted_back i;
        white = white_back i;
      }

  pub decoded_back : decoded (image s b) ≡ blanked s
  unfolding decoded servers_in quota_in header_of
  decoded_back = (λ i. decoded_as (header_back i).servers (header_back i).quota (header_back i) (image s b)) ∙ as_back
