-- Each used part fits its section, so that an image is laid out in its sections.
use Prim.Native.Nat.{ℕ, ◌*◌, ◌≤◌, ◌<◌}
use mathlib.Core.Path.{◌≡◌, sym, ap, ◌∙◌}
use mathlib.Core.Bool.{true}
use mathlib.Core.List.{List, [], ◌++◌}
use mathlib.Core.Option.{Option, none, some}
use native.Mathlib.Nat.{mul-le-mul_right}
use native.Mathlib.Omega.{arith}
use lib.ListN.{length, get_or, drop, length-append, length-drop}
use Rattle.base.specs.Bytes.{joined, over}
use Rattle.base.proofs.BytesLaws.{part_length}
use Rattle.base.specs.Lists.{Each}
use Rattle.base.proofs.ListLaws.{each_implied}
use Rattle.base.proofs.Sections.{Sized, Laid, begin_end, sized_rest, sized_length, laid_part}
use Rattle.base.proofs.Over.{over_length}
use Rattle.format.specs.Types.{State, Context, state}
use Rattle.format.specs.Write.{length_of}
use Rattle.format.proofs.Ranges.{ActionRange}
use Rattle.format.proofs.Lengths.{cuts_length, ids_length, write_length}
use Rattle.replication.specs.Machine.Types.{Server, context_of}
use Rattle.replication.specs.Machine.WellFormed.{queue, well_formed}
use Rattle.image.specs.Layout.{state_size, the_cuts, the_noted, the_states, the_yellow, the_own, the_queue, sections, section_size, offset, state_length, section_count}
use Rattle.image.specs.Image.{states_over, section, parts, image}
use Rattle.image.proofs.InRange.{CollectedRange, InRange, in_range}
use Rattle.image.proofs.Used.{ActionFits, action_slots_length, noted_length, header_length, StateFits, states_over_length}
use Rattle.image.specs.Header.{shown_log}

-- The lists of s have room in their sections.
pub record SectionsFit (s : Server) : Type 0 where
  pub cuts : length s.log.cuts ≤ s.servers
  pub noted : length s.noted ≤ s.servers
  pub states_count : length s.membership.states ≤ s.servers
  pub states : Each (StateFits (state_size s.servers s.quota)) s.membership.states
  pub ids : length s.votes.yellow.ids ≤ s.servers * s.quota
  pub own_count_of : length s.log.own ≤ s.quota
  pub own : Each ActionFits s.log.own
  pub queue_count : length (queue (shown_log s)) ≤ s.servers * s.quota
  pub actions : Each ActionFits (queue (shown_log s))

state_fits : (c : Context) (x : Option State) → CollectedRange c x → StateFits (state_size c.servers c.quota) x
unfolding state_size length_of
state_fits c none r = tt
state_fits c (some x) r = omega (arith, write_length (state x), r.count, r.yellow.few)

pub range_fits : (s : Server) → InRange s → SectionsFit s
unfolding context_of
range_fits s r =
    let c : Context = context_of s in
    record {
      cuts = omega (arith, r.cuts_count);
      noted = omega (arith, r.noted_count);
      states_count = omega (arith, r.states_count);
      states = each_implied (CollectedRange c) (StateFits (state_size s.servers s.quota)) (λ x h. state_fits c x h) s.membership.states r.states;
      ids = r.yellow.few;
      own_count_of = r.own_count_of;
      own = each_implied (ActionRange c) ActionFits (λ a h. h.payload) s.log.own r.own;
      queue_count = r.queue_count;
      actions = each_implied (ActionRange c) ActionFits (λ a h. h.payload) (queue (shown_log s)) r.actions;
    }

pub well_formed_fits : (s : Server) → well_formed s ≡ true → SectionsFit s
well_formed_fits s ok = range_fits s (in_range s ok)

-- ---- sections

pub section_length : (n q k : ℕ) (b : List ℕ) → state_length n q ≤ length b → length (section n q k b) ≡ section_size n q k
unfolding section section_size offset state_length
section_length n q k b h = part_length (get_or (sections n q) k 0) b (offset n q k) (omega (arith, begin_end (sections n q) k))

-- A used part over the section k.
over_section : (n q k : ℕ) (y b : List ℕ) → length y ≤ section_size n q k → state_length n q ≤ length b → length (over y (section n q k b)) ≡ section_size n q k
over_section n q k y b h l =
    let long : length (section n q k b) ≡ section_size n q k = section_length n q k b l in
    over_length y (section n q k b) (omega arith) ∙ long

module _ (s : Server) (f : SectionsFit s) (b : List ℕ) (h : state_length s.servers s.quota ≤ length b) where
  pub parts_sized : Sized (sections s.servers s.quota) (parts s.servers s.quota s b)
  unfolding parts sections section_size
  parts_sized = (
    header_length s,
    (
      over_section s.servers s.quota the_cuts _ b (omega (arith, cuts_length s.log.cuts, f.cuts)) h,
      (
        over_section s.servers s.quota the_noted _ b (omega (arith, noted_length s.noted, f.noted)) h,
        (
          states,
          (
            over_section s.servers s.quota the_yellow _ b (omega (arith, ids_length s.votes.yellow.ids, f.ids)) h,
            (
              over_section s.servers s.quota the_own _ b (omega (arith, action_slots_length s.log.own f.own, f.own_count_of)) h,
              (over_section s.servers s.quota the_queue _ b (omega (arith, action_slots_length (queue (shown_log s)) f.actions, f.queue_count)) h, tt),
            ),
          ),
        ),
      ),
    ),
  )
    where
      states : length (states_over (state_size s.servers s.quota) s.membership.states (section s.servers s.quota the_states b)) ≡ s.servers * state_size s.servers s.quota
      states =
          let long = section_length s.servers s.quota the_states b h in
          let room : length s.membership.states * state_size s.servers s.quota ≤ s.servers * state_size s.servers s.quota = mul-le-mul_right (state_size s.servers s.quota) f.states_count in
          states_over_length (state_size s.servers s.quota) s.membership.states (section s.servers s.quota the_states b) f.states (omega arith) ∙ long

  -- "bytes past either unchanged"
  pub image_rest : drop (state_length s.servers s.quota) (image s b) ≡ drop (state_length s.servers s.quota) b
  unfolding image state_length
  image_rest = sized_rest (sections s.servers s.quota) (parts s.servers s.quota s b) (drop (state_length s.servers s.quota) b) parts_sized

  pub image_laid : Laid (sections s.servers s.quota) (parts s.servers s.quota s b) (image s b)
  unfolding image state_length
  image_laid =
      record { sized = parts_sized; whole = ap (λ (r : List ℕ). joined (parts s.servers s.quota s b) ++ r) (sym image_rest) }

  pub image_fits : length (image s b) ≡ length b
  unfolding image state_length
  image_fits =
      length-append (joined (parts s.servers s.quota s b)) (drop (state_length s.servers s.quota) b)
      ∙ omega (arith, sized_length (sections s.servers s.quota) (parts s.servers s.quota s b) parts_sized, length-drop (state_length s.servers s.quota) b)

  -- The section k of an image.
  pub image_section : (k : ℕ) → k < section_count → section s.servers s.quota k (image s b) ≡ get_or (parts s.servers s.quota s b) k []
  unfolding section section_size offset sections
  image_section k l = laid_part (sections s.servers s.quota) (parts s.servers s.quota s b) (image s b) image_laid k l
