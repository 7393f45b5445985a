-- The passes of a part of the input, as the code makes them.
use Rattle.std.proofs.Common.{◌≡◌, ℕ, ◌+◌, ◌-◌, ◌^◌, ◌≤◌, ◌<◌, Bool, List, [], length, get_or, take, drop, refl, sym, ap, ◌∙◌, arith, length-drop, drop-drop, w8, w64, Fits}
use Rattle.std.specs.Prelude.{Option, Some, None}
use Rattle.base.specs.Tests.{pick}
use Rattle.base.proofs.BytesLaws.{given_bytes_lem}
use Rattle.base.proofs.Over.{rest_whole}
use Rattle.replay_servers.specs.declared.Server.{Server}
use Rattle.replay_turns.specs.declared.Going.{Going}
use Rattle.replay_turns.specs.declared.Going.TheVariants.{On, Read, Stop}
use Rattle.replay_turns.specs.declared.Turn.{Turn}
use Rattle.replay.specs.Reading.{lines_room, Fed}
use Rattle.replay_turns.specs.Passes.{Progress, behind, pass_of, Passed}
use Rattle.replay.specs.Parts.{part_of, asks_more, left_of, Printed}
use Rattle.replay_turns.proofs.Goings.{on_read, on_stop}
use Rattle.replay_turns.proofs.PassLaws.{behind_none}
use Rattle.replay.proofs.PartLaws.{pass_fed, pass_some, part_next, part_last, fed}

-- The lines are written, and not looked at any more.
abbrev bare : Progress → Progress
bare r = record { table = r.table; event = r.event; taken = r.taken; text = []; going = r.going }

-- What the passes so far have come to: all are what is left, behind them.
pub record Printing (t : List Server) (n first : ℕ) (input : List ℕ) (ended : Bool) (table : List Server) (event taken : ℕ) : Type 0 where
  pub there : taken ≤ length input
  pub rest : bare (part_of lines_room t n first input ended) ≡ bare (behind taken [] (part_of lines_room table n event (drop taken input) ended))

pub printing_starts : (t : List Server) (n first : ℕ) (input : List ℕ) (ended : Bool) → Printing t n first input ended t first 0
printing_starts t n first input ended = record {
  there = omega arith;
  rest = ap bare (sym (behind_none (part_of lines_room t n first input ended)));
}

bare_behind : (k j : ℕ) (w : List ℕ) (r : Progress) → bare (behind k [] (behind j w r)) ≡ bare (behind (k + j) [] r)
unfolding behind
bare_behind k j w r =
    let sum : k + (j + r.taken) ≡ k + j + r.taken = omega arith in
    λ i. record { table = r.table; event = r.event; taken = sum i; text = []; going = r.going }

module _ (t : List Server) (n first : ℕ) (input : List ℕ) (ended : Bool) (table : List Server) (event taken : ℕ)
    (a : Printing t n first input ended table event taken) (m : ℕ) (m-is : m ≡ n) (table₁ : List Server) (event₁ : ℕ) (r : Turn) (o o₁ : List ℕ) (clear : o ≡ [])
    (h : Passed (pass_of table m event (take (length input - taken) (drop taken input)) ended (lines_room - length o)) table₁ event₁ r o o₁) where
  -- The pass over what is left of the input.
  abbrev next : Progress
  next = pass_of table n event (drop taken input) ended lines_room

  same : pass_of table m event (take (length input - taken) (drop taken input)) ended (lines_room - length o) ≡ next
  same =
      let room : lines_room - length o ≡ lines_room = omega (arith, ap length clear) in
      λ i. pass_of table (m-is i) event (rest_whole input taken i) ended (room i)

  table_is : next.table ≡ table₁
  table_is = sym (h.table ∙ ap (λ (x : Progress). x.table) same)

  event_is : next.event ≡ event₁
  event_is = sym (h.event ∙ ap (λ (x : Progress). x.event) same)

  taken_is : next.taken ≡ r.taken
  taken_is = sym (h.taken ∙ ap (λ (x : Progress). x.taken) same)

  going_is : next.going ≡ r.going
  going_is = sym (h.going ∙ ap (λ (x : Progress). x.going) same)

  printing_taken : taken + r.taken ≤ length input
  printing_taken =
      omega (arith, taken_is, a.there, (pass_fed table n event (drop taken input) ended lines_room).there, length-drop taken input)

  pub printing_fits : length input < 2 ^ 64 → Fits w64 (taken + r.taken)
  printing_fits l = record { fits = omega (arith, printing_taken) }

  pub printing_less : r.going ≡ On → length input - (taken + r.taken) < length input - taken
  printing_less g =
      omega (arith, printing_taken, taken_is, pass_some table n event (drop taken input) ended lines_room (omega arith) (going_is ∙ g))

  pub printing_on : r.going ≡ On → Printing t n first input ended table₁ event₁ (taken + r.taken)
  printing_on g =
      let left : drop next.taken (drop taken input) ≡ drop (taken + r.taken) input
      = drop-drop next.taken taken input ∙ ap (λ (m : ℕ). drop (taken + m) input) taken_is in
      record {
        there = printing_taken;
        rest =
            a.rest
            ∙ ap (λ (x : Progress). bare (behind taken [] x))
            (part_next lines_room (omega arith) table n event (drop taken input) ended (going_is ∙ g))
            ∙ bare_behind taken next.taken next.text (part_of lines_room next.table n next.event (drop next.taken (drop taken input)) ended)
            ∙ (λ i. bare (behind (taken + taken_is i) [] (part_of lines_room (table_is i) n (event_is i) (left i) ended)));
      }

  ends : (g : Going) → r.going ≡ g → (g ≡ On → ⊥)
      → bare (part_of lines_room t n first input ended) ≡ record { table = table₁; event = event₁; taken = taken + r.taken; text = []; going = g }
  unfolding behind
  ends g e off =
      let last : ◌≡◌ {A = Progress} (bare (behind taken [] next))
      (record { table = table₁; event = event₁; taken = taken + r.taken; text = []; going = g })
      = λ i. record { table = table_is i; event = event_is i; taken = taken + taken_is i; text = []; going = (going_is ∙ e) i } in
      a.rest
      ∙ ap (λ (x : Progress). bare (behind taken [] x))
      (part_last lines_room (omega arith) table n event (drop taken input) ended (λ q. off (sym (going_is ∙ e) ∙ q)))
      ∙ last

  printed : (g : Going) → r.going ≡ g → (g ≡ On → ⊥)
      → Printed (part_of lines_room t n first input ended) table₁ event₁ (pick (asks_more g) (Some (taken + r.taken)) None)
  unfolding left_of
  printed g e off =
      let whole = sym (ends g e off) in
      record {
        table = ap (λ (x : Progress). x.table) whole;
        event = ap (λ (x : Progress). x.event) whole;
        left = ap left_of whole;
      }

  pub part_reads : r.going ≡ Read → Printed (part_of lines_room t n first input ended) table₁ event₁ (Some (taken + r.taken))
  unfolding asks_more pick
  part_reads g = printed Read g (λ q. on_read Read q refl)

  pub part_stops : r.going ≡ Stop → Printed (part_of lines_room t n first input ended) table₁ event₁ None
  unfolding asks_more pick
  part_stops g = printed Stop g (λ q. on_stop Stop q refl)

  module _ (b : (i : ℕ) → Fits w8 (get_or input i 0)) where
    pub reads_fed : r.going ≡ Read → Fed (Some (taken + r.taken)) input
    reads_fed g = fed t n first input ended (Some (taken + r.taken)) (part_reads g).left (given_bytes_lem input b)
