-- A pass, as the code makes it.
use Rattle.std.proofs.Common.{◌≡◌, ℕ, suc, ◌+◌, ◌-◌, ◌%◌, ◌^◌, ◌<◌, ◌≤◌, Bool, List, [], ◌++◌, length, take, drop, sym, refl, ap, ◌∙◌, append-nil, append_assoc, arith, length-append, length-drop, drop-drop, w64, Fits}
use Rattle.base.proofs.Over.{rest_whole}
use Rattle.replay_servers.specs.declared.Server.{Server}
use Rattle.replay_turns.specs.declared.Going.{Going}
use Rattle.replay_turns.specs.declared.Going.TheVariants.{On}
use Rattle.replay_turns.specs.declared.Turn.{Turn}
use Rattle.replay_lines.specs.Lines.{line_room}
use Rattle.replay_turns.specs.Turns.{Turned, Took, turn_of}
use Rattle.replay_turns.specs.Passes.{Progress, none, behind, next_event, pass_of, Passed}
use Rattle.replay_turns.proofs.PassLaws.{turn_feeds, turn_some, behind_behind, behind_none, from_full, from_end, pass_on}

-- What the turns so far have come to: the whole pass is what is left, behind them.
pub record Along (t : List Server) (n first : ℕ) (input : List ℕ) (ended : Bool) (room : ℕ) (o : List ℕ) (table : List Server) (event taken : ℕ)
    (out : List ℕ) : Type 0 where
  pub there : taken ≤ length input
  pub text : List ℕ
  pub lines : out ≡ o ++ text
  pub rest : pass_of t n first input ended room ≡ behind taken text (pass_of table n event (drop taken input) ended (room - length text))

pub along_starts : (t : List Server) (n first : ℕ) (input : List ℕ) (ended : Bool) (room : ℕ) (o : List ℕ) → Along t n first input ended room o t first 0 o
along_starts t n first input ended room o =
    let all : room ≡ room - 0 = omega arith in
    record {
      there = omega arith;
      text = [];
      lines = sym (append-nil o);
      rest = sym (behind_none (pass_of t n first input ended room)) ∙ ap (λ (m : ℕ). behind 0 [] (pass_of t n first input ended m)) all;
    }

module _ (t : List Server) (n first : ℕ) (input : List ℕ) (ended : Bool) (size : ℕ) (o : List ℕ) (table : List Server) (event taken : ℕ) (out : List ℕ)
    (a : Along t n first input ended (size - length o) o table event taken out) where
  room_left : size - length o - length a.text ≡ size - length out
  room_left = omega (arith, ap length a.lines, length-append o a.text)

  -- There is no room for another line.
  pub pass_full : (left : ℕ) → left + length out ≡ size → left < line_room
      → Passed (pass_of t n first input ended (size - length o)) table event (record { taken = taken; going = On }) o out
  unfolding pass_of behind none
  pass_full left f h =
      let full = a.rest ∙ ap (behind taken a.text)
      (from_full table n event (drop taken input) ended (size - length o - length a.text) (suc (length (drop taken input))) (omega (arith, room_left))) in
      record {
        table = sym (ap (λ (x : Progress). x.table) full);
        event = sym (ap (λ (x : Progress). x.event) full);
        taken = omega (arith, ap (λ (x : Progress). x.taken) full);
        going = sym (ap (λ (x : Progress). x.going) full);
        text = a.lines ∙ ap (λ (x : List ℕ). o ++ x) (sym (append-nil a.text) ∙ sym (ap (λ (x : Progress). x.text) full));
      }

  module _ (m : ℕ) (m-is : m ≡ n) (table₁ : List Server) (r : Turn) (out₁ : List ℕ)
      (h : Took (turn_of table m event (take (length input - taken) (drop taken input)) ended) table₁ r out out₁) where
    -- The turn of what is left of the input.
    abbrev next : Turned
    next = turn_of table n event (drop taken input) ended

    same : turn_of table m event (take (length input - taken) (drop taken input)) ended ≡ next
    same = λ i. turn_of table (m-is i) event (rest_whole input taken i) ended

    table_is : next.table ≡ table₁
    table_is = sym (h.table ∙ ap (λ (x : Turned). x.table) same)

    taken_is : next.taken ≡ r.taken
    taken_is = sym (h.taken ∙ ap (λ (x : Turned). x.taken) same)

    going_is : next.going ≡ r.going
    going_is = sym (h.going ∙ ap (λ (x : Turned). x.going) same)

    text_is : out₁ ≡ out ++ next.text
    text_is = h.text ∙ ap (λ (x : Turned). out ++ x.text) same

    along_taken : taken + r.taken ≤ length input
    along_taken =
        omega (arith, taken_is, a.there, (turn_feeds table n event (drop taken input) ended).there, length-drop taken input)

    pub along_fits : length input < 2 ^ 64 → Fits w64 (taken + r.taken)
    along_fits l = record { fits = omega (arith, along_taken) }

    pub along_less : r.going ≡ On → length input - (taken + r.taken) < length input - taken
    along_less g =
        omega (arith, along_taken, taken_is, turn_some table n event (drop taken input) ended (going_is ∙ g))

    lines_are : out₁ ≡ o ++ (a.text ++ next.text)
    lines_are = text_is ∙ ap (λ (x : List ℕ). x ++ next.text) a.lines ∙ append_assoc o a.text next.text

    module _ (later : ℕ) (later-is : later ≡ event) (left : ℕ) (is-left : left + length out ≡ size) (room : line_room ≤ left) where
      there_is : line_room ≤ size - length o - length a.text
      there_is = omega (arith, room_left)

      pub along_on : (event₁ : ℕ) → r.going ≡ On → event₁ ≡ (later + 1) % 2 ^ 64
          → Along t n first input ended (size - length o) o table₁ event₁ (taken + r.taken) out₁
      unfolding next_event
      along_on event₁ g e =
          let behind_it : drop next.taken (drop taken input) ≡ drop (taken + r.taken) input
          = drop-drop next.taken taken input ∙ ap (λ (m : ℕ). drop (taken + m) input) taken_is in
          let less : size - length o - length a.text - length next.text ≡ size - length o - length (a.text ++ next.text)
          = omega (arith, length-append a.text next.text) in
          let sum : taken + next.taken ≡ taken + r.taken = omega (arith, taken_is) in
          let number : event₁ ≡ (event + 1) % 2 ^ 64 = e ∙ ap (λ (k : ℕ). (k + 1) % 2 ^ 64) later-is in
          record {
            there = along_taken;
            text = a.text ++ next.text;
            lines = lines_are;
            rest =
                a.rest
                ∙ ap (behind taken a.text) (pass_on table n event (drop taken input) ended (size - length o - length a.text) there_is (going_is ∙ g))
                ∙ behind_behind taken next.taken a.text next.text
                (pass_of next.table n (next_event event) (drop next.taken (drop taken input)) ended (size - length o - length a.text - length next.text))
                ∙ (λ i. behind (sum i) (a.text ++ next.text) (pass_of (table_is i) n (sym number i) (behind_it i) ended (less i)));
          }

      pub pass_ends : (r.going ≡ On → ⊥)
          → Passed (pass_of t n first input ended (size - length o)) table₁ later (record { taken = taken + r.taken; going = r.going }) o out₁
      unfolding pass_of behind
      pass_ends off =
          let whole = a.rest ∙ ap (behind taken a.text)
          (from_end table n event (drop taken input) ended (size - length o - length a.text) (length (drop taken input)) there_is (λ q. off (sym going_is ∙ q))) in
          record {
            table = sym table_is ∙ sym (ap (λ (x : Progress). x.table) whole);
            event = later-is ∙ sym (ap (λ (x : Progress). x.event) whole);
            taken = omega (arith, taken_is, ap (λ (x : Progress). x.taken) whole);
            going = sym going_is ∙ sym (ap (λ (x : Progress). x.going) whole);
            text = lines_are ∙ ap (λ (x : List ℕ). o ++ x) (sym (ap (λ (x : Progress). x.text) whole));
          }
