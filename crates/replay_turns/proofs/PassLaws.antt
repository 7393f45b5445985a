-- Passes: what they take, and how the code makes them.
use Rattle.std.proofs.Common.{◌≡◌, ℕ, zero, suc, ◌+◌, ◌-◌, ◌<◌, ◌≤◌, Bool, false, List, [], ◌++◌, length, drop, sym, refl, ap, ◌∙◌, append_assoc, zero-add, arith, length-drop}
use Rattle.base.specs.Tests.{◌<?◌}
use Rattle.base.proofs.TestLaws.{pick_lt, pick_ge, Known, holds, fails, known, lt_holds, lt_fails}
use Rattle.base.specs.Bytes.{Bytes}
use Rattle.base.proofs.BytesLaws.{number_lt, bytes_drop}
use Rattle.replay_servers.specs.declared.Server.{Server}
use Rattle.replay_lines.specs.declared.input.Next.{Next}
use Rattle.replay_lines.specs.declared.input.Next.TheVariants.{Event, More, Done}
use Rattle.refusals.specs.declared.Refusal.{Refusal}
use Rattle.std.specs.Prelude.{Result, Ok, Err}
use Rattle.replay_turns.specs.declared.Going.{Going}
use Rattle.replay_turns.specs.declared.Going.TheVariants.{On, Read, Stop}
use Rattle.replay_lines.specs.Input.{next_of, event_room}
use Rattle.replay_lines.specs.Lines.{line_room}
use Rattle.replay_turns.specs.Turns.{Turned, turn_by, turn_of}
use Rattle.replay_turns.specs.Passes.{Progress, none, behind, after_turn, next_event, pass_from, pass_of}
use Rattle.replay_turns.proofs.Goings.{on_read, on_stop, read_stop, Goes, on, read, stop, goes, if_on_lem, if_off}
use Rattle.replay_lines.proofs.InputLaws.{Comes, whole, more, comes}

-- ---- what turns take

-- Turns that take k bytes of the input and then go on like this.
pub record Feeds (input : List ℕ) (ended : Bool) (g : Going) (k : ℕ) : Type 0 where
  pub there : k ≤ length input
  pub waits : g ≡ Read → ended ≡ false
  pub less : Bytes input → g ≡ Read → length input < k + event_room

pub feeds_behind : (input : List ℕ) (ended : Bool) (g : Going) (k j : ℕ) → k ≤ length input → Feeds (drop k input) ended g j → Feeds input ended g (k + j)
feeds_behind input ended g k j h f = record {
  there = omega (arith, f.there, length-drop k input);
  waits = f.waits;
  less = λ b e. omega (arith, f.less (bytes_drop k input b) e, length-drop k input);
}

module _ (t : List Server) (n event : ℕ) (input : List ℕ) (ended : Bool) where
  abbrev By : Result Next Refusal → Type 0
  By x = Feeds input ended (turn_by x t event input).going (turn_by x t event input).taken
      × ((turn_by x t event input).going ≡ On → 1 ≤ (turn_by x t event input).taken)

  feeds_by : (x : Result Next Refusal) → Comes n input ended x → By x
  unfolding turn_by
  feeds_by (Ok (Event m)) (whole j w) = (
    record { there = w.inside; waits = λ e. on_read On refl e; less = λ b e. on_read On refl e },
    λ e. omega arith,
  )
  feeds_by (Err k) c = (
    record { there = omega arith; waits = λ e. read_stop Stop e refl; less = λ b e. read_stop Stop e refl },
    λ e. on_stop Stop e refl,
  )
  feeds_by (Ok More) (more e l) = (
    record { there = omega arith; waits = λ g. e; less = λ b g. omega (arith, number_lt 2 input 1 b) },
    λ e. on_read Read e refl,
  )
  feeds_by (Ok Done) c = (
    record { there = omega arith; waits = λ e. read_stop Stop e refl; less = λ b e. read_stop Stop e refl },
    λ e. on_stop Stop e refl,
  )

  pub turn_feeds : Feeds input ended (turn_of t n event input ended).going (turn_of t n event input ended).taken
  unfolding turn_of
  turn_feeds = (feeds_by (next_of n input ended) (comes n input ended)).0

  pub turn_some : (turn_of t n event input ended).going ≡ On → 1 ≤ (turn_of t n event input ended).taken
  unfolding turn_of
  turn_some = (feeds_by (next_of n input ended) (comes n input ended)).1

-- ---- one pass

pub behind_behind : (k j : ℕ) (w v : List ℕ) (r : Progress) → behind k w (behind j v r) ≡ behind (k + j) (w ++ v) r
unfolding behind
behind_behind k j w v r =
    let sum : k + (j + r.taken) ≡ k + j + r.taken = omega arith in
    λ i. record { table = r.table; event = r.event; taken = sum i; text = sym (append_assoc w v r.text) i; going = r.going }

pub behind_none : (r : Progress) → behind 0 [] r ≡ r
unfolding behind
behind_none r = λ i. record { table = r.table; event = r.event; taken = zero-add r.taken i; text = r.text; going = r.going }

module _ (t : List Server) (n event : ℕ) (input : List ℕ) (ended : Bool) (room : ℕ) where
  abbrev pub turn : Turned
  turn = turn_of t n event input ended

  -- What comes after the turn, by a bound.
  abbrev rest : ℕ → Progress
  rest d = pass_from d turn.table n (next_event event) (drop turn.taken input) ended (room - length turn.text)

  abbrev alone : Progress
  alone = record { table = turn.table; event = event; taken = turn.taken; text = turn.text; going = turn.going }

  pub from_full : (d : ℕ) → room < line_room → pass_from d t n event input ended room ≡ none t event
  unfolding pass_from
  from_full zero h = refl
  from_full (suc d) h = sym (pick_lt room line_room (none t event) _ _ h refl)

  from_turn : (d : ℕ) → line_room ≤ room → pass_from (suc d) t n event input ended room ≡ after_turn turn event (rest d)
  unfolding pass_from
  from_turn d h = sym (pick_ge room line_room (after_turn turn event (rest d)) _ _ h refl)

  pub from_on : (d : ℕ) → line_room ≤ room → turn.going ≡ On
      → pass_from (suc d) t n event input ended room ≡ behind turn.taken turn.text (rest d)
  unfolding after_turn
  from_on d h g = from_turn d h ∙ if_on_lem turn.going (behind turn.taken turn.text (rest d)) alone g

  pub from_end : (d : ℕ) → line_room ≤ room → (turn.going ≡ On → ⊥) → pass_from (suc d) t n event input ended room ≡ alone
  unfolding after_turn
  from_end d h g = from_turn d h ∙ if_off turn.going (behind turn.taken turn.text (rest d)) alone g

-- Two bounds that are high enough give the same.
pub enough : (d e : ℕ) (t : List Server) (n event : ℕ) (input : List ℕ) (ended : Bool) (room : ℕ) → length input < d → length input < e
    → pass_from d t n event input ended room ≡ pass_from e t n event input ended room
enough zero e t n event input ended room h k = absurd (omega arith)
enough (suc d) zero t n event input ended room h k = absurd (omega arith)
enough (suc d) (suc e) t n event input ended room h k =
    go (known (room <? line_room)) (goes (turn t n event input ended room).going)
    (λ g. enough d e (turn_of t n event input ended).table n (next_event event) (drop (turn_of t n event input ended).taken input) ended
    (room - length (turn_of t n event input ended).text) (omega (arith, fewer g)) (omega (arith, fewer g)))
  where
    r : Turned
    r = turn_of t n event input ended

    fewer : r.going ≡ On → length (drop r.taken input) < length input
    fewer g = omega (arith, length-drop r.taken input, turn_some t n event input ended g, (turn_feeds t n event input ended).there)

    ends : line_room ≤ room → (r.going ≡ On → ⊥) → pass_from (suc d) t n event input ended room ≡ pass_from (suc e) t n event input ended room
    ends l o = from_end t n event input ended room d l o ∙ sym (from_end t n event input ended room e l o)

    go : Known (room <? line_room) → Goes r.going
        → (r.going ≡ On → rest t n event input ended room d ≡ rest t n event input ended room e)
        → pass_from (suc d) t n event input ended room ≡ pass_from (suc e) t n event input ended room
    go (holds b) g same =
        from_full t n event input ended room (suc d) (lt_holds room line_room b) ∙ sym (from_full t n event input ended room (suc e) (lt_holds room line_room b))
    go (fails b) (on g) same =
        from_on t n event input ended room d (lt_fails room line_room b) g
        ∙ ap (behind r.taken r.text) (same g)
        ∙ sym (from_on t n event input ended room e (lt_fails room line_room b) g)
    go (fails b) (read g) same = ends (lt_fails room line_room b) (λ o. on_read r.going o g)
    go (fails b) (stop g) same = ends (lt_fails room line_room b) (λ o. on_stop r.going o g)

-- A pass is a turn and another pass.
pub pass_on : (t : List Server) (n event : ℕ) (input : List ℕ) (ended : Bool) (room : ℕ) → line_room ≤ room
    → (turn_of t n event input ended).going ≡ On
    → pass_of t n event input ended room
    ≡ behind (turn_of t n event input ended).taken (turn_of t n event input ended).text
    (pass_of (turn_of t n event input ended).table n (next_event event) (drop (turn_of t n event input ended).taken input) ended
    (room - length (turn_of t n event input ended).text))
unfolding pass_of
pass_on t n event input ended room h g =
    from_on t n event input ended room (length input) h g
    ∙ ap (behind r.taken r.text)
    (enough (length input) (suc (length (drop r.taken input))) r.table n (next_event event) (drop r.taken input) ended
    (room - length r.text) fewer (omega arith))
  where
    r : Turned
    r = turn_of t n event input ended

    fewer : length (drop r.taken input) < length input
    fewer = omega (arith, length-drop r.taken input, turn_some t n event input ended g, (turn_feeds t n event input ended).there)
