-- All passes of one part of the input: what they take, and how the code makes them.
use Prim.Native.Nat.{ℕ, zero, suc, ◌+◌, ◌-◌, ◌≤◌, ◌<◌}
use mathlib.Core.Path.{◌≡◌, refl, sym, ap, subst, ◌∙◌}
use mathlib.Core.Bool.{Bool, true, false}
use Rattle.std.specs.Prelude.{Option, Some, None}
use mathlib.Core.List.{List}
use native.Mathlib.Omega.{arith}
use lib.ListN.{length, drop, length-drop}
use Rattle.base.specs.Tests.{◌<?◌, pick}
use Rattle.base.proofs.TestLaws.{not_both, Known, holds, fails, known, lt_holds, lt_fails}
use Rattle.base.specs.Bytes.{Bytes}
use Rattle.replay_servers.specs.declared.Server.{Server}
use Rattle.replay_turns.specs.declared.Going.{Going}
use Rattle.replay_turns.specs.declared.Going.TheVariants.{On, Read, Stop}
use Rattle.replay_lines.specs.Input.{event_room}
use Rattle.replay_lines.specs.Lines.{line_room}
use Rattle.replay.specs.Reading.{lines_room, Fed}
use Rattle.replay_turns.specs.Turns.{Turned, turn_of}
use Rattle.replay_turns.specs.Passes.{Progress, none, behind, next_event, pass_from, pass_of}
use Rattle.replay.specs.Parts.{part_from, part_of, asks_more, left_of}
use Rattle.replay_turns.proofs.Goings.{on_read, on_stop, Goes, on, read, stop, goes, if_on_lem, if_off}
use Rattle.replay_turns.proofs.PassLaws.{Feeds, feeds_behind, turn_feeds, turn_some, from_full, from_on, from_end}

-- ---- what a pass takes

abbrev Eats : List ℕ → Bool → Progress → Type 0
Eats input ended r = Feeds input ended r.going r.taken

eats_none : (t : List Server) (event : ℕ) (input : List ℕ) (ended : Bool) → Eats input ended (none t event)
unfolding none
eats_none t event input ended = record { there = omega arith; waits = λ e. on_read On refl e; less = λ b e. on_read On refl e }

eats_behind : (input : List ℕ) (ended : Bool) (k : ℕ) (w : List ℕ) (r : Progress) → k ≤ length input → Eats (drop k input) ended r
    → Eats input ended (behind k w r)
unfolding behind
eats_behind input ended k w r h f = feeds_behind input ended r.going k r.taken h f

pass_eats : (d : ℕ) (t : List Server) (n event : ℕ) (input : List ℕ) (ended : Bool) (room : ℕ) → Eats input ended (pass_from d t n event input ended room)
unfolding pass_from
pass_eats zero t n event input ended room = eats_none t event input ended
pass_eats (suc d) t n event input ended room =
    go (known (room <? line_room)) (goes r.going)
    (pass_eats d (turn_of t n event input ended).table n (next_event event) (drop (turn_of t n event input ended).taken input) ended
    (room - length (turn_of t n event input ended).text))
  where
    r : Turned
    r = turn_of t n event input ended

    fed : Feeds input ended r.going r.taken
    fed = turn_feeds t n event input ended

    ends : line_room ≤ room → (r.going ≡ On → ⊥) → Eats input ended (pass_from (suc d) t n event input ended room)
    ends l o = subst (Eats input ended) (sym (from_end t n event input ended room d l o)) fed

    go : Known (room <? line_room) → Goes r.going
        → Eats (drop r.taken input) ended
        (pass_from d r.table n (next_event event) (drop r.taken input) ended (room - length r.text))
        → Eats input ended (pass_from (suc d) t n event input ended room)
    go (holds b) g f =
        subst (Eats input ended) (sym (from_full t n event input ended room (suc d) (lt_holds room line_room b))) (eats_none t event input ended)
    go (fails b) (on g) f =
        subst (Eats input ended) (sym (from_on t n event input ended room d (lt_fails room line_room b) g))
        (eats_behind input ended r.taken r.text _ fed.there f)
    go (fails b) (read g) f = ends (lt_fails room line_room b) (λ o. on_read r.going o g)
    go (fails b) (stop g) f = ends (lt_fails room line_room b) (λ o. on_stop r.going o g)

module _ (t : List Server) (n event : ℕ) (input : List ℕ) (ended : Bool) (room : ℕ) where
  abbrev pass : Progress
  pass = pass_of t n event input ended room

  pub pass_fed : Eats input ended pass
  unfolding pass_of
  pass_fed = pass_eats (suc (length input)) t n event input ended room

  -- A pass that stops for lack of room has taken something, if there is room for one line.
  pub pass_some : line_room ≤ room → pass.going ≡ On → 1 ≤ pass.taken
  unfolding pass_of behind
  pass_some h = go (goes r.going)
    where
      r : Turned
      r = turn_of t n event input ended

      none_on : (r.going ≡ On → ⊥) → (pass_from (suc (length input)) t n event input ended room).going ≡ On
          → 1 ≤ (pass_from (suc (length input)) t n event input ended room).taken
      none_on o e = absurd (o (sym (ap (λ (x : Progress). x.going) (from_end t n event input ended room (length input) h o)) ∙ e))

      go : Goes r.going → (pass_from (suc (length input)) t n event input ended room).going ≡ On
          → 1 ≤ (pass_from (suc (length input)) t n event input ended room).taken
      go (on g) e =
          omega (arith, ap (λ (x : Progress). x.taken) (from_on t n event input ended room (length input) h g), turn_some t n event input ended g)
      go (read g) e = none_on (λ o. on_read r.going o g) e
      go (stop g) e = none_on (λ o. on_stop r.going o g) e

-- ---- all passes of a part

off_behind : (k : ℕ) (w : List ℕ) (r : Progress) → (r.going ≡ On → ⊥) → (behind k w r).going ≡ On → ⊥
unfolding behind
off_behind k w r o e = o e

module _ (room : ℕ) (t : List Server) (n event : ℕ) (input : List ℕ) (ended : Bool) where
  abbrev first : Progress
  first = pass_of t n event input ended room

  -- What comes after the first pass, by a bound.
  abbrev others : ℕ → Progress
  others d = part_from d room first.table n first.event (drop first.taken input) ended

  pub part_on : (d : ℕ) → first.going ≡ On → part_from (suc d) room t n event input ended ≡ behind first.taken first.text (others d)
  unfolding part_from
  part_on d g = if_on_lem first.going (behind first.taken first.text (others d)) first g

  pub part_end : (d : ℕ) → (first.going ≡ On → ⊥) → part_from (suc d) room t n event input ended ≡ first
  unfolding part_from
  part_end d o = if_off first.going (behind first.taken first.text (others d)) first o

  fewer : line_room ≤ room → first.going ≡ On → length (drop first.taken input) < length input
  fewer h g =
      omega (arith, length-drop first.taken input, pass_some t n event input ended room h g, (pass_fed t n event input ended room).there)

module _ (room : ℕ) (line : line_room ≤ room) where
  -- Two bounds that are high enough give the same.
  same_part : (d e : ℕ) (t : List Server) (n event : ℕ) (input : List ℕ) (ended : Bool) → length input < d → length input < e
      → part_from d room t n event input ended ≡ part_from e room t n event input ended
  same_part zero e t n event input ended h k = absurd (omega arith)
  same_part (suc d) zero t n event input ended h k = absurd (omega arith)
  same_part (suc d) (suc e) t n event input ended h k =
      go (goes r.going)
      (λ g. same_part d e (pass_of t n event input ended room).table n (pass_of t n event input ended room).event
      (drop (pass_of t n event input ended room).taken input) ended (omega (arith, fewer room t n event input ended line g))
      (omega (arith, fewer room t n event input ended line g)))
    where
      r : Progress
      r = pass_of t n event input ended room

      ends : (r.going ≡ On → ⊥) → part_from (suc d) room t n event input ended ≡ part_from (suc e) room t n event input ended
      ends o = part_end room t n event input ended d o ∙ sym (part_end room t n event input ended e o)

      go : Goes r.going → (r.going ≡ On → others room t n event input ended d ≡ others room t n event input ended e)
          → part_from (suc d) room t n event input ended ≡ part_from (suc e) room t n event input ended
      go (on g) same =
          part_on room t n event input ended d g ∙ ap (behind r.taken r.text) (same g) ∙ sym (part_on room t n event input ended e g)
      go (read g) same = ends (λ o. on_read r.going o g)
      go (stop g) same = ends (λ o. on_stop r.going o g)

  -- What they take; and there is room for all lines.
  part_eats : (d : ℕ) (t : List Server) (n event : ℕ) (input : List ℕ) (ended : Bool) → length input < d
      → Eats input ended (part_from d room t n event input ended) × ((part_from d room t n event input ended).going ≡ On → ⊥)
  part_eats zero t n event input ended h = absurd (omega arith)
  part_eats (suc d) t n event input ended h =
      go (goes r.going)
      (λ g. part_eats d (pass_of t n event input ended room).table n (pass_of t n event input ended room).event
      (drop (pass_of t n event input ended room).taken input) ended (omega (arith, fewer room t n event input ended line g)))
    where
      r : Progress
      r = pass_of t n event input ended room

      P : List ℕ → Progress → Type 0
      P x p = Eats x ended p × (p.going ≡ On → ⊥)

      ends : (r.going ≡ On → ⊥) → P input (part_from (suc d) room t n event input ended)
      ends o = subst (P input) (sym (part_end room t n event input ended d o)) (pass_fed t n event input ended room, o)

      later : (w : List ℕ) (p : Progress) → P (drop r.taken input) p → P input (behind r.taken w p)
      later w p f = (eats_behind input ended r.taken w p (pass_fed t n event input ended room).there f.0, off_behind r.taken w p f.1)

      go : Goes r.going → (r.going ≡ On → P (drop r.taken input) (others room t n event input ended d))
          → P input (part_from (suc d) room t n event input ended)
      go (on g) f = subst (P input) (sym (part_on room t n event input ended d g)) (later r.text (others room t n event input ended d) (f g))
      go (read g) f = ends (λ o. on_read r.going o g)
      go (stop g) f = ends (λ o. on_stop r.going o g)

  module _ (t : List Server) (n event : ℕ) (input : List ℕ) (ended : Bool) where
    abbrev part : Progress
    part = part_of room t n event input ended

    pub part_fed : Eats input ended part
    unfolding part_of
    part_fed = (part_eats (suc (length input)) t n event input ended (omega arith)).0

    pub part_off : part.going ≡ On → ⊥
    unfolding part_of
    part_off = (part_eats (suc (length input)) t n event input ended (omega arith)).1

    -- The passes of a part are one pass and those of what it leaves.
    pub part_next : (pass_of t n event input ended room).going ≡ On
        → part
        ≡ behind (pass_of t n event input ended room).taken (pass_of t n event input ended room).text
        (part_of room (pass_of t n event input ended room).table n (pass_of t n event input ended room).event
        (drop (pass_of t n event input ended room).taken input) ended)
    unfolding part_of
    part_next g =
        part_on room t n event input ended (length input) g
        ∙ ap (behind p.taken p.text)
        (same_part (length input) (suc (length (drop p.taken input))) p.table n p.event (drop p.taken input) ended
        (fewer room t n event input ended line g) (omega arith))
      where
        p : Progress
        p = pass_of t n event input ended room

    pub part_last : ((pass_of t n event input ended room).going ≡ On → ⊥) → part ≡ pass_of t n event input ended room
    unfolding part_of
    part_last o = part_end room t n event input ended (length input) o

more_read : (g : Going) → asks_more g ≡ true → g ≡ Read
unfolding asks_more
more_read On e = not_both e
more_read Read e = refl
more_read Stop e = not_both e

abbrev value : Option ℕ → ℕ
value (Some k) = k
value None = 0

abbrev is_some : Option ℕ → Bool
is_some (Some k) = true
is_some None = false

-- What an answer says of whether more is asked for.
asked_at : (b : Bool) (k j : ℕ) → Some k ≡ pick b (Some j) None → (b ≡ true) × (k ≡ j)
unfolding pick
asked_at true k j e = (refl, ap value e)
asked_at false k j e = not_both (sym (ap is_some e))

pub asked : (w : Progress) (k : ℕ) → Some k ≡ left_of w → (asks_more w.going ≡ true) × (k ≡ w.taken)
unfolding left_of
asked w k e = asked_at (asks_more w.going) k w.taken e

none_at : (b : Bool) (j : ℕ) → None ≡ pick b (Some j) None → b ≡ false
unfolding pick
none_at true j e = not_both (ap is_some e)
none_at false j e = refl

pub not_asked : (w : Progress) → None ≡ left_of w → asks_more w.going ≡ false
unfolding left_of
not_asked w e = none_at (asks_more w.going) w.taken e

pub fed : (t : List Server) (n event : ℕ) (input : List ℕ) (ended : Bool) (r : Option ℕ)
    → r ≡ left_of (part_of lines_room t n event input ended) → Bytes input → Fed r input
fed t n event input ended None e b = tt
fed t n event input ended (Some k) e b =
    let p : Progress = part_of lines_room t n event input ended in
    let f : Feeds input ended p.going p.taken = part_fed lines_room (omega arith) t n event input ended in
    let a = asked p k e in
    let less : length input < p.taken + event_room = f.less b (more_read p.going a.0) in
    (omega (arith, f.there, a.1), omega (arith, less, a.1))
