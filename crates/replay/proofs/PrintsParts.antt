-- What the program prints of an input that comes in parts is what `replay` says.
use Prim.Native.Nat.{ℕ, zero, suc, ◌-◌, ◌≤◌}
use mathlib.Core.Path.{◌≡◌, refl, sym, ap, subst, ◌∙◌}
use mathlib.Core.Bool.{Bool, true, false}
use mathlib.Core.List.{List, [], ◌∷◌, ◌++◌, append_assoc, append-nil}
use mathlib.Core.Option.{some}
use native.Mathlib.Omega.{arith}
use lib.ListN.{length, take, drop, length-drop, length-map}
use Rattle.format.specs.Places.{setup_size}
use Rattle.replay_servers.specs.Core.{table_servers, table_quota}
use Rattle.base.specs.Tests.{◌<?◌, ◌=?◌, pick}
use Rattle.base.proofs.TestLaws.{pick_yes, pick_no, not_both, Known, holds, fails, known, lt_holds, lt_fails, eq_no, eq_holds, eq_fails}
use Rattle.base.specs.Bytes.{joined}
use Rattle.base.specs.Lists.{Each, below}
use Rattle.base.proofs.ListLaws.{below_length}
use Rattle.replication.specs.Images.{Images}
use Rattle.replication.specs.Replay.{header, setup_line, events, replay}
use Rattle.replay_servers.specs.declared.Server.{Server}
use Rattle.replay_servers.specs.Starting.{fresh_table}
use Rattle.format.specs.Types.{Reading, says, refused}
use Rattle.format.specs.Setup.{Setup, read_setup}
use Rattle.replay_turns.specs.declared.Going.TheVariants.{On, Read, Stop}
use Rattle.replay_lines.specs.Lines.{line_room}
use Rattle.replay_turns.specs.Turns.{Turned, turn_of}
use Rattle.replay_turns.specs.Passes.{Progress, next_event, pass_from, pass_of}
use Rattle.replay.specs.Parts.{part_from, part_of, asks_more, parts_from, printed_behind, printed_of, PrintsReplay}
use Rattle.replay_turns.proofs.Goings.{on_read, on_stop, read_stop, Goes, on, read, stop, goes}
use Rattle.replay_turns.proofs.PassLaws.{from_full, from_on, from_end}
use Rattle.replay.proofs.PartLaws.{part_on, part_end, part_fed, part_off}
use Rattle.replay.proofs.PrintsLaws.{prints_setup, prints_start, fresh}
use Rattle.replay.proofs.PrintsTurns.{Stands, Leads, Right, stops, leads, right_none, right_behind, has_event, waits, step_leads, turn_stops}

-- ---- passes

module _ (n : ℕ) (f : List ℕ) (ended : Bool) (last : ended ≡ true → f ≡ []) where
  abbrev Correct : List Images → (d event : ℕ) → List ℕ → Progress → Type 0
  Correct t d event p r = Right n f t d event p r

  turn_leads : (t : List Images) (s : List Server) (d event : ℕ) (p : List ℕ) → Stands n f t s d event p → (turn_of s n event p ended).going ≡ On
      → Leads n f t d event p
      (record {
        table = (turn_of s n event p ended).table;
        event = next_event event;
        taken = (turn_of s n event p ended).taken;
        text = (turn_of s n event p ended).text;
        going = (turn_of s n event p ended).going;
      })
  turn_leads t s d event p h =
      subst (λ (m : ℕ). (turn_of s m event p ended).going ≡ On
      → Leads m f t d event p
      (record {
        table = (turn_of s m event p ended).table;
        event = next_event event;
        taken = (turn_of s m event p ended).taken;
        text = (turn_of s m event p ended).text;
        going = (turn_of s m event p ended).going;
      })) h.count
      (λ g. step_leads f t s event p ended h.tabled d h.bound h.small (has_event s (length t) event p ended g))

  turn_ends : (t : List Images) (s : List Server) (d event : ℕ) (p : List ℕ) → Stands n f t s d event p → (turn_of s n event p ended).going ≡ Stop
      → events d event t (p ++ f) ≡ (turn_of s n event p ended).text
  turn_ends t s d event p h =
      subst (λ (m : ℕ). (turn_of s m event p ended).going ≡ Stop → events d event t (p ++ f) ≡ (turn_of s m event p ended).text) h.count
      (turn_stops f t s event p ended h.tabled d h.bound last)

  pass_right : (b : ℕ) (t : List Images) (s : List Server) (d event : ℕ) (p : List ℕ) (room : ℕ) → Stands n f t s d event p
      → Correct t d event p (pass_from b s n event p ended room)
  unfolding pass_from
  pass_right zero t s d event p room h = right_none n f t s d event p h
  pass_right (suc b) t s d event p room h =
      go (known (room <? line_room)) (goes (turn_of s n event p ended).going)
      (λ g. pass_right b (turn_leads t s d event p h g).servers (turn_of s n event p ended).table (turn_leads t s d event p h g).limit (next_event event)
      (drop (turn_of s n event p ended).taken p) (room - length (turn_of s n event p ended).text) (turn_leads t s d event p h g).stands)
    where
      r : Turned
      r = turn_of s n event p ended

      go : Known (room <? line_room) → Goes r.going
          → ((g : r.going ≡ On) → Correct (turn_leads t s d event p h g).servers (turn_leads t s d event p h g).limit (next_event event) (drop r.taken p)
          (pass_from b r.table n (next_event event) (drop r.taken p) ended (room - length r.text)))
          → Correct t d event p (pass_from (suc b) s n event p ended room)
      go (holds x) g later =
          subst (Correct t d event p) (sym (from_full s n event p ended room (suc b) (lt_holds room line_room x))) (right_none n f t s d event p h)
      go (fails x) (on g) later =
          let l = turn_leads t s d event p h g in
          subst (Correct t d event p) (sym (from_on s n event p ended room b (lt_fails room line_room x) g))
          (right_behind n f t l.servers d l.limit event (next_event event) r.taken p r.text _ l.prints (later g))
      go (fails x) (read g) later =
          let e : r ≡ record { table = s; taken = 0; text = []; going = Read } = waits s n event p ended g in
          subst (Correct t d event p) (sym (from_end s n event p ended room b (lt_fails room line_room x) (λ o. on_read r.going o g)))
          (subst (λ (y : Turned). Correct t d event p (record { table = y.table; event = event; taken = y.taken; text = y.text; going = y.going })) (sym e)
          (leads (λ q. read_stop Read refl q) (record { servers = t; limit = d; stands = h; prints = refl })))
      go (fails x) (stop g) later =
          subst (Correct t d event p) (sym (from_end s n event p ended room b (lt_fails room line_room x) (λ o. on_stop r.going o g)))
          (stops g (turn_ends t s d event p h g))

  pass_correct : (t : List Images) (s : List Server) (d event : ℕ) (p : List ℕ) (room : ℕ) → Stands n f t s d event p
      → Correct t d event p (pass_of s n event p ended room)
  unfolding pass_of
  pass_correct t s d event p room h = pass_right (suc (length p)) t s d event p room h

  -- ---- a part

  part_right : (b room : ℕ) (t : List Images) (s : List Server) (d event : ℕ) (p : List ℕ) → Stands n f t s d event p
      → Correct t d event p (part_from b room s n event p ended)
  unfolding part_from
  part_right zero room t s d event p h = right_none n f t s d event p h
  part_right (suc b) room t s d event p h =
      go (goes (pass_of s n event p ended room).going) whole
      (λ l. part_right b room l.servers (pass_of s n event p ended room).table l.limit (pass_of s n event p ended room).event
      (drop (pass_of s n event p ended room).taken p) l.stands)
    where
      r : Progress
      r = pass_of s n event p ended room

      whole : Correct t d event p r
      whole = pass_correct t s d event p room h

      Later : Type 0
      Later = (l : Leads n f t d event p r) → Correct l.servers l.limit r.event (drop r.taken p)
          (part_from b room r.table n r.event (drop r.taken p) ended)

      go : Goes r.going → Correct t d event p r → Later → Correct t d event p (part_from (suc b) room s n event p ended)
      go (on g) (stops q x) later = on_stop r.going g q
      go (on g) (leads q l) later =
          subst (Correct t d event p) (sym (part_on room s n event p ended b g))
          (right_behind n f t l.servers d l.limit event r.event r.taken p r.text _ l.prints (later l))
      go (read g) c later = subst (Correct t d event p) (sym (part_end room s n event p ended b (λ o. on_read r.going o g))) c
      go (stop g) c later = subst (Correct t d event p) (sym (part_end room s n event p ended b (λ o. on_stop r.going o g))) c

  pub part_correct : (room : ℕ) (t : List Images) (s : List Server) (d event : ℕ) (p : List ℕ) → Stands n f t s d event p
      → Correct t d event p (part_of room s n event p ended)
  unfolding part_of
  part_correct room t s d event p h = part_right (suc (length p)) room t s d event p h

-- ---- all parts

pub text_more : (w rest : List ℕ) (t : Bool) → t ≡ true → w ++ pick t rest [] ≡ w ++ rest
unfolding pick
text_more w rest t e = ap (λ (x : Bool). w ++ pick x rest []) e

pub text_last : (w rest : List ℕ) (t : Bool) → t ≡ false → w ++ pick t rest [] ≡ w
unfolding pick
text_last w rest t e = ap (λ (x : Bool). w ++ pick x rest []) e ∙ append-nil w

-- What a part prints, and the parts behind it where more is asked for.
abbrev and_more : Progress → List ℕ → List ℕ
and_more r rest = r.text ++ pick (asks_more r.going) rest []

stopped : (r : Progress) (rest : List ℕ) → r.going ≡ Stop → and_more r rest ≡ r.text
unfolding asks_more
stopped r rest g = text_last r.text rest (asks_more r.going) (ap asks_more g)

asked : (r : Progress) (rest : List ℕ) → r.going ≡ Read → and_more r rest ≡ r.text ++ rest
unfolding asks_more
asked r rest g = text_more r.text rest (asks_more r.going) (ap asks_more g)

module _ (n room : ℕ) (line : line_room ≤ room) where
  -- A part that is right, and after which the others are.
  joins : (t : List Images) (s : List Server) (d event : ℕ) (p f : List ℕ) (ended : Bool) (rest : List ℕ) → (ended ≡ true → f ≡ []) → Stands n f t s d event p
      → ((l : Leads n f t d event p (part_of room s n event p ended)) → ended ≡ false
      → rest ≡ events l.limit (part_of room s n event p ended).event l.servers (drop (part_of room s n event p ended).taken p ++ f))
      → and_more (part_of room s n event p ended) rest ≡ events d event t (p ++ f)
  joins t s d event p f ended rest last h later = go (goes r.going) (part_correct n f ended last room t s d event p h)
    where
      r : Progress
      r = part_of room s n event p ended

      go : Goes r.going → Right n f t d event p r → and_more r rest ≡ events d event t (p ++ f)
      go (on g) c = absurd (part_off room line s n event p ended g)
      go (read g) (stops q x) = read_stop r.going g q
      go (read g) (leads q l) =
          asked r rest g ∙ ap (λ (y : List ℕ). r.text ++ y) (later l ((part_fed room line s n event p ended).waits g)) ∙ sym l.prints
      go (stop g) (stops q x) = stopped r rest g ∙ sym x
      go (stop g) (leads q l) = absurd (q g)

  -- The bytes f come next.
  moved : (t : List Images) (s : List Server) (d event : ℕ) (p x f : List ℕ) → Stands n (x ++ f) t s d event p → Stands n f t s d event (p ++ x)
  moved t s d event p x f h =
      let same : (p ++ x) ++ f ≡ p ++ (x ++ f) = append_assoc p x f in
      record {
        tabled = h.tabled;
        count = h.count;
        bound = omega (arith, ap length same, h.bound);
        small = omega (arith, ap length same, h.small);
      }

  parts_print : (xs : List (List ℕ)) (t : List Images) (s : List Server) (d event : ℕ) (p : List ℕ) → Each (λ x. 1 ≤ length x) xs
      → Stands n (joined xs) t s d event p → parts_from room s n event p (xs ++ ([] ∷ [])) ≡ events d event t (p ++ joined xs)
  unfolding parts_from joined ◌=?◌
  parts_print [] t s d event p each h =
      joins t s d event (p ++ []) [] true [] (λ e. refl) (moved t s d event p [] [] h) (λ l e. not_both (sym e))
      ∙ ap (events d event t) (append_assoc p [] [])
  parts_print (x ∷ xs) t s d event p each h =
      joins t s d event (p ++ x) (joined xs) (length x =? 0) _ (λ e. not_both (sym (some) ∙ e)) (moved t s d event p x (joined xs) h)
      (λ l e. parts_print xs l.servers _ l.limit _ _ each.1 l.stands)
      ∙ ap (events d event t) (append_assoc p x (joined xs))
    where
      some : (length x =? 0) ≡ false
      some = eq_no (length x) 0 (λ e. absurd (omega (arith, each.0)))

-- ---- the whole input

pub prints_replay : PrintsReplay
unfolding PrintsReplay printed_of printed_behind
prints_replay room input parts line small each cut = go (read_setup table_servers table_quota (take setup_size input)) refl
  where
    go : (x : Reading Setup) → read_setup table_servers table_quota (take setup_size input) ≡ x
        → printed_behind room x (parts ++ ([] ∷ [])) ≡ replay table_servers table_quota input
    go (refused k) e = sym (prints_setup k input e)
    go (says s) e =
        let start = prints_start input s e in
        let many : length (fresh s.servers s.quota) ≡ s.servers = length-map (below s.servers) _ ∙ below_length s.servers in
        let rest : length (joined parts) ≡ length input - setup_size = ap length cut ∙ length-drop setup_size input in
        let h : Stands s.servers (joined parts) (fresh s.servers s.quota) (fresh_table s.servers s.quota) (length (drop setup_size input)) 1 []
        = record { tabled = start.1; count = many; bound = omega (arith, ap length cut); small = omega arith } in
        ap (λ (x : List ℕ). header ++ x)
        (parts_print s.servers room line parts (fresh s.servers s.quota) (fresh_table s.servers s.quota) (length (drop setup_size input)) 1 [] each h
        ∙ ap (events (length (drop setup_size input)) 1 (fresh s.servers s.quota)) cut)
        ∙ sym start.0
