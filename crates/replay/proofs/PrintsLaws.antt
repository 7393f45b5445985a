-- What the turns print is what `replay` says.
use Prim.Native.Nat.{ℕ, suc, ◌+◌, ◌≤◌, ◌<◌}
use mathlib.Core.Path.{◌≡◌, refl, sym, ap, subst, ◌∙◌}
use mathlib.Core.Bool.{Bool, true, false}
use mathlib.Core.List.{List, [], ◌∷◌, ◌++◌, append-nil, map}
use native.Mathlib.Omega.{arith}
use lib.ListN.{length, get_or, take, drop, length-append}
use lib.Seq.{take-append-le, drop-append-le}
use Rattle.format.specs.Places.{setup_size}
use Rattle.replay_servers.specs.Core.{table_servers, table_quota}
use Rattle.base.specs.Tests.{◌<?◌, ◌≤?◌}
use Rattle.base.proofs.TestLaws.{lt_yes, lt_no, le_yes, le_no, le_holds, and_holds, not_both, pick_as}
use Rattle.base.specs.Bytes.{number_at, part_at}
use Rattle.base.proofs.BytesLaws.{number_drop, number_front}
use Rattle.base.specs.Lists.{at, below}
use Rattle.format.specs.Types.{Reading, says, refused}
use Rattle.format.specs.Setup.{Setup, setup_in, setup_frame_ok, setup_ok, read_setup}
use Rattle.replication.specs.Machine.Types.{start}
use Rattle.replication.specs.Images.{Images, started}
use Rattle.replication.specs.Replay.{header, input_line, setup_line, record_length, table_after, line_for, events, after_setup, replay}
use Rattle.replay_servers.specs.declared.Server as declared
use Rattle.replay_servers.specs.Starting.{fresh_table}
use Rattle.replay_servers.specs.Table.{altered}
use Rattle.replay_servers.proofs.Tabled.{Tabled, fresh_tabled}
use Rattle.replay_lines.specs.declared.input.Next.{Next}
use Rattle.replay_lines.specs.declared.input.Next.TheVariants.{Event, More, Done}
use Rattle.refusals.specs.declared.Refusal.{Refusal}
use Rattle.refusals.specs.Numbers.{refusal_number}
use Rattle.std.specs.Prelude.{Result, Ok, Err}
use Rattle.replay_turns.specs.declared.Going.TheVariants.{On, Read, Stop}
use Rattle.replay_lines.specs.Input.{next_of}
use Rattle.replay_turns.specs.Turns.{line_at, Turned, turn_by, turn_of}
use Rattle.replay_turns.proofs.Goings.{on_stop, read_stop}
use Rattle.replay_lines.proofs.InputLaws.{Whole, whole_event, Comes, wrong, cut, done, comes}
use Rattle.replay.proofs.ShownLaws.{line_shown, table_shown}

-- ---- the input

abbrev chosen : (server whole : Bool) → List ℕ → List ℕ
chosen server whole y = elim server [ false ↦ input_line 2 | true ↦ elim whole [ false ↦ input_line 1 | true ↦ y ] ]

module _ (d event : ℕ) (t : List Images) (k : ℕ) (x : List ℕ) where
  -- The line of the event in front, and the lines of those behind it.
  abbrev lines : List ℕ
  lines = line_for event k (take (record_length x) x) (at t k) ++ events d (event + 1) (table_after k (take (record_length x) x) (at t k) t)
      (drop (record_length x) x)

  opened : events (suc d) event t (k ∷ x) ≡ chosen (k <? length t) (record_length x ≤? length x) lines
  unfolding events
  opened = refl

  events_whole : k < length t → record_length x ≤ length x → events (suc d) event t (k ∷ x) ≡ lines
  events_whole h l = opened ∙ (λ i. chosen (lt_yes k (length t) h i) (le_yes (record_length x) (length x) l i) lines)

  events_cut : k < length t → length x < record_length x → events (suc d) event t (k ∷ x) ≡ input_line 1
  events_cut h l = opened ∙ (λ i. chosen (lt_yes k (length t) h i) (le_no (record_length x) (length x) l i) lines)

  events_wrong : length t ≤ k → events (suc d) event t (k ∷ x) ≡ input_line 2
  events_wrong h = opened ∙ (λ i. chosen (lt_no k (length t) h i) (record_length x ≤? length x) lines)

number_behind_one : (k : ℕ) (rest : List ℕ) → number_at 2 (k ∷ rest) 1 ≡ number_at 2 rest 0
number_behind_one k rest = sym (number_drop 2 (k ∷ rest) 1 0)

-- A whole event, and more behind it.
size_read : (n m k : ℕ) (rest more : List ℕ) → Whole n m (k ∷ rest) → record_length (rest ++ more) ≡ m
unfolding record_length
size_read n m k rest more w =
    omega (arith, w.size_is, w.inside, number_behind_one k rest, number_front 2 rest more 0 (omega (arith, w.size_is, w.inside)))

-- ---- turns

module _ (t : List Images) (s : List declared.Server) (r : Tabled t s) (event : ℕ) (ended : Bool) where
  abbrev next : List ℕ → Result Next Refusal
  next p = next_of (length t) p ended

  abbrev turn : List ℕ → Turned
  turn p = turn_of s (length t) event p ended

  -- The servers after the event of m bytes in front of p.
  abbrev after : ℕ → List ℕ → List Images
  after m p = table_after (get_or p 0 0) (part_at m p 1) (at t (get_or p 0 0)) t

  text_on : (m : ℕ) (p : List ℕ) → next p ≡ Ok (Event m) → (turn p).text ≡ line_at s event (get_or p 0 0) (part_at m p 1)
  unfolding turn_of turn_by
  text_on m p e = ap (λ (x : Result Next Refusal). (turn_by x s event p).text) e

  table_on : (m : ℕ) (p : List ℕ) → next p ≡ Ok (Event m) → (turn p).table ≡ altered s (get_or p 0 0) (part_at m p 1)
  unfolding turn_of turn_by
  table_on m p e = ap (λ (x : Result Next Refusal). (turn_by x s event p).table) e

  -- A turn with an event prints its line, whatever comes behind it ..
  pub prints_event : (d m : ℕ) (p f : List ℕ) → next p ≡ Ok (Event m)
      → events (suc d) event t (p ++ f) ≡ (turn p).text ++ events d (event + 1) (after m p) (drop (m + 1) p ++ f)
  unfolding part_at
  prints_event d m [] f e = absurd (omega (arith, (whole_event (length t) [] ended m e).inside))
  prints_event d m (k ∷ rest) f e =
      let w = whole_event (length t) (k ∷ rest) ended m e in
      let size : record_length (rest ++ f) ≡ m = size_read (length t) m k rest f w in
      let inside : m ≤ length rest = omega (arith, w.inside) in
      let long : record_length (rest ++ f) ≤ length (rest ++ f) = omega (arith, length-append rest f) in
      let front : take (record_length (rest ++ f)) (rest ++ f) ≡ take m rest = ap (λ (x : ℕ). take x (rest ++ f)) size
      ∙ take-append-le m rest f inside in
      let behind : drop (record_length (rest ++ f)) (rest ++ f) ≡ drop m rest ++ f = ap (λ (x : ℕ). drop x (rest ++ f)) size
      ∙ drop-append-le m rest f inside in
      let place : m + 1 ≡ suc m = omega arith in
      events_whole d event t k (rest ++ f) w.server long
      ∙ (λ i. line_for event k (front i) (at t k) ++ events d (event + 1) (table_after k (front i) (at t k) t) (behind i))
      ∙ ap (λ (x : List ℕ). x ++ events d (event + 1) (table_after k (take m rest) (at t k) t) (drop m rest ++ f))
      (sym (text_on m (k ∷ rest) e ∙ line_shown t s r event k (take m rest) w.server))
      ∙ ap (λ (x : ℕ). (turn (k ∷ rest)).text ++ events d (event + 1) (after m (k ∷ rest)) (drop x (k ∷ rest) ++ f)) (sym place)

  -- .. and leaves a table that keeps what the servers then have.
  pub keeps_event : (m : ℕ) (p : List ℕ) → next p ≡ Ok (Event m) → Tabled (after m p) (turn p).table
  keeps_event m p e =
      subst (Tabled (after m p)) (sym (table_on m p e))
      (table_shown t s r (get_or p 0 0) (part_at m p 1) (whole_event (length t) p ended m e).server)

  module _ (d : ℕ) (f : List ℕ) (last : ended ≡ true → f ≡ []) where
    -- The input is cut short by its end.
    cut_prints : (q : ℕ) (rest : List ℕ) → q < length t → length rest < record_length rest → ended ≡ true
        → events (suc d) event t ((q ∷ rest) ++ f) ≡ input_line 1
    cut_prints q rest h l e =
        ap (λ (y : List ℕ). events (suc d) event t (q ∷ (rest ++ y))) (last e)
        ∙ ap (λ (y : List ℕ). events (suc d) event t (q ∷ y)) (append-nil rest)
        ∙ events_cut d event t q rest h l

    wrong_prints : (p : List ℕ) (k : Refusal) → Comes (length t) p ended (Err k) → events (suc d) event t (p ++ f) ≡ input_line (refusal_number k)
    unfolding record_length
    wrong_prints [] k (wrong there h) = absurd (omega arith)
    wrong_prints [] k (cut end there h l) = absurd (omega arith)
    wrong_prints (q ∷ rest) k (wrong there h) = events_wrong d event t q (rest ++ f) h
    wrong_prints (q ∷ rest) k (cut end there h l) = cut_prints q rest h (omega (arith, number_behind_one q rest)) end

    none_prints : (p : List ℕ) → Comes (length t) p ended (Ok Done) → events (suc d) event t (p ++ f) ≡ []
    unfolding events
    none_prints [] (done e h) = ap (events (suc d) event t) (last e)
    none_prints (q ∷ rest) (done e h) = absurd (omega arith)

    -- A turn after which the program stops prints all that is left to print.
    pub prints_stop : (p : List ℕ) → (turn p).going ≡ Stop → events (suc d) event t (p ++ f) ≡ (turn p).text
    unfolding turn_of turn_by
    prints_stop p g = go (next p) refl g
      where
        go : (x : Result Next Refusal) → next p ≡ x → (turn_by x s event p).going ≡ Stop → events (suc d) event t (p ++ f) ≡ (turn_by (next p) s event p).text
        go (Ok (Event m)) e h = on_stop On refl h
        go (Err k) e h = wrong_prints p k (subst (Comes (length t) p ended) e (comes (length t) p ended))
            ∙ sym (ap (λ (x : Result Next Refusal). (turn_by x s event p).text) e)
        go (Ok More) e h = read_stop Read refl h
        go (Ok Done) e h = none_prints p (subst (Comes (length t) p ended) e (comes (length t) p ended))
            ∙ sym (ap (λ (x : Result Next Refusal). (turn_by x s event p).text) e)

-- ---- the set-up

pub prints_setup : (k : ℕ) (input : List ℕ) → read_setup table_servers table_quota (take setup_size input) ≡ refused k
    → replay table_servers table_quota input ≡ setup_line k
unfolding replay after_setup
prints_setup k input e = ap (λ (x : Reading Setup). after_setup x (drop setup_size input)) e

-- The table at the start, of n servers with the quota q.
abbrev pub fresh : (n q : ℕ) → List Images
fresh n q = map (λ k. started (start n q k)) (below n)

abbrev setup_read : Reading Setup → Setup
setup_read (says y) = y
setup_read (refused k) = record { servers = 0; quota = 0 }

abbrev is_good : Reading Setup → Bool
is_good (says y) = true
is_good (refused k) = false

-- A set-up that is read is in range.
says_ok : (e : List ℕ) (s : Setup) → read_setup table_servers table_quota e ≡ says s → setup_ok table_servers table_quota s ≡ true
unfolding read_setup
says_ok e s =
    pick_as P (setup_frame_ok e) _ _
    (λ f. pick_as P (setup_ok table_servers table_quota (setup_in e)) _ _
    (λ ok q. subst (λ (y : Setup). setup_ok table_servers table_quota y ≡ true) (ap setup_read q) ok) (λ n q. not_both (ap is_good q)))
    (λ n q. not_both (ap is_good q))
  where
    P : Reading Setup → Type 0
    P x = x ≡ says s → setup_ok table_servers table_quota s ≡ true

-- After a good set-up the header follows, then the events at servers at their start; the table that the program makes keeps these.
pub prints_start : (input : List ℕ) (s : Setup) → read_setup table_servers table_quota (take setup_size input) ≡ says s
    → (replay table_servers table_quota input ≡ header ++ events (length (drop setup_size input)) 1 (fresh s.servers s.quota) (drop setup_size input))
    × Tabled (fresh s.servers s.quota) (fresh_table s.servers s.quota)
unfolding replay after_setup setup_ok
prints_start input s e =
    let ok = says_ok (take setup_size input) s e in
    let sizes = and_holds _ _ ok in
    let limits = and_holds _ _ sizes.1 in (
      ap (λ (x : Reading Setup). after_setup x (drop setup_size input)) e,
      fresh_tabled s.servers s.quota sizes.0 (le_holds s.servers table_servers limits.0) (le_holds s.quota table_quota limits.1),
    )
