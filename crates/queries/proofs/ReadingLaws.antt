-- Readings one behind another, and what turned green by an event.
use Prim.Native.Nat.{ℕ, ◌+◌, ◌-◌, ◌≤◌}
use mathlib.Core.Path.{◌≡◌, refl, sym, ap, ap₂, subst, ◌∙◌}
use mathlib.Core.Bool.{Bool}
use mathlib.Core.List.{List, [], ◌∷◌, ◌++◌, append-nil}
use native.Mathlib.Omega.{arith}
use lib.ListN.{length, take, drop, length-append, length-drop, take-append-drop}
use lib.Seq.{drop-drop, drop-length}
use Rattle.base.specs.Bytes.{joined, over}
use Rattle.base.specs.Lists.{Each}
use Rattle.base.proofs.ListLaws.{each_first, each_second, each_implied, drop_more, drop_same}
use Rattle.base.proofs.Prefixes.{drop_beginning}
use Rattle.base.specs.Tests.{◌<?◌, ◌=?◌}
use Rattle.base.proofs.TestLaws.{Known, holds, fails, known, lt_holds, lt_fails, eq_holds, eq_fails}
use Rattle.base.proofs.Over.{over_take}
use Rattle.format.specs.Limits.{most_payload_limit}
use Rattle.format.specs.Types.{Action}
use Rattle.format.proofs.Ranges.{ActionRange}
use Rattle.replication.specs.Machine.Types.{Server, Outcome, refused, taken, context_of}
use Rattle.replication.specs.Machine.Step.{step}
use Rattle.replication.specs.Machine.WellFormed.{queue}
use Rattle.replication.proofs.Step.Growth.{green_gained}
use Rattle.replication.proofs.WellFormed.Facts.{well_formed_facts}
use Rattle.replication.proofs.WellFormed.Steps.{step_well_formed}
use Rattle.image.specs.Header.{shown_log}
use Rattle.image.specs.Decode.{decoded, greens_in, white_in}
use Rattle.image.specs.Holding.{Holds, blanked}
use Rattle.image.specs.Outcome.{image_number, Result, refusal, image_after, result_of, state_number, step_on}
use Rattle.image.proofs.Blanks.{behind_blanks, blanked_length}
use Rattle.image.proofs.InPlace.{holds_decoded}
use Rattle.image.proofs.InRange.{in_range}
use Rattle.image.proofs.Refusals.{zero_whole, zero_ready, zero_read, step_read, step_refused, whole_holds, holds_whole}
use Rattle.image.proofs.Taken.{taken_holds}
use Rattle.queries.specs.Queries.{entries_bytes, most_entry, fitting, Listing, putting, entries_on}
use Rattle.queries.specs.Reading.{Reads, readings, ReadingsGiveAll, turned_green, GreenBy, NewlyGreen}
use Rattle.queries.proofs.EntryLaws.{entry_length, entries_append, first_fits, fitting_taken}
use Rattle.queries.proofs.ListingLaws.{Put, put_is, put_when}

-- ---- one reading

-- With room for the longest entry, the first one fits.
some_fit : (r : ℕ) (l : List Action) → most_entry ≤ r → Each (λ a. length a.payload ≤ most_payload_limit) l → 1 ≤ length l → 1 ≤ length (fitting r l)
some_fit r [] h e n = absurd (omega arith)
some_fit r (a ∷ l) h e n = omega (arith, ap length (first_fits r a l (omega (arith, entry_length a, e.0))))

-- Of all that are not white.
green_payloads : (b : List ℕ) → image_number b ≡ 0 → Each (λ a. length a.payload ≤ most_payload_limit) (drop (white_in b) (greens_in b))
unfolding greens_in white_in queue
green_payloads b z =
    let s : Server = decoded b in
    each_implied (ActionRange (context_of s)) (λ a. length a.payload ≤ most_payload_limit) (λ a r. r.payload.most) (shown_log s).green
    (each_first (ActionRange (context_of s)) (shown_log s).green s.log.red (in_range s (whole_holds b z).formed).actions)

module _ (b : List ℕ) (f : ℕ) (o : List ℕ) (p : Put b f o) where
  abbrev rest : List Action
  rest = drop f (greens_in b)

  abbrev chosen : List Action
  chosen = fitting (length o) rest

  rest_long : length rest ≡ length (greens_in b) - f
  rest_long = length-drop f (greens_in b)

  rest_payloads : Each (λ a. length a.payload ≤ most_payload_limit) rest
  rest_payloads =
      let n : ℕ = f - white_in b in
      let l : List Action = drop (white_in b) (greens_in b) in
      subst (Each (λ a. length a.payload ≤ most_payload_limit)) (drop_more (white_in b) f (greens_in b) p.behind)
      (each_second (λ a. length a.payload ≤ most_payload_limit) (take n l) (drop n l)
      (subst (Each (λ a. length a.payload ≤ most_payload_limit)) (sym (take-append-drop n l)) (green_payloads b p.whole)))

  reading : Reads b f o (putting (white_in b) (greens_in b) chosen o)
  unfolding putting
  reading =
      let t = fitting_taken (length o) rest in
      record {
        green = refl;
        white = refl;
        behind = p.behind;
        inside = omega (arith, t.0, rest_long, p.inside);
        bytes = ap (λ (x : List Action). length (entries_bytes x)) t.1;
        out = ap (λ (x : List Action). over (entries_bytes x) o) t.1;
        some = λ l. some_fit (length o) rest p.room rest_payloads (omega (arith, rest_long));
      }

  pub put_reads : Reads b f o (entries_on b f o)
  put_reads = subst (Reads b f o) (sym (put_is b f o p)) reading

-- ---- readings one behind another

no_entries : entries_bytes [] ≡ []
unfolding entries_bytes joined
no_entries = refl

all_read : (b : List ℕ) (f : ℕ) (os : List (List ℕ)) → image_number b ≡ 0 → Each (λ o. most_entry ≤ length o) os → white_in b ≤ f
    → f ≤ length (greens_in b) → length (greens_in b) ≤ f + length os → readings b f os ≡ entries_bytes (drop f (greens_in b))
unfolding readings
all_read b f [] z r w h l =
    let last : f ≡ length (greens_in b) = omega arith in
    sym (ap (λ (n : ℕ). entries_bytes (drop n (greens_in b))) last ∙ ap entries_bytes (drop-length (greens_in b)) ∙ no_entries)
all_read b f (o ∷ os) z r w h l =
    let x : Listing = entries_on b f o in
    let a = put_reads b f o (record { whole = z; room = r.0; behind = w; inside = h }) in
    let y : List ℕ = entries_bytes (take x.entries (drop f (greens_in b))) in
    let first : take x.bytes x.out ≡ y = ap₂ {A = ℕ} {B = List ℕ} {C = List ℕ} (λ n w. take n w) a.bytes a.out ∙ over_take y o (length y) refl in
    let next = all_read b (f + x.entries) os z r.1 (omega arith) a.inside (enough (known (f <? length (greens_in b))) a) in
    ap₂ {A = List ℕ} {B = List ℕ} {C = List ℕ} (λ u v. u ++ v) first (next ∙ ap entries_bytes (sym (drop-drop x.entries f (greens_in b))))
    ∙ sym (entries_append (take x.entries (drop f (greens_in b))) (drop x.entries (drop f (greens_in b))))
    ∙ ap entries_bytes (take-append-drop x.entries (drop f (greens_in b)))
  where
    enough : Known (f <? length (greens_in b)) → Reads b f o (entries_on b f o) → length (greens_in b) ≤ f + (entries_on b f o).entries + length os
    enough (holds t) a = omega (arith, a.some (lt_holds f (length (greens_in b)) t))
    enough (fails t) a = omega (arith, lt_fails f (length (greens_in b)) t)

pub readings_give_all : ReadingsGiveAll
readings_give_all = record { reading = λ b f o z. put_reads b f o (put_when b f o z); all = all_read }

-- ---- what turned green

module _ (b e o : List ℕ) (z : (step_on b e o).number ≡ 0) where
  ready : state_number b o ≡ 0
  unfolding refusal
  ready = go (known (state_number b o =? 0))
    where
      go : Known (state_number b o =? 0) → state_number b o ≡ 0
      go (holds h) = eq_holds (state_number b o) 0 h
      go (fails h) = sym (ap (λ (r : Result). r.number) (step_refused b e o (eq_fails (state_number b o) 0 h))) ∙ z

  -- The state t afterwards, and what turned green.
  pub record Gained (t : Server) (g : List Action) : Type 0 where
    pub size : length t.log.green ≡ length (greens_in b) + length g
    pub shown : drop t.white t.log.green ≡ drop t.white (greens_in b ++ g)

  -- The state's bytes c afterwards.
  pub record After (c : List ℕ) (g : List Action) : Type 0 where
    pub whole : image_number c ≡ 0
    pub gained : Gained (decoded c) g

  taken_gained : (t : Server) (rs : List (List ℕ)) (w : Bool) (g : List Action) → step (decoded b) e ≡ taken t rs w g → Gained (blanked t) g
  unfolding greens_in blanked
  taken_gained t rs w g h =
      let all : t.log.green ≡ greens_in b ++ g = green_gained (decoded b) e t rs w g h in
      let low = (well_formed_facts t (step_well_formed (decoded b) e t rs w g (zero_ready b o ready).image.formed h)).white in
      record {
        size = blanked_length t low ∙ ap length all ∙ length-append (greens_in b) g;
        shown = behind_blanks t.white (drop t.white t.log.green) ∙ ap (drop t.white) all;
      }

  after_step_lem : After (step_on b e o).state (turned_green (step (decoded b) e))
  unfolding result_of refusal turned_green greens_in
  after_step_lem =
      subst (λ (r : Result). After r.state (turned_green (step (decoded b) e))) (sym machine) (go (step (decoded b) e) refl)
    where
      machine : step_on b e o ≡ result_of (image_after (decoded b) e) (step (decoded b) e) b o
      machine = step_read b e o (decoded b) (zero_read b o ready).0 (zero_ready b o ready).read

      go : (x : Outcome (List ℕ)) → step (decoded b) e ≡ x → After (result_of (image_after (decoded b) e) x b o).state (turned_green x)
      go (refused k) h = record {
        whole = zero_whole b o ready;
        gained = record {
          size = omega arith;
          shown = ap (drop (decoded b).white) (sym (append-nil (greens_in b)));
        };
      }
      go (taken t rs w g) h =
          let c : List ℕ = image_after (decoded b) e t b in
          let new : Holds (blanked t) c = taken_holds (decoded b) e t rs w g h b (zero_ready b o ready).image in
          record {
            whole = holds_whole (blanked t) c new;
            gained = subst (λ (s : Server). Gained s g) (sym (holds_decoded (blanked t) c new)) (taken_gained t rs w g h);
          }

  green_by : GreenBy b e o
  unfolding greens_in white_in
  green_by =
      let c : List ℕ = (step_on b e o).state in
      let g : List Action = turned_green (step (decoded b) e) in
      let n : ℕ = length (greens_in b) in
      let f = after_step_lem.gained in
      record {
        before = zero_whole b o ready;
        after = after_step_lem.whole;
        size = f.size;
        gained = f.shown;
        behind = λ l. drop_same (white_in c) n (greens_in c) (greens_in b ++ g) l f.shown ∙ drop_beginning (greens_in b) g;
      }

pub newly_green : NewlyGreen
unfolding NewlyGreen
newly_green b e o z = green_by b e o z
