-- What the code finds in the input.
use Prim.Native.Nat.{ℕ, ◌+◌, ◌-◌, ◌≤◌, ◌<◌}
use mathlib.Core.Path.{◌≡◌, refl, sym, ap, subst, ◌∙◌}
use mathlib.Core.Bool.{Bool, true, false, not}
use mathlib.Core.List.{List}
use native.Mathlib.Omega.{arith}
use lib.ListN.{length, get_or}
use Rattle.replay_servers.specs.Core.{table_servers, table_quota}
use Rattle.base.specs.Tests.{◌and◌, ◌≤?◌, ◌<?◌, ◌=?◌, pick}
use Rattle.base.proofs.TestLaws.{pick_as, pick_yes, pick_no, pick_lt, pick_ge, and_holds, both_yes, eq_holds, eq_yes, eq_no, le_holds, le_yes, le_no, lt_holds, lt_fails, not_both, Known, holds, fails, known}
use Rattle.base.specs.Bytes.{number_at}
use Rattle.format.specs.Limits.{version}
use Rattle.format.specs.Places.{length_size, at_version, at_kind, at_body, setup_size}
use Rattle.format.specs.Types.{Reading, says, refused}
use Rattle.format.specs.Range.{sizes_ok}
use Rattle.format.specs.Setup as format
use Rattle.format.specs.Setup.{setup_in, setup_frame_ok, setup_ok, read_setup, setup_kind}
use Rattle.base.specs.Refusals.{bad_record, out_of_range_of}
use Rattle.refusals.specs.declared.Refusal.{Refusal}
use Rattle.refusals.specs.declared.Refusal.TheVariants.{BadRecord, OutOfRange}
use Rattle.std.specs.Prelude.{Result, Ok, Err}
use Rattle.replay_lines.specs.declared.input.Next.{Next}
use Rattle.replay_lines.specs.declared.input.Next.TheVariants.{Event, More, Done}
use Rattle.replay_lines.specs.Input.{cut_short, event_size, next_of}

-- ---- tests one after another

pub and_on : (t u : Bool) → t ≡ true → (t and u) ≡ u
unfolding ◌and◌
and_on t u e = ap (λ (x : Bool). x and u) e

pub and_off : (t u : Bool) → t ≡ false → (t and u) ≡ false
unfolding ◌and◌
and_off t u e = ap (λ (x : Bool). x and u) e

pub ruleset chain = (and_on, and_off, eq_yes, eq_no, le_yes, le_no)

-- ---- the set-up record

module _ (e : List ℕ) where
  frame_facts : setup_frame_ok e ≡ true → (length e ≡ setup_size) × (number_at length_size e 0 ≡ setup_size - length_size) × (number_at 1 e at_version ≡ version) × (number_at 1 e at_kind ≡ setup_kind)
  unfolding setup_frame_ok
  frame_facts h =
      let p = and_holds (number_at length_size e 0 + length_size =? length e) _ h in
      let p₁ = and_holds (number_at 1 e at_version =? version) _ p.1 in
      let p₂ = and_holds (number_at 1 e at_kind =? setup_kind) (length e =? setup_size) p₁.1 in
      let long : length e ≡ setup_size = eq_holds (length e) setup_size p₂.1 in
      let size : number_at length_size e 0 + length_size ≡ length e = eq_holds (number_at length_size e 0 + length_size) (length e) p.0 in
      (long, omega arith, eq_holds (number_at 1 e at_version) version p₁.0, eq_holds (number_at 1 e at_kind) setup_kind p₂.0)

  frame_good : length e ≡ setup_size → number_at length_size e 0 ≡ setup_size - length_size → number_at 1 e at_version ≡ version → number_at 1 e at_kind ≡ setup_kind → setup_frame_ok e ≡ true
  unfolding setup_frame_ok
  frame_good a b c d =
      both_yes _ _ (eq_yes _ _ (omega arith)) (both_yes _ _ (eq_yes _ _ c) (both_yes _ _ (eq_yes _ _ d) (eq_yes _ _ a)))

  module _ (t : Bool) (is-t : t ≡ setup_frame_ok e) where
    pub unframed : t ≡ false → refused bad_record ≡ read_setup table_servers table_quota e
    unfolding read_setup
    unframed h = pick_no (setup_frame_ok e) (refused bad_record) _ _ (sym is-t ∙ h) refl

    module _ (framed : t ≡ true) (n q : ℕ) (u : Bool) (is-n : n ≡ number_at 1 e at_body) (is-q : q ≡ number_at 2 e (at_body + 1))
        (is-u : u ≡ setup_ok table_servers table_quota (record { servers = n; quota = q })) where
      abbrev read : format.Setup
      read = record { servers = n; quota = q }

      read_is : read ≡ setup_in e
      unfolding setup_in
      read_is = λ i. record { servers = is-n i; quota = is-q i }

      frame_is : setup_frame_ok e ≡ true
      frame_is = sym is-t ∙ framed

      pub out_of_range : u ≡ false → refused out_of_range_of ≡ read_setup table_servers table_quota e
      unfolding read_setup
      out_of_range h =
          pick_yes (setup_frame_ok e) (refused out_of_range_of) _ _ frame_is
          (pick_no (setup_ok table_servers table_quota (setup_in e)) (refused out_of_range_of) _ _
          (ap (setup_ok table_servers table_quota) (sym read_is) ∙ sym is-u ∙ h) refl)

      pub says_setup : u ≡ true → says read ≡ read_setup table_servers table_quota e
      unfolding read_setup
      says_setup h =
          pick_yes (setup_frame_ok e) (says read) _ _ frame_is
          (pick_yes (setup_ok table_servers table_quota (setup_in e)) (says read) _ _
          (ap (setup_ok table_servers table_quota) (sym read_is) ∙ sym is-u ∙ h) (ap says read_is))

pub few_servers : (n q : ℕ) (u : Bool) → u ≡ setup_ok table_servers table_quota (record { servers = n; quota = q }) → u ≡ true → n ≤ table_servers
unfolding setup_ok
few_servers n q u e h = le_holds n table_servers (and_holds _ _ (and_holds _ _ (sym e ∙ h)).1).0

-- ---- what comes next

module _ (n : ℕ) (input : List ℕ) (ended : Bool) (k : ℕ) (some : 1 ≤ length input) (server : get_or input 0 0 < n) (long : 1 + length_size ≤ length input)
    (is-k : k ≡ number_at length_size input 1) where
  pub next_cut : (r : Result Next Refusal) → length input - 1 < k + length_size → r ≡ cut_short ended → r ≡ next_of n input ended
  unfolding next_of
  next_cut r h e =
      pick_ge (length input) 1 r _ _ some
      (pick_lt (get_or input 0 0) n r _ _ server
      (pick_ge (length input) (1 + length_size) r _ _ long (pick_lt (length input - 1) (event_size input) r _ _ (omega arith) e)))

  pub next_event_lem : k + length_size ≤ length input - 1 → Ok (Event (k + length_size)) ≡ next_of n input ended
  unfolding next_of
  next_event_lem h =
      pick_ge (length input) 1 (Ok (Event (k + length_size))) _ _ some
      (pick_lt (get_or input 0 0) n (Ok (Event (k + length_size))) _ _ server
      (pick_ge (length input) (1 + length_size) (Ok (Event (k + length_size))) _ _ long
      (pick_ge (length input - 1) (event_size input) (Ok (Event (k + length_size))) _ _ (omega arith) (ap (λ (m : ℕ). Ok (Event (m + length_size))) is-k))))

-- What an event that comes next has.
pub record Whole (n size : ℕ) (input : List ℕ) : Type 0 where
  pub server : get_or input 0 0 < n
  pub inside : size + 1 ≤ length input
  pub size_is : size ≡ event_size input

-- Why which comes next.
pub data Comes (n : ℕ) (input : List ℕ) (ended : Bool) : Result Next Refusal → Type 0 where
  whole : (m : ℕ) → Whole n m input → Comes n input ended (Ok (Event m))
  wrong : 1 ≤ length input → n ≤ get_or input 0 0 → Comes n input ended (Err OutOfRange)
  cut : ended ≡ true → 1 ≤ length input → get_or input 0 0 < n → length input < event_size input + 1 → Comes n input ended (Err BadRecord)
  more : ended ≡ false → length input < event_size input + 1 → Comes n input ended (Ok More)
  done : ended ≡ true → length input < 1 → Comes n input ended (Ok Done)

pub comes : (n : ℕ) (input : List ℕ) (ended : Bool) → Comes n input ended (next_of n input ended)
unfolding next_of cut_short
comes n input ended =
    pick_as P (length input <? 1) _ _ (λ h. pick_as P ended (Ok Done) (Ok More) (λ e. done e (lt_holds (length input) 1 h))
    (λ e. more e (omega (arith, lt_holds (length input) 1 h))))
    (λ none. let some = lt_fails (length input) 1 none in
    pick_as P (get_or input 0 0 <? n) _ _
    (λ h. let server = lt_holds (get_or input 0 0) n h in
    pick_as P (length input <? 1 + length_size) _ _ (λ l. short some server (omega (arith, lt_holds (length input) (1 + length_size) l)))
    (λ l. pick_as P (length input - 1 <? event_size input) _ _
    (λ q. short some server (omega (arith, lt_holds (length input - 1) (event_size input) q)))
    (λ q. whole (event_size input)
    (record { server = server; inside = omega (arith, lt_fails (length input - 1) (event_size input) q); size_is = refl }))))
    (λ h. wrong some (lt_fails (get_or input 0 0) n h)))
  where
    P : Result Next Refusal → Type 0
    P x = Comes n input ended x

    short : 1 ≤ length input → get_or input 0 0 < n → length input < event_size input + 1 → P (pick ended (Err BadRecord) (Ok More))
    short some server l = pick_as P ended (Err BadRecord) (Ok More) (λ e. cut e some server l) (λ e. more e l)

pub whole_event : (n : ℕ) (input : List ℕ) (ended : Bool) (m : ℕ) → next_of n input ended ≡ Ok (Event m) → Whole n m input
whole_event n input ended m e = go (subst (Comes n input ended) e (comes n input ended))
  where
    go : Comes n input ended (Ok (Event m)) → Whole n m input
    go (whole m w) = w
