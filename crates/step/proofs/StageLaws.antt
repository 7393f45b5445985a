-- The first stage of an event over the buffers: refused by a row, or a rule's effect where the white length was taken.
use Prim.Native.Nat.{ℕ}
use mathlib.Core.Path.{◌≡◌, sym, ap, ◌∙◌}
use mathlib.Core.Bool.{Bool}
use mathlib.Core.List.{List, [], map}
use mathlib.Core.Option.{Option, none, some}
use native.Mathlib.Omega.{arith}
use lib.ListN.{length}
use Rattle.base.specs.Bytes.{joined, over}
use Rattle.base.specs.Tests.{◌or◌, ◌=?◌, pick}
use Rattle.base.proofs.TestLaws.{pick_either}
use Rattle.format.specs.Types.{Record}
use Rattle.format.specs.Write.{write}
use Rattle.replication.specs.Machine.Types.{Server, Outcome, refused, taken, with_log, with_white}
use Rattle.replication.specs.Machine.Rules.{Rule, ignoring, reddening, greening, yellowing, late_installing, exchanging, collecting_state, collecting_cpc, collecting_late_cpc, joining, joining_unmarked, joining_yellow, leaving, requesting, recovering}
use Rattle.replication.specs.Machine.Rules.{rule_for, possible, from_member, is_ignored, within_quota}
use Rattle.replication.specs.Machine.Exchange.{quorum}
use Rattle.replication.specs.Machine.Requests.{sends_now}
use Rattle.replication.specs.Machine.Step.{quiet, stored, sent, join, collected, here_set, end_exchange, with_state, all_states_in, planned_now, after_states, collect_state, exchanged, all_come_of, exchange, with_cpc, all_cpcs_in, installing, collect_cpc, collect_late_cpc, requested, in_bytes, apply}
use Rattle.replication.specs.Machine.White.{met_log, took_white, full, sieved}
use Rattle.image.specs.Image.{image}
use Rattle.image.specs.Holding.{Holds, blanked}
use Rattle.image.specs.Outcome.{refusal, result_of, word}
use Rattle.image.proofs.Raising.{at_white, outcome_blanked, outcome_at}
use Rattle.step.specs.declared.Answer.{Answer}
use Rattle.step.specs.Answers.{answered, outcome_on, by_rows, refused_with, stored_first}
use Rattle.step.specs.Stages.{sieving, unraised, core_images, images_before, unraised_on}
use Rattle.step.proofs.AnswerLaws.{Passes, rows_passed}
use Rattle.step.proofs.SieveLaws.{took_low_here}

-- ---- a row refuses

pub refused_on : (s : Server) (r : Record) (a : Answer) (k : ℕ) (b o : List ℕ) → a ≡ refused_with k → unraised s r ≡ refused k
    → answered a b o ≡ unraised_on s r b o
unfolding answered unraised_on in_bytes result_of refusal
refused_on s r a k b o e f =
    ap (λ (y : Answer). answered y b o) e
    ∙ ap (λ (y : Outcome Record). result_of (images_before (rule_for s.membership.mode r) s) (in_bytes y) b o) (sym f)

-- ---- no rule refuses

abbrev Taken : Outcome Record → Type 0
Taken (refused k) = ⊥
Taken (taken t r b g) = Unit {0}

taken_if : (x : Bool) (y z : Outcome Record) → Taken y → Taken z → Taken (pick x y z)
taken_if x y z h k = pick_either Taken x y z h k

ends_taken : (s t : Server) → Taken (end_exchange s t)
unfolding end_exchange stored
ends_taken s t = taken_if (quorum (collected t) (here_set t)) _ _ tt tt

apply_taken : (k : Rule) (s : Server) → Taken (apply k s)
unfolding apply quiet stored sent join exchange collect_state after_states collect_cpc installing collect_late_cpc requested
apply_taken ignoring s = tt
apply_taken (reddening a) s = tt
apply_taken (greening a) s = tt
apply_taken (yellowing a) s = tt
apply_taken (late_installing a) s = tt
apply_taken (exchanging p a) s = taken_if (all_come_of (exchanged p a s)) _ _ (ends_taken s (exchanged p a s)) tt
apply_taken (collecting_state x) s =
    taken_if (all_states_in (with_state x s)) _ _ (taken_if (planned_now (with_state x s) =? 0) _ _ (ends_taken s (with_state x s)) tt) tt
apply_taken (collecting_cpc k) s = taken_if (all_cpcs_in (with_cpc k s)) _ _ tt tt
apply_taken (collecting_late_cpc k) s = taken_if (all_cpcs_in (with_cpc k s)) _ _ tt tt
apply_taken (joining c) s = tt
apply_taken (joining_unmarked c) s = tt
apply_taken (joining_yellow c) s = tt
apply_taken (leaving m t) s = tt
apply_taken (requesting p) s = taken_if (sends_now s.membership) _ _ tt tt
apply_taken recovering s = tt

-- No row refuses with 0.
abbrev pub AboveZero : Outcome Record → Type 0
AboveZero (refused k) = k ≡ 0 → ⊥
AboveZero (taken t r b g) = Unit {0}

taken_above : (x : Outcome Record) → Taken x → AboveZero x
taken_above (refused k) h = absurd h
taken_above (taken t r b g) h = tt

pub unraised_above : (s : Server) (r : Record) → AboveZero (unraised s r)
unfolding unraised by_rows sieving
unraised_above s r = go (rule_for s.membership.mode r)
  where
    go : (x : Option Rule) → AboveZero (by_rows sieving x s r)
    go none = λ e. omega (arith, e)
    go (some k) =
        pick_either AboveZero (possible s r) _ _
        (pick_either AboveZero (is_ignored k or from_member s.membership r) _ _
        (pick_either AboveZero (within_quota s r) _ _ (taken_above (apply (sieved (full k s) k) s) (apply_taken (sieved (full k s) k) s)) (λ e. omega (arith, e)))
        (λ e. omega (arith, e)))
        (λ e. omega (arith, e))

-- Other bytes of the state.
taken_over : (f g : Server → List ℕ → List ℕ) (x : Outcome Record) (b c o : List ℕ) → Taken x → ((t : Server) → f t b ≡ g t c)
    → result_of f (in_bytes x) b o ≡ result_of g (in_bytes x) c o
unfolding result_of in_bytes
taken_over f g (refused k) b c o h e = absurd h
taken_over f g (taken t r z n) b c o h e =
    ap (λ (y : List ℕ). record { number = 0; store = word z; sent = length (joined (map write r)); state = y; out = over (joined (map write r)) o }) (e t)

-- ---- a rule

module _ (s : Server) (r : Record) (k : Rule) (f : Passes s r k) (b o : List ℕ) where
  pub core_on : unraised_on s r b o ≡ result_of (core_images k s) (in_bytes (sieving k s)) b o
  unfolding unraised_on unraised images_before
  core_on = λ i. result_of (images_before (f.rule i) s) (in_bytes (rows_passed sieving s r k f i)) b o

  -- From the buffer c, in which the white length was taken, the rule's effect.
  pub core_done : Holds s b → met_log k s ≡ s.log → ((w : ℕ) (x : Bool) → apply (sieved x k) (with_white w s) ≡ at_white w (apply (sieved x k) s))
      → (c : List ℕ) → c ≡ image (with_white (took_white k s) s) b → (v : Answer) (d z : List ℕ)
      → answered v d z ≡ outcome_on (apply (sieved (full k s) k) (blanked (with_white (took_white k s) s))) c o
      → answered v d z ≡ unraised_on s r b o
  unfolding outcome_on sieving core_images
  core_done held met at c e v d z h =
      let w : ℕ = took_white k s in
      let j : Rule = sieved (full k s) k in
      let same : image (with_log (met_log k s) s) b ≡ b = ap (λ l. image (with_log l s) b) met ∙ held.written in
      h
      ∙ outcome_blanked j (with_white w s) (took_low_here k s b c held met e) c o
      ∙ ap (λ (y : Outcome Record). result_of image (in_bytes y) c o) (at w (full k s))
      ∙ outcome_at w (apply j s) c o
      ∙ taken_over (λ t y. image (with_white w t) y) (core_images k s) (apply j s) c b o (apply_taken j s)
      (λ t. ap (image (with_white w t)) (e ∙ (λ i. image (with_white w (with_log (sym met i) s)) (sym same i))))
      ∙ sym core_on

  -- A rule that stores, and sends nothing.
  pub stored_on : (t : Server) → sieving k s ≡ stored s t [] → (v : Answer) (c : List ℕ) → v ≡ stored_first 0 → c ≡ core_images k s t b
      → answered v c o ≡ unraised_on s r b o
  unfolding answered result_of in_bytes stored word joined over
  stored_on t e v c g h =
      ap (λ (y : Answer). answered y c o) g
      ∙ (λ i. record { number = 0; store = 1; sent = 0; state = h i; out = o })
      ∙ ap (λ (y : Outcome Record). result_of (core_images k s) (in_bytes y) b o) (sym e)
      ∙ sym core_on
