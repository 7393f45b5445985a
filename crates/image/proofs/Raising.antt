-- A rule at a state with more white actions, and with its white actions blank: what it leaves in the buffer is the same.
use Prim.Native.Nat.{ℕ, ◌+◌, ◌-◌, ◌≤◌}
use mathlib.Core.Path.{◌≡◌, refl, sym, ap, ◌∙◌}
use mathlib.Core.Bool.{Bool, true, false}
use mathlib.Core.List.{List, [], ◌∷◌, ◌++◌, map}
use native.Mathlib.Omega.{arith}
use lib.ListN.{length, drop, length-replicate}
use lib.Seq.{drop-append-add, drop-append-le, drop-drop}
use Rattle.base.specs.Tests.{◌=?◌, pick}
use Rattle.base.specs.Bytes.{joined, over}
use Rattle.base.proofs.TestLaws.{pick_either}
use Rattle.format.specs.Types.{Action, Record, cpc}
use Rattle.format.specs.Write.{write}
use Rattle.replication.specs.Machine.Types.{Non_prim, Server, Outcome, refused, taken, in_mode, with_white, with_green}
use Rattle.replication.specs.Machine.Colours.{is_next, yellow}
use Rattle.replication.specs.Machine.Exchange.{quorum}
use Rattle.replication.specs.Machine.Install.{install}
use Rattle.replication.specs.Machine.Rules.{Rule, ignoring, reddening, greening, yellowing, late_installing, exchanging, collecting_state, collecting_cpc, collecting_late_cpc, joining, joining_unmarked, joining_yellow, leaving, requesting, recovering}
use Rattle.replication.specs.Machine.Requests.{sends_now, numbered, send_waiting, waiting_records, recovered}
use Rattle.replication.specs.Machine.Step.{greened, quiet, stored, sent, entering, join, collected, here_set, here_id, decided, attempting, end_exchange, with_state, all_states_in, planned_now, resending, after_states, collect_state, one_more, exchanged, all_come_of, exchange, with_cpc, all_cpcs_in, installing, collect_cpc, collect_late_cpc, leave, green_and_note, requested, in_bytes, apply}
use Rattle.replication.proofs.Step.RulesAlike.{Along, OutAlong, apply_along}
use Rattle.image.specs.Image.{image}
use Rattle.image.specs.Decode.{blank, blanks}
use Rattle.image.specs.Holding.{blanked}
use Rattle.image.specs.Outcome.{result_of, word}
use Rattle.image.proofs.Blanks.{behind_blanks, image_shown, blanked_length}

-- More of a state turn white, whether or not its white actions are blank.
pub raised_image : (w : ℕ) (s : Server) (b : List ℕ) → s.white ≤ w → image (with_white w (blanked s)) b ≡ image (with_white w s) b
unfolding blanked blanks
raised_image w s b h =
    let v : ℕ = s.white in
    let d : ℕ = w - v in
    let k : w ≡ length (blanks v) + d = omega (arith, length-replicate v blank) in
    let j : w ≡ v + d = omega arith in
    image_shown (with_white w s) (blanks v ++ drop v s.log.green)
    (ap (λ (m : ℕ). drop m (blanks v ++ drop v s.log.green)) k ∙ drop-append-add (blanks v) (drop v s.log.green) d ∙ drop-drop d v s.log.green
    ∙ ap (λ (m : ℕ). drop m s.log.green) (sym j)) b

-- ---- rules

-- The outcome with this white length.
abbrev pub at_white : ℕ → Outcome Record → Outcome Record
at_white w (refused k) = refused k
at_white w (taken t r b g) = taken (with_white w t) r b g

at_white_pick : (w : ℕ) (x : Bool) (y z : Outcome Record) → pick x (at_white w y) (at_white w z) ≡ at_white w (pick x y z)
unfolding pick
at_white_pick w true y z = refl
at_white_pick w false y z = refl

with_white_pick : (w : ℕ) (x : Bool) (y z : Server) → pick x (with_white w y) (with_white w z) ≡ with_white w (pick x y z)
unfolding pick
with_white_pick w true y z = refl
with_white_pick w false y z = refl

-- Yellow, and the rules that enter an action, do not read the white length.
pub yellow_at_lem : (w : ℕ) (a : Action) (s : Server) → yellow a (with_white w s) ≡ with_white w (yellow a s)
unfolding yellow
yellow_at_lem w a s = with_white_pick w (is_next s.log a) _ s

pub reddening_at : (w : ℕ) (a : Action) (s : Server) → apply (reddening a) (with_white w s) ≡ at_white w (apply (reddening a) s)
unfolding apply quiet greened
reddening_at w a s = refl

pub greening_at : (w : ℕ) (a : Action) (s : Server) → apply (greening a) (with_white w s) ≡ at_white w (apply (greening a) s)
unfolding apply quiet greened green_and_note
greening_at w a s = refl

pub yellowing_at : (w : ℕ) (a : Action) (s : Server) → apply (yellowing a) (with_white w s) ≡ at_white w (apply (yellowing a) s)
unfolding apply quiet greened
yellowing_at w a s = ap (λ (t : Server). taken t [] false (drop (length s.log.green) t.log.green)) (yellow_at_lem w a s)

pub recovering_at : (w : ℕ) (s : Server) → apply recovering (with_white w s) ≡ at_white w (apply recovering s)
unfolding apply stored greened recovered
recovering_at w s = refl

-- The end of an exchange, at t.
ends_at : (w : ℕ) (s t : Server) → end_exchange (with_white w s) (with_white w t) ≡ at_white w (end_exchange s t)
unfolding end_exchange stored greened decided attempting send_waiting waiting_records collected here_set here_id
ends_at w s t =
    at_white_pick w (quorum (collected t) (here_set t)) (stored s (attempting (decided t)) (cpc t.me (here_id t) ∷ []))
    (stored s (send_waiting (in_mode Non_prim (decided t))) (waiting_records (in_mode Non_prim (decided t))))

pub exchanging_at : (w p : ℕ) (a : Action) (s : Server) → apply (exchanging p a) (with_white w s) ≡ at_white w (apply (exchanging p a) s)
unfolding apply exchange quiet greened exchanged all_come_of planned_now one_more collected
exchanging_at w p a s =
    ap (λ (z : Outcome Record). pick (all_come_of (exchanged p a s)) z (at_white w (quiet s (exchanged p a s)))) (ends_at w s (exchanged p a s))
    ∙ at_white_pick w (all_come_of (exchanged p a s)) (end_exchange s (exchanged p a s)) (quiet s (exchanged p a s))

-- ---- no rule changes the white length

abbrev WhiteKept : Server → Outcome Record → Type 0
WhiteKept s (refused k) = Unit {0}
WhiteKept s (taken t r b g) = t.white ≡ s.white

kept_if : (s : Server) (x : Bool) (y z : Outcome Record) → WhiteKept s y → WhiteKept s z → WhiteKept s (pick x y z)
kept_if s x y z h k = pick_either (WhiteKept s) x y z h k

ends_kept : (s t : Server) → t.white ≡ s.white → WhiteKept s (end_exchange s t)
unfolding end_exchange stored decided attempting send_waiting
ends_kept s t h = kept_if s (quorum (collected t) (here_set t)) _ _ h h

yellow_kept : (a : Action) (s : Server) → (yellow a s).white ≡ s.white
unfolding yellow
yellow_kept a s = pick_either (λ (t : Server). t.white ≡ s.white) (is_next s.log a) _ s refl refl

pub white_kept : (k : Rule) (s : Server) → WhiteKept s (apply k s)
unfolding apply quiet stored sent join entering green_and_note exchange exchanged one_more collect_state with_state after_states resending collect_cpc with_cpc installing install send_waiting collect_late_cpc leave requested numbered recovered
white_kept ignoring s = refl
white_kept (reddening a) s = refl
white_kept (greening a) s = refl
white_kept (yellowing a) s = yellow_kept a s
white_kept (late_installing a) s = yellow_kept a (install s)
white_kept (exchanging p a) s = kept_if s (all_come_of (exchanged p a s)) _ _ (ends_kept s (exchanged p a s) refl) refl
white_kept (collecting_state x) s =
    kept_if s (all_states_in (with_state x s)) _ _ (kept_if s (planned_now (with_state x s) =? 0) _ _ (ends_kept s (with_state x s) refl) refl) refl
white_kept (collecting_cpc k) s = kept_if s (all_cpcs_in (with_cpc k s)) _ _ refl refl
white_kept (collecting_late_cpc k) s = kept_if s (all_cpcs_in (with_cpc k s)) _ _ refl refl
white_kept (joining c) s = refl
white_kept (joining_unmarked c) s = refl
white_kept (joining_yellow c) s = refl
white_kept (leaving m t) s = refl
white_kept (requesting p) s = kept_if s (sends_now s.membership) _ _ refl refl
white_kept recovering s = refl

-- ---- over the buffers

module _ (k : Rule) (s : Server) (low : s.white ≤ length s.log.green) (b o : List ℕ) where
  shown_same : drop s.white (blanks s.white ++ drop s.white s.log.green) ≡ drop s.white s.log.green
  shown_same = behind_blanks s.white (drop s.white s.log.green)

  -- What a rule leaves of a state whose white actions are blank.
  along_image : (t t' : Server) → t.white ≡ s.white → Along (blanks s.white ++ drop s.white s.log.green) s t t' → image t' b ≡ image t b
  unfolding blanked
  along_image t t' h x =
      let g : List Action = blanks s.white ++ drop s.white s.log.green in
      let long : length g ≡ length s.log.green = blanked_length s low in
      let e : drop t.white (g ++ x.more) ≡ drop t.white t.log.green =
      ap (λ (m : ℕ). drop m (g ++ x.more)) h ∙ drop-append-le s.white g x.more (omega arith)
      ∙ ap (λ (l : List Action). l ++ x.more) shown_same ∙ sym (drop-append-le s.white s.log.green x.more low)
      ∙ (λ i. drop (sym h i) (sym x.grown i)) in
      ap (λ (u : Server). image u b) x.same ∙ image_shown t (g ++ x.more) e b

  pub outcome_blanked : result_of image (in_bytes (apply k (blanked s))) b o ≡ result_of image (in_bytes (apply k s)) b o
  unfolding result_of in_bytes blanked
  outcome_blanked =
      go (apply k s) (apply k (with_green (blanks s.white ++ drop s.white s.log.green) s)) (white_kept k s)
      (apply_along (blanks s.white ++ drop s.white s.log.green) s (blanked_length s low) shown_same k)
    where
      go : (x y : Outcome Record) → WhiteKept s x → OutAlong (blanks s.white ++ drop s.white s.log.green) s x y
          → result_of image (in_bytes y) b o ≡ result_of image (in_bytes x) b o
      go x y h (OutAlong.refuses j) = refl
      go x y h (OutAlong.takes t t' r z n a) = ap (λ (c : List ℕ). record { number = 0; store = word z; sent = length (joined (map write r)); state = c; out = over (joined (map write r)) o }) (along_image t t' h a)

-- With another white length.
pub outcome_at : (w : ℕ) (x : Outcome Record) (b o : List ℕ) → result_of image (in_bytes (at_white w x)) b o ≡ result_of (λ t c. image (with_white w t) c) (in_bytes x) b o
unfolding result_of in_bytes
outcome_at w (refused k) b o = refl
outcome_at w (taken t r z g) b o = refl
