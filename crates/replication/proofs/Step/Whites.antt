-- K6: the number of white actions after an event: never above the green length, never lower than before, and where it comes from.
use Prim.Native.Nat.{ℕ, zero, suc, ◌≤◌, ◌<◌, max, min}
use mathlib.Core.Path.{◌≡◌, refl, sym, ap, subst, ◌∙◌}
use mathlib.Core.Bool.{Bool, true, false}
use mathlib.Core.List.{List, [], ◌∷◌, Memᴰ}
use mathlib.Core.Logic.{◌⊎◌, inl, inr}
use mathlib.Core.Option.{Option, none, some, none-ne-some}
use native.Mathlib.Omega.{arith}
use native.Mathlib.Decide.{dec_lt}
use lib.ListN.{length, get_or}
use Rattle.base.specs.Tests.{◌and◌, ◌≤?◌, pick}
use Rattle.base.proofs.TestLaws.{pick_either, not_both}
use Rattle.base.proofs.AtLaws.{some_same}
use Rattle.base.proofs.Prefixes.{begins_same, begins_length}
use Rattle.base.specs.Lists.{Begins}
use Rattle.format.specs.Types.{Action, State, Record, action, retransmission, state, cpc, regular, transitional, request, recovery, says}
use Rattle.replication.specs.Machine.Types.{Mode, Non_prim, Reg_prim, Trans_prim, Exchange_states, Exchange_actions, Construct, No, Un, Log, Server, taken, with_white}
use Rattle.replication.specs.Machine.Colours.{is_next, enter, yellow}
use Rattle.replication.specs.Machine.Install.{install}
use Rattle.replication.specs.Machine.Rules.{Rule, ignoring, reddening, greening, yellowing, late_installing, exchanging, collecting_state, collecting_cpc, collecting_late_cpc, joining, joining_unmarked, joining_yellow, leaving, requesting, recovering, is_ignored, rule_for, on_action, on_retransmission, on_state, on_cpc, on_regular, on_transitional}
use Rattle.replication.specs.Machine.Step.{stored, apply}
use Rattle.replication.specs.Machine.White.{least, highest_white, entrant, met_log, taken_from, is_recovering, took_white, full, sifted, sieved, white_after}
use Rattle.replication.specs.Images.{is_recovery}
use Rattle.replication.specs.Laws.Transitions.{TakenBy}
use Rattle.replication.proofs.Step.Moves.{moved}
use Rattle.replication.proofs.Step.Growth.{transition_grows}
use Rattle.replication.proofs.Step.Logs.{yellow_as}
use Rattle.replication.proofs.Runs.LogActions.{carried}

yellow_green : (a : Action) (s : Server) → (yellow a s).log.green ≡ s.log.green
unfolding enter
yellow_green a s = yellow_as (λ t. t.log.green ≡ s.log.green) a s (λ e. refl) (λ e. refl)

-- ---- the green length that an action meets

module _ {s : Server} {e : List ℕ} {t : Server} {bs : List (List ℕ)} {b : Bool} {g : List Action} (x : TakenBy s e t bs b g) where
  begun : Begins s.log.green x.core.log.green
  begun = (transition_grows (moved x).0).greens

  grown : length s.log.green ≤ length x.core.log.green
  grown = begins_length _ _ begun

  outcome_after : {u v : Server} {rs us : List Record} {c d : Bool} {y z : List Action} → taken u rs c y ≡ taken v us d z → v ≡ u
  outcome_after w = cc

  -- The green list that it meets keeps its place.
  pub met_kept : Begins (met_log x.rule s).green x.core.log.green
  unfolding met_log apply sieved stored install
  met_kept = go x.rule refl
    where
      go : (k : Rule) → x.rule ≡ k → Begins (met_log k s).green x.core.log.green
      go ignoring e = begun
      go (reddening a) e = begun
      go (greening a) e = begun
      go (yellowing a) e = begun
      go (late_installing a) e =
          let c = outcome_after (ap (λ k. apply (sieved (full x.rule s) k) s) (sym e) ∙ x.applied) in
          begins_same _ _ (ap (λ u. u.log.green) c ∙ yellow_green (sifted (full x.rule s) a) (install s))
      go (exchanging p a) e = begun
      go (collecting_state y) e = begun
      go (collecting_cpc j) e = begun
      go (collecting_late_cpc j) e = begun
      go (joining c) e = begun
      go (joining_unmarked c) e = begun
      go (joining_yellow c) e = begun
      go (leaving m u) e = begun
      go (requesting p) e = begun
      go recovering e = begun

  met_length : length (met_log x.rule s).green ≤ length x.core.log.green
  met_length = begins_length _ _ met_kept

  took_range : s.white ≤ length s.log.green → took_white x.rule s ≤ length x.core.log.green
  unfolding took_white taken_from
  took_range h =
      pick_either (λ w. w ≤ length x.core.log.green) (is_recovering x.rule) _ _ (omega (arith, grown)) (go (entrant x.rule s))
    where
      go : (o : Option Action) → taken_from o (met_log x.rule s) s.white ≤ length x.core.log.green
      go none = omega (arith, grown)
      go (some a) = pick_either (λ w. w ≤ length x.core.log.green) (is_next (met_log x.rule s) a) _ _ (omega (arith, grown, met_length)) (omega (arith, grown))

  -- No more are white than are green.
  pub white_range : s.white ≤ length s.log.green → t.white ≤ length t.log.green
  unfolding white_after
  white_range h =
      subst (λ u. u.white ≤ length u.log.green) (sym x.raise)
      (pick_either (λ w. w ≤ length x.core.log.green) (is_ignored x.rule) _ _ (omega (arith, grown)) (omega (arith, took_range h)))

-- ---- where it comes from

-- The lowest is below each.
pub least_low : (xs : List ℕ) (k : ℕ) → k < length xs → least xs ≤ get_or xs k 0
unfolding least
least_low [] k h = absurd (omega arith)
least_low (x ∷ []) zero h = omega arith
least_low (x ∷ []) (suc k) h = absurd (omega arith)
least_low (x ∷ y ∷ ys) zero h = omega arith
least_low (x ∷ y ∷ ys) (suc k) h = omega (arith, least_low (y ∷ ys) k (omega arith))

-- The highest is one's, if any is above 0.
pub highest_from : (l : List Action) → (highest_white l ≤ 0) ⊎ ((a : Action) × Memᴰ a l × (highest_white l ≤ a.white_length))
unfolding highest_white
highest_from [] = inl (omega arith)
highest_from (a ∷ l) = go (highest_from l) (dec_lt a.white_length (highest_white l))
  where
    go : (highest_white l ≤ 0) ⊎ ((b : Action) × Memᴰ b l × (highest_white l ≤ b.white_length)) → Dec (a.white_length < highest_white l)
        → (highest_white (a ∷ l) ≤ 0) ⊎ ((b : Action) × Memᴰ b (a ∷ l) × (highest_white (a ∷ l) ≤ b.white_length))
    go (inl h) (yes k) = absurd (omega arith)
    go (inr (b, m, h)) (yes k) = inr (b, Memᴰ.tail m, omega arith)
    go o (no k) = inr (a, Memᴰ.head refl, omega arith)

-- A taken event's white number: as before, or an entrant's length, or no more than each noted one.
pub data WhiteNow (s t : Server) (entering : Action → Type 0) : Type 0 where
  as_before : t.white ≤ s.white → WhiteNow s t entering
  entrant's : (a : Action) → entering a → t.white ≤ a.white_length → WhiteNow s t entering
  all_noted : t.white ≤ least t.noted → WhiteNow s t entering

-- What was taken: nothing, or an entrant's length.
abbrev Took : Server → (Action → Type 0) → ℕ → Type 0
Took s entering w = (w ≤ s.white) ⊎ ((a : Action) × entering a × (w ≤ a.white_length))

raising : (s t : Server) (entering : Action → Type 0) (b : Bool) (w : ℕ) → Took s entering w
    → WhiteNow s (with_white (pick b s.white (max w (min (length t.log.green) (least t.noted)))) t) entering
unfolding pick
raising s t entering true w o = as_before (omega arith)
raising s t entering false w o = go o (dec_lt w (min (length t.log.green) (least t.noted)))
  where
    go : Took s entering w → Dec (w < min (length t.log.green) (least t.noted))
        → WhiteNow s (with_white (max w (min (length t.log.green) (least t.noted))) t) entering
    go o (yes k) = all_noted (omega arith)
    go (inl h) (no k) = as_before (omega arith)
    go (inr (a, m, h)) (no k) = entrant's a m (omega arith)

took_from : (o : Option Action) (l : Log) (s : Server) → Took s (λ a. o ≡ some a) (taken_from o l s.white)
unfolding taken_from pick
took_from none l s = inl (omega arith)
took_from (some a) l s = go (is_next l a) (dec_lt s.white a.white_length)
  where
    go : (b : Bool) → Dec (s.white < a.white_length) → Took s (λ c. some a ≡ some c) (pick b (max s.white (min (length l.green) a.white_length)) s.white)
    go false d = inl (omega arith)
    go true (yes k) = inr (a, refl, omega arith)
    go true (no k) = inl (omega arith)

took_own : (s : Server) → Took s (λ a. Memᴰ a s.log.own) (max s.white (min (length s.log.green) (highest_white s.log.own)))
took_own s = go (highest_from s.log.own) (dec_lt s.white (min (length s.log.green) (highest_white s.log.own)))
  where
    go : (highest_white s.log.own ≤ 0) ⊎ ((b : Action) × Memᴰ b s.log.own × (highest_white s.log.own ≤ b.white_length))
        → Dec (s.white < min (length s.log.green) (highest_white s.log.own))
        → Took s (λ a. Memᴰ a s.log.own) (max s.white (min (length s.log.green) (highest_white s.log.own)))
    go o (no d) = inl (omega arith)
    go (inl h) (yes d) = absurd (omega arith)
    go (inr (b, m, h)) (yes d) = inr (b, m, omega arith)

-- At a recovery: the own list enters.
pub recovery_white : (s t : Server) → WhiteNow s (with_white (white_after recovering s t) t) (λ a. Memᴰ a s.log.own)
unfolding white_after took_white is_recovering pick
recovery_white s t = raising s t (λ a. Memᴰ a s.log.own) (is_ignored recovering) (took_white recovering s) (took_own s)

-- At any other event.
pub event_white : (k : Rule) (s t : Server) → is_recovering k ≡ false → WhiteNow s (with_white (white_after k s t) t) (λ a. entrant k s ≡ some a)
unfolding white_after took_white pick
event_white k s t h =
    raising s t (λ a. entrant k s ≡ some a) (is_ignored k) (took_white k s)
    (subst (λ c. Took s (λ a. entrant k s ≡ some a) (pick c (max s.white (min (length s.log.green) (highest_white s.log.own))) (taken_from (entrant k s) (met_log k s) s.white)))
    (sym h) (took_from (entrant k s) (met_log k s) s))

-- ---- an entrant is carried

abbrev Carried : Server → Record → Option Rule → Type 0
Carried s r none = Unit {0}
Carried s r (some k) = (is_recovery (says r) ≡ false → is_recovering k ≡ false) × ((a : Action) → entrant k s ≡ some a → Memᴰ a (carried r))

nothing : {X : Type 0} (a : Action) → none ≡ some a → X
nothing a e = absurd (none-ne-some a e)

this : (a b : Action) → some a ≡ some b → Memᴰ b (a ∷ [])
this a b e = Memᴰ.head (sym (some_same e))

module _ (s : Server) where
  placed_this : (p : ℕ) (a b : Action) → pick (1 ≤? p and p ≤? length s.log.green) none (some a) ≡ some b → Memᴰ b (a ∷ [])
  unfolding pick
  placed_this p a b = go (1 ≤? p and p ≤? length s.log.green)
    where
      go : (c : Bool) → pick c none (some a) ≡ some b → Memᴰ b (a ∷ [])
      go true e = nothing b e
      go false e = this a b e

  carried_action : (m : Mode) (a : Action) → Carried s (action a) (on_action m a)
  unfolding on_action entrant is_recovering
  carried_action Non_prim a = (λ h. refl, λ b e. this a b e)
  carried_action Reg_prim a = (λ h. refl, λ b e. this a b e)
  carried_action Trans_prim a = (λ h. refl, λ b e. this a b e)
  carried_action Exchange_states a = (λ h. refl, λ b e. this a b e)
  carried_action Exchange_actions a = tt
  carried_action Construct a = tt
  carried_action No a = tt
  carried_action Un a = (λ h. refl, λ b e. this a b e)

  carried_resent : (m : Mode) (k p : ℕ) (a : Action) → Carried s (retransmission k p a) (on_retransmission m p a)
  unfolding on_retransmission entrant is_recovering
  carried_resent Non_prim k p a = (λ h. refl, λ b e. this a b e)
  carried_resent Reg_prim k p a = tt
  carried_resent Trans_prim k p a = tt
  carried_resent Exchange_states k p a = tt
  carried_resent Exchange_actions k p a = (λ h. refl, λ b e. placed_this p a b e)
  carried_resent Construct k p a = tt
  carried_resent No k p a = tt
  carried_resent Un k p a = tt

  carried_state : (m : Mode) (x : State) → Carried s (state x) (on_state m x)
  unfolding on_state entrant is_recovering
  carried_state Non_prim x = (λ h. refl, λ b e. nothing b e)
  carried_state Reg_prim x = tt
  carried_state Trans_prim x = tt
  carried_state Exchange_states x = (λ h. refl, λ b e. nothing b e)
  carried_state Exchange_actions x = tt
  carried_state Construct x = tt
  carried_state No x = tt
  carried_state Un x = tt

  carried_cpc : (m : Mode) (k i : ℕ) → Carried s (cpc k i) (on_cpc m k)
  unfolding on_cpc entrant is_recovering
  carried_cpc Non_prim k i = (λ h. refl, λ b e. nothing b e)
  carried_cpc Reg_prim k i = tt
  carried_cpc Trans_prim k i = tt
  carried_cpc Exchange_states k i = tt
  carried_cpc Exchange_actions k i = tt
  carried_cpc Construct k i = (λ h. refl, λ b e. nothing b e)
  carried_cpc No k i = (λ h. refl, λ b e. nothing b e)
  carried_cpc Un k i = tt

  carried_regular : (m : Mode) (i t : ℕ) → Carried s (regular i t) (on_regular m (record { id = i; set = t }))
  unfolding on_regular entrant is_recovering
  carried_regular Non_prim i t = (λ h. refl, λ b e. nothing b e)
  carried_regular Reg_prim i t = tt
  carried_regular Trans_prim i t = (λ h. refl, λ b e. nothing b e)
  carried_regular Exchange_states i t = tt
  carried_regular Exchange_actions i t = tt
  carried_regular Construct i t = tt
  carried_regular No i t = (λ h. refl, λ b e. nothing b e)
  carried_regular Un i t = (λ h. refl, λ b e. nothing b e)

  carried_transitional : (m : Mode) (t : ℕ) → Carried s (transitional t) (on_transitional m t)
  unfolding on_transitional entrant is_recovering
  carried_transitional Non_prim t = (λ h. refl, λ b e. nothing b e)
  carried_transitional Reg_prim t = (λ h. refl, λ b e. nothing b e)
  carried_transitional Trans_prim t = tt
  carried_transitional Exchange_states t = (λ h. refl, λ b e. nothing b e)
  carried_transitional Exchange_actions t = (λ h. refl, λ b e. nothing b e)
  carried_transitional Construct t = (λ h. refl, λ b e. nothing b e)
  carried_transitional No t = tt
  carried_transitional Un t = tt

  carried_by_lem : (m : Mode) (r : Record) → Carried s r (rule_for m r)
  unfolding rule_for entrant is_recovering is_recovery
  carried_by_lem m (action a) = carried_action m a
  carried_by_lem m (retransmission k p a) = carried_resent m k p a
  carried_by_lem m (state x) = carried_state m x
  carried_by_lem m (cpc k i) = carried_cpc m k i
  carried_by_lem m (regular i t) = carried_regular m i t
  carried_by_lem m (transitional t) = carried_transitional m t
  carried_by_lem m (request p) = (λ h. refl, λ b e. nothing b e)
  carried_by_lem m recovery = (λ h. not_both (sym h), λ b e. nothing b e)

  pub entrant_carried : (m : Mode) (r : Record) (k : Rule) → rule_for m r ≡ some k
      → (is_recovery (says r) ≡ false → is_recovering k ≡ false) × ((a : Action) → entrant k s ≡ some a → Memᴰ a (carried r))
  entrant_carried m r k e = subst (Carried s r) e (carried_by_lem m r)
