-- The step from the state that an event's action meets: a second Install of the log changes nothing, so it is the step from the state that the event
-- came to, but for what had turned green before.
use Prim.Native.Nat.{ℕ, ◌≤◌, max, min}
use mathlib.Core.Path.{◌≡◌, refl, sym, ap, subst, ◌∙◌}
use mathlib.Core.Bool.{Bool, true, false, not}
use mathlib.Core.List.{List, [], ◌∷◌}
use mathlib.Core.Option.{some}
use lib.ListN.{length, drop}
use Rattle.base.specs.Tests.{◌or◌, ◌=?◌, ◌≤?◌, pick}
use Rattle.base.proofs.TestLaws.{Known, holds, fails, known, eq_holds, eq_fails, pick_yes}
use Rattle.base.specs.Lists.{Begins}
use Rattle.base.proofs.Prefixes.{drop_beginning, begins_refl}
use Rattle.format.specs.Types.{Id, Action, Record, action, retransmission, state, cpc, regular, transitional, request, recovery, Reading, says}
use Rattle.format.specs.Types as format
use Rattle.format.specs.Read.{read}
use Rattle.replication.specs.Machine.Types.{Mode, Trans_prim, Un, Log, Server, Outcome, refused, taken, in_mode, with_log, with_votes, with_white, context_of}
use Rattle.replication.specs.Machine.Colours.{find, promote_found, green_id, green_ids, yellow}
use Rattle.replication.specs.Machine.Install.{ids_up_to, install_log, install_votes, install}
use Rattle.replication.specs.Machine.Rules.{Rule, late_installing, on_action, numbered_own, possible, from_member, is_ignored, within_quota, rule_for}
use Rattle.replication.specs.Machine.White.{least, entrant, met_log, taken_from, is_recovering, took_white, no_place, full, sifted, sieved, white_after, raised}
use Rattle.replication.specs.Machine.Step.{greened, stored, apply, apply_rule, answer, on_reading, in_bytes, step}
use Rattle.replication.specs.Machine.WellFormed.{well_formed}
use Rattle.replication.proofs.Step.Growth.{install_grows, green_gained}
use Rattle.replication.proofs.Step.ModeColours.{install_no_red}
use Rattle.replication.proofs.Step.Numbered.{numbers_install}
use Rattle.replication.proofs.WellFormed.Stages.{met_formed}
use Rattle.image.specs.Header.{mode_number}
use Rattle.image.specs.Decode.{mode_named}
use Rattle.image.specs.Image.{image}
use Rattle.image.specs.Layout.{state_length}
use Rattle.image.specs.Holding.{Holds}
use Rattle.image.specs.Outcome.{images_by, images_on, image_after}
use Rattle.image.proofs.ImageLaws.{image_again}
use Rattle.guards.proofs.ModeLaws.{in_mode_lem}
use Rattle.step.specs.Stages.{sieving, unraised, is_taken}
use Rattle.step.specs.Meeting.{met_by, met_in, met_on, met, installed_first}
use Rattle.step.proofs.BlankLaws.{grown_holds}
use Rattle.step.proofs.AnswerLaws.{rows_impossible, rows_outside}
use Rattle.step.proofs.MeetLaws.{early_stays, retransmission_stays, state_stays, cpc_stays, regular_stays, transitional_stays, request_stays, recovery_stays, row_stays, action_met}

-- ---- Install where no action is red

green_none : (ds : List Id) (l : Log) → l.red ≡ [] → green_ids ds l ≡ l
unfolding green_ids green_id find promote_found
green_none [] l e = refl
green_none (d ∷ ds) l e =
    let one : green_id d l ≡ l = ap (λ (r : List Action). promote_found (find d r) l) e in
    ap (green_ids ds) one ∙ green_none ds l e

install_still : (ds : List Id) (l : Log) → l.red ≡ [] → install_log ds l ≡ l
unfolding install_log
install_still ds l e = ap (green_ids (ids_up_to 0 l.cuts)) (green_none ds l e) ∙ green_none (ids_up_to 0 l.cuts) l e

-- ---- the two ways

pub data Meeting (s : Server) (e : List ℕ) : Type 0 where
  same : met s e ≡ s → Meeting s e
  late : (a : Action) → read (context_of s) e ≡ says (action a) → s.membership.mode ≡ Un → possible s (action a) ≡ true
      → from_member s.membership (action a) ≡ true → met s e ≡ installed_first s → Meeting s e

module _ (s : Server) (a : Action) where
  late_rule : s.membership.mode ≡ Un → rule_for s.membership.mode (action a) ≡ some (late_installing a)
  unfolding rule_for on_action
  late_rule un = ap (λ (m : Mode). on_action m a) un

  late_member : (t : Bool) → from_member s.membership (action a) ≡ t → (is_ignored (late_installing a) or from_member s.membership (action a)) ≡ t
  unfolding is_ignored ◌or◌
  late_member t q = q

  -- Which mode it is in.
  not_un : (mode_number s.membership.mode =? 7) ≡ false → s.membership.mode ≡ Un → ⊥
  unfolding mode_number
  not_un n u = eq_fails (mode_number s.membership.mode) 7 n (ap mode_number u)

  is_un : (mode_number s.membership.mode =? 7) ≡ true → s.membership.mode ≡ Un
  unfolding mode_number mode_named pick ◌=?◌
  is_un n = in_mode_lem s.membership.mode 7 (sym (eq_holds (mode_number s.membership.mode) 7 n))

pub meeting : (s : Server) (e : List ℕ) → Meeting s e
unfolding met met_on unraised
meeting s e = go (read (context_of s) e) refl
  where
    stays : (r : Record) → read (context_of s) e ≡ says r → met_in s r ≡ s → Meeting s e
    stays r f q = Meeting.same (ap (met_on s) f ∙ q)

    by_rows_lem : (a : Action) → read (context_of s) e ≡ says (action a) → s.membership.mode ≡ Un → Known (possible s (action a))
        → Known (from_member s.membership (action a)) → Meeting s e
    by_rows_lem a f un (fails p) m = stays (action a) f (row_stays s (action a) 5 (rows_impossible sieving s (action a) p))
    by_rows_lem a f un (holds p) (fails m) =
        stays (action a) f (row_stays s (action a) 6 (rows_outside sieving s (action a) (late_installing a) (late_rule s a un) p (late_member s a false m)))
    by_rows_lem a f un (holds p) (holds m) = Meeting.late a f un p m (ap (met_on s) f ∙ action_met s a un p m)

    by_mode : (a : Action) → read (context_of s) e ≡ says (action a) → Known (mode_number s.membership.mode =? 7) → Meeting s e
    by_mode a f (fails n) = stays (action a) f (early_stays s (not_un s a n) (action a))
    by_mode a f (holds n) = by_rows_lem a f (is_un s a n) (known (possible s (action a))) (known (from_member s.membership (action a)))

    go : (x : Reading Record) → read (context_of s) e ≡ x → Meeting s e
    go (format.refused k) f = Meeting.same (ap (met_on s) f)
    go (says (action a)) f = by_mode a f (known (mode_number s.membership.mode =? 7))
    go (says (retransmission k p a)) f = stays (retransmission k p a) f (retransmission_stays s k p a)
    go (says (state x)) f = stays (state x) f (state_stays s x)
    go (says (cpc k i)) f = stays (cpc k i) f (cpc_stays s k i)
    go (says (regular i t)) f = stays (regular i t) f (regular_stays s i t)
    go (says (transitional t)) f = stays (transitional t) f (transitional_stays s t)
    go (says (request p)) f = stays (request p) f (request_stays s p)
    go (says recovery) f = stays recovery f (recovery_stays s)

-- ---- an action in Un

-- Its step, from any state in Un that takes it.
late_step : (u : Server) (e : List ℕ) (a : Action) → read (context_of u) e ≡ says (action a) → u.membership.mode ≡ Un → possible u (action a) ≡ true
    → from_member u.membership (action a) ≡ true
    → step u e ≡ in_bytes (raised (late_installing a) u (apply (sieved (full (late_installing a) u) (late_installing a)) u))
unfolding step on_reading answer rule_for on_action apply_rule is_ignored ◌or◌ within_quota
late_step u e a f un p m =
    let k : Rule = late_installing a in
    let x : Outcome Record = raised k u (apply (sieved (full k u) k) u) in
    ap (λ (r : Reading Record). in_bytes (on_reading u r)) f
    ∙ ap (λ (o : Mode). in_bytes (apply_rule (on_action o a) u (action a))) un
    ∙ ap in_bytes (sym (pick_yes (possible u (action a)) x _ _ p (pick_yes (from_member u.membership (action a)) x _ _ m (pick_yes true x x (refused 3) refl refl))))

module _ (s : Server) (a : Action) where
  abbrev ids : List Id
  ids = s.votes.yellow.ids

  abbrev first : Log
  first = install_log ids s.log

  -- What it makes where the log x is met.
  abbrev core : Log → Server
  core x =
      in_mode Trans_prim
      (yellow (sifted (no_place (some a) x (taken_from (some a) x s.white) s.quota) a) (with_votes (install_votes s.votes) (with_log x s)))

  abbrev after : Log → Server
  after x = with_white (max (taken_from (some a) x s.white) (min (length (core x).log.green) (least (core x).noted))) (core x)

  made_here : in_bytes (raised (late_installing a) s (apply (sieved (full (late_installing a) s) (late_installing a)) s))
      ≡ taken (after first) [] true (greened s (core first))
  unfolding in_bytes raised apply sieved full stored install white_after is_ignored took_white is_recovering entrant met_log pick
  made_here = refl

  made_there : in_bytes (raised (late_installing a) (installed_first s) (apply (sieved (full (late_installing a) (installed_first s)) (late_installing a)) (installed_first s)))
      ≡ taken (after (install_log ids first)) [] true (greened (installed_first s) (core (install_log ids first)))
  unfolding in_bytes raised apply sieved full stored install white_after is_ignored took_white is_recovering entrant met_log pick
  made_there = refl

  pub still_possible : possible s (action a) ≡ true → possible (installed_first s) (action a) ≡ true
  unfolding possible numbered_own
  still_possible p = ap (λ (n : ℕ). not (a.id.creator =? s.me) or (a.id.index ≤? n)) (numbers_install ids s.log).numbered ∙ p

  module _ (ok : well_formed s ≡ true) where
    again : install_log ids first ≡ first
    again = install_still ids first (install_no_red s ok)

    there_as : ◌≡◌ {A = Outcome (List ℕ)} (taken (after (install_log ids first)) [] true (greened (installed_first s) (core (install_log ids first))))
        (taken (after first) [] true (greened (installed_first s) (core first)))
    there_as = λ i. taken (after (again i)) [] true (greened (installed_first s) (core (again i)))

    -- The same state after it.
    pub late_same : (e : List ℕ) → read (context_of s) e ≡ says (action a) → s.membership.mode ≡ Un → possible s (action a) ≡ true
        → from_member s.membership (action a) ≡ true → (t : Server) (rs : List (List ℕ)) (w : Bool) (g : List Action) → step s e ≡ taken t rs w g
        → step (installed_first s) e ≡ taken t rs w (drop (length first.green) t.log.green)
    unfolding context_of greened
    late_same e f un p m t rs w g h =
        let here : taken (after first) [] true (greened s (core first)) ≡ taken t rs w g = sym (late_step s e a f un p m ∙ made_here) ∙ h in
        let is : (after first ≡ t) × ([] ≡ rs) × (true ≡ w) = parts here in
        late_step (installed_first s) e a f un (still_possible p) m ∙ made_there ∙ there_as
        ∙ (λ i. taken (is.0 i) (is.1 i) (is.2 i) (drop (length first.green) (is.0 i).log.green))
      where
        parts : {u : Server} {x : List (List ℕ)} {z : Bool} {j : List Action} → taken u x z j ≡ taken t rs w g → (u ≡ t) × (x ≡ rs) × (z ≡ w)
        parts q = (cc, cc, cc)

    pub late_again : (e : List ℕ) → read (context_of s) e ≡ says (action a) → s.membership.mode ≡ Un → possible s (action a) ≡ true
        → from_member s.membership (action a) ≡ true → met (installed_first s) e ≡ installed_first s
    unfolding met met_on context_of
    late_again e f un p m =
        ap (met_on (installed_first s)) f ∙ action_met (installed_first s) a un (still_possible p) m ∙ ap (λ (x : Log). with_log x s) again

    -- The images of its own rule, over the one that it met.
    pub late_images : (e : List ℕ) → read (context_of s) e ≡ says (action a) → s.membership.mode ≡ Un → (t : Server) (b : List ℕ)
        → state_length s.servers s.quota ≤ length b → image_after (installed_first s) e t (image (installed_first s) b) ≡ image_after s e t b
    unfolding context_of image_after images_on images_by rule_for on_action met_log took_white is_recovering entrant pick
    late_images e f un t b room =
        let k : Rule = late_installing a in
        ap (λ (r : Reading Record). images_on (installed_first s) r t (image (installed_first s) b)) f
        ∙ ap (λ (o : Mode). images_by (on_action o a) (installed_first s) t (image (installed_first s) b)) un
        ∙ ap (λ (x : Log). over x (image (with_log x s) (image (installed_first s) b))) again
        ∙ ap (over first) (image_again (installed_first s) b (met_formed s ok k) room)
        ∙ sym (ap (λ (r : Reading Record). images_on s r t b) f ∙ ap (λ (o : Mode). images_by (on_action o a) s t b) un)
      where
        over : Log → List ℕ → List ℕ
        over x c = image t (image (with_white (taken_from (some a) x s.white) t) (image (with_white (taken_from (some a) x s.white) (with_log x s)) c))

-- ---- any event

-- What a taken event meets, by its rule.
rule_met : (u : Server) (e : List ℕ) (r : Record) (k : Rule) → read (context_of u) e ≡ says r → rule_for u.membership.mode r ≡ some k
    → is_taken (unraised u r) ≡ true → met u e ≡ with_log (met_log k u) u
unfolding met met_on met_in met_by
rule_met u e r k f rule t =
    ap (met_on u) f ∙ (λ i. pick (t i) (met_by (rule i) u) u) ∙ sym (pick_yes true (with_log (met_log k u) u) _ _ refl refl)

module _ (s : Server) (e : List ℕ) (ok : well_formed s ≡ true) where
  pub met_well : well_formed (met s e) ≡ true
  unfolding met_log
  met_well = go (meeting s e)
    where
      go : Meeting s e → well_formed (met s e) ≡ true
      go (Meeting.same q) = ap well_formed q ∙ ok
      go (Meeting.late a f un p m q) = ap well_formed q ∙ met_formed s ok (late_installing a)

  -- What an event from the state met turns green is what it turns green behind that.
  pub met_step : (t : Server) (rs : List (List ℕ)) (w : Bool) (g : List Action) → step s e ≡ taken t rs w g
      → step (met s e) e ≡ taken t rs w (drop (length (met s e).log.green) t.log.green)
  met_step t rs w g h = go (meeting s e)
    where
      go : Meeting s e → step (met s e) e ≡ taken t rs w (drop (length (met s e).log.green) t.log.green)
      go (Meeting.same q) =
          let gained : g ≡ drop (length s.log.green) t.log.green
          = sym (ap (drop (length s.log.green)) (green_gained s e t rs w g h) ∙ drop_beginning s.log.green g) in
          subst (λ (u : Server). step u e ≡ taken t rs w (drop (length u.log.green) t.log.green)) (sym q) (h ∙ ap (taken t rs w) gained)
      go (Meeting.late a f un p m q) =
          subst (λ (u : Server). step u e ≡ taken t rs w (drop (length u.log.green) t.log.green)) (sym q)
          (late_same s a ok e f un p m t rs w g h)

  pub met_images : (t : Server) (b : List ℕ) → Holds s b → image_after (met s e) e t (image (met s e) b) ≡ image_after s e t b
  met_images t b r = go (meeting s e)
    where
      go : Meeting s e → image_after (met s e) e t (image (met s e) b) ≡ image_after s e t b
      go (Meeting.same q) = ap (λ (u : Server). image_after u e t (image u b)) q ∙ ap (image_after s e t) r.written
      go (Meeting.late a f un p m q) = ap (λ (u : Server). image_after u e t (image u b)) q ∙ late_images s a ok e f un t b r.long

  -- What it meets once more is the same.
  pub met_met : met (met s e) e ≡ met s e
  met_met = go (meeting s e)
    where
      go : Meeting s e → met (met s e) e ≡ met s e
      go (Meeting.same q) = ap (λ (u : Server). met u e) q
      go (Meeting.late a f un p m q) = subst (λ (u : Server). met u e ≡ u) (sym q) (late_again s a ok e f un p m)

  pub met_holds : (b c : List ℕ) → Holds s b → c ≡ image (met s e) b → Holds (met s e) c
  unfolding met_log
  met_holds b c r i = go (meeting s e)
    where
      go : Meeting s e → Holds (met s e) c
      go (Meeting.same q) = subst (λ (u : Server). Holds u c) (sym q) (subst (Holds s) (sym (i ∙ ap (λ (u : Server). image u b) q ∙ r.written)) r)
      go (Meeting.late a f un p m q) =
          subst (λ (u : Server). Holds u c) (sym q)
          (grown_holds s (install_log s.votes.yellow.ids s.log) b c r (i ∙ ap (λ (u : Server). image u b) q) (met_formed s ok (late_installing a))
          (install_grows s.votes.yellow.ids s.log).greens)

  pub met_grows : Begins s.log.green (met s e).log.green
  met_grows = go (meeting s e)
    where
      go : Meeting s e → Begins s.log.green (met s e).log.green
      go (Meeting.same q) = subst (λ (u : Server). Begins s.log.green u.log.green) (sym q) (begins_refl _)
      go (Meeting.late a f un p m q) =
          subst (λ (u : Server). Begins s.log.green u.log.green) (sym q) (install_grows s.votes.yellow.ids s.log).greens

  -- Nothing else changes.
  pub met_kept : ((met s e).servers ≡ s.servers) × ((met s e).quota ≡ s.quota) × ((met s e).white ≡ s.white)
  met_kept = go (meeting s e)
    where
      go : Meeting s e → ((met s e).servers ≡ s.servers) × ((met s e).quota ≡ s.quota) × ((met s e).white ≡ s.white)
      go (Meeting.same q) = (ap (λ (u : Server). u.servers) q, ap (λ (u : Server). u.quota) q, ap (λ (u : Server). u.white) q)
      go (Meeting.late a f un p m q) = (ap (λ (u : Server). u.servers) q, ap (λ (u : Server). u.quota) q, ap (λ (u : Server). u.white) q)

  -- The rule that takes the event there meets the log as it is.
  pub met_rule : (r : Record) (k : Rule) → read (context_of (met s e)) e ≡ says r → rule_for (met s e).membership.mode r ≡ some k
      → is_taken (unraised (met s e) r) ≡ true → met_log k (met s e) ≡ (met s e).log
  met_rule r k f rule t = ap (λ (u : Server). u.log) (sym (rule_met (met s e) e r k f rule t) ∙ met_met)

-- An event that is refused meets no other state.
pub met_refused : (s : Server) (e : List ℕ) (k : ℕ) → step s e ≡ refused k → met s e ≡ s
unfolding in_bytes raised apply sieved stored
met_refused s e k h = go (meeting s e)
  where
    never : {t : Server} {rs : List (List ℕ)} {w : Bool} {g : List Action} → ◌≡◌ {A = Outcome (List ℕ)} (taken t rs w g) (refused k) → met s e ≡ s
    never q = absurd (subst (λ (x : Outcome (List ℕ)). kind x) q tt)
      where
        kind : Outcome (List ℕ) → Type 0
        kind (refused j) = ⊥
        kind (taken t rs w g) = Unit {0}

    go : Meeting s e → met s e ≡ s
    go (Meeting.same q) = q
    go (Meeting.late a f un p m q) = never (sym (late_step s e a f un p m ∙ made_here s a) ∙ h)
