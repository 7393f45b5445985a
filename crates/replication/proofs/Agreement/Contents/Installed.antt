-- All Installs in one configuration start from the same cuts and give the same green list.
use Prim.Native.Nat.{ℕ, suc, ◌≤◌, ◌<◌}
use mathlib.Core.Path.{◌≡◌, refl, sym, ap, subst, ◌∙◌}
use mathlib.Core.Bool.{Bool, true, false}
use mathlib.Core.List.{List}
use mathlib.Core.Logic.{◌⊎◌, inl, inr}
use native.Mathlib.Omega.{arith}
use native.Mathlib.Decide.{dec_lt}
use Rattle.base.proofs.TestLaws.{not_both}
use Rattle.format.specs.Types.{Record}
use Rattle.replication.specs.Machine.Types.{Mode, Non_prim, Reg_prim, Trans_prim, Exchange_states, Exchange_actions, Construct, No, Un, Configuration, Server}
use Rattle.replication.specs.Machine.Exchange.{quorum, taken_yellow, taken_votes, attempted}
use Rattle.replication.specs.Machine.Install.{install_log, install}
use Rattle.replication.specs.Machine.Requests.{sends_now, numbered, send_waiting}
use Rattle.replication.specs.Machine.Step.{the_set, here_set, collected, attempting, decided, with_cpc, leave, green_and_note}
use Rattle.replication.specs.Machine.WellFormed.{ids_in}
use Rattle.replication.specs.Laws.Transitions as L
use Rattle.replication.specs.Laws.Transitions.{Ends, Leads, Transition}
use Rattle.replication.specs.Laws.Order.{SameHeld}
use Rattle.replication.specs.Runs.Run.{Run}
use Rattle.replication.specs.Runs.Happenings.{Falls, Takes}
use Rattle.replication.proofs.Runs.Roomy.{Roomy as Allowed}
use Rattle.replication.proofs.Step.SameHeld.{held_refl, held_same, held_trans}
use Rattle.replication.proofs.Step.Control.{yellow_membership}
use Rattle.replication.proofs.Step.Greens.{yellow_green}
use Rattle.replication.proofs.Runs.Numbers.{invariant_at}
use Rattle.replication.proofs.Runs.AllowedTurns.{memory_at}
use Rattle.replication.proofs.Runs.Stays.{membership_at, in_stay, entering_membership}
use Rattle.replication.proofs.Runs.Progress.{stay_member}
use Rattle.replication.proofs.Agreement.Terms as T
use Rattle.replication.proofs.Agreement.Terms.{EndsAt, MarksAt, InstallsAt, AfterMarking}
use Rattle.replication.proofs.Step.Apart.{mode_number, other_mode, sends_in_lem}
use Rattle.replication.proofs.Agreement.Exchange.Stages.{remains, stage, InCom, remaining, stage_onward}
use Rattle.replication.proofs.Agreement.Exchange.Endings.{ends_decide}
use Rattle.replication.proofs.Agreement.Exchange.Marked.{marked_here}
use Rattle.replication.proofs.Agreement.Exchange.SameStates as S
use Rattle.replication.proofs.Agreement.Exchange.Installs.{Installing, on_cpc_lem, on_action_lem, installing_lowered, installs_on_lem}
use Rattle.replication.proofs.Agreement.Lists.Held.{HeldExactly, held_exactly}
use Rattle.replication.proofs.Agreement.Lists.Install.{install_same}
use Rattle.replication.proofs.Agreement.Contents.Agreeable.{green_ids_at, Agreeable, agreeable_earlier}
use Rattle.replication.proofs.Agreement.Contents.Logs.{MemoryStep, still, moved, memory_step, acting}
use Rattle.replication.proofs.Agreement.Contents.Places.{EndedAt, marks_ended}
use Rattle.replication.proofs.Agreement.Contents.Same.{same_ids_lem, same_cuts, same_greens}

-- ---- one step

-- The states in which an attempt is under way.
unfoldable pub attempts : Mode → Bool
attempts Non_prim = false
attempts Reg_prim = false
attempts Trans_prim = false
attempts Exchange_states = false
attempts Exchange_actions = false
attempts Construct = true
attempts No = true
attempts Un = true

elsewhere : {X : Type 0} {m : Mode} (o : Mode) → m ≡ o → attempts o ≡ false → attempts m ≡ true → X
elsewhere o e f h = not_both (sym f ∙ ap attempts (sym e) ∙ h)

leads_attempts : {m o : Mode} → Leads m o → attempts o ≡ true → attempts m ≡ true
unfolding attempts
leads_attempts L.stays h = not_both h
leads_attempts L.parts h = not_both h
leads_attempts L.interrupts_states h = not_both h
leads_attempts L.interrupts_actions h = not_both h
leads_attempts L.interrupts_construct h = refl

-- What an attempt keeps.
pub record Kept (s t : Server) : Type 0 where
  pub was : attempts s.membership.mode ≡ true
  pub log : SameHeld s.log t.log
  pub votes : t.votes ≡ s.votes

-- An event of a stay that leaves an attempt under way changes neither what is held nor votes.
attempt_keeps : {s : Server} {r : Record} {t : Server} {rs : List Record} {b : Bool} → Transition s r t rs b → remains r ≡ true → 3 ≤ stage s.membership.mode
    → attempts t.membership.mode ≡ true → Kept s t
unfolding green_and_note install send_waiting numbered with_cpc leave remains stage attempts sends_now
attempt_keeps (L.ignores_state x e) k h w = elsewhere Non_prim e refl w
attempt_keeps (L.ignores_cpc y i e) k h w = elsewhere Non_prim e refl w
attempt_keeps (L.reddens a e) k h w = elsewhere Non_prim e refl w
attempt_keeps (L.reddens_resent y p a e) k h w = elsewhere Non_prim e refl w
attempt_keeps (L.reddens_in_exchange a e) k h w = elsewhere Exchange_states e refl w
attempt_keeps (L.greens a e) k h w = elsewhere Reg_prim e refl w
attempt_keeps {s} (L.yellows a e) k h w = elsewhere Trans_prim (ap (λ m. m.mode) (yellow_membership a s) ∙ e) refl w
attempt_keeps (L.installs_late a e) k h w = not_both w
attempt_keeps (L.exchanges y p a e c) k h w = absurd (omega (arith, ap stage e))
attempt_keeps (L.exchanges_last y p a t rs e c x) k h w = absurd (omega (arith, ap stage e))
attempt_keeps (L.collects x e c) k h w = absurd (omega (arith, ap stage e))
attempt_keeps (L.collects_last x e c d) k h w = absurd (omega (arith, ap stage e))
attempt_keeps (L.collects_whole x t rs e c d y) k h w = absurd (omega (arith, ap stage e))
attempt_keeps (L.counts y i e c) k h w = record { was = ap attempts e; log = held_refl _; votes = refl }
attempt_keeps (L.installs y i e c) k h w = not_both w
attempt_keeps (L.counts_late y i e c) k h w = record { was = ap attempts e; log = held_refl _; votes = refl }
attempt_keeps (L.counts_all_late y i e c) k h w = record { was = ap attempts e; log = held_refl _; votes = refl }
attempt_keeps (L.joins c e) k h w = not_both k
attempt_keeps (L.joins_marked c e) k h w = not_both k
attempt_keeps (L.joins_unmarked c e) k h w = not_both k
attempt_keeps (L.joins_yellow c e) k h w = not_both k
attempt_keeps (L.leaves m o x e y) k h w = record { was = ap attempts e ∙ leads_attempts y w; log = held_refl _; votes = refl }
attempt_keeps (L.sends p c) k h w = sends_in_lem _ _ c (λ e. elsewhere Non_prim e refl w) (λ e. elsewhere Reg_prim e refl w)
attempt_keeps (L.numbers p c) k h w = record { was = w; log = record { green = refl; red = refl; cuts = refl }; votes = refl }
attempt_keeps L.recovers k h w = not_both k

ends_yellow : {t u : Server} {rs : List Record} → Ends t u rs → u.votes.yellow ≡ taken_yellow (collected t)
unfolding attempting decided send_waiting numbered taken_votes attempted
ends_yellow (L.with_quorum h) = refl
ends_yellow (L.without_quorum h) = refl

-- What an Install makes of the green list.
install_green : {s t : Server} {r : Record} {rs : List Record} {b : Bool} → Transition s r t rs b → Installing s t r
    → t.log.green ≡ (install_log s.votes.yellow.ids s.log).green
unfolding mode_number install with_cpc send_waiting numbered
install_green {s = s} (L.collects _ _ _) h = elim h [ ]
install_green {s = s} (L.collects_last _ _ _ _) h = elim h [ ]
install_green {s = s} (L.exchanges k p a _ _) h = elim h [ ]
install_green {s = s} (L.ignores_state _ _) h = elim h [ ]
install_green {s = s} (L.joins c _) h = elim h [ ]
install_green {s = s} (L.joins_marked c _) h = elim h [ ]
install_green {s = s} (L.joins_unmarked c _) h = elim h [ ]
install_green {s = s} (L.joins_yellow c _) h = elim h [ ]
install_green {s = s} (L.leaves from to _ _ _) h = elim h [ ]
install_green {s = s} (L.numbers p _) h = elim h [ ]
install_green {s = s} (L.reddens_resent k p a _) h = elim h [ ]
install_green {s = s} (L.sends p _) h = elim h [ ]
install_green {s = s} L.recovers h = elim h [ ]
install_green {s = s} {t = t} {rs = rs} (L.collects_whole _ _ _ _ _ _ _) h = elim h [ ]
install_green {s = s} {t = t} {rs = rs} (L.exchanges_last k p a _ _ _ _ _) h = elim h [ ]
install_green {s} (L.installs_late a e) h = yellow_green a (install s)
install_green (L.installs k i e c) h = refl
install_green {s} (L.reddens a e) (on_action_lem b f g) = other_mode e f (λ z. omega arith)
install_green {s} (L.reddens_in_exchange a e) (on_action_lem b f g) = other_mode e f (λ z. omega arith)
install_green {s} (L.greens a e) (on_action_lem b f g) = other_mode e f (λ z. omega arith)
install_green {s} (L.yellows a e) (on_action_lem b f g) = other_mode e f (λ z. omega arith)
install_green {s} (L.ignores_cpc k i e) (on_cpc_lem x y f g) = other_mode e f (λ z. omega arith)
install_green {s} (L.counts k i e c) (on_cpc_lem x y f g) = other_mode f g (λ z. omega arith)
install_green {s} (L.counts_late k i e c) (on_cpc_lem x y f g) = other_mode e f (λ z. omega arith)
install_green {s} (L.counts_all_late k i e c) (on_cpc_lem x y f g) = other_mode e f (λ z. omega arith)

-- ---- from the marking to the Install

module _ {n q : ℕ} {l : Run} (A : Allowed n q l) where
  module _ {r i : ℕ} {c : Configuration} (x : MarksAt n q l r i c) where
    marked : stage (membership_at n q l (suc r) i).mode ≡ 3
    unfolding stage here_set the_set
    marked = go (ends_decide x.ending.ends)
      where
        go : ((quorum (collected x.ending.judged) (here_set x.ending.judged) ≡ true) × (x.ending.acts.after.membership.mode ≡ Construct))
            ⊎ ((quorum (collected x.ending.judged) (here_set x.ending.judged) ≡ false) × (x.ending.acts.after.membership.mode ≡ Non_prim))
            → stage (membership_at n q l (suc r) i).mode ≡ 3
        go (inl e) = ap (λ s. stage s.membership.mode) x.ending.acts.memory_next ∙ ap stage e.1
        go (inr e) =
            not_both (sym e.0 ∙ ap (λ d. quorum (collected x.ending.judged) (the_set d)) x.ending.configuration ∙ x.has_quorum)

    abbrev SameSince : ℕ → Type 0
    SameSince y = SameHeld (memory_at n q l (suc r) i).log (memory_at n q l y i).log × ((memory_at n q l y i).votes ≡ (memory_at n q l (suc r) i).votes)

    since_step : (y : ℕ) → InCom n q l y i c → r < y → (Falls n q l y i → ⊥) → ((d : Configuration) → Takes n q l y i d → ⊥)
        → (attempts (membership_at n q l y i).mode ≡ true → SameSince y) → attempts (membership_at n q l (suc y) i).mode ≡ true → MemoryStep A y i → SameSince (suc y)
    since_step y a h f g k w (still m o) =
        let z = k (ap (λ s. attempts s.membership.mode) (sym m) ∙ w) in
        (held_trans _ _ _ z.0 (held_same _ _ (ap (λ s. s.log) m)), ap (λ s. s.votes) m ∙ z.1)
    since_step y a h f g k w (moved v) =
        let s = stage_onward A i c (suc r) y (S.still_here A x.ending) a h in
        let u =
        attempt_keeps v.moves (remaining g f v.by.event (acting A v)) (omega (arith, marked))
        (ap (λ s. attempts s.membership.mode) (sym v.memory_next) ∙ w)
        in
        let z = k u.was in
        (held_trans _ _ _ (held_trans _ _ _ z.0 u.log) (held_same _ _ (ap (λ s. s.log) v.memory_next)), ap (λ s. s.votes) v.memory_next ∙ u.votes ∙ z.1)

    -- As long as the attempt is under way.
    pub same_since : (y : ℕ) → InCom n q l y i c → r < y → attempts (membership_at n q l y i).mode ≡ true → SameSince y
    unfolding attempts
    same_since =
        in_stay n q l i c (λ y. r < y → attempts (membership_at n q l y i).mode ≡ true → SameSince y)
        (λ t h b w. not_both (ap (λ m. attempts m.mode) (sym (entering_membership A t i c h)) ∙ w))
        (λ y a b f g k h w. go y a f g k h w (dec_lt r y))
      where
        go : (y : ℕ) → InCom n q l y i c → (Falls n q l y i → ⊥) → ((d : Configuration) → Takes n q l y i d → ⊥)
            → (r < y → attempts (membership_at n q l y i).mode ≡ true → SameSince y) → r < suc y → attempts (membership_at n q l (suc y) i).mode ≡ true → Dec (r < y)
            → SameSince (suc y)
        go y a f g k h w (yes b) = since_step y a b f g (k b) w (memory_step A y i f)
        go y a f g k h w (no b) =
            let e : y ≡ r = omega arith in
            (held_same _ _ (ap (λ z. (memory_at n q l (suc z) i).log) e), ap (λ z. (memory_at n q l (suc z) i).votes) e)

  -- The marking that an Install completes, and what the server had then.
  pub record Completing {p i : ℕ} {c : Configuration} (x : InstallsAt n q l p i c) : Type 0 where
    pub place : ℕ
    pub earlier : place < p
    pub marking : MarksAt n q l place i c
    pub log : SameHeld (memory_at n q l (suc place) i).log (memory_at n q l p i).log
    pub votes : (memory_at n q l p i).votes ≡ (memory_at n q l (suc place) i).votes

  pub completing : {p i : ℕ} {c : Configuration} (x : InstallsAt n q l p i c) → Completing x
  unfolding attempts
  completing {p} {i} {c} x = go (installs_on_lem A x)
    where
      from : (m : Mode) → (membership_at n q l p i).mode ≡ m → AfterMarking n q l m → attempts m ≡ true → Completing x
      from m e a h =
          let y = marked_here A p i c m (record { up = x.acts.up; here = x.here }) e a in
          let z = same_since y.2 p x.here y.1 (ap attempts e ∙ h) in
          record { place = y.0; earlier = y.1; marking = y.2; log = z.0; votes = z.1 }

      go : {r : Record} → Installing (memory_at n q l p i) (memory_at n q l (suc p) i) r → Completing x
      go (on_cpc_lem k d e f) = from Construct e T.in_construct refl
      go (on_action_lem a e f) = from Un e T.in_un refl

  -- What an Install makes of the green list.
  pub installs_green : {p i : ℕ} {c : Configuration} (x : InstallsAt n q l p i c)
      → (memory_at n q l (suc p) i).log.green ≡ (install_log (memory_at n q l p i).votes.yellow.ids (memory_at n q l p i).log).green
  installs_green {p} {i} x =
      ap (λ s. s.log.green) x.acts.memory_next
      ∙ install_green x.acts.moves
      (installing_lowered x.acts.white (subst (λ t. Installing (memory_at n q l p i) t x.acts.by.event) x.acts.memory_next (installs_on_lem A x)))

  -- The yellow list after the end of an exchange.
  pub ended_yellow : {p i : ℕ} {c : Configuration} (x : EndsAt n q l p i c) → (memory_at n q l (suc p) i).votes.yellow ≡ taken_yellow (collected x.judged)
  ended_yellow x = ap (λ s. s.votes.yellow) x.acts.memory_next ∙ ends_yellow x.ends

  -- ---- two Installs in one configuration

  module _ {p r i j : ℕ} {c : Configuration} (x : InstallsAt n q l p i c) (y : InstallsAt n q l r j c) (G : Agreeable n q l p c) (H : Agreeable n q l r c) where
    u : Completing x
    u = completing x

    v : Completing y
    v = completing y

    before : EndedAt A u.place i c
    before = marks_ended A u.marking

    after : EndedAt A v.place j c
    after = marks_ended A v.marking

    earlier : Agreeable n q l u.place c
    earlier = agreeable_earlier n q l (omega (arith, u.earlier)) G

    later : Agreeable n q l v.place c
    later = agreeable_earlier n q l (omega (arith, v.earlier)) H

    pub same_install_cuts : (memory_at n q l p i).log.cuts ≡ (memory_at n q l r j).log.cuts
    same_install_cuts = u.log.cuts ∙ same_cuts A before after earlier later ∙ sym v.log.cuts

    same_yellow : (memory_at n q l p i).votes.yellow ≡ (memory_at n q l r j).votes.yellow
    same_yellow =
        ap (λ w. w.yellow) u.votes
        ∙ ended_yellow u.marking.ending
        ∙ ap taken_yellow (S.same_states A u.place v.place i j c u.marking.ending v.marking.ending)
        ∙ sym (ended_yellow v.marking.ending)
        ∙ ap (λ w. w.yellow) (sym v.votes)

    exact : (p i : ℕ) → InCom n q l p i c → HeldExactly (memory_at n q l p i).log
    exact p i h = held_exactly (memory_at n q l p i) (invariant_at n q i A.allowed.sizes (stay_member A i p c h).0 l p).memory

    pub same_install_ids : green_ids_at n q l (suc p) i ≡ green_ids_at n q l (suc r) j
    same_install_ids =
        ap ids_in (installs_green x)
        ∙ ap (λ w. ids_in (install_log w.ids (memory_at n q l p i).log).green) same_yellow
        ∙ install_same (memory_at n q l r j).votes.yellow.ids (memory_at n q l p i).log (memory_at n q l r j).log (exact p i x.here) (exact r j y.here)
        (ap ids_in u.log.green ∙ same_ids_lem A before after earlier later ∙ ap ids_in (sym v.log.green)) same_install_cuts
        ∙ ap ids_in (sym (installs_green y))

    pub same_install : (memory_at n q l (suc p) i).log.green ≡ (memory_at n q l (suc r) j).log.green
    same_install = same_greens A (suc p) (suc r) i j same_install_ids
