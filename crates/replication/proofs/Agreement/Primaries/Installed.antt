-- A server installs once in a configuration; what it has afterwards; and where each member stands if anyone installs there.
use Prim.Native.Nat.{ℕ, suc, ◌<◌}
use mathlib.Core.Path.{◌≡◌, refl, sym, ap, subst, ◌∙◌}
use mathlib.Core.Bool.{Bool, true, false}
use mathlib.Core.List.{List, []}
use native.Mathlib.Omega.{arith}
use native.Mathlib.Decide.{dec_lt}
use Rattle.base.proofs.TestLaws.{not_both}
use Rattle.format.specs.Types.{Record}
use Rattle.replication.specs.Machine.Types.{Mode, Non_prim, Reg_prim, Trans_prim, Exchange_states, Exchange_actions, Construct, No, Un, Configuration, Membership, Server}
use Rattle.replication.specs.Machine.Exchange.{quorum}
use Rattle.replication.specs.Machine.Install.{install_log}
use Rattle.replication.specs.Machine.WellFormed.{well_formed}
use Rattle.replication.specs.Machine.Step.{collected, decided, attempting, the_set, here_set}
use Rattle.replication.specs.Laws.Transitions as L
use Rattle.replication.specs.Laws.Transitions.{Ends, Leads}
use Rattle.replication.specs.Runs.Run.{Run}
use Rattle.replication.proofs.Runs.Roomy.{Roomy as Allowed}
use Rattle.replication.proofs.Runs.AllowedTurns.{memory_at}
use Rattle.replication.proofs.Runs.Coupling.{coupled}
use Rattle.replication.proofs.Runs.Memberships as M
use Rattle.replication.proofs.Runs.Memberships.{Completes, MembershipStep}
use Rattle.replication.proofs.Runs.Numbers.{well_formed_at}
use Rattle.replication.proofs.Runs.Progress.{stay_member}
use Rattle.replication.proofs.Runs.Stays.{membership_at}
use Rattle.replication.proofs.Agreement.Terms.{MarksAt, InstallsAt}
use Rattle.replication.proofs.Agreement.Exchange.Installs.{Installing, on_cpc_lem, on_action_lem, installs_on_lem, installs_here, all_marked}
use Rattle.replication.proofs.Agreement.Exchange.Phases.{settled_step}
use Rattle.replication.proofs.Step.Apart.{mode_number, other_mode}
use Rattle.replication.proofs.Agreement.Exchange.Stages.{remains, stage, InCom, onward, stage_onward}
use Rattle.replication.proofs.Agreement.Primaries.Parts.{InRegPrim, InTransPrim}
use Rattle.replication.proofs.Agreement.Primaries.Phases.{primary_phase}
use Rattle.replication.proofs.Agreement.Primaries.Steps.{before_install, EarlyStep, goes_on_lem, reddens, settles, installs, installs_late_lem, leaves, early_step}
use Rattle.replication.proofs.Agreement.Primaries.Terms.{base, cuts_of, regularly, in_com, PrimaryPhase, early, settled, regular, transitional}

-- ---- the states of a primary component

unfoldable pub in_primary : Mode → Bool
in_primary Non_prim = false
in_primary Reg_prim = true
in_primary Trans_prim = true
in_primary Exchange_states = false
in_primary Exchange_actions = false
in_primary Construct = false
in_primary No = false
in_primary Un = false

pub before_not_primary : {X : Type 0} (m : Mode) → before_install m ≡ true → in_primary m ≡ true → X
unfolding before_install in_primary
before_not_primary Non_prim h k = not_both h
before_not_primary Reg_prim h k = not_both h
before_not_primary Trans_prim h k = not_both h
before_not_primary Exchange_states h k = not_both k
before_not_primary Exchange_actions h k = not_both k
before_not_primary Construct h k = not_both k
before_not_primary No h k = not_both k
before_not_primary Un h k = not_both k

leads_primary : {m o : Mode} → Leads m o → in_primary m ≡ true → in_primary o ≡ true
unfolding in_primary
leads_primary L.stays h = h
leads_primary L.parts h = refl
leads_primary L.interrupts_states h = not_both h
leads_primary L.interrupts_actions h = not_both h
leads_primary L.interrupts_construct h = not_both h

elsewhere : {X : Type 0} {m : Mode} (o : Mode) → m ≡ o → in_primary o ≡ false → in_primary m ≡ true → X
elsewhere o e f h = not_both (sym f ∙ ap in_primary (sym e) ∙ h)

module _ {n : ℕ} where
  completes_outside : {X : Type 0} {m : Membership} {r : Record} {o : Membership} → Completes n m r o → in_primary m.mode ≡ true → X
  unfolding in_primary
  completes_outside (M.by_state x e c d) h = elsewhere Exchange_states e refl h
  completes_outside (M.by_retransmission k p a e c) h = elsewhere Exchange_actions e refl h

  -- A primary component lasts through a stay.
  pub primary_kept : {m : Membership} {r : Record} {o : Membership} → MembershipStep n m r o → remains r ≡ true → in_primary m.mode ≡ true → in_primary o.mode ≡ true
  unfolding in_primary remains
  primary_kept (M.ignores r e f) k h = h
  primary_kept (M.acts a o e t) k h = h
  primary_kept (M.asks p) k h = h
  primary_kept (M.collects x e c) k h = h
  primary_kept (M.resends x e c d) k h = elsewhere Exchange_states e refl h
  primary_kept (M.counts j p a e c) k h = h
  primary_kept (M.attempts r o c q) k h = completes_outside c h
  primary_kept (M.settles r o c q) k h = completes_outside c h
  primary_kept (M.counts_cpc j i e c) k h = h
  primary_kept (M.installs j i e c) k h = refl
  primary_kept (M.counts_late_cpc j i e c) k h = h
  primary_kept (M.counts_last_cpc j i e c) k h = elsewhere No e refl h
  primary_kept (M.installs_late a e) k h = refl
  primary_kept (M.joins c o e j) k h = not_both k
  primary_kept (M.leaves o u x e y) k h = leads_primary y (ap in_primary (sym e) ∙ h)
  primary_kept M.recovers k h = not_both k

-- ---- one Install in a stay

module _ {n q : ℕ} {l : Run} (A : Allowed n q l) where
  pub installs_before : {p i : ℕ} {c : Configuration} → InstallsAt n q l p i c → before_install (membership_at n q l p i).mode ≡ true
  unfolding before_install
  installs_before {p} {i} x = go (installs_on_lem A x)
    where
      go : {r : Record} → Installing (memory_at n q l p i) (memory_at n q l (suc p) i) r → before_install (membership_at n q l p i).mode ≡ true
      go (on_cpc_lem k d e f) = ap before_install e
      go (on_action_lem a e f) = ap before_install e

  pub installs_primary : {p i : ℕ} {c : Configuration} → InstallsAt n q l p i c → in_primary (membership_at n q l (suc p) i).mode ≡ true
  unfolding in_primary
  installs_primary {p} {i} x = go (installs_on_lem A x)
    where
      go : {r : Record} → Installing (memory_at n q l p i) (memory_at n q l (suc p) i) r → in_primary (membership_at n q l (suc p) i).mode ≡ true
      go (on_cpc_lem k d e f) = ap in_primary f
      go (on_action_lem a e f) = ap in_primary f

  -- From the Install on, through the stay, a server is in the primary component.
  pub stays_primary : {p i : ℕ} {c : Configuration} (x : InstallsAt n q l p i c) (r : ℕ) → p < r → InCom n q l r i c → in_primary (membership_at n q l r i).mode ≡ true
  stays_primary {p} {i} {c} x r h k =
      onward A i c (λ m. in_primary m.mode ≡ true) (λ m o z s e. primary_kept s e) (suc p) r (installs_here A x) k h (installs_primary x)

  pub installs_once : {p r i : ℕ} {c : Configuration} → InstallsAt n q l p i c → InstallsAt n q l r i c → p ≡ r
  installs_once {p} {r} {i} {c} x y = go (dec_lt p r) (dec_lt r p)
    where
      go : Dec (p < r) → Dec (r < p) → p ≡ r
      go (yes a) b = before_not_primary _ (installs_before y) (stays_primary x r a y.here)
      go (no a) (yes b) = before_not_primary _ (installs_before x) (stays_primary y p b x.here)
      go (no a) (no b) = omega arith

  -- The green list after the Install.
  pub base_installed : {p i : ℕ} {c : Configuration} (x : InstallsAt n q l p i c)
      → base A x ≡ (install_log (memory_at n q l p i).votes.yellow.ids (memory_at n q l p i).log).green
  unfolding before_install in_primary remains mode_number
  base_installed {p} {i} {c} x = ap (λ s. s.log.green) x.acts.memory_next ∙ go (early_step (memory_at n q l p i) formed (installs_before x) x.acts.moves) x.acts.by.event refl (installs_on_lem A x)
    where
      formed : well_formed (memory_at n q l p i) ≡ true
      formed = (well_formed_at n q i A.allowed.sizes (stay_member A i p c x.here).0 l p).memory

      primary : in_primary x.acts.after.membership.mode ≡ true
      primary = subst (λ s. in_primary s.membership.mode ≡ true) x.acts.memory_next (installs_primary x)

      exchanging : {r : Record} → Installing (memory_at n q l p i) (memory_at n q l (suc p) i) r → (memory_at n q l p i).membership.mode ≡ Exchange_states → ⊥
      exchanging (on_cpc_lem k d e f) h = other_mode e h (λ z. omega arith)
      exchanging (on_action_lem a e f) h = other_mode e h (λ z. omega arith)

      ends_no_stay : {r : Record} → Installing (memory_at n q l p i) (memory_at n q l (suc p) i) r → remains r ≡ false → ⊥
      ends_no_stay (on_cpc_lem k d e f) h = not_both (sym h)
      ends_no_stay (on_action_lem a e f) h = not_both (sym h)

      go : EarlyStep (memory_at n q l p i) x.acts.by.event x.acts.after → (r : Record) → x.acts.by.event ≡ r → Installing (memory_at n q l p i) (memory_at n q l (suc p) i) r
          → x.acts.after.log.green ≡ (install_log (memory_at n q l p i).votes.yellow.ids (memory_at n q l p i).log).green
      go (goes_on_lem e f) r h z = before_not_primary x.acts.after.membership.mode e primary
      go (reddens a e m) r h z = absurd (exchanging z m)
      go (settles e) r h z = not_both (sym (ap in_primary e) ∙ primary)
      go (installs k d e m g w v) r h z = w
      go (installs_late_lem a e m w v) r h z = w
      go (leaves e) r h z = absurd (ends_no_stay z (ap remains (sym h) ∙ e))

  -- ---- after the Install

  -- What the server that installed by x has at p.
  pub data AfterInstall {r i : ℕ} {c : Configuration} (x : InstallsAt n q l r i c) (p : ℕ) : Type 0 where
    in_regular_lem : InRegPrim (base A x) (cuts_of A x) (regularly A c i p) (in_com A c i p) (memory_at n q l p i) → AfterInstall x p
    in_transitional : InTransPrim (base A x) (cuts_of A x) (regularly A c i p) (in_com A c i p) (memory_at n q l p i) → AfterInstall x p

  pub after_install : {r i : ℕ} {c : Configuration} (x : InstallsAt n q l r i c) (p : ℕ) → r < p → InCom n q l p i c → AfterInstall x p
  unfolding in_primary
  after_install {r} {i} {c} x p h here = go (primary_phase A i c p here)
    where
      primary : in_primary (membership_at n q l p i).mode ≡ true
      primary = stays_primary x p h here

      go : PrimaryPhase A p i c → AfterInstall x p
      go (early e k) = before_not_primary _ e primary
      go (settled e) = not_both (sym (ap in_primary e) ∙ primary)
      go (regular u b y k) =
          in_regular_lem (subst (λ z. InRegPrim (memory_at n q l (suc z) i).log.green (memory_at n q l z i).log.cuts (regularly A c i p) (in_com A c i p) (memory_at n q l p i)) (installs_once y x) k)
      go (transitional u b y k) =
          in_transitional (subst (λ z. InTransPrim (memory_at n q l (suc z) i).log.green (memory_at n q l z i).log.cuts (regularly A c i p) (in_com A c i p) (memory_at n q l p i)) (installs_once y x) k)

  -- A server in Reg_prim or Trans_prim installed in its configuration.
  pub in_primary_lem : (p i : ℕ) (c : Configuration) → InCom n q l p i c → in_primary (membership_at n q l p i).mode ≡ true → (r : ℕ) × (r < p) × InstallsAt n q l r i c
  unfolding in_primary
  in_primary_lem p i c here h = go (primary_phase A i c p here)
    where
      go : PrimaryPhase A p i c → (r : ℕ) × (r < p) × InstallsAt n q l r i c
      go (early e k) = before_not_primary _ e h
      go (settled e) = not_both (sym (ap in_primary e) ∙ h)
      go (regular u b y k) = (u, b, y)
      go (transitional u b y k) = (u, b, y)

-- ---- all members

-- What a marking leaves.
ends_marked : {t u : Server} {rs : List Record} → Ends t u rs → quorum (collected t) (here_set t) ≡ true
    → (u.membership.mode ≡ Construct) × (u.membership.configuration ≡ t.membership.configuration)
unfolding attempting decided
ends_marked (L.with_quorum h) k = (refl, refl)
ends_marked (L.without_quorum h) k = not_both (sym h ∙ k)

module _ {n q : ℕ} {l : Run} (A : Allowed n q l) where
  marks_here : {p i : ℕ} {c : Configuration} → MarksAt n q l p i c → ((membership_at n q l (suc p) i).mode ≡ Construct) × InCom n q l (suc p) i c
  unfolding here_set the_set
  marks_here {p} {i} {c} x =
      let y = x.ending in
      let h = ends_marked y.ends (ap (λ d. quorum (collected y.judged) (the_set d)) y.configuration ∙ x.has_quorum) in
      let m = y.acts.memory_next in (
        ap (λ s. s.membership.mode) m ∙ h.0,
        sym (ap (λ z. z.regular) (coupled A (suc p) i y.acts.down_next)) ∙ ap (λ s. s.membership.configuration) m ∙ h.1 ∙ y.configuration,
      )

  -- If anyone installs in c, no member is in Non_prim there.
  pub none_settled : {p i : ℕ} {c : Configuration} → InstallsAt n q l p i c → (r k : ℕ) → InCom n q l r k c → (membership_at n q l r k).mode ≡ Non_prim → ⊥
  unfolding stage mode_number
  none_settled {p} {i} {c} x r k here e =
      let m = stay_member A k r c here in
      let y = all_marked A p i c x k m.0 m.1 in
      let z = marks_here y.2 in
      go y.0 z (dec_lt (suc y.0) r)
    where
      go : (w : ℕ) → ((membership_at n q l (suc w) k).mode ≡ Construct) × InCom n q l (suc w) k c → Dec (suc w < r) → ⊥
      go w z (yes a) = omega (arith, stage_onward A k c (suc w) r z.1 here (omega arith), ap stage z.0, ap stage e)
      go w z (no a) =
          other_mode z.0 (onward A k c (λ m. m.mode ≡ Non_prim) (λ m o v s h f. (settled_step s h f).0) r (suc w) here z.1 (omega arith) e) (λ u. omega arith)

  -- Where a member of c stands at p: it has not installed, and no action has come to it in c; or it has.
  pub data MemberPhase (p k : ℕ) (c : Configuration) : Type 0 where
    not_yet : before_install (membership_at n q l p k).mode ≡ true → in_com A c k p ≡ [] → MemberPhase p k c
    installed : (r : ℕ) → r < p → (y : InstallsAt n q l r k c) → AfterInstall A y p → MemberPhase p k c

  pub member_phase : {r i : ℕ} {c : Configuration} → InstallsAt n q l r i c → (p k : ℕ) → InCom n q l p k c → MemberPhase p k c
  member_phase {r} {i} {c} x p k here = go (primary_phase A k c p here)
    where
      go : PrimaryPhase A p k c → MemberPhase p k c
      go (early e f) = not_yet e f
      go (settled e) = absurd (none_settled x p k here e)
      go (regular u b y h) = installed u b y (in_regular_lem h)
      go (transitional u b y h) = installed u b y (in_transitional h)
