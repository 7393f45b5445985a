-- Where an exchange ends: at each end as the agreement's terms have it, the server has what the exchange left, at that place or earlier in Non_prim.
use Prim.Native.Nat.{ℕ, suc, ◌≤◌}
use mathlib.Core.Path.{◌≡◌, refl, sym, ap, ◌∙◌}
use mathlib.Core.Bool.{Bool, true, false}
use mathlib.Core.List.{List, []}
use mathlib.Core.Logic.{◌⊎◌, inl, inr}
use mathlib.Core.Option.{none}
use native.Mathlib.Omega.{arith}
use Rattle.base.proofs.TestLaws.{not_both}
use Rattle.format.specs.Types.{Record}
use Rattle.replication.specs.Machine.Types.{Non_prim, Construct, Configuration, Server}
use Rattle.replication.specs.Machine.Install.{install}
use Rattle.replication.specs.Machine.Requests.{sends_now, numbered, send_waiting}
use Rattle.replication.specs.Machine.Exchange.{quorum}
use Rattle.replication.specs.Machine.Step.{the_set, here_set, collected, attempting, decided, with_state, one_more, exchanged, with_cpc}
use Rattle.replication.specs.Laws.Transitions as L
use Rattle.replication.specs.Laws.Transitions.{Ends, Transition}
use Rattle.replication.specs.Runs.Run.{Run}
use Rattle.replication.proofs.Runs.Roomy.{Roomy as Allowed}
use Rattle.replication.proofs.Step.Control.{yellow_membership}
use Rattle.replication.proofs.Runs.Stays.{membership_at, stay_transitional}
use Rattle.replication.proofs.Agreement.Terms.{EndsAt, MarksAt}
use Rattle.replication.proofs.Step.Apart.{mode_number, other_mode, sends_in_lem}
use Rattle.replication.proofs.Agreement.Exchange.Stages.{remains, stage, InCom, remaining}
use Rattle.replication.proofs.Agreement.Exchange.Endings.{ends_decide}
use Rattle.replication.proofs.Agreement.Exchange.SameStates.{still_here}
use Rattle.replication.proofs.Agreement.Contents.Logs.{ends_log, acting}
use Rattle.replication.proofs.Agreement.Contents.Sent.{inside_stay}

-- ---- one step

ends_transitional : {t u : Server} {rs : List Record} → Ends t u rs → u.membership.transitional ≡ t.membership.transitional
unfolding attempting decided send_waiting numbered
ends_transitional (L.with_quorum h) = refl
ends_transitional (L.without_quorum h) = refl

-- A marking sends.
marks_send : {t u : Server} {rs : List Record} → Ends t u rs → u.membership.mode ≡ Construct → rs ≡ [] → ⊥
unfolding attempting decided send_waiting mode_number
marks_send (L.with_quorum h) e n = let z : ◌≡◌ {A = ℕ} 0 1 = cc in omega arith
marks_send (L.without_quorum h) e n = other_mode refl e (λ z. omega arith)

module _ {s : Server} where
  -- An event of a stay that stores does not bring a transitional configuration.
  pub stored_regular : {r : Record} {t : Server} {rs : List Record} {b : Bool} → Transition s r t rs b → b ≡ true → remains r ≡ true
      → t.membership.transitional ≡ s.membership.transitional
  unfolding exchanged one_more with_state install send_waiting numbered remains with_cpc
  stored_regular (L.ignores_state x e) h k = refl
  stored_regular (L.ignores_cpc y i e) h k = refl
  stored_regular (L.reddens a e) h k = refl
  stored_regular (L.reddens_resent y p a e) h k = refl
  stored_regular (L.reddens_in_exchange a e) h k = refl
  stored_regular (L.greens a e) h k = not_both h
  stored_regular (L.yellows a e) h k = not_both h
  stored_regular (L.installs_late a e) h k = ap (λ m. m.transitional) (yellow_membership a (install s))
  stored_regular (L.exchanges y p a e c) h k = refl
  stored_regular (L.exchanges_last y p a t rs e c x) h k = ends_transitional x
  stored_regular (L.collects x e c) h k = refl
  stored_regular (L.collects_last x e c d) h k = not_both h
  stored_regular (L.collects_whole x t rs e c d y) h k = ends_transitional y
  stored_regular (L.counts y i e c) h k = refl
  stored_regular (L.installs y i e c) h k = refl
  stored_regular (L.counts_late y i e c) h k = refl
  stored_regular (L.counts_all_late y i e c) h k = refl
  stored_regular (L.joins c e) h k = not_both k
  stored_regular (L.joins_marked c e) h k = not_both k
  stored_regular (L.joins_unmarked c e) h k = not_both k
  stored_regular (L.joins_yellow c e) h k = not_both k
  stored_regular (L.leaves m o x e y) h k = not_both h
  stored_regular (L.sends p c) h k = refl
  stored_regular (L.numbers p c) h k = refl
  stored_regular L.recovers h k = not_both k

  -- One that stores and leaves the server in Construct ends an exchange.
  pub stored_marks : {r : Record} {t : Server} {rs : List Record} {b : Bool} → Transition s r t rs b → b ≡ true → remains r ≡ true
      → t.membership.mode ≡ Construct → (rs ≡ [] → ⊥) → stage s.membership.mode ≤ 1
  unfolding install send_waiting numbered remains mode_number stage sends_now
  stored_marks (L.ignores_state x e) h k w n = not_both h
  stored_marks (L.ignores_cpc y i e) h k w n = not_both h
  stored_marks (L.reddens a e) h k w n = not_both h
  stored_marks (L.reddens_resent y p a e) h k w n = not_both h
  stored_marks (L.reddens_in_exchange a e) h k w n = not_both h
  stored_marks (L.greens a e) h k w n = not_both h
  stored_marks (L.yellows a e) h k w n = not_both h
  stored_marks (L.installs_late a e) h k w n = other_mode refl w (λ z. omega arith)
  stored_marks (L.exchanges y p a e c) h k w n = not_both h
  stored_marks (L.exchanges_last y p a t rs e c x) h k w n = omega (arith, ap stage e)
  stored_marks (L.collects x e c) h k w n = not_both h
  stored_marks (L.collects_last x e c d) h k w n = not_both h
  stored_marks (L.collects_whole x t rs e c d y) h k w n = omega (arith, ap stage e)
  stored_marks (L.counts y i e c) h k w n = not_both h
  stored_marks (L.installs y i e c) h k w n = other_mode refl w (λ z. omega arith)
  stored_marks (L.counts_late y i e c) h k w n = not_both h
  stored_marks (L.counts_all_late y i e c) h k w n = not_both h
  stored_marks (L.joins c e) h k w n = not_both k
  stored_marks (L.joins_marked c e) h k w n = not_both k
  stored_marks (L.joins_unmarked c e) h k w n = not_both k
  stored_marks (L.joins_yellow c e) h k w n = not_both k
  stored_marks (L.leaves m o x e y) h k w n = not_both h
  stored_marks (L.sends p c) h k w n = sends_in_lem _ _ c (λ e. other_mode w e (λ z. omega arith)) (λ e. other_mode w e (λ z. omega arith))
  stored_marks (L.numbers p c) h k w n = absurd (n refl)
  stored_marks L.recovers h k w n = not_both k

-- ---- a stay

module _ {n q : ℕ} {l : Run} (A : Allowed n q l) where
  -- By the event at y the server i ends its exchange in regular c.
  pub record EndedAt (y i : ℕ) (c : Configuration) : Type 0 where
    pub here : InCom n q l y i c
    pub after : InCom n q l (suc y) i c
    pub before : stage (membership_at n q l y i).mode ≤ 1
    pub late : 2 ≤ stage (membership_at n q l (suc y) i).mode
    pub whole : (membership_at n q l (suc y) i).mode ≡ Non_prim → (membership_at n q l (suc y) i).transitional ≡ none

  -- ---- the ends as the agreement's terms have them

  module _ {p i : ℕ} {c : Configuration} (x : EndsAt n q l p i c) where
    pub ends_here : InCom n q l p i c
    ends_here = ap (λ z. z.regular) x.here

    ends_remains : remains x.acts.by.event ≡ true
    ends_remains = let w = inside_stay A ends_here (still_here A x) in remaining w.0 w.1 x.acts.by.event (acting A x.acts)

    ends_late : 2 ≤ stage (membership_at n q l (suc p) i).mode
    ends_late = omega (arith, (ends_log x.ends).1, ap (λ s. stage s.membership.mode) x.acts.memory_next)

    ends_regular : (membership_at n q l (suc p) i).transitional ≡ none
    ends_regular =
        ap (λ s. s.membership.transitional) x.acts.memory_next
        ∙ stored_regular x.acts.moves x.stores ends_remains
        ∙ stay_transitional A p i c ends_here
        ∙ ap (λ z. z.transitional) x.here

    -- An end from the exchange.
    pub ends_ended : stage (membership_at n q l p i).mode ≤ 1 → EndedAt p i c
    ends_ended h = record { here = ends_here; after = still_here A x; before = h; late = ends_late; whole = λ z. ends_regular }

  -- A marking ends an exchange.
  pub marks_ended : {p i : ℕ} {c : Configuration} (x : MarksAt n q l p i c) → EndedAt p i c
  unfolding here_set the_set
  marks_ended {p} {i} {c} x = ends_ended x.ending (go (ends_decide x.ending.ends))
    where
      go : ((quorum (collected x.ending.judged) (here_set x.ending.judged) ≡ true) × (x.ending.acts.after.membership.mode ≡ Construct))
          ⊎ ((quorum (collected x.ending.judged) (here_set x.ending.judged) ≡ false) × (x.ending.acts.after.membership.mode ≡ Non_prim))
          → stage (membership_at n q l p i).mode ≤ 1
      go (inl e) = stored_marks x.ending.acts.moves x.ending.stores (ends_remains x.ending) e.1 (marks_send x.ending.ends e.1)
      go (inr e) =
          not_both (sym e.0 ∙ ap (λ d. quorum (collected x.ending.judged) (the_set d)) x.ending.configuration ∙ x.has_quorum)
