-- The number of servers, the quota and the own number never change.
use Prim.Native.Nat.{ℕ}
use mathlib.Core.Path.{◌≡◌, refl, sym, subst, ◌∙◌}
use mathlib.Core.Bool.{Bool}
use mathlib.Core.List.{List}
use mathlib.Core.Option.{Option}
use Rattle.format.specs.Types.{Action, Record}
use Rattle.replication.specs.Machine.Types.{Server, taken}
use Rattle.replication.specs.Machine.Colours.{yellow}
use Rattle.replication.specs.Machine.Install.{install}
use Rattle.replication.specs.Machine.Requests.{numbered, send_waiting, recovered}
use Rattle.replication.specs.Machine.Step.{entering, decided, attempting, with_state, resending, one_more, exchanged, with_cpc, leave, green_and_note, step}
use Rattle.replication.specs.Images.{started, lived}
use Rattle.replication.specs.Laws.Transitions as L
use Rattle.replication.specs.Laws.Transitions.{Ends, Transition}
use Rattle.replication.specs.Laws.Images.{OfBoth}
use Rattle.replication.specs.Laws.Order.{SameServer}
use Rattle.replication.proofs.Step.Inversion.{taken_by}
use Rattle.replication.proofs.Step.Moves.{moved}
use Rattle.replication.proofs.Step.Logs.{yellow_as}
use Rattle.replication.proofs.Step.Lifts.{lived_each}

same : {s t : Server} → t.servers ≡ s.servers → t.quota ≡ s.quota → t.me ≡ s.me → SameServer s t
same p q r = record { servers = p; quota = q; me = r }

same_yellow : (a : Action) (s : Server) → SameServer s (yellow a s)
same_yellow a s = yellow_as (SameServer s) a s (λ e. same refl refl refl) (λ e. same refl refl refl)

module _ (s : Server) where
  end_same : (t u : Server) (rs : List Record) → SameServer s t → Ends t u rs → SameServer s u
  unfolding attempting decided send_waiting numbered
  end_same t u rs p (L.with_quorum q) = same p.servers p.quota p.me
  end_same t u rs p (L.without_quorum q) = same p.servers p.quota p.me

  pub identity_kept : {r : Record} {t : Server} {rs : List Record} {b : Bool} → Transition s r t rs b → SameServer s t
  unfolding green_and_note install exchanged one_more with_state resending with_cpc send_waiting numbered entering leave recovered
  identity_kept (L.ignores_state x e) = same refl refl refl
  identity_kept (L.ignores_cpc k i e) = same refl refl refl
  identity_kept (L.reddens a e) = same refl refl refl
  identity_kept (L.reddens_resent k i a e) = same refl refl refl
  identity_kept (L.reddens_in_exchange a e) = same refl refl refl
  identity_kept (L.greens a e) = same refl refl refl
  identity_kept (L.yellows a e) = same_yellow a s
  identity_kept (L.installs_late a e) = let y = same_yellow a (install s) in same y.servers y.quota y.me
  identity_kept (L.exchanges k i a e c) = same refl refl refl
  identity_kept (L.exchanges_last k i a u us e c x) = end_same (exchanged i a s) u us (same refl refl refl) x
  identity_kept (L.collects x e c) = same refl refl refl
  identity_kept (L.collects_last x e c d) = same refl refl refl
  identity_kept (L.collects_whole x u us e c d y) = end_same (with_state x s) u us (same refl refl refl) y
  identity_kept (L.counts k i e c) = same refl refl refl
  identity_kept (L.installs k i e c) = same refl refl refl
  identity_kept (L.counts_late k i e c) = same refl refl refl
  identity_kept (L.counts_all_late k i e c) = same refl refl refl
  identity_kept (L.joins c e) = same refl refl refl
  identity_kept (L.joins_marked c e) = same refl refl refl
  identity_kept (L.joins_unmarked c e) = same refl refl refl
  identity_kept (L.joins_yellow c e) = same refl refl refl
  identity_kept (L.leaves m n x e q) = same refl refl refl
  identity_kept (L.sends q c) = same refl refl refl
  identity_kept (L.numbers q c) = same refl refl refl
  identity_kept L.recovers = same refl refl refl

pub taken_identity : (s : Server) (e : List ℕ) (t : Server) (bs : List (List ℕ)) (b : Bool) (g : List Action) → step s e ≡ taken t bs b g → SameServer s t
taken_identity s e t bs b g h =
    let x = taken_by s e t bs b g h in
    let k = identity_kept s (moved x).0 in
    subst (λ u. SameServer s u) (sym x.raise) (same k.servers k.quota k.me)

-- Every image of a server has the start's n, q and number.
pub identity : (s : Server) (es : List (Option (List ℕ))) → OfBoth (SameServer s) (lived (started s) es)
unfolding started
identity s es =
    lived_each (SameServer s)
    (λ u e t bs b g h p. let i = taken_identity u e t bs b g h in
    same (i.servers ∙ p.servers) (i.quota ∙ p.quota) (i.me ∙ p.me))
    (started s) es (record { memory = same refl refl refl; store = same refl refl refl })
