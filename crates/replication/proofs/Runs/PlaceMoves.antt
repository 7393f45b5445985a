-- A taken event moves a server's configurations as the run's are moved.
use mathlib.Core.Path.{◌≡◌, refl, ap}
use mathlib.Core.Bool.{Bool}
use mathlib.Core.List.{List}
use Rattle.format.specs.Types.{Record, says}
use Rattle.replication.specs.Machine.Types.{Server}
use Rattle.replication.specs.Machine.Install.{install}
use Rattle.replication.specs.Machine.Requests.{numbered, send_waiting, recovered}
use Rattle.replication.specs.Machine.Step.{entering, decided, attempting, with_state, resending, one_more, exchanged, with_cpc, leave, green_and_note}
use Rattle.replication.specs.Laws.Transitions as L
use Rattle.replication.specs.Laws.Transitions.{Ends, Transition}
use Rattle.replication.specs.Runs.Run.{Place, nowhere, moved}
use Rattle.replication.proofs.Step.Control.{yellow_membership}

-- The configurations that a server has.
abbrev pub place_of : Server → Place
place_of s = record { regular = s.membership.configuration; transitional = s.membership.transitional }

ends_place : {t u : Server} {rs : List Record} → Ends t u rs → place_of u ≡ place_of t
unfolding attempting decided send_waiting numbered
ends_place (L.with_quorum c) = refl
ends_place (L.without_quorum c) = refl

pub transition_place : {s : Server} {r : Record} {t : Server} {rs : List Record} {b : Bool} → Transition s r t rs b
    → place_of t ≡ moved (says r) (place_of s)
unfolding moved nowhere green_and_note install exchanged one_more with_state resending with_cpc send_waiting numbered entering leave recovered
transition_place (L.ignores_state x e) = refl
transition_place (L.ignores_cpc k j e) = refl
transition_place (L.reddens a e) = refl
transition_place (L.reddens_resent k p a e) = refl
transition_place (L.reddens_in_exchange a e) = refl
transition_place (L.greens a e) = refl
transition_place {s} (L.yellows a e) = ap (λ m. record { regular = m.configuration; transitional = m.transitional }) (yellow_membership a s)
transition_place {s} (L.installs_late a e) = ap (λ m. record { regular = m.configuration; transitional = m.transitional }) (yellow_membership a (install s))
transition_place (L.exchanges k p a e c) = refl
transition_place (L.exchanges_last k p a t rs e c x) = ends_place x
transition_place (L.collects x e c) = refl
transition_place (L.collects_last x e c d) = refl
transition_place (L.collects_whole x t rs e c d y) = ends_place y
transition_place (L.counts k j e c) = refl
transition_place (L.installs k j e c) = refl
transition_place (L.counts_late k j e c) = refl
transition_place (L.counts_all_late k j e c) = refl
transition_place (L.joins c e) = refl
transition_place (L.joins_marked c e) = refl
transition_place (L.joins_unmarked c e) = refl
transition_place (L.joins_yellow c e) = refl
transition_place (L.leaves m o x e y) = refl
transition_place (L.sends p c) = refl
transition_place (L.numbers p c) = refl
transition_place L.recovers = refl
