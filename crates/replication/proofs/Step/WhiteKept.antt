-- No transition changes the number of white actions: the raise behind it does.
use mathlib.Core.Path.{◌≡◌, refl}
use mathlib.Core.Bool.{Bool}
use mathlib.Core.List.{List}
use Rattle.format.specs.Types.{Action, Record}
use Rattle.replication.specs.Machine.Types.{Server}
use Rattle.replication.specs.Machine.Colours.{yellow}
use Rattle.replication.specs.Machine.Install.{install}
use Rattle.replication.specs.Machine.Requests.{numbered, send_waiting, recovered}
use Rattle.replication.specs.Machine.Step.{entering, decided, attempting, with_state, resending, one_more, exchanged, with_cpc, leave, green_and_note}
use Rattle.replication.specs.Laws.Transitions as L
use Rattle.replication.specs.Laws.Transitions.{Ends, Transition}
use Rattle.replication.proofs.Step.Logs.{yellow_as}

yellow_white : (a : Action) (s : Server) → (yellow a s).white ≡ s.white
yellow_white a s = yellow_as (λ t. t.white ≡ s.white) a s (λ e. refl) (λ e. refl)

end_white : (t u : Server) (rs : List Record) → Ends t u rs → u.white ≡ t.white
unfolding attempting decided send_waiting numbered
end_white t u rs (L.with_quorum q) = refl
end_white t u rs (L.without_quorum q) = refl

pub white_kept : {s : Server} {r : Record} {t : Server} {rs : List Record} {b : Bool} → Transition s r t rs b → t.white ≡ s.white
unfolding green_and_note install exchanged one_more with_state resending with_cpc send_waiting numbered entering leave recovered
white_kept {s} (L.ignores_state x e) = refl
white_kept {s} (L.ignores_cpc k i e) = refl
white_kept {s} (L.reddens a e) = refl
white_kept {s} (L.reddens_resent k i a e) = refl
white_kept {s} (L.reddens_in_exchange a e) = refl
white_kept {s} (L.greens a e) = refl
white_kept {s} (L.yellows a e) = yellow_white a s
white_kept {s} (L.installs_late a e) = yellow_white a (install s)
white_kept {s} (L.exchanges k i a e c) = refl
white_kept {s} (L.exchanges_last k i a u us e c x) = end_white (exchanged i a s) u us x
white_kept {s} (L.collects x e c) = refl
white_kept {s} (L.collects_last x e c d) = refl
white_kept {s} (L.collects_whole x u us e c d y) = end_white (with_state x s) u us y
white_kept {s} (L.counts k i e c) = refl
white_kept {s} (L.installs k i e c) = refl
white_kept {s} (L.counts_late k i e c) = refl
white_kept {s} (L.counts_all_late k i e c) = refl
white_kept {s} (L.joins c e) = refl
white_kept {s} (L.joins_marked c e) = refl
white_kept {s} (L.joins_unmarked c e) = refl
white_kept {s} (L.joins_yellow c e) = refl
white_kept {s} (L.leaves m n x e q) = refl
white_kept {s} (L.sends q c) = refl
white_kept {s} (L.numbers q c) = refl
white_kept {s} L.recovers = refl
