-- The bytes of the eight states and of the kinds of records.
use Rattle.std.specs.Prelude.{ℕ, ◌≡◌, ◌<◌, Result, MatchResult}
use Rattle.std.proofs.Math.Option.{none}
use Rattle.format.specs.Types.{Kind as FormatKind, kind_number, of_action, of_retransmission, of_state, of_cpc, of_regular, of_transitional, of_request, of_recovery}
use Rattle.format.specs.Read.{kind_named}
use Rattle.record.specs.declared.modes.Mode.{Mode}
use Rattle.record.specs.declared.modes.Mode.TheVariants.{NonPrim, RegPrim, TransPrim, ExchangeStates, ExchangeActions, Construct, No, Un}
use Rattle.record.specs.declared.modes.UnknownMode.{UnknownMode}
use Rattle.record.specs.declared.kinds.Kind.{Kind}
use Rattle.record.specs.declared.kinds.Kind.TheVariants.{Action, Retransmission, State, Cpc, Regular, Transitional, Request, Recovery}
use Rattle.record.specs.declared.kinds.UnknownKind.{UnknownKind}

-- Document 01, 'The state': the eight states, in this order.
abbrev pub mode_code : Mode → ℕ
mode_code NonPrim = 0
mode_code RegPrim = 1
mode_code TransPrim = 2
mode_code ExchangeStates = 3
mode_code ExchangeActions = 4
mode_code Construct = 5
mode_code No = 6
mode_code Un = 7

-- The state with this byte, or none has it.
abbrev pub ModeWith : ℕ → Result Mode UnknownMode → Type 0
ModeWith b r = MatchResult r (λ mode. mode_code mode ≡ b) (λ e. (e.0 ≡ b) × (7 < b))

-- The format's kind.
abbrev pub the_kind : Kind → FormatKind
the_kind Action = of_action
the_kind Retransmission = of_retransmission
the_kind State = of_state
the_kind Cpc = of_cpc
the_kind Regular = of_regular
the_kind Transitional = of_transitional
the_kind Request = of_request
the_kind Recovery = of_recovery

-- The kind with this byte, or none has it.
abbrev pub KindWith : ℕ → Result Kind UnknownKind → Type 0
KindWith b r = MatchResult r (λ kind. kind_number (the_kind kind) ≡ b) (λ e. (e.0 ≡ b) × (kind_named b ≡ none))
