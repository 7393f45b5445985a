-- Where a transitional configuration leads.
use Rattle.std.specs.Prelude.{Option, Some, None}
use Rattle.record.specs.declared.modes.Mode.{Mode as Code}
use Rattle.record.specs.declared.modes.Mode.TheVariants as code
use Rattle.replication.specs.Machine.Types.{Mode, Non_prim, Reg_prim, Trans_prim, Exchange_states, Exchange_actions, Construct, No, Un}

-- The state that a transitional configuration leads to, if it can come.
unfoldable pub mode_after : Mode → Option Code
mode_after Non_prim = Some code.NonPrim
mode_after Reg_prim = Some code.TransPrim
mode_after Trans_prim = None
mode_after Exchange_states = Some code.NonPrim
mode_after Exchange_actions = Some code.NonPrim
mode_after Construct = Some code.No
mode_after No = None
mode_after Un = None
