-- States by their numbers: where a transitional configuration leads.
use Prim.Native.Nat.{ℕ, ◌<◌, ◌≤◌}
use mathlib.Core.Path.{◌≡◌, refl, sym, ap, subst, ◌∙◌}
use Rattle.replication.specs.Machine.Types.{Mode, Non_prim, Reg_prim, Trans_prim, Exchange_states, Exchange_actions, Construct, No, Un}
use Rattle.image.specs.Header.{mode_number}
use Rattle.image.specs.Decode.{mode_named}
use Rattle.image.proofs.HeaderRead.{mode_named_lem}
use Rattle.guards.specs.Modes.{mode_after}
use Rattle.std.specs.Prelude.{Option, Some, None}
use Rattle.record.specs.declared.modes.Mode.{Mode as Code}
use Rattle.record.specs.declared.modes.Mode.TheVariants as code
use Rattle.record.specs.Codes.{mode_code}
use Rattle.base.specs.Tests.{◌=?◌, pick}
use native.Mathlib.Omega.{arith}

pub in_mode_lem : (m : Mode) (k : ℕ) → k ≡ mode_number m → m ≡ mode_named k
in_mode_lem m k e = sym (mode_named_lem m) ∙ ap mode_named (sym e)

-- What holds of the state of this number.
pub at_mode_lem : (P : Mode → Type 0) (m : Mode) (k : ℕ) → k ≡ mode_number m → P (mode_named k) → P m
at_mode_lem P m k e h = subst P (sym (in_mode_lem m k e)) h

mode_low : (m : Mode) → mode_number m ≤ 7
unfolding mode_number
mode_low Non_prim = omega arith
mode_low Reg_prim = omega arith
mode_low Trans_prim = omega arith
mode_low Exchange_states = omega arith
mode_low Exchange_actions = omega arith
mode_low Construct = omega arith
mode_low No = omega arith
mode_low Un = omega arith

-- The state x where it is the one that the number k leads to.
pub after_as : (x : Option Code) (k l : ℕ) → k ≡ l → x ≡ mode_after (mode_named l) → (m : Mode) → k ≡ mode_number m → x ≡ mode_after m
after_as x k l h f m e = at_mode_lem (λ n. x ≡ mode_after n) m l (sym h ∙ e) f

-- A byte past the last number is no state's.
pub after_past : (x : Option Code) (k : ℕ) → 7 < k → (m : Mode) → k ≡ mode_number m → x ≡ mode_after m
after_past x k h m e = absurd (omega (arith, mode_low m))

-- By the code's state.
abbrev pub code_after : Code → Option Code
code_after code.NonPrim = Some code.NonPrim
code_after code.RegPrim = Some code.TransPrim
code_after code.TransPrim = None
code_after code.ExchangeStates = Some code.NonPrim
code_after code.ExchangeActions = Some code.NonPrim
code_after code.Construct = Some code.No
code_after code.No = None
code_after code.Un = None

pub after_code : (n : Code) (k : ℕ) → mode_code n ≡ k → (m : Mode) → k ≡ mode_number m → code_after n ≡ mode_after m
unfolding mode_after mode_named mode_number pick ◌=?◌
after_code code.NonPrim k e = after_as _ k 0 (sym e) refl
after_code code.RegPrim k e = after_as _ k 1 (sym e) refl
after_code code.TransPrim k e = after_as _ k 2 (sym e) refl
after_code code.ExchangeStates k e = after_as _ k 3 (sym e) refl
after_code code.ExchangeActions k e = after_as _ k 4 (sym e) refl
after_code code.Construct k e = after_as _ k 5 (sym e) refl
after_code code.No k e = after_as _ k 6 (sym e) refl
after_code code.Un k e = after_as _ k 7 (sym e) refl
