-- The eight states told apart, and those in which a request is sent at once.
use Prim.Native.Nat.{ℕ}
use mathlib.Core.Path.{◌≡◌, refl, sym, ap, ◌∙◌}
use mathlib.Core.Bool.{Bool, true}
use Rattle.base.proofs.TestLaws.{not_both}
use Rattle.replication.specs.Machine.Types.{Mode, Non_prim, Reg_prim, Trans_prim, Exchange_states, Exchange_actions, Construct, No, Un}
use Rattle.replication.specs.Machine.Requests.{sends_in}

-- The states by number, to tell them apart.
unfoldable pub mode_number : Mode → ℕ
mode_number Non_prim = 0
mode_number Reg_prim = 1
mode_number Trans_prim = 2
mode_number Exchange_states = 3
mode_number Exchange_actions = 4
mode_number Construct = 5
mode_number No = 6
mode_number Un = 7

pub other_mode : {X : Type 0} {m x y : Mode} → m ≡ x → m ≡ y → (mode_number x ≡ mode_number y → ⊥) → X
other_mode e f h = absurd (h (ap mode_number (sym e ∙ f)))

-- Requests are sent in Non_prim and Reg_prim only.
pub sends_in_lem : {X : Type 0} (m : Mode) (b : Bool) → sends_in m b ≡ true → (m ≡ Non_prim → X) → (m ≡ Reg_prim → X) → X
unfolding sends_in
sends_in_lem Non_prim b e f g = f refl
sends_in_lem Reg_prim b e f g = g refl
sends_in_lem Trans_prim b e f g = not_both e
sends_in_lem Exchange_states b e f g = not_both e
sends_in_lem Exchange_actions b e f g = not_both e
sends_in_lem Construct b e f g = not_both e
sends_in_lem No b e f g = not_both e
sends_in_lem Un b e f g = not_both e
