-- What turned green between two states of a server, applied to its register.
use Prim.Native.Nat.{ℕ, ◌+◌}
use mathlib.Core.Path.{◌≡◌, refl}
use mathlib.Core.List.{List, []}
use native.Mathlib.Omega.{arith}
use lib.ListN.{length}
use Rattle.base.specs.Bytes.{Bytes}
use Rattle.base.specs.Lists.{Each}
use Rattle.format.specs.Types.{Action}
use Rattle.image.specs.Decode.{greens_in}
use Rattle.pegs.specs.Register.{refusals}
use Rattle.pegs.specs.Image.{pegs_in}
use Rattle.pegs.specs.Outcome.{applied_all}
use Rattle.register_runs.specs.Joint.{payloads, carried}

-- From the state b with the register r to b₁ with r₁: m actions turned green, some of them perhaps white by then, and k of their operations were
-- refused.
pub record Gains (b r b₁ r₁ : List ℕ) (m k : ℕ) : Type 0 where
  pub gained : List Action
  pub grown : length (greens_in b₁) ≡ length (greens_in b) + length gained
  pub bytes : Each Bytes (payloads gained)
  pub greened : m ≡ length gained
  pub refused : k ≡ refusals (pegs_in r) (payloads gained)
  pub register : r₁ ≡ carried gained r

pub gains_none : (b r : List ℕ) → Gains b r b r 0 0
unfolding payloads carried applied_all refusals
gains_none b r =
    record { gained = []; grown = omega arith; bytes = tt; greened = refl; refused = refl; register = refl }
