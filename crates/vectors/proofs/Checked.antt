-- What it says of a buffer that the state check accepts it.
use Rattle.std.proofs.Common.{◌≡◌, ℕ, ◌<◌, List, refl, sym, ap, ◌∙◌, arith}
use Rattle.std.specs.Prelude.{⊤, Bool, true, Result, Ok, Err}
use Rattle.std.specs.Result.{is_ok}
use Rattle.base.proofs.TestLaws.{not_both}
use Rattle.refusals.specs.declared.Refusal.{Refusal}
use Rattle.refusals.specs.Numbers.{outcome_number}
use Rattle.base.specs.Bytes.{number_at}
use Rattle.record.specs.declared.State.{State}
use Rattle.image.specs.Layout.{at_servers}
use Rattle.image.specs.Header.{header_of, header_in}
use Rattle.image.specs.Decode.{decoded}
use Rattle.image.specs.Outcome.{state_number}
use Rattle.image.specs.Holding.{HoldsSuch, HoldsSome}
use Rattle.image.proofs.HeaderLaws.{header_loaded}
use Rattle.image.proofs.InPlace.{holds_some}
use Rattle.image.proofs.Refusals.{zero_ready}

pub passed_holds : (b o : List ℕ) (r : Result ⊤ Refusal) (x : ⊤) → outcome_number r ≡ state_number b o → r ≡ Ok x → HoldsSome b
passed_holds b o r x e h = holds_some (decoded b) b (zero_ready b o (sym e ∙ ap outcome_number h)).image

-- The code tested it by `is_ok`.
pub accepted_holds : (b o : List ℕ) (r : Result ⊤ Refusal) (t : Bool) → outcome_number r ≡ state_number b o → t ≡ is_ok r → t ≡ true → HoldsSome b
accepted_holds b o (Ok x) t e f h = passed_holds b o (Ok x) x e refl
accepted_holds b o (Err r) t e f h = not_both (sym f ∙ h)

pub creator_held : (b : List ℕ) (n c : ℕ) → HoldsSome b → n ≡ number_at 1 b at_servers → c < n → HoldsSuch (λ s. c < s.servers) b
unfolding header_in header_of
creator_held b n c h e l =
    record {
      state = h.state;
      holds = h.holds;
      fact = omega (arith, ap (λ (x : State). x.servers) (header_loaded h.state b h.holds));
    }
