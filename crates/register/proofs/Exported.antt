-- The exported functions: the start, and one operation on a buffer that may hold anything.
use Prim.Native.Nat.{ℕ, ◌≤◌, ◌<◌}
use mathlib.Core.Path.{◌≡◌, refl, sym, ap, ◌∙◌}
use mathlib.Core.List.{List, append-nil}
use Rattle.base.specs.Bytes.{bytes_of, joined, over}
use Rattle.base.specs.Patched.{patched}
use Rattle.base.proofs.Shifts.{patched_front_part}
use Rattle.base.proofs.TestLaws.{eq_yes, eq_no, lt_yes, lt_no, pick_yes, pick_no}
use Rattle.pegs.specs.Image.{count_size, register_length, register_bytes, register_image, pegs_in}
use Rattle.refusals.specs.declared.Refusal.{Refusal}
use Rattle.refusals.specs.Numbers.{refusal_number}
use Rattle.register_check.proofs.Found.{refusal_some}
use Rattle.pegs.specs.Outcome.{register_short, register_number, Changed, changed, empty_on, applied, apply_on}
use lib.ListN.{length}

pub start_short : (b : List ℕ) → length b < register_length → changed 7 b ≡ empty_on b
unfolding empty_on register_short
start_short b h = pick_yes _ _ _ _ (lt_yes (length b) register_length h) refl

pub start_made : (b c : List ℕ) → register_length ≤ length b → c ≡ patched 0 (bytes_of count_size 0) b → changed 0 c ≡ empty_on b
unfolding empty_on register_short register_image register_bytes over joined
start_made b c h e =
    pick_no _ _ _ _ (lt_no (length b) register_length h)
    (ap (changed 0) (e ∙ patched_front_part (bytes_of count_size 0) b ∙ ap (λ (y : List ℕ). over y b) (sym (append-nil (bytes_of count_size 0)))))

pub unreadable : (b p : List ℕ) (f : Refusal) → refusal_number f ≡ register_number b → changed (refusal_number f) b ≡ apply_on b p
unfolding apply_on
unreadable b p f e =
    pick_no _ _ _ _ (eq_no (register_number b) 0 (λ z. refusal_some f (e ∙ z))) (ap (λ (j : ℕ). changed j b) e)

pub operation_applied : (b p : List ℕ) (r : Changed) → 0 ≡ register_number b → r ≡ applied p (pegs_in b) b → r ≡ apply_on b p
unfolding apply_on
operation_applied b p r e f = pick_yes _ _ _ _ (eq_yes (register_number b) 0 (sym e)) f
