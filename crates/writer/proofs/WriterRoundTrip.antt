-- What a writer has put is read as the record that was written, and behind it the rest is as it was.
use Prim.Native.Nat.{ℕ, ◌≤◌}
use mathlib.Core.Path.{◌≡◌, refl, sym, ap, ◌∙◌}
use mathlib.Core.Bool.{Bool, true, false}
use mathlib.Core.List.{List}
use native.Mathlib.Omega.{arith}
use lib.ListN.{length, take, drop}
use lib.Seq.{drop_at, take-append_seam}
use Rattle.base.specs.Tests.{◌≤?◌, pick}
use Rattle.base.proofs.TestLaws.{le_holds}
use Rattle.base.specs.Bytes.{over}
use Rattle.format.specs.Types.{Record, Context, says}
use Rattle.format.specs.Range.{record_ok}
use Rattle.format.specs.Read.{read}
use Rattle.format.specs.Write.{write}
use Rattle.format.proofs.RoundTrip.{read_written}
use Rattle.std.specs.Prelude.{Option, Some}
use Rattle.writer.specs.Written.{Put, next, full, put, put_of}

-- What a writer that answers `Some` ensures, as a put.
pub answer_next : (w : Option ℕ) (z : Put) (n : ℕ) (rest : List ℕ) → put_of w rest ≡ z → w ≡ Some n → z ≡ next n rest
unfolding put_of
answer_next w z n rest e f = sym e ∙ rw f

-- What a put that is not full says.
pub record Fitted (b old : List ℕ) (size : ℕ) (rest : List ℕ) : Type 0 where
  pub room : length b ≤ length old
  pub sized : size ≡ length b
  pub filled : rest ≡ over b old

-- a choice between z and no room
chosen_next : (t : Bool) (z : Put) (old rest : List ℕ) (size : ℕ) → pick t z (full old) ≡ next size rest → (t ≡ true) × (z ≡ next size rest)
unfolding pick
chosen_next true z old rest size e = (refl, e)
chosen_next false z old rest size e = let c : ◌≡◌ {A = ℕ} 0 1 = cc in absurd (omega arith)

next_size : (n m : ℕ) (x y : List ℕ) → next n x ≡ next m y → m ≡ n
next_size n m x y e = cc

next_rest : (n m : ℕ) (x y : List ℕ) → next n x ≡ next m y → y ≡ x
next_rest n m x y e = cc

pub put_fitted : (b old rest : List ℕ) (size : ℕ) → put b old ≡ next size rest → Fitted b old size rest
unfolding put
put_fitted b old rest size e =
    let z = chosen_next (length b ≤? length old) (next (length b) (over b old)) old rest size e in
    record { room = le_holds (length b) (length old) z.0; sized = next_size _ _ _ _ z.1; filled = next_rest _ _ _ _ z.1 }

module _ (b old rest : List ℕ) (size : ℕ) (e : put b old ≡ next size rest) where
  abbrev fitted : Fitted b old size rest
  fitted = put_fitted b old rest size e

  -- behind the record nothing has changed
  pub put_behind : drop size rest ≡ drop size old
  unfolding over
  put_behind = rw (fitted.sized, fitted.filled) (drop_at b (drop (length b) old) (length b) refl)

  -- before that is the record
  pub put_front : take size rest ≡ b
  unfolding over
  put_front = rw (fitted.sized, fitted.filled) (take-append_seam b (drop (length b) old))

pub put_says : (c : Context) (r : Record) (old rest : List ℕ) (size : ℕ) → record_ok c r ≡ true → put (write r) old ≡ next size rest
    → read c (take size rest) ≡ says r
put_says c r old rest size ok e = ap (read c) (put_front (write r) old rest size e) ∙ read_written c r ok
