-- What an event puts out, cut by its length bytes, is what was put out.
use Prim.Native.Nat.{ℕ, zero, suc, ◌+◌, ◌≤◌, ◌<◌}
use mathlib.Core.Path.{◌≡◌, refl, sym, ap, ap₂, ◌∙◌}
use mathlib.Core.Bool.{Bool, true}
use mathlib.Core.List.{List, [], ◌∷◌, ◌++◌, map}
use native.Mathlib.Omega.{arith}
use native.Mathlib.Decide.{dec_lt}
use lib.ListN.{length, take, drop, length-append, length-drop}
use lib.Seq.{take_at, drop_at}
use Rattle.base.proofs.TestLaws.{and_holds, lt_holds, eq_holds, pick_lt, pick_ge}
use Rattle.base.specs.Bytes.{joined}
use Rattle.base.proofs.BytesLaws.{number_front}
use Rattle.base.specs.Lists.{Each}
use Rattle.format.specs.Places.{length_size}
use Rattle.format.specs.Types.{Action, Record, Context}
use Rattle.format.specs.Range.{context_ok, record_ok}
use Rattle.format.specs.Read.{frame_ok}
use Rattle.format.specs.Write.{write}
use Rattle.format.proofs.Reading.{says_read}
use Rattle.format.proofs.RoundTrip.{read_written}
use Rattle.replication.specs.Machine.Types.{Server, taken, context_of}
use Rattle.replication.specs.Machine.Step.{step}
use Rattle.replication.specs.Machine.WellFormed.{well_formed}
use Rattle.replication.specs.Laws.Sending.{Peer}
use Rattle.replication.proofs.WellFormed.Reads.{put_out_in_range, step_put_out}
use Rattle.daemons.specs.Sending.{first_size, cut_from, cut_records}
use Rattle.daemons.proofs.Keeping.{formed_context}

from_short : (d : ℕ) (b : List ℕ) → length b < length_size → cut_from d b ≡ []
unfolding cut_from
from_short zero b h = refl
from_short (suc d) b h = sym (pick_lt (length b) length_size [] _ _ h refl)

from_next : (d : ℕ) (b : List ℕ) → length_size ≤ length b → cut_from (suc d) b ≡ take (first_size b) b ∷ cut_from d (drop (first_size b) b)
unfolding cut_from
from_next d b h = sym (pick_ge (length b) length_size (take (first_size b) b ∷ cut_from d (drop (first_size b) b)) _ _ h refl)

-- The bound does not matter.
from_any : (d m : ℕ) (b : List ℕ) → length b ≤ d → length b ≤ m → cut_from d b ≡ cut_from m b
from_any zero m b h k = from_short zero b (omega arith) ∙ sym (from_short m b (omega arith))
from_any (suc d) zero b h k = from_short (suc d) b (omega arith) ∙ sym (from_short zero b (omega arith))
from_any (suc d) (suc m) b h k = go (dec_lt (length b) length_size) (λ p q. from_any d m (drop (first_size b) b) p q)
  where
    go : Dec (length b < length_size)
        → (length (drop (first_size b) b) ≤ d → length (drop (first_size b) b) ≤ m → cut_from d (drop (first_size b) b) ≡ cut_from m (drop (first_size b) b))
        → cut_from (suc d) b ≡ cut_from (suc m) b
    go (yes p) rest = from_short (suc d) b p ∙ sym (from_short (suc m) b p)
    go (no p) rest =
        let l = length-drop (first_size b) b in
        from_next d b (omega arith)
        ∙ ap (λ (r : List (List ℕ)). take (first_size b) b ∷ r) (rest (omega arith) (omega arith))
        ∙ sym (from_next m b (omega arith))

pub cut_short_lem : (b : List ℕ) → length b < length_size → cut_records b ≡ []
unfolding cut_records
cut_short_lem b h = from_short (length b) b h

-- One record, and those behind it.
pub cut_next : (b : List ℕ) → length_size ≤ length b → cut_records b ≡ take (first_size b) b ∷ cut_records (drop (first_size b) b)
unfolding cut_records
cut_next b h = go (length b) refl
  where
    go : (m : ℕ) → length b ≡ m → cut_from m b ≡ take (first_size b) b ∷ cut_from (length (drop (first_size b) b)) (drop (first_size b) b)
    go zero l = absurd (omega arith)
    go (suc m) l =
        let r = length-drop (first_size b) b in
        from_next m b h
        ∙ ap (λ (r : List (List ℕ)). take (first_size b) b ∷ r) (from_any m (length (drop (first_size b) b)) (drop (first_size b) b) (omega arith) (omega arith))

-- A record that is as long as its length bytes say, before any bytes.
pub cut_front : (v rest : List ℕ) → first_size v ≡ length v → cut_records (v ++ rest) ≡ v ∷ cut_records rest
cut_front v rest long =
    let front : first_size (v ++ rest) ≡ length v = ap (λ (m : ℕ). m + length_size) (number_front length_size v rest 0 (omega arith)) ∙ long in
    let first : take (first_size (v ++ rest)) (v ++ rest) ≡ v = take_at v rest (first_size (v ++ rest)) (sym front) in
    let behind : drop (first_size (v ++ rest)) (v ++ rest) ≡ rest = drop_at v rest (first_size (v ++ rest)) (sym front) in
    cut_next (v ++ rest) (omega (arith, length-append v rest))
    ∙ ap₂ {A = List ℕ} {B = List ℕ} {C = List (List ℕ)} (λ x y. x ∷ cut_records y) first behind

-- ---- written records

frame_long : (c : Context) (r : Record) → record_ok c r ≡ true → first_size (write r) ≡ length (write r)
unfolding frame_ok
frame_long c r ok =
    let x = says_read c (write r) r (read_written c r ok) in
    eq_holds (first_size (write r)) (length (write r)) (and_holds _ _ x.frame).0

written_cut : (c : Context) (rs : List Record) → Each (λ r. record_ok c r ≡ true) rs → cut_records (joined (map write rs)) ≡ map write rs
unfolding joined
written_cut c [] h = cut_short_lem [] (omega arith)
written_cut c (r ∷ rs) h =
    cut_front (write r) (joined (map write rs)) (frame_long c r h.0) ∙ ap (λ (l : List (List ℕ)). write r ∷ l) (written_cut c rs h.1)

own_peer : (s : Server) → well_formed s ≡ true → Peer s (context_of s)
unfolding context_ok context_of
own_peer s ok = record { servers = refl; quota = refl; self = lt_holds s.me s.servers (and_holds _ _ (formed_context s ok)).1 }

pub put_out_cut : (s : Server) (e : List ℕ) (t : Server) (bs : List (List ℕ)) (w : Bool) (g : List Action) → well_formed s ≡ true
    → step s e ≡ taken t bs w g → cut_records (joined bs) ≡ bs
put_out_cut s e t bs w g ok h =
    let p = step_put_out s e t bs w g ok h in
    ap (λ (l : List (List ℕ)). cut_records (joined l)) p.1
    ∙ written_cut (context_of s) p.0 (put_out_in_range s ok (context_of s) (own_peer s ok) p.0 p.2)
    ∙ sym p.1
