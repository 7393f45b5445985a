-- The two laws of the set-up record.
use Prim.Native.Nat.{ℕ, ◌+◌, ◌≤◌, ◌-◌}
use mathlib.Core.Path.{◌≡◌, refl, sym, ap, ◌∙◌}
use mathlib.Core.Bool.{true}
use mathlib.Core.List.{List, [], ◌∷◌}
use native.Mathlib.Omega.{arith}
use lib.ListN.{length}
use Rattle.base.proofs.TestLaws.{pick_yes, and_holds, both_yes, eq_yes, eq_holds}
use Rattle.base.specs.Bytes.{Bytes, bytes_of, number_at, joined}
use Rattle.base.proofs.Occurs.{Occurs, joined_parts, parts_joined, number_read, number_occurs}
use Rattle.format.specs.Places.{length_size, at_body, setup_quota_at, setup_size}
use Rattle.format.specs.Types.{says}
use Rattle.format.specs.Write.{framed}
use Rattle.format.specs.Setup.{setup_kind, Setup, write_setup, setup_in, setup_frame_ok, setup_ok, read_setup}
use Rattle.format.proofs.Ranges.{SizesRange, sizes_range}
use Rattle.format.proofs.Frame.{Frame, frame_read, frame_written}
use Rattle.format.proofs.Reading.{says_same, says_checked}

pub setup_length : (s : Setup) → length (write_setup s) ≡ setup_size
unfolding write_setup framed joined bytes_of
setup_length s = refl

setup_body : Setup → List ℕ
setup_body s = joined (bytes_of 1 s.servers ∷ bytes_of 2 s.quota ∷ [])

body_size : (s : Setup) → length (setup_body s) ≡ setup_size - at_body
unfolding setup_body joined bytes_of
body_size s = refl

setup_frame : (s : Setup) → Frame setup_kind (setup_body s) (write_setup s)
unfolding write_setup setup_body
setup_frame s = frame_read setup_kind (setup_body s) (omega arith) (omega (arith, body_size s))

setup_framed : (s : Setup) → setup_frame_ok (write_setup s) ≡ true
unfolding setup_frame_ok
setup_framed s =
    let f = setup_frame s in
    let size : length (write_setup s) ≡ setup_size = setup_length s in
    let body : length (setup_body s) ≡ setup_size - at_body = body_size s in
    both_yes _ _ (eq_yes _ _ (omega (arith, f.long)))
    (both_yes _ _ (eq_yes _ _ f.version_byte) (both_yes _ _ (eq_yes _ _ f.kind_byte) (eq_yes _ _ size)))

setup_back : (s : Setup) → SizesRange s.servers s.quota → setup_in (write_setup s) ≡ s
unfolding setup_in setup_body bytes_of
setup_back s r =
    let parts = joined_parts _ (write_setup s) at_body (setup_frame s).body in
    let servers : number_at 1 (write_setup s) at_body ≡ s.servers = number_read 1 at_body parts.0 refl (omega arith) in
    let quota : number_at 2 (write_setup s) setup_quota_at ≡ s.quota = number_read 2 setup_quota_at parts.1.0 refl (omega arith) in
    λ i. record { servers = servers i; quota = quota i }

pub setup_read_written : (servers quota : ℕ) (s : Setup) → setup_ok servers quota s ≡ true → read_setup servers quota (write_setup s) ≡ says s
unfolding read_setup setup_ok
setup_read_written servers quota s ok =
    let same = setup_back s (sizes_range s.servers s.quota (and_holds _ _ ok).0) in
    sym
    (pick_yes _ (says s) _ _ (setup_framed s)
    (pick_yes _ (says s) _ _ (ap (setup_ok servers quota) same ∙ ok) (ap says (sym same))))

setup_written : (e : List ℕ) → Bytes e → setup_size ≤ length e → Occurs (setup_body (setup_in e)) e at_body
unfolding setup_body setup_in bytes_of
setup_written e b h = parts_joined _ e at_body (number_occurs 1 e at_body refl b (omega arith), (number_occurs 2 e setup_quota_at refl b (omega arith), tt))

setup_whole : (e : List ℕ) → Bytes e → setup_frame_ok e ≡ true → write_setup (setup_in e) ≡ e
unfolding setup_frame_ok write_setup setup_body
setup_whole e b ok =
    let t = and_holds _ _ ok in
    let u = and_holds _ _ t.1 in
    let v = and_holds _ _ u.1 in
    let long : number_at 2 e 0 + length_size ≡ length e = eq_holds _ _ t.0 in
    let size : length e ≡ setup_size = eq_holds _ _ v.1 in
    let body = body_size (setup_in e) in
    frame_written setup_kind (setup_body (setup_in e)) e b
    (record {
      long = omega arith;
      version_byte = eq_holds _ _ u.0;
      kind_byte = eq_holds _ _ v.0;
      body = setup_written e b (omega arith);
    })
    (omega arith)

pub setup_written_read : (servers quota : ℕ) (e : List ℕ) (s : Setup) → Bytes e → read_setup servers quota e ≡ says s → write_setup s ≡ e
unfolding read_setup
setup_written_read servers quota e s b h =
    let framed = says_checked (setup_frame_ok e) _ 1 s h in
    let ranged = says_checked (setup_ok servers quota (setup_in e)) _ 2 s framed.1 in
    ap write_setup (sym (says_same _ _ ranged.1)) ∙ setup_whole e b framed.0

pub setup_in_range : (servers quota : ℕ) (e : List ℕ) (s : Setup) → read_setup servers quota e ≡ says s → setup_ok servers quota s ≡ true
unfolding read_setup
setup_in_range servers quota e s h =
    let framed = says_checked (setup_frame_ok e) _ 1 s h in
    let ranged = says_checked (setup_ok servers quota (setup_in e)) _ 2 s framed.1 in
    ap (setup_ok servers quota) (sym (says_same _ _ ranged.1)) ∙ ranged.0
