-- A record's frame: length, version, kind, and the body behind them.
use Prim.Native.Nat.{ℕ, ◌+◌, ◌<◌, ◌-◌}
use mathlib.Core.Path.{◌≡◌, refl, subst, ◌∙◌}
use mathlib.Core.List.{List}
use native.Mathlib.Omega.{arith}
use lib.ListN.{length}
use Rattle.base.specs.Bytes.{Bytes, bytes_of, number_at}
use Rattle.base.proofs.Occurs.{Occurs, joined_parts, parts_joined, occurs_whole, occurs_all, number_read, number_occurs}
use Rattle.format.specs.Places.{length_size, at_version, at_kind, at_body}
use Rattle.format.specs.Limits.{version}
use Rattle.format.specs.Write.{framed}
use Rattle.format.proofs.Lengths.{framed_length}

-- e has a frame with kind k and body x.
pub record Frame (k : ℕ) (x e : List ℕ) : Type 0 where
  pub long : number_at 2 e 0 ≡ at_body - length_size + length x
  pub version_byte : number_at 1 e at_version ≡ version
  pub kind_byte : number_at 1 e at_kind ≡ k
  pub body : Occurs x e at_body

pub frame_read : (kind : ℕ) (body : List ℕ) → kind < 256 → at_body - length_size + length body < 65536 → Frame kind body (framed kind body)
unfolding framed bytes_of
frame_read kind body h l =
    let parts = joined_parts _ (framed kind body) 0 (occurs_whole (framed kind body)) in
    record {
      long = number_read 2 0 parts.0 refl l;
      version_byte = number_read 1 at_version parts.1.0 refl (omega arith);
      kind_byte = number_read 1 at_kind parts.1.1.0 refl h;
      body = parts.1.1.1.0;
    }

pub frame_written : (kind : ℕ) (body e : List ℕ) → Bytes e → Frame kind body e → at_body + length body ≡ length e → framed kind body ≡ e
unfolding framed bytes_of
frame_written kind body e b f l =
    let long : Occurs (bytes_of length_size (at_body - length_size + length body)) e 0 =
    subst (λ (v : ℕ). Occurs (bytes_of 2 v) e 0) f.long (number_occurs 2 e 0 refl b (omega arith)) in
    let first : Occurs (bytes_of 1 version) e at_version =
    subst (λ (v : ℕ). Occurs (bytes_of 1 v) e at_version) f.version_byte (number_occurs 1 e at_version refl b (omega arith)) in
    let second : Occurs (bytes_of 1 kind) e at_kind =
    subst (λ (v : ℕ). Occurs (bytes_of 1 v) e at_kind) f.kind_byte (number_occurs 1 e at_kind refl b (omega arith)) in
    occurs_all (framed kind body) e (parts_joined _ e 0 (long, (first, (second, (f.body, tt))))) (framed_length kind body ∙ l)
