-- What a taken event read, by which rule it was taken, and which transition that made.
use Prim.Native.Nat.{ℕ}
use mathlib.Core.Path.{◌≡◌, refl}
use mathlib.Core.Bool.{Bool, true, false}
use mathlib.Core.List.{List, map}
use mathlib.Core.Option.{Option, none, some}
use native.Mathlib.Omega.{arith}
use Rattle.base.specs.Tests.{◌or◌, pick}
use Rattle.format.specs.Types.{Action, Record, Reading, says}
use Rattle.format.specs.Read.{read}
use Rattle.format.specs.Write.{write}
use Rattle.replication.specs.Machine.Types.{Server, Outcome, refused, taken, with_white, context_of}
use Rattle.replication.specs.Machine.Rules.{Rule, rule_for, possible, from_member, is_ignored, within_quota}
use Rattle.replication.specs.Machine.Step.{apply, apply_rule, answer, on_reading, in_bytes, step}
use Rattle.replication.specs.Machine.White.{full, sieved, white_after, raised}
use Rattle.replication.specs.Laws.Transitions.{TakenBy}

-- A refusal is nothing taken.
pub not_taken : {X R : Type 0} {k : ℕ} {t : Server} {rs : List R} {b : Bool} {g : List Action} → ◌≡◌ {A = Outcome R} (refused k) (taken t rs b g) → X
not_taken e = let z : ◌≡◌ {A = ℕ} 0 1 = cc in absurd (omega arith)

-- What a test refuses is not taken.
passed : (c : Bool) (o : Outcome Record) (k : ℕ) (t : Server) (rs : List Record) (b : Bool) (g : List Action)
    → pick c o (refused k) ≡ taken t rs b g → (c ≡ true) × (o ≡ taken t rs b g)
unfolding pick
passed true o k t rs b g e = (refl, e)
passed false o k t rs b g e = not_taken e

-- What a raised outcome is raised from.
unraised : (k : Rule) (s : Server) (o : Outcome Record) (t : Server) (rs : List Record) (b : Bool) (g : List Action) → raised k s o ≡ taken t rs b g
    → (u : Server) × (o ≡ taken u rs b g) × (t ≡ with_white (white_after k s u) u)
unfolding raised
unraised k s (refused j) t rs b g e = not_taken e
unraised k s (taken u rs₁ b₁ g₁) t rs b g e = (u, cc, cc)

as_records : (o : Outcome Record) (t : Server) (bs : List (List ℕ)) (b : Bool) (g : List Action) → in_bytes o ≡ taken t bs b g
    → (rs : List Record) × (o ≡ taken t rs b g) × (bs ≡ map write rs)
unfolding in_bytes
as_records (refused k) t bs b g e = not_taken e
as_records (taken t₁ rs b₁ g₁) t bs b g e = (rs, cc, cc)

module _ (s : Server) (e : List ℕ) (t : Server) (bs : List (List ℕ)) (b : Bool) (g : List Action) where
  by_rule : (r : Record) (rs : List Record) (x : Option Rule) → read (context_of s) e ≡ says r → bs ≡ map write rs
      → rule_for s.membership.mode r ≡ x → apply_rule x s r ≡ taken t rs b g → TakenBy s e t bs b g
  unfolding apply_rule
  by_rule r rs none p w q h = not_taken h
  by_rule r rs (some k) p w q h =
      let x = passed (possible s r) _ 5 t rs b g h in
      let y = passed (is_ignored k or from_member s.membership r) _ 6 t rs b g x.1 in
      let z = passed (within_quota s r) _ 3 t rs b g y.1 in
      let v = unraised k s (apply (sieved (full k s) k) s) t rs b g z.1 in
      record { event = r; rule = k; records = rs; reads = p; ruled = q; can = x.0; member = y.0; quota = z.0; core = v.0; applied = v.1; raise = v.2; written = w }

  by_reading : (x : Reading Record) → read (context_of s) e ≡ x → in_bytes (on_reading s x) ≡ taken t bs b g → TakenBy s e t bs b g
  unfolding on_reading answer
  by_reading (says r) p h =
      let x = as_records (answer s r) t bs b g h in
      by_rule r x.0 (rule_for s.membership.mode r) p x.2 refl x.1
  by_reading (Reading.refused k) p h = let x = as_records (refused k) t bs b g h in not_taken x.1

  pub taken_by : step s e ≡ taken t bs b g → TakenBy s e t bs b g
  unfolding step
  taken_by h = by_reading (read (context_of s) e) refl h
