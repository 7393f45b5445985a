-- 'Returned numbers': a number is returned exactly when its row applies and none before it does; an event is taken exactly when none applies.
use Prim.Native.Nat.{ℕ, ◌≤◌}
use mathlib.Core.Path.{◌≡◌, refl, sym, ap, subst, ◌∙◌}
use mathlib.Core.Bool.{Bool, true, false, not}
use mathlib.Core.List.{List}
use mathlib.Core.Logic.{◌↔◌}
use mathlib.Core.Option.{Option, none, some}
use native.Mathlib.Omega.{arith}
use Rattle.base.specs.Tests.{◌and◌, ◌or◌, pick}
use Rattle.base.proofs.TestLaws.{Known, holds, fails, known}
use Rattle.base.specs.Lists.{is_there}
use Rattle.format.specs.Types.{Action, Record, Kind}
use Rattle.format.specs.Range.{record_ok}
use Rattle.format.specs.Read.{frame_ok, record_in, read_as, read}
use Rattle.replication.specs.Machine.Types.{Server, Outcome, refused, taken, context_of}
use Rattle.replication.specs.Machine.Rules.{Rule, rule_for, possible, from_member, is_ignored, within_quota}
use Rattle.replication.specs.Machine.Step.{apply, apply_rule, answer, on_reading, in_bytes, step}
use Rattle.replication.specs.Machine.White.{full, sieved, sieved_record, raised}
use Rattle.replication.specs.Laws.Rows as R
use Rattle.replication.specs.Laws.Rows.{kind_in, frame_fits, record_named, record_of, tested, ignores, row1, row2, row5, row6, row3, Refuses, first_row, NoRow}
use Rattle.replication.proofs.Step.Moves.{Moves, rule_moves, rule_sieved}

-- What the table says of an outcome.
abbrev Answers : Server → List ℕ → Outcome (List ℕ) → Type 0
Answers s e (refused k) = Refuses s e k
Answers s e (taken t bs b g) = NoRow s e

neither : (a b : Bool) → (not a and not b) ≡ not (a or b)
unfolding ◌and◌ ◌or◌
neither true b = refl
neither false b = refl

module _ (s : Server) (e : List ℕ) where
  chosen : (c : Bool) (x y : Outcome Record) → (c ≡ true → Answers s e (in_bytes x)) → (c ≡ false → Answers s e (in_bytes y)) → Answers s e (in_bytes (pick c x y))
  unfolding pick
  chosen true x y p q = p refl
  chosen false x y p q = q refl

  -- A row's test of the record that the event reads as.
  at_record : (f : Record → Bool) (r : Record) (c : Bool) → record_of s e ≡ some r → f r ≡ c → tested f (record_of s e) ≡ c
  unfolding tested
  at_record f r c q h = rw q h

  applied : (o : Outcome Record) (r : Record) → Moves s r o → NoRow s e → Answers s e (in_bytes o)
  unfolding in_bytes
  applied (refused k) r m n = absurd m
  applied (taken t rs b g) r m n = n

  raised_applied : (k : Rule) (o : Outcome Record) (r : Record) → Moves s r o → NoRow s e → Answers s e (in_bytes (raised k s o))
  unfolding in_bytes raised
  raised_applied k (refused j) r m n = absurd m
  raised_applied k (taken t rs b g) r m n = n

  by_rule : (r : Record) (x : Option Rule) → record_of s e ≡ some r → row1 s e ≡ false → row2 s e ≡ false
      → rule_for s.membership.mode r ≡ x → Answers s e (in_bytes (apply_rule x s r))
  unfolding apply_rule in_bytes row5 row6 row3 is_there ignores ◌and◌ ◌or◌
  by_rule r none q n1 n2 h = R.by_row5 n1 n2 (at_record _ r true q (rw h))
  by_rule r (some k) q n1 n2 h =
      chosen (possible s r) _ _
      (λ p5. let n5 : row5 s e ≡ false = at_record _ r false q (rw (h, p5)) in
      chosen (is_ignored k or from_member s.membership r) _ _
      (λ p6. let n6 : row6 s e ≡ false = at_record _ r false q (rw (h, neither, p6)) in
      chosen (within_quota s r) _ _
      (λ p3. let n3 : row3 s e ≡ false = at_record _ r false q (rw p3) in
      raised_applied k (apply (sieved (full k s) k) s) (sieved_record (full k s) r) (rule_moves s (sieved_record (full k s) r) (sieved (full k s) k) (rule_sieved s.membership.mode (full k s) r k h)) (record { not1 = n1; not2 = n2; not5 = n5; not6 = n6; not3 = n3 }))
      (λ p3. R.by_row3 n1 n2 n5 n6 (at_record _ r true q (rw p3))))
      (λ p6. R.by_row6 n1 n2 n5 (at_record _ r true q (rw (h, neither, p6)))))
      (λ p5. R.by_row5 n1 n2 (at_record _ r true q (rw (h, p5))))

  by_kind : (x : Option Kind) → kind_in e ≡ x → Answers s e (in_bytes (on_reading s (read_as x (context_of s) e)))
  unfolding read_as on_reading in_bytes row1 row2 frame_fits record_of record_named context_of pick answer
  by_kind none h = R.by_row1 (rw h)
  by_kind (some k) h = go (known (frame_ok k s.servers e)) (known (record_ok (context_of s) (record_in k s.servers e)))
    where
      q : record_of s e ≡ some (record_in k s.servers e)
      q = rw h

      go : Known (frame_ok k s.servers e) → Known (record_ok (context_of s) (record_in k s.servers e)) → Answers s e (in_bytes (on_reading s (read_as (some k) (context_of s) e)))
      go (fails f) x = rw (f, pick) (R.by_row1 (rw (h, frame_fits, f)))
      go (holds f) (fails g) = rw (f, g, pick) (R.by_row2 (rw (h, frame_fits, f)) (at_record _ _ true q (rw g)))
      go (holds f) (holds g) = rw (f, g, pick) (by_rule (record_in k s.servers e) _ q (rw (h, frame_fits, f)) (at_record _ _ false q (rw g)) refl)

  answered : Answers s e (step s e)
  unfolding step read kind_in
  answered = by_kind _ refl

-- ---- the first row that applies is one

refuses_first : {s : Server} {e : List ℕ} {k : ℕ} → Refuses s e k → first_row s e ≡ k
unfolding first_row pick
refuses_first (R.by_row1 a) = rw a
refuses_first (R.by_row2 a b) = rw (a, b)
refuses_first (R.by_row5 a b c) = rw (a, b, c)
refuses_first (R.by_row6 a b c d) = rw (a, b, c, d)
refuses_first (R.by_row3 a b c d f) = rw (a, b, c, d, f)

refuses_some : {s : Server} {e : List ℕ} {k : ℕ} → Refuses s e k → 1 ≤ k
refuses_some (R.by_row1 a) = omega arith
refuses_some (R.by_row2 a b) = omega arith
refuses_some (R.by_row5 a b c) = omega arith
refuses_some (R.by_row6 a b c d) = omega arith
refuses_some (R.by_row3 a b c d f) = omega arith

no_four : {s : Server} {e : List ℕ} → Refuses s e 4 → ⊥
no_four x = go x refl
  where
    go : {s : Server} {e : List ℕ} {k : ℕ} → Refuses s e k → k ≡ 4 → ⊥
    go (R.by_row1 a) h = omega arith
    go (R.by_row2 a b) h = omega arith
    go (R.by_row5 a b c) h = omega arith
    go (R.by_row6 a b c d) h = omega arith
    go (R.by_row3 a b c d f) h = omega arith

none_first : {s : Server} {e : List ℕ} → NoRow s e → first_row s e ≡ 0
unfolding first_row pick
none_first n = rw (n.not1, n.not2, n.not5, n.not6, n.not3)

-- ---- the table

module _ (s : Server) (e : List ℕ) where
  -- The number k is returned exactly when row k applies and none before it does.
  pub table : (k : ℕ) → (step s e ≡ refused k) ↔ Refuses s e k
  table k = (λ h. subst (Answers s e) h (answered s e), λ x. go (step s e) (answered s e) x)
    where
      go : (o : Outcome (List ℕ)) → Answers s e o → Refuses s e k → o ≡ refused k
      go (refused j) y x = ap (λ n. refused n) (sym (refuses_first y) ∙ refuses_first x)
      go (taken t bs b g) n x = absurd (omega (arith, none_first n, refuses_first x, refuses_some x))

  -- A refusal's number is not 0.
  pub refused_some : (k : ℕ) → step s e ≡ refused k → 1 ≤ k
  refused_some k h = refuses_some ((table k).0 h)

  -- Document 02, K4: "4 never occurs".
  pub never_four : step s e ≡ refused 4 → ⊥
  never_four h = no_four ((table 4).0 h)

  -- An event is taken exactly when no row applies.
  pub table_taken : ((t : Server) × (bs : List (List ℕ)) × (b : Bool) × (g : List Action) × (step s e ≡ taken t bs b g)) ↔ NoRow s e
  table_taken = (λ x. subst (Answers s e) x.4 (answered s e), λ n. go (step s e) refl (answered s e) n)
    where
      go : (o : Outcome (List ℕ)) → step s e ≡ o → Answers s e o → NoRow s e
          → (t : Server) × (bs : List (List ℕ)) × (b : Bool) × (g : List Action) × (step s e ≡ taken t bs b g)
      go (refused j) h y n = absurd (omega (arith, none_first n, refuses_first y, refuses_some y))
      go (taken t bs b g) h y n = (t, bs, b, g, h)
