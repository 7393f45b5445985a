-- The records of a taken event stand in the outgoing buffer, one after another.
use Prim.Native.Nat.{ℕ, ◌+◌, ◌≤◌}
use mathlib.Core.Path.{◌≡◌, refl, sym, ap, subst, ◌∙◌}
use mathlib.Core.Bool.{Bool, true}
use mathlib.Core.List.{List, [], ◌∷◌, ◌++◌, map}
use native.Mathlib.Omega.{arith}
use lib.ListN.{length, drop, length-append}
use lib.Seq.{take-append_seam, drop-append_seam}
use Rattle.base.specs.Tests.{◌=?◌}
use Rattle.base.proofs.TestLaws.{Known, holds, fails, known, eq_holds, eq_fails}
use Rattle.base.specs.Bytes.{part_at, joined, over}
use Rattle.base.proofs.Occurs.{Occurs, occurs_first, occurs_second}
use Rattle.base.proofs.Over.{over_length}
use Rattle.base.specs.Lists.{Each}
use Rattle.format.specs.Types.{Action, Record, Context, says}
use Rattle.format.specs.Read.{read}
use Rattle.format.specs.Write.{write, record_bytes}
use Rattle.replication.specs.Machine.Types.{Server, Outcome, refused, taken}
use Rattle.replication.specs.Machine.Step.{step}
use Rattle.replication.specs.Machine.WellFormed.{well_formed}
use Rattle.replication.specs.Laws.Sending.{Peer}
use Rattle.replication.proofs.Step.Table.{refused_some}
use Rattle.replication.proofs.WellFormed.SentFacts.{PutOut}
use Rattle.replication.proofs.WellFormed.Reads.{put_out_reads, step_put_out}
use Rattle.image.specs.Decode.{decoded}
use Rattle.image.specs.Outcome.{Result, refusal, image_after, result_of, step_on, state_number}
use Rattle.image.proofs.Refusals.{Ready, zero_ready, step_refused}
use Rattle.image.proofs.Taken.{out_fits}
use Rattle.daemons.specs.Outgoing.{StandFrom, Outgoing, OutgoingRecords}
use Rattle.daemons.proofs.Keeping.{holds_step}

-- Records that occur one after another from `at` to `end`, each of which reads back.
stand_from : (s : Server) (rs : List Record) (at end : ℕ) (old new : List ℕ) → at + length (record_bytes rs) ≡ end → end ≤ length new
    → Occurs (record_bytes rs) new at → drop end new ≡ drop end old → ((c : Context) → Peer s c → Each (λ r. read c (write r) ≡ says r) rs)
    → StandFrom s at rs old new
unfolding StandFrom record_bytes joined
stand_from s [] at end old new n h o k f = let same : end ≡ at = omega arith in subst (λ (m : ℕ). drop m new ≡ drop m old) same k
stand_from s (r ∷ rs) at end old new n h o k f =
    let rest : List ℕ = joined (map write rs) in
    let size : length (write r ++ rest) ≡ length (write r) + length rest = length-append (write r) rest in
    let first : Occurs (write r) new at = occurs_first (write r) rest new at o in (
      record { inside = omega arith; bytes = first.part; reads = λ c p. ap (read c) first.part ∙ (f c p).0 },
      stand_from s rs _ end old new (omega arith) h (occurs_second (write r) rest new at _ (omega arith) o) k (λ c p. (f c p).1),
    )

-- ---- the step

module _ (s : Server) (b e o : List ℕ) (ready : Ready s b o) where
  put_out_lem : (t : Server) (rs : List Record) (w : Bool) (g : List Action) → PutOut s.servers s.quota s.me rs
      → step s e ≡ taken t (map write rs) w g → Outgoing b e o (result_of (image_after s e) (taken t (map write rs) w g) b o)
  unfolding result_of record_bytes over part_at
  put_out_lem t rs w g p h =
      let ok : well_formed s ≡ true = ready.image.formed in
      let y : List ℕ = joined (map write rs) in
      let rest : List ℕ = drop (length y) o in
      let fits : length y ≤ length o = omega (arith, out_fits s e t (map write rs) w g h ok, ready.room) in
      let size : length (over y o) ≡ length o = over_length y o fits in
      record {
        before = s;
        after = t;
        records = rs;
        store = w;
        greened = g;
        held = ready.read;
        answer = h;
        sent = refl;
        size = size;
        stand =
            stand_from s rs 0 (length y) o (y ++ rest) (omega arith) (omega (arith, size)) (record { part = take-append_seam y rest })
            (drop-append_seam y rest) (λ c q. put_out_reads s ok c q rs p);
      }

  by_outcome : (x : Outcome (List ℕ)) → step s e ≡ x → (result_of (image_after s e) x b o).number ≡ 0 → Outgoing b e o (result_of (image_after s e) x b o)
  unfolding result_of refusal
  by_outcome (refused k) h z = absurd (omega (arith, refused_some s e k h))
  by_outcome (taken t bs w g) h z =
      let p = step_put_out s e t bs w g ready.image.formed h in
      subst (λ (l : List (List ℕ)). Outgoing b e o (result_of (image_after s e) (taken t l w g) b o)) (sym p.1)
      (put_out_lem t p.0 w g p.2 (subst (λ (l : List (List ℕ)). step s e ≡ taken t l w g) p.1 h))

-- The number 0 is returned only where the buffers are ready and the event is taken.
pub outgoing_records : OutgoingRecords
unfolding OutgoingRecords refusal
outgoing_records b e o z = go (known (state_number b o =? 0))
  where
    go : Known (state_number b o =? 0) → Outgoing b e o (step_on b e o)
    go (holds h) =
        let ready : Ready (decoded b) b o = zero_ready b o (eq_holds (state_number b o) 0 h) in
        subst (λ (x : Result). x.number ≡ 0 → Outgoing b e o x) (sym (holds_step (decoded b) b ready.image e o ready.room))
        (by_outcome (decoded b) b e o ready (step (decoded b) e) refl) z
    go (fails h) =
        let some : state_number b o ≡ 0 → ⊥ = eq_fails (state_number b o) 0 h in
        absurd (some (sym (ap (λ (x : Result). x.number) (step_refused b e o some)) ∙ z))
