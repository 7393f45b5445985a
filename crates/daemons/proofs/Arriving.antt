-- One event over buffers that keep a server's states: the answer is the machine's, and what the buffers keep afterwards is what it leaves.
use Prim.Native.Nat.{ℕ, ◌≤◌}
use mathlib.Core.Path.{◌≡◌, refl, sym, ap, subst, ◌∙◌}
use mathlib.Core.Bool.{Bool, true, false}
use mathlib.Core.List.{List, []}
use native.Mathlib.Omega.{arith}
use lib.ListN.{length, take, drop}
use lib.Seq.{take_at}
use Rattle.base.specs.Tests.{pick}
use Rattle.base.proofs.TestLaws.{pick_either, Known, holds, fails, known}
use Rattle.base.specs.Bytes.{joined, over}
use Rattle.format.specs.Types.{Action, recovery}
use Rattle.replication.specs.Laws.Order.{SameServer}
use Rattle.replication.specs.Machine.Types.{Server, Outcome, refused, taken, context_of}
use Rattle.replication.specs.Machine.Step.{step}
use Rattle.replication.specs.Machine.WellFormed.{well_formed}
use Rattle.replication.specs.Images.{Images, source_of, arrive, left_by}
use Rattle.replication.specs.Replay.{returned}
use Rattle.replication.specs.Runs.Run.{records_of}
use Rattle.replication.proofs.Runs.Readings.{answer_refused}
use Rattle.replication.proofs.Runs.Refusals.{picked_true, picked_false, recovery_taken}
use Rattle.replication.proofs.Step.Identity.{taken_identity}
use Rattle.replication.proofs.Step.Lifts.{source_of_lem}
use Rattle.replication.proofs.WellFormed.Steps.{step_well_formed}
use Rattle.image.specs.Layout.{state_length, out_length}
use Rattle.image.specs.Outcome.{Result, refusal, word, image_after, result_of}
use Rattle.image.specs.Holding.{Holds, blanked}
use Rattle.image.proofs.Taken.{after_length, after_holds}
use Rattle.daemons.specs.Buffers.{Buffers, is_recovery, source_in, step_in, kept_after}
use Rattle.daemons.specs.Sending.{cut_records}
use Rattle.daemons.proofs.RecoveryLaws.{recovery_says, recovery_read}
use Rattle.daemons.proofs.BufferLaws.{source_stored, source_running, kept_state, kept_stored, kept_unstored}
use Rattle.daemons.proofs.SendingLaws.{cut_short_lem, put_out_cut}
use Rattle.daemons.proofs.Blanked.{result_alike}
use Rattle.daemons.proofs.Keeping.{KeepsWhere, Keeps, Sized, same_itself, formed_context, holds_step}

-- The answer r to an event with the outcome o.
pub record Arrives (i : Images) (o : Outcome (List ℕ)) (b : Buffers) (r : Result) : Type 0 where
  pub kept : Keeps (left_by o i) (kept_after b r)
  pub same : SameServer i.memory (left_by o i).memory
  pub number : r.number ≡ returned o
  pub bytes : take r.sent r.out ≡ joined (records_of o)
  pub records : cut_records (take r.sent r.out) ≡ records_of o
  pub lengths : (m : ℕ) → Sized m b → Sized m (kept_after b r)

same_twice : (s t u : Server) → SameServer s t → SameServer s u → SameServer t u
same_twice s t u p q =
    record { servers = q.servers ∙ sym p.servers; quota = q.quota ∙ sym p.quota; me = q.me ∙ sym p.me }

same_then : (s t u : Server) → SameServer s t → SameServer t u → SameServer s u
same_then s t u p q = record { servers = q.servers ∙ p.servers; quota = q.quota ∙ p.quota; me = q.me ∙ p.me }

-- The buffer that a step of this word leaves stored.
word_stored : (P : List ℕ → Type 0) (b : Buffers) (r : Result) (w : Bool) → r.store ≡ word w → (w ≡ true → P r.state) → (w ≡ false → P b.store)
    → P (kept_after b r).store
unfolding word
word_stored P b r true e h k = subst P (kept_stored b r e) (h refl)
word_stored P b r false e h k = subst P (kept_unstored b r (λ z. absurd (omega arith))) (k refl)

module _ (i : Images) (b : Buffers) (e : List ℕ) (k : KeepsWhere (is_recovery e ≡ false) i b) where
  abbrev s : Server
  s = source_of i e

  abbrev before : List ℕ
  before = source_in b e

  -- ---- the state that the event comes to

  pub source_holds : Holds (blanked s) before
  unfolding source_of
  source_holds =
      subst (λ (t : Bool). Holds (blanked (pick t i.store i.memory)) before)
      (sym (recovery_read (context_of i.memory) e (formed_context i.memory k.formed)))
      (go (known (is_recovery e)))
    where
      go : Known (is_recovery e) → Holds (blanked (pick (is_recovery e) i.store i.memory)) before
      go (holds h) =
          subst (λ (t : Server). Holds (blanked t) before) (sym (picked_true (is_recovery e) i.store i.memory h))
          (subst (Holds (blanked i.store)) (source_stored b e h) k.store)
      go (fails h) =
          subst (λ (t : Server). Holds (blanked t) before) (sym (picked_false (is_recovery e) i.store i.memory h))
          (subst (Holds (blanked i.memory)) (source_running b e h) (k.memory h))

  pub source_formed : well_formed s ≡ true
  source_formed = source_of_lem (λ (t : Server). well_formed t ≡ true) i e k.formed_store k.formed

  pub source_same : SameServer i.memory s
  source_same = source_of_lem (SameServer i.memory) i e k.same (same_itself i.memory)

  source_long : state_length s.servers s.quota ≤ length before
  unfolding blanked
  source_long = source_holds.long

  source_length : (m : ℕ) → Sized m b → length before ≡ m
  source_length m z = go (known (is_recovery e))
    where
      go : Known (is_recovery e) → length before ≡ m
      go (holds h) = ap length (sym (source_stored b e h)) ∙ z.store
      go (fails h) = ap length (sym (source_running b e h)) ∙ z.state

  -- A recovery is never refused.
  pub refused_running : (m : ℕ) → step s e ≡ refused m → is_recovery e ≡ false
  refused_running m h = go (known (is_recovery e))
    where
      go : Known (is_recovery e) → is_recovery e ≡ false
      go (holds r) =
          absurd
          (recovery_taken s m (answer_refused s e recovery m h (recovery_says (context_of s) e (formed_context s source_formed) r)))
      go (fails r) = r

  -- ---- the outcome

  refused_arrives : (m : ℕ) (z : List ℕ) → step s e ≡ refused m → Arrives i (refused m) b (result_of (image_after s e) (refused m) before z)
  unfolding result_of refusal left_by returned records_of joined
  refused_arrives m z h = record {
    kept = record {
      formed = k.formed;
      formed_store = k.formed_store;
      memory = λ u. subst (Holds (blanked i.memory)) state (k.memory running);
      store = subst (Holds (blanked i.store)) store k.store;
      same = k.same;
    };
    same = same_itself i.memory;
    number = refl;
    bytes = refl;
    records = cut_short_lem [] (omega arith);
    lengths = λ x y. record { state = ap length (sym state) ∙ y.state; store = ap length (sym store) ∙ y.store };
  }
    where
      running : is_recovery e ≡ false
      running = refused_running m h

      state : b.state ≡ (kept_after b (refusal m before z)).state
      state = source_running b e running ∙ kept_state b (refusal m before z)

      store : b.store ≡ (kept_after b (refusal m before z)).store
      store = kept_unstored b (refusal m before z) (λ q. absurd (omega arith))

  taken_arrives : (t : Server) (rs : List (List ℕ)) (w : Bool) (g : List Action) (z : List ℕ) → step s e ≡ taken t rs w g
      → Arrives i (taken t rs w g) b (result_of (image_after s e) (taken t rs w g) before z)
  unfolding result_of left_by returned records_of over
  taken_arrives t rs w g z h = record {
    kept = record {
      formed = ok;
      formed_store = pick_either (λ (u : Server). well_formed u ≡ true) w t i.store ok k.formed_store;
      memory = λ u. subst (Holds (blanked t)) state here;
      store = stored;
      same = same_stored;
    };
    same = same_memory;
    number = refl;
    bytes = front;
    records = ap cut_records front ∙ put_out_cut s e t rs w g source_formed h;
    lengths = λ m y. record {
      state = ap length (sym state) ∙ size m y;
      store = word_stored (λ x. length x ≡ m) b r w refl (λ q. size m y) (λ q. y.store);
    };
  }
    where
      r : Result
      r = result_of (image_after s e) (taken t rs w g) before z

      front : take r.sent r.out ≡ joined rs
      front = take_at (joined rs) (drop (length (joined rs)) z) (length (joined rs)) refl

      ok : well_formed t ≡ true
      ok = step_well_formed s e t rs w g source_formed h

      left : List ℕ
      left = image_after s e t before

      here : Holds (blanked t) left
      here = after_holds s e t rs w g h source_formed before source_long

      state : left ≡ (kept_after b r).state
      state = kept_state b r

      same_memory : SameServer i.memory t
      same_memory = same_then i.memory s t source_same (taken_identity s e t rs w g h)

      size : (m : ℕ) → Sized m b → length left ≡ m
      size m y = after_length s e t rs w g h source_formed before source_long ∙ source_length m y

      same_stored : SameServer t (pick w t i.store)
      same_stored = pick_either (SameServer t) w t i.store (same_itself t) (same_twice i.memory t i.store same_memory k.same)

      stored : Holds (blanked (pick w t i.store)) (kept_after b r).store
      stored =
          word_stored (Holds (blanked (pick w t i.store))) b r w refl
          (λ q. subst (λ (x : Server). Holds (blanked x) left) (sym (picked_true w t i.store q)) here)
          (λ q. subst (λ (x : Server). Holds (blanked x) b.store) (sym (picked_false w t i.store q)) k.store)

  -- ---- the answer

  module _ (o : List ℕ) (room : out_length i.memory.servers i.memory.quota ≤ length o) where
    pub room_here : out_length s.servers s.quota ≤ length o
    room_here = subst (λ (m : ℕ). m ≤ length o) (λ j. out_length (sym source_same.servers j) (sym source_same.quota j)) room

    pub answered : step_in b e o ≡ result_of (image_after (source_of i e) e) (arrive i e) (source_in b e) o
    unfolding arrive step_in blanked
    answered = holds_step (blanked s) before source_holds e o room_here ∙ result_alike s source_formed e before o

    pub arrives : Arrives i (arrive i e) b (step_in b e o)
    unfolding arrive
    arrives = subst (λ (r : Result). Arrives i (step s e) b r) (sym answered) (go (step s e) refl)
      where
        go : (x : Outcome (List ℕ)) → step s e ≡ x → Arrives i x b (result_of (image_after s e) x before o)
        go (refused m) h = refused_arrives m o h
        go (taken t rs w g) h = taken_arrives t rs w g o h
