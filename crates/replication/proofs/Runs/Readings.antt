-- What an event's bytes say, at the run's place and at the machine.
use Prim.Native.Nat.{ℕ}
use mathlib.Core.Path.{◌≡◌, refl, sym, ap, subst, ◌∙◌}
use mathlib.Core.Bool.{true}
use mathlib.Core.List.{List}
use Rattle.base.proofs.TestLaws.{not_both, and_holds, both_yes}
use Rattle.format.specs.Types.{Record, action, retransmission, state, cpc, regular, transitional, request, recovery, Context, Reading, says, refused}
use Rattle.format.specs.Range.{context_ok, fields_ok, record_ok}
use Rattle.format.specs.Read.{frame_ok, record_in, read}
use Rattle.format.proofs.Reading.{read_says, says_read}
use Rattle.replication.specs.Machine.Types.{Server, Outcome, taken, context_of}
use Rattle.replication.specs.Machine.Step.{answer, on_reading, in_bytes, step}
use Rattle.replication.specs.Images.{is_recovery}

-- A recovery is read alike whatever the configuration.
pub recovery_alike : (c d : Context) (e : List ℕ) → c.servers ≡ d.servers → c.quota ≡ d.quota → c.self ≡ d.self → read c e ≡ says recovery
    → read d e ≡ says recovery
unfolding record_ok fields_ok context_ok
recovery_alike c d e a b f h =
    let x = says_read c e recovery h in
    let w = and_holds _ _ x.range in
    read_says d e recovery
    (record {
      kind = x.kind;
      named = x.named;
      frame = subst (λ n. frame_ok x.kind n e ≡ true) a x.frame;
      same = subst (λ n. record_in x.kind n e ≡ recovery) a x.same;
      range = both_yes _ _ (subst (λ (y : Context). context_ok y ≡ true) (λ j. record { servers = a j; quota = b j; self = f j; last = d.last }) w.0) refl;
    })

pub is_recovery_lem : (x : Reading Record) → is_recovery x ≡ true → x ≡ says recovery
unfolding is_recovery
is_recovery_lem (says (action a)) e = not_both e
is_recovery_lem (says (retransmission k p a)) e = not_both e
is_recovery_lem (says (state x)) e = not_both e
is_recovery_lem (says (cpc k i)) e = not_both e
is_recovery_lem (says (regular i t)) e = not_both e
is_recovery_lem (says (transitional t)) e = not_both e
is_recovery_lem (says (request p)) e = not_both e
is_recovery_lem (says recovery) e = refl
is_recovery_lem (refused k) e = not_both e

-- A step that is refused, of a record that reads, is the answer's refusal.
pub answer_refused : (s : Server) (e : List ℕ) (r : Record) (z : ℕ) → step s e ≡ Outcome.refused z → read (context_of s) e ≡ says r
    → answer s r ≡ Outcome.refused z
unfolding step on_reading in_bytes
answer_refused s e r z h x = go (answer s r) (ap (λ y. in_bytes (on_reading s y)) (sym x) ∙ h)
  where
    go : (o : Outcome Record) → in_bytes o ≡ Outcome.refused z → o ≡ Outcome.refused z
    go (Outcome.refused k) h = cc
    go (taken t rs b g) h = cc
