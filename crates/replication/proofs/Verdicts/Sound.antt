-- A run that passes the audit is allowed.
use Prim.Native.Nat.{ℕ}
use mathlib.Core.Path.{◌≡◌, refl}
use mathlib.Core.Bool.{true}
use mathlib.Core.Option.{some}
use Rattle.base.specs.Lists.{at}
use Rattle.base.proofs.QuantifierLaws.{all_at}
use Rattle.replication.specs.Runs.Run.{Run}
use Rattle.replication.specs.Runs.Allowed.{Allowed}
use Rattle.replication.specs.Audit.Witness.{Witness, source_in, name_in, ord_in}
use Rattle.replication.specs.Audit.Rules.{sizes}
use Rattle.replication.specs.Audit.Verdict.{Test, tests_of, tests, audit}
use Rattle.replication.proofs.Verdicts.RuleFields.{servers_hold, one_set_holds, once_holds, between_holds, one_transitional_holds, genuine_holds, cut_by_crash_holds, recovers_holds, stores_up_holds}
use Rattle.replication.proofs.Verdicts.SpecificationFields.{same_configuration_holds, one_delivery_holds, one_name_holds, self_delivery_holds, atomic_holds}
use Rattle.replication.proofs.Verdicts.OrderFields.{causal_holds, rises_holds, same_moment_holds, same_message_holds, one_order_holds, agreed_holds, safe_holds}

-- A run that passes the audit is allowed.
pub audit_sound : (n q : ℕ) (l : Run) (w : Witness) → audit n q l w ≡ true → Allowed n q l
unfolding audit tests tests_of sizes at
audit_sound n q l w h =
    let passed : (k : ℕ) (t : Test) → at (tests n q l w) k ≡ some t → t.passed ≡ true = all_at (λ t. t.passed) (tests n q l w) h in
    let g = passed 6 _ refl in
    let u = passed 10 _ refl in
    record {
      source = source_in w;
      name = name_in w;
      ord = ord_in w;
      sizes = passed 0 _ refl;
      servers = servers_hold n q l w (passed 1 _ refl);
      one_set = one_set_holds n q l w (passed 2 _ refl);
      once = once_holds n q l w (passed 3 _ refl);
      between = between_holds n q l w (passed 4 _ refl);
      one_transitional = one_transitional_holds n q l w (passed 5 _ refl);
      genuine = genuine_holds n q l w g;
      cut_by_crash = cut_by_crash_holds n q l w (passed 7 _ refl);
      recovers = recovers_holds n q l w (passed 8 _ refl);
      stores_up = stores_up_holds n q l w (passed 9 _ refl);
      same_configuration_lem = same_configuration_holds n q l w g u;
      one_delivery = one_delivery_holds n q l w g u (passed 11 _ refl);
      one_name = one_name_holds n q l w (passed 12 _ refl);
      self_delivery = self_delivery_holds n q l w (passed 13 _ refl);
      atomic = atomic_holds n q l w (passed 14 _ refl);
      causal = causal_holds n q l w g u (passed 15 _ refl);
      rises = rises_holds n q l w g (passed 16 _ refl) (passed 17 _ refl);
      same_moment = same_moment_holds n q l w (passed 17 _ refl);
      same_message_lem = same_message_holds n q l w g u (passed 18 _ refl);
      one_order = one_order_holds n q l w g u (passed 19 _ refl);
      agreed = agreed_holds n q l w g u (passed 20 _ refl);
      safe = safe_holds n q l w g u (passed 21 _ refl);
    }
