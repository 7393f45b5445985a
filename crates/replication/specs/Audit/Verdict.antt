-- An audit of recorded runs: whether a run is allowed, with what it chose given as a witness. `audit_sound` (proofs/Verdicts/Sound) says that a run
-- that passes is allowed.
use Rattle.std.specs.Prelude.{ℕ, Bool, not, List, [], ◌∷◌, map}
use Prim.Native.String.{String}
use Rattle.base.specs.Lists.{all, filter}
use Rattle.replication.specs.Runs.Run.{Run}
use Rattle.replication.specs.Audit.Witness.{Witness}
use Rattle.replication.specs.Audit.Table.{table}
use Rattle.replication.specs.Audit.Journal.{Journal, journal_of}
use Rattle.replication.specs.Audit.Rules.{sizes, servers, one_set, once, between, one_transitional, genuine, cut_by_crash, recovers}
use Rattle.replication.specs.Audit.Rules.{stores_up}
use Rattle.replication.specs.Audit.Specifications.{same_configuration_lem, one_delivery, one_name, self_delivery, atomic, causal, rises}
use Rattle.replication.specs.Audit.Specifications.{same_moment, same_message_lem, one_order, agreed, safe}

pub record Test : Type 0 where
  pub name : String
  pub passed : Bool

abbrev pub test : String → Bool → Test
test s b = record { name = s; passed = b }

-- A test for each field of `Allowed`, in its order.
unfoldable pub tests_of : (n q : ℕ) → Journal → List Test
tests_of n q j =
    test "sizes" (sizes n q)
    ∷ test "servers" (servers n j)
    ∷ test "one-set" (one_set j)
    ∷ test "once" (once j)
    ∷ test "between" (between j)
    ∷ test "one-transitional" (one_transitional j)
    ∷ test "genuine" (genuine j)
    ∷ test "cut-by-crash" (cut_by_crash j)
    ∷ test "recovers" (recovers j)
    ∷ test "stores-up" (stores_up j)
    ∷ test "same-configuration" (same_configuration_lem j)
    ∷ test "one-delivery" (one_delivery j)
    ∷ test "one-name" (one_name j)
    ∷ test "self-delivery" (self_delivery j)
    ∷ test "atomic" (atomic j)
    ∷ test "causal" (causal j)
    ∷ test "rises" (rises j)
    ∷ test "same-moment" (same_moment j)
    ∷ test "same-message" (same_message_lem j)
    ∷ test "one-order" (one_order j)
    ∷ test "agreed" (agreed j)
    ∷ test "safe" (safe j)
    ∷ []

unfoldable pub tests : (n q : ℕ) → Run → Witness → List Test
tests n q l w = tests_of n q (journal_of (table n q l w))

unfoldable pub audit : (n q : ℕ) → Run → Witness → Bool
audit n q l w = all (λ t. t.passed) (tests n q l w)

-- The names of the tests that fail.
unfoldable pub report : (n q : ℕ) → Run → Witness → List String
report n q l w = map (λ (t : Test). t.name) (filter (λ (t : Test). not t.passed) (tests n q l w))
