-- One event over a server's state and register: the state's buffers are the step's, and the register's buffers hold the folds of what the event leaves.
use Prim.Native.Nat.{ℕ, ◌≤◌}
use mathlib.Core.Path.{◌≡◌, refl, sym, ap, subst, ◌∙◌}
use mathlib.Core.Bool.{Bool, true, false}
use mathlib.Core.List.{List}
use lib.ListN.{length}
use Rattle.base.specs.Tests.{pick}
use Rattle.base.proofs.TestLaws.{not_both, Known, holds, fails, known}
use Rattle.format.specs.Types.{Action}
use Rattle.replication.specs.Machine.Types.{Server, Outcome, refused, taken, context_of}
use Rattle.replication.specs.Machine.Step.{step}
use Rattle.replication.specs.Machine.WellFormed.{well_formed}
use Rattle.replication.specs.Images.{Images, source_of, arrive, left_by}
use Rattle.replication.proofs.Runs.Refusals.{picked_true, picked_false}
use Rattle.image.specs.Layout.{out_length}
use Rattle.image.specs.Outcome.{word, state_number, image_after}
use Rattle.image.specs.Holding.{Holds, blanked}
use Rattle.image.proofs.InPlace.{holds_decoded}
use Rattle.image.proofs.Refusals.{number_read, whole_read, holds_whole}
use Rattle.daemons.specs.Buffers.{Buffers, is_recovery, source_in, step_in, kept_after}
use Rattle.daemons.proofs.RecoveryLaws.{recovery_read}
use Rattle.daemons.proofs.BufferLaws.{source_stored, source_running}
use Rattle.daemons.proofs.Keeping.{KeepsWhere, formed_context, holds_long}
use Rattle.daemons.proofs.Arriving.{source_holds, source_formed, refused_running, room_here}
use Rattle.register_runs.specs.Joint.{Joint, step_part, unjoined, joint_of}
use Rattle.register_runs.specs.Depots.{Depot, joint_in, depot_after}
use Rattle.register_runs.proofs.JointLaws.{zero_joint, joint_step, joint_read, joint_alike}
use Rattle.register_runs.proofs.DepotLaws.{joint_source, left_states, left_register, left_word}
use Rattle.register_runs.proofs.Holding.{HoldsFold, holds_taken}

-- The stored image holds the fold of the stored green list; where U, the register's buffer holds that of the green list in memory.
pub record FoldsWhere (U : Type 0) (i : Images) (r : Buffers) : Type 0 where
  pub memory : U → HoldsFold i.memory.log.green r.state
  pub store : HoldsFold i.store.log.green r.store

module _ (i : Images) (d : Depot) (e o : List ℕ) (k : KeepsWhere (is_recovery e ≡ false) i d.states)
    (f : FoldsWhere (is_recovery e ≡ false) i d.registers) (room : out_length i.memory.servers i.memory.quota ≤ length o)
  where
    abbrev s : Server
    s = source_of i e

    abbrev before : List ℕ
    before = source_in d.states e

    abbrev register : List ℕ
    register = source_in d.registers e

    -- ---- what the event comes to

    source_folds : HoldsFold s.log.green register
    unfolding source_of
    source_folds =
        subst (λ (t : Bool). HoldsFold (pick t i.store i.memory).log.green register)
        (sym (recovery_read (context_of i.memory) e (formed_context i.memory k.formed))) (go (known (is_recovery e)))
      where
        go : Known (is_recovery e) → HoldsFold (pick (is_recovery e) i.store i.memory).log.green register
        go (holds h) =
            subst (λ (t : Server). HoldsFold t.log.green register) (sym (picked_true (is_recovery e) i.store i.memory h))
            (subst (HoldsFold i.store.log.green) (source_stored d.registers e h) f.store)
        go (fails h) =
            subst (λ (t : Server). HoldsFold t.log.green register) (sym (picked_false (is_recovery e) i.store i.memory h))
            (subst (HoldsFold i.memory.log.green) (source_running d.registers e h) (f.memory h))

    held : Holds (blanked s) before
    held = source_holds i d.states e k

    formed : well_formed s ≡ true
    formed = source_formed i d.states e k

    state_zero : state_number before o ≡ 0
    unfolding blanked
    state_zero =
        number_read before o (holds_long (blanked s) before held o (room_here i d.states e k o room))
        (whole_read before (holds_whole (blanked s) before held)).1

    -- ---- the answer

    pub joint_part : step_part (joint_in d e o) ≡ step_in d.states e o
    unfolding step_in
    joint_part = ap (λ (x : Joint). step_part x) (sym (joint_source d e o)) ∙ joint_step before register e o source_folds.number

    pub joint_is : joint_in d e o ≡ joint_of (image_after s e) (arrive i e) before register o
    unfolding arrive
    joint_is =
        sym (joint_source d e o)
        ∙ joint_read before register e o (zero_joint before register o state_zero source_folds.number)
        ∙ ap (λ (t : Server). joint_of (image_after t e) (step t e) before register o) (holds_decoded (blanked s) before held)
        ∙ joint_alike s formed e before register o

    -- ---- what it leaves

    pub states_after : (depot_after d (joint_in d e o)).states ≡ kept_after d.states (step_in d.states e o)
    states_after = left_states d (joint_in d e o) ∙ ap (kept_after d.states) joint_part

    taken_folds : (t : Server) (rs : List (List ℕ)) (w : Bool) (g : List Action) → step s e ≡ taken t rs w g
        → FoldsWhere (Unit {0}) (left_by (taken t rs w g) i) (depot_after d (joint_of (image_after s e) (taken t rs w g) before register o)).registers
    unfolding left_by joint_of
    taken_folds t rs w g h = record {
      memory = λ u. subst (HoldsFold t.log.green) (left_register d x) new;
      store =
          left_word d x (HoldsFold (pick w t i.store).log.green) w refl
          (λ c. subst (λ (y : Server). HoldsFold y.log.green x.register) (sym (picked_true w t i.store c)) new)
          (λ c. subst (λ (y : Server). HoldsFold y.log.green d.registers.store) (sym (picked_false w t i.store c)) f.store);
    }
      where
        x : Joint
        x = joint_of (image_after s e) (taken t rs w g) before register o

        new : HoldsFold t.log.green x.register
        new = holds_taken s e t rs w g h formed register source_folds

    refused_folds : (m : ℕ) → step s e ≡ refused m
        → FoldsWhere (Unit {0}) (left_by (refused m) i) (depot_after d (joint_of (image_after s e) (refused m) before register o)).registers
    unfolding left_by joint_of unjoined word
    refused_folds m h = record {
      memory = λ u. subst (HoldsFold i.memory.log.green) (source_running d.registers e running ∙ left_register d x) (f.memory running);
      store = left_word d x (HoldsFold i.store.log.green) false refl (λ c. not_both c) (λ c. f.store);
    }
      where
        x : Joint
        x = joint_of (image_after s e) (refused m) before register o

        running : is_recovery e ≡ false
        running = refused_running i d.states e k m h

    pub registers_after_lem : FoldsWhere (Unit {0}) (left_by (arrive i e) i) (depot_after d (joint_in d e o)).registers
    unfolding arrive
    registers_after_lem =
        subst (λ (x : Joint). FoldsWhere (Unit {0}) (left_by (step s e) i) (depot_after d x).registers) (sym joint_is) (go (step s e) refl)
      where
        go : (x : Outcome (List ℕ)) → step s e ≡ x → FoldsWhere (Unit {0}) (left_by x i) (depot_after d (joint_of (image_after s e) x before register o)).registers
        go (refused m) h = refused_folds m h
        go (taken t rs w g) h = taken_folds t rs w g h
