-- From event to event (last primary's index, its attempt, attempt) never falls, in memory and in the store.
use Prim.Native.Nat.{ℕ}
use mathlib.Core.Path.{◌≡◌, sym, subst}
use mathlib.Core.Bool.{Bool, true, false}
use mathlib.Core.List.{List}
use Rattle.base.specs.Tests.{pick}
use Rattle.format.specs.Types.{Action}
use Rattle.replication.specs.Machine.Types.{Server, Outcome, refused, taken}
use Rattle.replication.specs.Machine.Step.{step}
use Rattle.replication.specs.Machine.White.{full}
use Rattle.replication.specs.Machine.WellFormed.{well_formed}
use Rattle.replication.specs.Images.{Images, source_of, arrive, left_by}
use Rattle.replication.specs.Laws.Order.{AtMost, SameControl, OwnStateTrue, OwnStateTrueAt}
use Rattle.replication.proofs.Step.Inversion.{taken_by}
use Rattle.replication.proofs.Step.Moves.{moved}
use Rattle.replication.proofs.Step.Formed.{every_state_in_lem}
use Rattle.replication.proofs.Step.Lifts.{source_of_lem}
use Rattle.replication.proofs.Step.VotesOrder.{hearing_sieved, at_most_same, at_most_refl, at_most_trans, votes_rise}

pub taken_votes_rise : (s : Server) (e : List ℕ) (t : Server) (bs : List (List ℕ)) (b : Bool) (g : List Action) → step s e ≡ taken t bs b g
    → well_formed s ≡ true → OwnStateTrueAt s e → AtMost s.votes t.votes
taken_votes_rise s e t bs b g h w own =
    let x = taken_by s e t bs b g h in
    subst (λ u. AtMost s.votes u.votes) (sym x.raise) (votes_rise (moved x).0 (every_state_in_lem s w) (subst OwnStateTrue (sym (hearing_sieved (full x.rule s) x.event s)) (own x.event x.reads)))

-- ---- the images

module _ (i : Images) (e : List ℕ) (agree : SameControl i.store i.memory) (formed : well_formed (source_of i e) ≡ true)
    (own : OwnStateTrueAt (source_of i e) e)
  where
    -- The state that the event gets has the votes of both images.
    from_memory : AtMost i.memory.votes (source_of i e).votes
    from_memory = source_of_lem (λ s. AtMost i.memory.votes s.votes) i e (at_most_same (sym agree.last) (sym agree.attempt)) (at_most_refl i.memory.votes)

    from_store : AtMost i.store.votes (source_of i e).votes
    from_store = source_of_lem (λ s. AtMost i.store.votes s.votes) i e (at_most_refl i.store.votes) (at_most_same agree.last agree.attempt)

    after : (o : Outcome (List ℕ)) → arrive i e ≡ o → AtMost i.memory.votes (left_by o i).memory.votes × AtMost i.store.votes (left_by o i).store.votes
    unfolding left_by arrive pick
    after (refused k) h = (at_most_refl i.memory.votes, at_most_refl i.store.votes)
    after (taken t bs true g) h =
        let r = taken_votes_rise (source_of i e) e t bs true g h formed own in
        (at_most_trans from_memory r, at_most_trans from_store r)
    after (taken t bs false g) h =
        (at_most_trans from_memory (taken_votes_rise (source_of i e) e t bs false g h formed own), at_most_refl i.store.votes)
