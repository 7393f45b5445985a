-- A change of the votes, and then a regular configuration.
use Prim.Native.Nat.{ℕ}
use mathlib.Core.Path.{◌≡◌, refl, sym, subst, ◌∙◌}
use mathlib.Core.Bool.{true}
use mathlib.Core.List.{List, [], ◌∷◌}
use mathlib.Core.Logic.{inr}
use native.Mathlib.Omega.{arith}
use Rattle.base.specs.Lists.{Begins}
use Rattle.base.proofs.Prefixes.{begins_refl}
use Rattle.format.specs.Types.{Id, state}
use Rattle.replication.specs.Machine.Types.{Votes, Configuration, Server, with_votes}
use Rattle.replication.specs.Machine.Step.{entering, own_state, join, unmarked, yellow_valid}
use Rattle.replication.specs.Machine.WellFormed.{well_formed}
use Rattle.replication.specs.Machine.WellFormedRanges.{ConfigurationFits}
use Rattle.replication.proofs.WellFormed.Changes.{Body, body, whole, votes_changed}
use Rattle.replication.proofs.WellFormed.Exchanges.{entering_body, unmarked_body}
use Rattle.replication.proofs.WellFormed.Facts.{well_formed_facts, facts_well_formed}
use Rattle.replication.proofs.WellFormed.Kept.{mode_kept}
use Rattle.image.specs.Image.{image}
use Rattle.image.specs.Holding.{Holds}
use Rattle.updates.specs.Lists.{configuration_of}
use Rattle.step.specs.declared.Answer.{Answer}
use Rattle.outgoing.specs.Lent.{LentSuch}
use Rattle.step.specs.Answers.{answered, outcome_on}
use Rattle.image.proofs.Chained.{Covers, then_holds}
use Rattle.outgoing.proofs.LentFacts.{lent_fact}
use Rattle.step.proofs.OutcomeLaws.{stored_after}

-- ---- well-formed states on the way

voted_formed : (s : Server) (v : Votes) → well_formed s ≡ true → Body s.white (with_votes v s) → v.last.index ≡ s.votes.last.index
    → well_formed (with_votes v s) ≡ true
voted_formed s v ok b e =
    let g = well_formed_facts s ok in
    facts_well_formed (with_votes v s) (whole (with_votes v s) b (mode_kept s.membership.mode s s.log v s.noted e g.mode))

pub unmarked_formed : (s : Server) → well_formed s ≡ true → well_formed (with_votes (unmarked s.votes) s) ≡ true
unfolding unmarked
unmarked_formed s ok = voted_formed s (unmarked s.votes) ok (unmarked_body s (body s (well_formed_facts s ok))) refl

pub valid_formed : (s : Server) → well_formed s ≡ true → well_formed (with_votes (yellow_valid s.votes) s) ≡ true
unfolding yellow_valid
valid_formed s ok =
    let b = body s (well_formed_facts s ok) in
    let y = b.votes.yellow in
    voted_formed s (yellow_valid s.votes) ok
    (votes_changed s b (yellow_valid s.votes)
    (record {
      last = b.votes.last;
      attempt = b.votes.attempt;
      mark = b.votes.mark;
      yellow = record { status = omega arith; few = y.few; ids = y.ids; once = y.once };
    }))
    refl

entering_formed : (s : Server) (c : Configuration) → well_formed s ≡ true → ConfigurationFits s.servers s.me c → well_formed (entering c s) ≡ true
unfolding entering
entering_formed s c ok f =
    facts_well_formed (entering c s) (whole (entering c s) (entering_body s (body s (well_formed_facts s ok)) c f) (c, refl))

-- ---- the outcome over the buffer at the beginning

votes_covers : (s : Server) (v : Votes) (c : Configuration) (x : Votes) → v.yellow.ids ≡ s.votes.yellow.ids
    → Covers s (with_votes v s) (entering c (with_votes x s))
unfolding entering
votes_covers s v c x e = record {
  servers = (refl, refl);
  quota = (refl, refl);
  states = inr refl;
  ids = inr (subst (λ (l : List Id). Begins l s.votes.yellow.ids) (sym e) (begins_refl _));
  own = inr (begins_refl _);
  actions = inr (begins_refl _);
}

-- From the votes of t to v, and then a configuration with the votes x.
joined_over : (s t : Server) (v x : Votes) (c : Configuration) (b b₁ o : List ℕ) → Holds t b → b₁ ≡ image (with_votes v t) b
    → well_formed (with_votes v t) ≡ true
    → well_formed (with_votes x t) ≡ true → ConfigurationFits t.servers t.me c → v.yellow.ids ≡ t.votes.yellow.ids
    → outcome_on (join s c (with_votes x t)) b₁ o ≡ outcome_on (join s c (with_votes x t)) b o
unfolding join
joined_over s t v x c b b₁ o r e ok fine f same =
    let u : Server = entering c (with_votes x t) in
    let last : well_formed u ≡ true = entering_formed (with_votes x t) c fine f in
    stored_after t (with_votes v t) u b b₁ o r ok last (votes_covers t v c x same) e s (state (own_state c (with_votes x t)) ∷ [])

-- ---- as the code makes them

module _ (id set : ℕ) (b o b₁ : List ℕ) (h : LentSuch (λ s. ConfigurationFits s.servers s.me (configuration_of id set)) b o) where
  changed_lent : (v : Votes) → b₁ ≡ image (with_votes v h.state) b → well_formed (with_votes v h.state) ≡ true
      → LentSuch (λ s. ConfigurationFits s.servers s.me (configuration_of id set)) b₁ o
  changed_lent v e ok =
      let s : Server = h.state in
      record { state = with_votes v s; holds = then_holds s (with_votes v s) b b₁ h.holds e refl refl ok h.holds.blank; fact = h.fact; room = h.room }

  fits : (t : Server) → Holds t b → ConfigurationFits t.servers t.me (configuration_of id set)
  fits t r = lent_fact (λ s. ConfigurationFits s.servers s.me (configuration_of id set)) b o t h r

  module _ (d : (s : Server) → Holds s b → b₁ ≡ image (with_votes (unmarked s.votes) s) b) where
    pub unmarked_lent : LentSuch (λ s. ConfigurationFits s.servers s.me (configuration_of id set)) b₁ o
    unmarked_lent = let s : Server = h.state in changed_lent (unmarked s.votes) (d s h.holds) (unmarked_formed s h.holds.formed)

    pub unmarked_joined : (b₂ o₁ : List ℕ) (r : Answer)
        → ((s t : Server) → Holds t b₁ → answered r b₂ o₁ ≡ outcome_on (join s (configuration_of id set) t) b₁ o)
        → (s t : Server) → Holds t b → answered r b₂ o₁ ≡ outcome_on (join s (configuration_of id set) (with_votes (unmarked t.votes) t)) b o
    unfolding unmarked
    unmarked_joined b₂ o₁ r f s t k =
        let v : Votes = unmarked t.votes in
        let ok : well_formed (with_votes v t) ≡ true = unmarked_formed t k.formed in
        f s (with_votes v t) (then_holds t (with_votes v t) b b₁ k (d t k) refl refl ok k.blank)
        ∙ joined_over s t v v (configuration_of id set) b b₁ o k (d t k) ok ok (fits t k) refl

  module _ (d : (s : Server) → Holds s b → b₁ ≡ image (with_votes (yellow_valid s.votes) s) b) where
    pub valid_lent : LentSuch (λ s. ConfigurationFits s.servers s.me (configuration_of id set)) b₁ o
    valid_lent = let s : Server = h.state in changed_lent (yellow_valid s.votes) (d s h.holds) (valid_formed s h.holds.formed)

    pub valid_joined : (b₂ o₁ : List ℕ) (r : Answer)
        → ((s t : Server) → Holds t b₁ → answered r b₂ o₁ ≡ outcome_on (join s (configuration_of id set) (with_votes (unmarked t.votes) t)) b₁ o)
        → (s t : Server) → Holds t b → answered r b₂ o₁ ≡ outcome_on (join s (configuration_of id set) (with_votes (yellow_valid (unmarked t.votes)) t)) b o
    unfolding unmarked yellow_valid
    valid_joined b₂ o₁ r f s t k =
        let v : Votes = yellow_valid t.votes in
        let ok : well_formed (with_votes v t) ≡ true = valid_formed t k.formed in
        f s (with_votes v t) (then_holds t (with_votes v t) b b₁ k (d t k) refl refl ok k.blank)
        ∙ joined_over s t v (unmarked v) (configuration_of id set) b b₁ o k (d t k) ok (unmarked_formed (with_votes v t) ok) (fits t k) refl
