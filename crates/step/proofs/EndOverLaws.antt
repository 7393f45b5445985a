-- The end of an exchange after another change: its outcome over the bytes at the beginning.
use Prim.Native.Nat.{ℕ}
use mathlib.Core.Path.{◌≡◌, refl}
use mathlib.Core.Bool.{true}
use mathlib.Core.List.{List, [], ◌∷◌}
use mathlib.Core.Logic.{inl}
use native.Mathlib.Omega.{arith}
use Rattle.base.proofs.TestLaws.{pick_as}
use Rattle.format.specs.Types.{Record, cpc}
use Rattle.replication.specs.Machine.Types.{Non_prim, Server, in_mode}
use Rattle.replication.specs.Machine.Exchange.{quorum, attempted}
use Rattle.replication.specs.Machine.Requests.{send_waiting, waiting_records}
use Rattle.replication.specs.Machine.Step.{here_set, here_id, collected, decided, attempting, stored, end_exchange}
use Rattle.replication.specs.Machine.WellFormed.{queue, well_formed}
use Rattle.replication.specs.Machine.WellFormedFacts.{Configured}
use Rattle.image.specs.Image.{image}
use Rattle.image.specs.Holding.{Holds}
use Rattle.step.specs.Answers.{outcome_on}
use Rattle.image.proofs.Chained.{Covers, same_begins}
use Rattle.step.proofs.OutcomeLaws.{stored_after}
use Rattle.step.proofs.ExchangeStates.{attempting_formed, staying_formed}

-- Where the state was does not matter to the end.
pub end_mode : (w t : Server) → end_exchange w (in_mode Non_prim t) ≡ end_exchange w t
unfolding end_exchange decided attempting collected here_set here_id
end_mode w t = refl

-- ---- from s to t, then to the end

-- The exchange has not changed the yellow list.
pub record Before (s t : Server) : Type 0 where
  pub servers : t.servers ≡ s.servers
  pub quota : t.quota ≡ s.quota
  pub ids : t.votes.yellow.ids ≡ s.votes.yellow.ids

module _ (s t : Server) (p : Before s t) where
  attempt_covers : Covers s t (attempting (decided t))
  unfolding attempting attempted decided
  attempt_covers = record {
    servers = (p.servers, p.servers);
    quota = (p.quota, p.quota);
    states = inl refl;
    ids = same_begins s.votes.yellow.ids t.votes.yellow.ids (attempting (decided t)).votes.yellow.ids p.ids;
    own = inl (omega arith);
    actions = inl (omega arith);
  }

  stay_covers : Covers s t (send_waiting (in_mode Non_prim (decided t)))
  unfolding send_waiting decided queue
  stay_covers = record {
    servers = (p.servers, p.servers);
    quota = (p.quota, p.quota);
    states = inl refl;
    ids = same_begins s.votes.yellow.ids t.votes.yellow.ids (decided t).votes.yellow.ids p.ids;
    own = inl (omega arith);
    actions = inl (omega arith);
  }

  pub end_over : (b c o : List ℕ) → Holds s b → well_formed t ≡ true → Configured t → c ≡ image t b → (w : Server)
      → outcome_on (end_exchange w t) c o ≡ outcome_on (end_exchange w t) b o
  unfolding end_exchange
  end_over b c o r ok d e w =
      pick_as (λ v. outcome_on v c o ≡ outcome_on v b o) (quorum (collected t) (here_set t))
      (stored w (attempting (decided t)) (cpc t.me (here_id t) ∷ []))
      (stored w (send_waiting (in_mode Non_prim (decided t))) (waiting_records (in_mode Non_prim (decided t))))
      (λ q. after (attempting (decided t)) (attempting_formed t ok d q) attempt_covers (cpc t.me (here_id t) ∷ []))
      (λ q. after (send_waiting (in_mode Non_prim (decided t))) (staying_formed t ok) stay_covers (waiting_records (in_mode Non_prim (decided t))))
    where
      after : (u : Server) → well_formed u ≡ true → Covers s t u → (rs : List Record) → outcome_on (stored w u rs) c o ≡ outcome_on (stored w u rs) b o
      after u fine covers rs = stored_after s t u b c o r ok fine covers e w rs
