-- Which states have a configuration, and whether their latest one is regular or transitional, at every place of a run.
use Prim.Native.Nat.{ℕ}
use mathlib.Core.Path.{◌≡◌, subst}
use mathlib.Core.Option.{Option}
use Rattle.replication.specs.Machine.Types.{Mode, Non_prim, Reg_prim, Trans_prim, Exchange_states, Exchange_actions, Construct, No, Un, Configuration, Votes, Server}
use Rattle.replication.specs.Laws.Images.{OfBoth}
use Rattle.replication.specs.Laws.Modes.{InRegular, InTransitional, ModeFacts, ModeFactsOf}
use Rattle.replication.specs.Runs.Run.{Run, world_at}
use Rattle.replication.proofs.Step.Modes.{mode_facts}
use Rattle.replication.proofs.Runs.Lived.{at_place}

-- What a state's name says of the configurations.
abbrev pub Stands : Mode → Option Configuration → Option ℕ → Type 0
Stands Non_prim c t = Unit {0}
Stands Reg_prim c t = InRegular c t
Stands Trans_prim c t = InTransitional c t
Stands Exchange_states c t = InRegular c t
Stands Exchange_actions c t = InRegular c t
Stands Construct c t = InRegular c t
Stands No c t = InTransitional c t
Stands Un c t = InTransitional c t

abbrev pub Standing : Server → Type 0
Standing s = Stands s.membership.mode s.membership.configuration s.membership.transitional

pub standing_in : (s : Server) (m : Mode) → s.membership.mode ≡ m → Standing s → Stands m s.membership.configuration s.membership.transitional
standing_in s m e h = subst (λ x. Stands x s.membership.configuration s.membership.transitional) e h

stands : (m : Mode) (v : Votes) (c : Option Configuration) (t : Option ℕ) → ModeFacts m v c t → Stands m c t
stands Non_prim v c t h = tt
stands Reg_prim v c t h = h.0
stands Trans_prim v c t h = h.0
stands Exchange_states v c t h = h
stands Exchange_actions v c t h = h
stands Construct v c t h = h.0
stands No v c t h = h.0
stands Un v c t h = h.0

pub mode_standing : (s : Server) → ModeFactsOf s → Standing s
mode_standing s h = stands s.membership.mode s.votes s.membership.configuration s.membership.transitional h

-- What a state's name says of the votes and configurations, for both images of every server.
pub mode_facts_at : (n q : ℕ) (l : Run) (i p : ℕ) → OfBoth ModeFactsOf ((world_at n q l p).images i)
mode_facts_at n q l i p = at_place n q l (OfBoth ModeFactsOf) i (mode_facts n q i) p

pub standing : (n q : ℕ) (l : Run) (i p : ℕ) → OfBoth Standing ((world_at n q l p).images i)
standing n q l i p =
    let h = mode_facts_at n q l i p in
    record {
      memory = mode_standing ((world_at n q l p).images i).memory h.memory;
      store = mode_standing ((world_at n q l p).images i).store h.store;
    }
