-- The terms of the agreement proof, over one run: images, ends of exchanges, Installs; and what the exchange gives to the arguments on votes and green lists.
use Prim.Native.Nat.{ℕ, suc, ◌<◌}
use mathlib.Core.Path.{◌≡◌}
use mathlib.Core.Bool.{true, false}
use mathlib.Core.Option.{none, some}
use lib.ListN.{get_or}
use Rattle.base.specs.Sets.{in_set}
use Rattle.format.specs.Types.{Primary, State}
use Rattle.replication.specs.Machine.Types.{Mode, Construct, No, Un, Reg_prim, Trans_prim, Configuration, Server}
use Rattle.replication.specs.Machine.Exchange.{quorum}
use Rattle.replication.specs.Machine.Step.{own_state, collected, all_states_in, installs_by}
use Rattle.replication.specs.Laws.Transitions.{Ends}
use Rattle.replication.specs.Runs.Run.{Run, world_at, place_at}
use Rattle.replication.specs.Runs.Happenings.{Takes, Falls}
use Rattle.replication.proofs.Runs.AllowedTurns.{memory_at, store_at, Acts}

module _ (n q : ℕ) (l : Run) where
  -- An image of the server i at p: its memory while it is up, and its store.
  pub data Image (p i : ℕ) : Server → Type 0 where
    in_memory : (world_at n q l p).down i ≡ false → Image p i (memory_at n q l p i)
    in_store : Image p i (store_at n q l p i)

  -- The server i is up at p and has the regular configuration c, or c's transitional one.
  pub record Within (p i : ℕ) (c : Configuration) : Type 0 where
    pub up : (world_at n q l p).down i ≡ false
    pub here : (place_at n q l i p).regular ≡ some c

  -- At p the server i ends its exchange in c; `judged` is the state whose collected States it judges.
  pub record EndsAt (p i : ℕ) (c : Configuration) : Type 0 where
    pub acts : Acts n q l p i
    pub judged : Server
    pub ends : Ends judged acts.after acts.by.records
    pub stores : acts.stores ≡ true
    pub here : place_at n q l i p ≡ record { regular = some c; transitional = none }
    pub of_me : judged.me ≡ i
    pub votes : judged.votes ≡ (memory_at n q l p i).votes
    pub configuration : judged.membership.configuration ≡ some c
    pub complete : all_states_in judged ≡ true

  -- .. with a quorum: it marks its attempt.
  pub record MarksAt (p i : ℕ) (c : Configuration) : Type 0 where
    pub ending : EndsAt p i c
    pub has_quorum : quorum (collected ending.judged) c.set ≡ true

  -- At p the server i installs a primary component in c, or in c's transitional configuration.
  pub record InstallsAt (p i : ℕ) (c : Configuration) : Type 0 where
    pub acts : Acts n q l p i
    pub installs : installs_by (some acts.by.rule) (memory_at n q l p i) ≡ true
    pub here : (place_at n q l i p).regular ≡ some c

  -- The primary component that it installs.
  abbrev pub installed : {p i : ℕ} {c : Configuration} → InstallsAt p i c → Primary
  installed x = x.acts.after.votes.last

  -- The State x that the server k sent in c: what it had when it took c, at `at`.
  pub record SentState (k : ℕ) (c : Configuration) (x : State) : Type 0 where
    pub at : ℕ
    pub took : Takes n q l at k c
    pub says : x ≡ own_state c (memory_at n q l (suc at) k)

  -- From the marking to the next regular configuration or fall.
  pub data AfterMarking : Mode → Type 0 where
    in_construct : AfterMarking Construct
    in_no : AfterMarking No
    in_un : AfterMarking Un
    in_reg : AfterMarking Reg_prim
    in_trans : AfterMarking Trans_prim

  -- What the exchange gives (agreement of its control part).
  pub record ExchangeFacts : Type 0 where
    -- Whoever ends an exchange has the State that each member sent on taking c, and no other.
    pub states_sent : (p i : ℕ) (c : Configuration) (x : EndsAt p i c) (k : ℕ) → k < n → in_set k c.set ≡ true
        → (s : State) × (get_or x.judged.membership.states k none ≡ some s) × (y : SentState k c s) × (y.at < p)
    pub states_only : (p i : ℕ) (c : Configuration) (x : EndsAt p i c) (k : ℕ) → in_set k c.set ≡ false → get_or x.judged.membership.states k none ≡ none
    -- All who end it in c judge the same States.
    pub same_states : (p r i j : ℕ) (c : Configuration) (x : EndsAt p i c) (y : EndsAt r j c) → collected x.judged ≡ collected y.judged
    -- A server in Construct, No, Un, Reg_prim or Trans_prim marked in its present configuration, and was up since.
    pub marked_here : (p i : ℕ) (c : Configuration) (m : Mode) → Within p i c → (memory_at n q l p i).membership.mode ≡ m → AfterMarking m
        → (r : ℕ) × (r < p) × MarksAt r i c × ((y : ℕ) → r < y → y < p → Falls n q l y i → ⊥)
    -- If anyone installs in c, every member of c marked in c before.
    pub all_marked : (p i : ℕ) (c : Configuration) → InstallsAt p i c → (k : ℕ) → k < n → in_set k c.set ≡ true → (r : ℕ) × (r < p) × MarksAt r k c
    -- .. and no member leaves c and its transitional configuration from No.
    pub none_leaves_late : (p r i k : ℕ) (c d : Configuration) → InstallsAt p i c → in_set k c.set ≡ true → Within r k c → Takes n q l r k d
        → (memory_at n q l r k).membership.mode ≡ No → ⊥
