-- Document 02, K4: what becomes of requests. Of one server the events may be any, with recoveries and stores anywhere.
use Rattle.std.specs.Prelude.{ℕ, ◌≤◌, ◌<◌, ◌≡◌, Bool, true, ◌⊎◌}
use mathlib.Core.List.{List, [], ◌∷◌, ◌++◌, Memᴰ}
use Rattle.std.proofs.Math.Option.{Option, none, some}
use Rattle.base.specs.Lists.{at}
use Rattle.format.specs.Limits.{most_number_limit}
use Rattle.format.specs.Types.{Id, Action, Context, action, request, says}
use Rattle.format.specs.Range.{sizes_ok}
use Rattle.format.specs.Read.{read}
use Rattle.replication.specs.Machine.Types.{Server, Outcome, taken, start, context_of}
use Rattle.replication.specs.Machine.Colours.{places_of}
use Rattle.replication.specs.Machine.Requests.{sends_now, unwhite_own, made_of, waiting}
use Rattle.replication.specs.Machine.Step.{step}
use Rattle.replication.specs.Machine.WellFormed.{ids_in, queue, well_formed}
use Rattle.replication.specs.Images.{Images, started, arrive, left_by, saved_in, lived}
use Rattle.replication.specs.Laws.Images.{OfBoth, next}
use Rattle.replication.specs.Laws.Sending.{Peer}
use Rattle.replication.specs.Runs.Run.{event, Run, world_at, records_of}
use Rattle.replication.specs.Runs.Strays.{AllowedWithStrays}

-- ---- "sent, one time only, in order"

-- The records that a server puts out over these events, in order; `none` is a store between two of them.
unfoldable pub put_out_over : Images → List (Option (List ℕ)) → List (List ℕ)
put_out_over i [] = []
put_out_over i (none ∷ es) = put_out_over (saved_in i) es
put_out_over i (some e ∷ es) = records_of (arrive i e) ++ put_out_over (left_by (arrive i e) i) es

-- The j-th record that the server s puts out over these events is read, by a server of the same n and q, as the action a.
pub record PutsAction (s : Server) (es : List (Option (List ℕ))) (j : ℕ) (a : Action) : Type 0 where
  pub bytes : List ℕ
  pub out : at (put_out_over (started s) es) j ≡ some bytes
  pub reader : Context
  pub peer : Peer s reader
  pub reads : read reader bytes ≡ says (action a)

-- "is sent, one time only, in order": two actions put out are the server's own, and the later one has the higher index: none is put out twice.
unfoldable pub OneTimeOnly : Type 0
OneTimeOnly =
    (s : Server) → well_formed s ≡ true → (es : List (Option (List ℕ))) (j k : ℕ) (a b : Action)
    → j < k → PutsAction s es j a → PutsAction s es k b
    → (a.id.creator ≡ s.me) × (b.id.creator ≡ s.me) × (a.id.index < b.id.index)

-- ---- "when the server reaches Reg_prim, or the part of Non_prim where requests are sent"

-- Where requests are sent, nothing waits.
unfoldable pub NothingWaits : Server → Type 0
NothingWaits s = sends_now s.membership ≡ true → waiting s.log ≡ []

-- "is sent .. when the server reaches ..": so it is in every state that a server reaches from its start.
unfoldable pub SentOnReaching : Type 0
SentOnReaching =
    (n q i : ℕ) → sizes_ok n q ≡ true → i < n → (es : List (Option (List ℕ))) → OfBoth NothingWaits (lived (started (start n q i)) es)

-- "is sent": what counts as sent was put out, in every such state.
unfoldable pub EachSent : Type 0
EachSent =
    (n q i : ℕ) → sizes_ok n q ≡ true → i < n → (es : List (Option (List ℕ))) (a : Action)
    → Memᴰ a (lived (started (start n q i)) es).memory.log.own → a.id.index ≤ (lived (started (start n q i)) es).memory.log.sent
    → (j : ℕ) × PutsAction (start n q i) es j a

-- "is sent .. when the server reaches ..": where requests are sent, every action on the own list was put out.
unfoldable pub AllPutOut : Type 0
AllPutOut =
    (n q i : ℕ) → sizes_ok n q ≡ true → i < n → (es : List (Option (List ℕ)))
    → sends_now (lived (started (start n q i)) es).memory.membership ≡ true
    → (a : Action) → Memᴰ a (lived (started (start n q i)) es).memory.log.own → (j : ℕ) × PutsAction (start n q i) es j a

-- ---- "once entered it is not sent"

-- "once entered it is not sent": no action that an event puts out is entered in the state that it leaves. Those white in s, which number 8 only
-- counts, are left out; a start has none.
unfoldable pub EnteredNotSent : Type 0
EnteredNotSent =
    (s : Server) → well_formed s ≡ true → (es : List (Option (List ℕ))) (e : List ℕ) (j : ℕ) (bytes : List ℕ) (c : Context) (a : Action)
    → at (records_of (arrive (lived (started s) es) e)) j ≡ some bytes → Peer s c → read c bytes ≡ says (action a)
    → Memᴰ a.id (ids_in (places_of s.white (next (lived (started s) es) e).memory.log)) → ⊥

-- ---- nothing that was answered 0 is lost: "stored whenever it comes", "After a crash it is an own-list action like any other"

-- An action with the id d is on the own list or entered.
pub data HasId (d : Id) (s : Server) : Type 0 where
  on_own_list : Memᴰ d (ids_in s.log.own) → HasId d s
  entered : Memᴰ d (ids_in (queue s.log)) → HasId d s

-- The server with these images takes the event e, a request with the payload p, giving t.
pub record TakesRequest (i : Images) (e p : List ℕ) (t : Server) (rs : List (List ℕ)) (b : Bool) (g : List Action) : Type 0 where
  pub reads : read (context_of i.memory) e ≡ says (request p)
  pub takes : arrive i e ≡ taken t rs b g

-- "numbered, put on the own list and stored": it stores, and whatever comes then, the action that it made of the request stays, in memory and store.
unfoldable pub NothingLost : Type 0
NothingLost =
    (s : Server) → well_formed s ≡ true
    → (es fs : List (Option (List ℕ))) (e p : List ℕ) (t : Server) (rs : List (List ℕ)) (b : Bool) (g : List Action)
    → TakesRequest (lived (started s) es) e p t rs b g
    → (b ≡ true) × OfBoth (HasId (made_of p (lived (started s) es).memory).id) (lived (next (lived (started s) es) e) fs)

-- The action a is on the own list or entered.
pub data HasAction (a : Action) (s : Server) : Type 0 where
  on_own_list : Memᴰ a s.log.own → HasAction a s
  entered : Memᴰ a (queue s.log) → HasAction a s

-- "an own-list action like any other": in every allowed run, stray events included, it is that very action.
unfoldable pub NothingLostInRuns : Type 0
NothingLostInRuns =
    (n q : ℕ) (l : Run) → AllowedWithStrays n q l
    → (x i k : ℕ) (e p : List ℕ) (t : Server) (rs : List (List ℕ)) (b : Bool) (g : List Action)
    → at l x ≡ some (event i e k) → TakesRequest ((world_at n q l x).images i) e p t rs b g
    → (y : ℕ) → x < y → OfBoth (HasAction (made_of p ((world_at n q l x).images i).memory)) ((world_at n q l y).images i)

-- ---- "whenever it comes"; K6: "Number 3 is given when either bound is reached, not before."

-- "numbered .. and stored whenever it comes": taken and stored below both bounds, 3 else.
pub record TakenUntilQuota : Type 0 where
  pub below : (s : Server) (e p : List ℕ) → read (context_of s) e ≡ says (request p)
      → unwhite_own s < s.quota → s.log.numbered < most_number_limit
      → (t : Server) × (rs : List (List ℕ)) × (g : List Action) × (step s e ≡ taken t rs true g)
  pub used : (s : Server) (e p : List ℕ) → read (context_of s) e ≡ says (request p)
      → (s.quota ≤ unwhite_own s) ⊎ (most_number_limit ≤ s.log.numbered)
      → step s e ≡ Outcome.refused 3

-- ---- "4 never occurs"

-- "Holding ends, so 4 never occurs".
unfoldable pub NeverFour : Type 0
NeverFour = (s : Server) (e : List ℕ) → step s e ≡ Outcome.refused 4 → ⊥

-- ---- all of it

pub record RequestsKept : Type 0 where
  pub one_time_only : OneTimeOnly
  pub sent_on_reaching : SentOnReaching
  pub each_sent : EachSent
  pub all_put_out : AllPutOut
  pub entered_not_sent : EnteredNotSent
  pub nothing_lost : NothingLost
  pub nothing_lost_in_runs : NothingLostInRuns
  pub taken_until_quota : TakenUntilQuota
  pub never_four : NeverFour
