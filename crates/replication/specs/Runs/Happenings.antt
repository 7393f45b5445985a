-- What happens in a run, in the thesis's terms (chapter 4): configuration changes, sendings, deliveries, crashes; causality, and the precedes
-- relation.
use Rattle.std.specs.Prelude.{ℕ, suc, ◌<◌, ◌≡◌, Bool, true, false, List, [], length}
use Rattle.std.proofs.Math.Option.{some}
use Rattle.base.specs.Lists.{at}
use Rattle.format.specs.Types.{Record, action, retransmission, state, cpc, regular, transitional, request, recovery, says}
use Rattle.replication.specs.Machine.Types.{Configuration}
use Rattle.replication.specs.Runs.Run.{Entry, event, crash, Run, server_of, place_at, heard_at, sent_at}

-- A record that was sent, by its place and not by its bytes: the record `number` of those sent at the place `sending`.
pub record Message : Type 0 where
  pub sending : ℕ
  pub number : ℕ

-- The kinds that servers send each other, 1 to 4.
unfoldable pub is_message : Record → Bool
is_message (action a) = true
is_message (retransmission k p a) = true
is_message (state x) = true
is_message (cpc k i) = true
is_message (regular i s) = false
is_message (transitional s) = false
is_message (request p) = false
is_message recovery = false

-- A configuration: a regular one, or a transitional one by its name.
pub data Configured : Type 0 where
  regularly : Configuration → Configured
  transitionally : (name : ℕ) → Configured

-- What happens: what stands at a place, and the sending of each message.
pub data Happening : Type 0 where
  entry_at : ℕ → Happening
  sending_of : Message → Happening

-- Something of the server i stands at p, an event or a crash.
pub record Of (l : Run) (p i : ℕ) : Type 0 where
  pub entry : Entry
  pub here : at l p ≡ some entry
  pub its : server_of entry ≡ i

-- At p the server i goes down.
abbrev pub Crashes : Run → (p i : ℕ) → Type 0
Crashes l p i = at l p ≡ some (crash i)

module _ (n q : ℕ) (l : Run) where
  -- At p an event comes to the server i and says r.
  pub record Comes (p i : ℕ) (r : Record) : Type 0 where
    pub bytes : List ℕ
    pub sent : ℕ
    pub here : at l p ≡ some (event i bytes sent)
    pub heard : heard_at n q l p i bytes ≡ says r

  -- At p the server i goes down or recovers: its configuration ends.
  pub data Falls (p i : ℕ) : Type 0 where
    by_crash : Crashes l p i → Falls p i
    by_recovery : Comes p i recovery → Falls p i

  -- What comes to the server i at r, behind an event at p whose records were not all sent: it has gone down between, or this is a request, and
  -- nothing of it is sent either.
  pub data BehindCut (p r i : ℕ) : Type 0 where
    gone_down : (x : ℕ) → Crashes l x i → p < x → x < r → BehindCut p r i
    unsent_request : (y : List ℕ) → Comes r i (request y) → sent_at n q l r ≡ [] → BehindCut p r i

  -- deliver_conf_i(c) for a regular c.
  abbrev pub Takes : (p i : ℕ) → Configuration → Type 0
  Takes p i c = Comes p i (regular c.id c.set)

  -- The server i took c at p and a later regular configuration at r, and was up between: it has left c and c's transitional configuration.
  pub record Left (i : ℕ) (c : Configuration) : Type 0 where
    pub p : ℕ
    pub r : ℕ
    pub next : Configuration
    pub took : Takes p i c
    pub took_next : Takes r i next
    pub order : p < r
    pub steady : (x : ℕ) → p < x → x < r → Falls x i → ⊥

  -- send_i(m, c): the server i sends m, in the configuration that it then has, c or c's transitional one.
  pub record Sends (i : ℕ) (m : Message) (c : Configuration) : Type 0 where
    pub mine : Of l m.sending i
    pub out : m.number < length (sent_at n q l m.sending)
    pub under : (place_at n q l i (suc m.sending)).regular ≡ some c

  -- What the run chooses: which message each delivery delivers, and the name of the transitional configuration that comes at a place.
  module _ (source : ℕ → Message) (name : ℕ → ℕ) where
    -- deliver_i(m, ..): at p the server i delivers m, and it says r.
    pub record Delivers (p i : ℕ) (m : Message) : Type 0 where
      pub what : Record
      pub comes : Comes p i what
      pub message : is_message what ≡ true
      pub which : source p ≡ m

    pub record Delivered (i : ℕ) (m : Message) : Type 0 where
      pub place : ℕ
      pub it : Delivers place i m

    -- deliver_conf_i(c)
    pub data Configures (p i : ℕ) : Configured → Type 0 where
      to_regular : (c : Configuration) → Takes p i c → Configures p i (regularly c)
      to_transitional : (s : ℕ) → Comes p i (transitional s) → Configures p i (transitionally (name p))

    -- The server i went from the configuration c, taken at p, to the next one d, taken at r, and was up between.
    pub record Passes (i : ℕ) (c d : Configured) (p r : ℕ) : Type 0 where
      pub from : Configures p i c
      pub to : Configures r i d
      pub order : p < r
      pub steady : (x : ℕ) → p < x → x < r → Falls x i → ⊥
      pub direct : (x : ℕ) (e : Configured) → p < x → x < r → Configures x i e → ⊥

    -- Causality: "the transitive closure of the precedes relations established by Specifications 1.1-1.3".
    pub data Causes : Happening → Happening → Type 0 where
      -- 1.2, the events within one server: its entries, and the sendings of an entry's records, "in their order .. and before its next event"
      in_turn_lem : {p r : ℕ} (i : ℕ) → Of l p i → Of l r i → p < r → Causes (entry_at p) (entry_at r)
      sends : (m : Message) → m.number < length (sent_at n q l m.sending) → Causes (entry_at m.sending) (sending_of m)
      in_order : (m m' : Message) → m.sending ≡ m'.sending → m.number < m'.number
          → m'.number < length (sent_at n q l m'.sending) → Causes (sending_of m) (sending_of m')
      before_next : {r : ℕ} (i : ℕ) (m : Message) → m.number < length (sent_at n q l m.sending)
          → Of l m.sending i → Of l r i → m.sending < r → Causes (sending_of m) (entry_at r)
      -- 1.3
      carries : {p : ℕ} (i : ℕ) (m : Message) → Delivers p i m → Causes (sending_of m) (entry_at p)
      -- 1.1
      through : {a b c : Happening} → Causes a b → Causes b c → Causes a c

    -- The precedes relation: causality, and Specifications 2.3 and 2.4.
    pub data Precedes : Happening → Happening → Type 0 where
      causes : {a b : Happening} → Causes a b → Precedes a b
      -- "2.3 If there exist deliver_conf_p(c), deliver_conf_q(c) and e such that deliver_conf_p(c) → e, then deliver_conf_q(c) → e."
      after_all : {p r : ℕ} {e : Happening} (i j : ℕ) (c : Configured) → Configures p i c → Configures r j c
          → Precedes (entry_at p) e → Precedes (entry_at r) e
      -- "2.4 .. such that e → deliver_conf_p(c), then e → deliver_conf_q(c)."
      before_all : {p r : ℕ} {e : Happening} (i j : ℕ) (c : Configured) → Configures p i c → Configures r j c
          → Precedes e (entry_at p) → Precedes e (entry_at r)
      along : {a b c : Happening} → Precedes a b → Precedes b c → Precedes a c
