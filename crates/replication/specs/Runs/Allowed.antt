-- Document 01, 'Allowed runs': a field for each of its sentences, and for each of the thesis's Specifications 1 to 7 as that section reads them.
-- What holds by definition (of `Run`, `world_at`, `place_at`, `Sends`) or is proved of the machine has no field; docs/DECISIONS.md says which.
use Rattle.std.specs.Prelude.{ℕ, ◌<◌, ◌≤◌, ◌≡◌, true, false, List, length}
use Rattle.std.proofs.Math.Option.{none, some}
use Rattle.base.specs.Lists.{at}
use Rattle.base.specs.Sets.{in_set}
use Rattle.format.specs.Range.{sizes_ok}
use Rattle.format.specs.Types.{Record, transitional, recovery}
use Rattle.replication.specs.Machine.Types.{Configuration}
use Rattle.replication.specs.Runs.Run.{event, store, Run, world_at, place_at, members, put_out, sent_at}
use Rattle.replication.specs.Runs.Happenings.{Message, is_message, Configured, Happening, entry_at, sending_of, Of, Comes, Falls, BehindCut}
use Rattle.replication.specs.Runs.Happenings.{Takes, Left, Sends, Delivers, Delivered, Configures, Passes, Causes, Precedes}

pub record Allowed (n q : ℕ) (l : Run) : Type 0 where
  -- ---- what the run chooses
  -- Which message each delivery delivers.
  pub source : ℕ → Message
  -- Which transitional configuration comes at a place.
  pub name : ℕ → ℕ
  -- Specification 6's order.
  pub ord : Happening → ℕ
  -- ---- document 01

  -- "All servers begin at the start, with one n and one q, each under its own number"
  pub sizes : sizes_ok n q ≡ true
  pub servers : (p i : ℕ) → Of l p i → i < n
  -- "no two regular configurations share an id"
  pub one_set : (p r i j : ℕ) (c d : Configuration) → Takes n q l p i c → Takes n q l r j d → c.id ≡ d.id → c ≡ d
  -- "none of them comes to one server twice"
  pub once : (p r i : ℕ) (c : Configuration) → Takes n q l p i c → Takes n q l r i c → p ≡ r
  -- "and between two of them at a server lies a transitional one or a recovery"
  pub between : (p i : ℕ) (c d : Configuration) → Takes n q l p i c
      → (place_at n q l i p).regular ≡ some d → (place_at n q l i p).transitional ≡ none → ⊥
  -- "a second transitional cannot come"
  pub one_transitional : (p i s : ℕ) → Comes n q l p i (transitional s) → (place_at n q l i p).transitional ≡ none
  -- "every record delivered was written by a server's engine and sent by that server"
  pub genuine : (p i k : ℕ) (e : List ℕ) (r : Record) → at l p ≡ some (event i e k) → Comes n q l p i r → is_message r ≡ true
      → ((source p).sending < p) × (at (sent_at n q l (source p).sending) (source p).number ≡ some e)
  -- "A crash may fall before an event, or after it and its store, if any, with none or only the first few of its records sent": the crash comes
  -- before the server's next event. Beyond document 01 requests may come before it, none of their records sent: of a daemon that takes several
  -- requests, stores once and then sends.
  pub cut_by_crash : (p r i k m : ℕ) (e f : List ℕ) → at l p ≡ some (event i e k) → k < length (put_out n q l p)
      → p < r → at l r ≡ some (event i f m) → BehindCut n q l p r i
  -- "that server's next event is then recovery, from its store."
  pub recovers : (p i k : ℕ) (e : List ℕ) → at l p ≡ some (event i e k) → (world_at n q l p).down i ≡ true → Comes n q l p i recovery
  -- A store comes to a server that is up.
  pub stores_up : (p i : ℕ) → at l p ≡ some (store i) → (world_at n q l p).down i ≡ false
  -- ---- Specification 1: 1.1 follows from 6.1; 1.2 is `Causes`; that sendings are in regular configurations (1.4) is proved

  -- "1.3 If there exists deliver_p(m, c), then there exists send_q(m, reg(c))": which precedes it by `genuine` and `Causes`. With 2.2: a delivery
  -- has a configuration.
  pub same_configuration_lem : (p i : ℕ) (m : Message) → Delivers n q l source name p i m
      → (j : ℕ) × (c : Configuration) × Sends n q l j m c × ((place_at n q l i p).regular ≡ some c)
  -- "1.4 .. if there exists deliver_p(m, c), then there does not exist deliver_p(m, c') where c ≠ c'."
  pub one_delivery : (p r i : ℕ) (m : Message) → Delivers n q l source name p i m → Delivers n q l source name r i m
      → place_at n q l i p ≡ place_at n q l i r
  -- ---- Specification 2: 2.1 forbids no finite run; 2.2 is `place_at`; 2.3 and 2.4 are `Precedes`

  -- A transitional configuration has one regular one before it, and one set.
  pub one_name : (p r i j s t : ℕ) → Comes n q l p i (transitional s) → Comes n q l r j (transitional t) → name p ≡ name r
      → ((place_at n q l i p).regular ≡ (place_at n q l j r).regular) × (s ≡ t)
  -- ---- Specifications 3 to 7; "a duty to deliver counts as broken only once its server has left that configuration and its transitional one"

  -- "3. If there exist send_p(m, c) and deliver_conf_p(c') where c' ≠ trans_p(c) .. and there does not exist crash_p(com_p(c)), then there exists
  -- deliver_p(m, com_p(c))"
  pub self_delivery : (i : ℕ) (m : Message) (c : Configuration) → Sends n q l i m c → Left n q l i c → Delivered n q l source name i m
  -- "4. If there exist deliver_conf_p(c), deliver_conf_p(c''), deliver_conf_q(c), deliver_conf_q(c'') and deliver_p(m, c) .. then there exists
  -- deliver_q(m, c)."
  pub atomic : (i j p r x y z w : ℕ) (m : Message) (c d : Configured) (f : Configuration)
      → Passes n q l source name i c d p r → Passes n q l source name j c d x y
      → p < z → z < r → Delivers n q l source name z i m
      → y ≤ w → Takes n q l w j f → ((v : ℕ) → x < v → v < w → Falls n q l v j → ⊥)
      → (v : ℕ) × Delivers n q l source name v j m × (x < v) × (v < y)
  -- "5. If there exist send_p(m, c), send_q(m', c) and deliver_r(m', com_r(c)) such that send_p(m, c) → send_q(m', c)": "whoever delivers a
  -- record has before it delivered every record sent in the same regular configuration that causally precedes it"
  pub causal : (p i j k : ℕ) (m m' : Message) (c : Configuration) → Sends n q l i m c → Sends n q l j m' c
      → Causes n q l source name (sending_of m) (sending_of m') → Delivers n q l source name p k m'
      → (x : ℕ) × Delivers n q l source name x k m × (x < p)
  -- "6.1 If there exist events e and e' such that e → e', then ord(e) < ord(e')."
  pub rises : (a b : Happening) → Precedes n q l source name a b → ord a < ord b
  -- "6.2 If there exist events e and e' that are either deliver_conf_p(c) and deliver_conf_q(c)"
  pub same_moment : (p r i j : ℕ) (c : Configured)
      → Configures n q l source name p i c → Configures n q l source name r j c → ord (entry_at p) ≡ ord (entry_at r)
  -- "or deliver_p(m, c) and deliver_q(m, c'), then ord(e) = ord(e')."
  pub same_message_lem : (p r i j : ℕ) (m : Message)
      → Delivers n q l source name p i m → Delivers n q l source name r j m → ord (entry_at p) ≡ ord (entry_at r)
  -- "Specification 6's one order": two records of one regular configuration never share a moment.
  pub one_order : (p r i j : ℕ) (m m' : Message) → Delivers n q l source name p i m → Delivers n q l source name r j m'
      → (place_at n q l i p).regular ≡ (place_at n q l j r).regular → ord (entry_at p) ≡ ord (entry_at r) → m ≡ m'
  -- 6.3, "at every moment: .. and every one sent there that is lower in Specification 6's one order, that any server delivers, and whose sender is in
  -- the deliverer's configuration then"
  pub agreed : (p r i j k : ℕ) (m m' : Message) (c : Configuration) → Sends n q l k m c → Delivers n q l source name p i m
      → Delivers n q l source name r j m' → (place_at n q l j r).regular ≡ some c → ord (entry_at p) < ord (entry_at r)
      → in_set k (members (place_at n q l j r)) ≡ true → (x : ℕ) × Delivers n q l source name x j m × (x < r)
  -- "7.1 If there exists deliver_p(m, c) for a safe message m, then for every process q in c there exists either deliver_q(m, com_q(c)) or
  -- crash_q(com_q(c))"; "all are safe". 7.2 forbids no finite run.
  pub safe : (p i j : ℕ) (m : Message) (c : Configuration) → Delivers n q l source name p i m → (place_at n q l i p).regular ≡ some c
      → in_set j (members (place_at n q l i p)) ≡ true → Left n q l j c → Delivered n q l source name j m
