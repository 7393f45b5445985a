-- What a place of an allowed run does to one server: the event that it takes, what that says, and the transition that it makes.
use Prim.Native.Nat.{ℕ, suc}
use mathlib.Core.Path.{◌≡◌, refl, sym, ap, ◌∙◌}
use mathlib.Core.Bool.{Bool, true, false}
use mathlib.Core.List.{List, [], map}
use mathlib.Core.Option.{some}
use Rattle.base.specs.Tests.{pick}
use Rattle.base.specs.Lists.{at}
use Rattle.base.proofs.AtLaws.{some_same}
use Rattle.format.specs.Types.{Action, Record, recovery, says}
use Rattle.format.specs.Read.{read}
use Rattle.format.specs.Write.{write}
use Rattle.replication.specs.Machine.Types.{Server, Outcome, taken, with_white, context_of}
use Rattle.replication.specs.Machine.Requests.{recovered}
use Rattle.replication.specs.Machine.Rules.{recovering, rule_for}
use Rattle.replication.specs.Machine.Step.{apply, stored, step}
use Rattle.replication.specs.Machine.White.{full, sieved, white_after}
use Rattle.replication.specs.Images.{saved_in, is_recovery, arrive}
use Rattle.replication.specs.Laws.Transitions.{TakenBy, Transition}
use Rattle.replication.specs.Runs.Run.{event, store, Run, nowhere, moved, records_of, world_at, place_at, heard_at, put_out}
use Rattle.replication.specs.Runs.Happenings.{Of, Crashes, Comes}
use Rattle.replication.proofs.Runs.Roomy.{Roomy as Allowed}
use Rattle.replication.proofs.Step.Inversion.{taken_by}
use Rattle.replication.proofs.Step.Moves as M
use Rattle.replication.proofs.Runs.Places.{put_out_at}
use Rattle.replication.proofs.Runs.Turns as T
use Rattle.replication.proofs.Runs.Shifts.{says_same}
use Rattle.replication.proofs.Runs.Readings.{answer_refused}
use Rattle.replication.proofs.Runs.Refusals.{recovery_taken}
use Rattle.replication.proofs.Runs.Coupling.{Source, from_store, from_memory, source, refusal_stays}

module _ (n q : ℕ) (l : Run) where
  abbrev pub memory_at : ℕ → ℕ → Server
  memory_at p i = ((world_at n q l p).images i).memory

  abbrev pub store_at : ℕ → ℕ → Server
  store_at p i = ((world_at n q l p).images i).store

  -- The server i, which is up, takes an event that is no recovery.
  pub record Acts (p i : ℕ) : Type 0 where
    pub bytes : List ℕ
    pub sent : ℕ
    pub here : at l p ≡ some (event i bytes sent)
    pub up : (world_at n q l p).down i ≡ false
    pub after : Server
    pub white : ℕ
    pub written : List (List ℕ)
    pub stores : Bool
    pub greened : List Action
    pub arrives : arrive ((world_at n q l p).images i) bytes ≡ taken (with_white white after) written stores greened
    pub by : TakenBy (memory_at p i) bytes (with_white white after) written stores greened
    pub heard : heard_at n q l p i bytes ≡ says by.event
    pub running : is_recovery (says by.event) ≡ false
    pub room : full by.rule (memory_at p i) ≡ false
    pub moves : Transition (memory_at p i) by.event after by.records stores
    pub memory_next : memory_at (suc p) i ≡ with_white white after
    pub store_next : store_at (suc p) i ≡ pick stores (with_white white after) (store_at p i)
    pub down_next : (world_at n q l (suc p)).down i ≡ false
    pub place_next : place_at n q l i (suc p) ≡ moved (says by.event) (place_at n q l i p)
    pub put : put_out n q l p ≡ map write by.records

  -- The server i recovers from its store.
  pub record Recovers (p i : ℕ) : Type 0 where
    pub comes : Comes n q l p i recovery
    pub white : ℕ
    pub white_is : white ≡ white_after recovering (store_at p i) (recovered (store_at p i))
    pub memory_next : memory_at (suc p) i ≡ with_white white (recovered (store_at p i))
    pub store_next : store_at (suc p) i ≡ with_white white (recovered (store_at p i))
    pub down_next : (world_at n q l (suc p)).down i ≡ false
    pub place_next : place_at n q l i (suc p) ≡ nowhere
    pub put : put_out n q l p ≡ []

  -- The server i, which is up, refuses an event.
  pub record Refuses (p i : ℕ) : Type 0 where
    pub bytes : List ℕ
    pub sent : ℕ
    pub number : ℕ
    pub here : at l p ≡ some (event i bytes sent)
    pub up : (world_at n q l p).down i ≡ false
    pub running : is_recovery (heard_at n q l p i bytes) ≡ false
    pub reads : read (context_of (memory_at p i)) bytes ≡ heard_at n q l p i bytes
    pub refusal : step (memory_at p i) bytes ≡ Outcome.refused number
    pub images_next : (world_at n q l (suc p)).images i ≡ (world_at n q l p).images i
    pub down_next : (world_at n q l (suc p)).down i ≡ false
    pub place_next : place_at n q l i (suc p) ≡ place_at n q l i p
    pub put : put_out n q l p ≡ []

  pub data AllowedTurn (p i : ℕ) : Type 0 where
    rests : (Of l p i → ⊥) → (world_at n q l (suc p)).images i ≡ (world_at n q l p).images i → place_at n q l i (suc p) ≡ place_at n q l i p
        → (world_at n q l (suc p)).down i ≡ (world_at n q l p).down i → AllowedTurn p i
    crashes : Crashes l p i → (world_at n q l (suc p)).images i ≡ (world_at n q l p).images i → place_at n q l i (suc p) ≡ nowhere
        → (world_at n q l (suc p)).down i ≡ true → AllowedTurn p i
    saves : at l p ≡ some (store i) → (world_at n q l (suc p)).images i ≡ saved_in ((world_at n q l p).images i) → place_at n q l i (suc p) ≡ place_at n q l i p
        → (world_at n q l (suc p)).down i ≡ (world_at n q l p).down i → (world_at n q l p).down i ≡ false → AllowedTurn p i
    refuses : Refuses p i → AllowedTurn p i
    recovers : Recovers p i → AllowedTurn p i
    acts : Acts p i → AllowedTurn p i

-- A recovery leaves the recovered store, stored, and sends nothing.
recovery_takes : {s : Server} {e : List ℕ} {t : Server} {bs : List (List ℕ)} {b : Bool} {g : List Action} (x : TakenBy s e t bs b g)
    → x.event ≡ recovery → (t ≡ with_white (white_after recovering s (recovered s)) (recovered s)) × (bs ≡ []) × (b ≡ true)
unfolding rule_for apply stored sieved
recovery_takes {s} {e} {t} {bs} {b} {g} x h =
    let k : recovering ≡ x.rule = some_same (ap (rule_for s.membership.mode) (sym h) ∙ x.ruled) in
    let o = ap (λ z. apply (sieved (full x.rule s) z) s) k ∙ x.applied in
    (x.raise ∙ ap (λ z. with_white (white_after z s x.core) x.core) (sym k) ∙ ap (λ u. with_white (white_after recovering s u) u) (outcome_after o), x.written ∙ ap (map write) (outcome_records o), outcome_stores o)
  where
    outcome_after : {u v : Server} {rs us : List Record} {c d : Bool} {y z : List Action} → taken u rs c y ≡ taken v us d z → v ≡ u
    outcome_after w = cc

    outcome_records : {u v : Server} {rs us : List Record} {c d : Bool} {y z : List Action} → taken u rs c y ≡ taken v us d z → us ≡ rs
    outcome_records w = cc

    outcome_stores : {u v : Server} {rs us : List Record} {c d : Bool} {y z : List Action} → taken u rs c y ≡ taken v us d z → d ≡ c
    outcome_stores w = cc

module _ {n q : ℕ} {l : Run} (A : Allowed n q l) (p i : ℕ) where
  acting : (e : List ℕ) (k : ℕ) (t : Server) (bs : List (List ℕ)) (b : Bool) (g : List Action) → at l p ≡ some (event i e k)
      → arrive ((world_at n q l p).images i) e ≡ taken t bs b g
      → (world_at n q l (suc p)).images i ≡ record { memory = t; store = pick b t ((world_at n q l p).images i).store }
      → place_at n q l i (suc p) ≡ moved (heard_at n q l p i e) (place_at n q l i p) → (world_at n q l (suc p)).down i ≡ false
      → Source n q l p i e → AllowedTurn n q l p i
  unfolding arrive moved is_recovery pick records_of
  acting e k t bs b g h a m c d (from_store s o r) =
      let y = taken_by (store_at n q l p i) e t bs b g (ap (λ z. step z e) (sym o) ∙ a) in
      let w = recovery_takes y (says_same (sym y.reads ∙ r)) in
      recovers
      (record {
        comes = record { bytes = e; sent = k; here = h; heard = s };
        white = white_after recovering (store_at n q l p i) (recovered (store_at n q l p i));
        white_is = refl;
        memory_next = ap (λ z. z.memory) m ∙ w.0;
        store_next = ap (λ z. z.store) m ∙ ap (λ z. pick z t (store_at n q l p i)) w.2 ∙ w.0;
        down_next = d;
        place_next = c ∙ ap (λ z. moved z (place_at n q l i p)) s;
        put = put_out_at n q l p i k e h ∙ ap records_of a ∙ w.1;
      })
  acting e k t bs b g h a m c d (from_memory u r o x) =
      let y = taken_by (memory_at n q l p i) e t bs b g (ap (λ z. step z e) (sym o) ∙ a) in
      let w = sym x ∙ y.reads in
      acts
      (record {
        bytes = e;
        sent = k;
        here = h;
        up = u;
        after = y.core;
        white = white_after y.rule (memory_at n q l p i) y.core;
        written = bs;
        stores = b;
        greened = g;
        arrives = a ∙ ap (λ u. taken u bs b g) y.raise;
        by = record { event = y.event; rule = y.rule; records = y.records; reads = y.reads; ruled = y.ruled; can = y.can; member = y.member; quota = y.quota; core = y.core; applied = y.applied; raise = refl; written = y.written };
        heard = w;
        running = ap is_recovery (sym w) ∙ r;
        room = A.room p i y.event y.rule (record { bytes = e; sent = k; here = h; heard = w }) u y.ruled;
        moves = M.moved_whole y (A.room p i y.event y.rule (record { bytes = e; sent = k; here = h; heard = w }) u y.ruled);
        memory_next = ap (λ z. z.memory) m ∙ y.raise;
        store_next = ap (λ z. z.store) m ∙ ap (λ u. pick b u (store_at n q l p i)) y.raise;
        down_next = d;
        place_next = c ∙ ap (λ z. moved z (place_at n q l i p)) w;
        put = put_out_at n q l p i k e h ∙ ap records_of a ∙ y.written;
      })

  refusing : (e : List ℕ) (k z : ℕ) → at l p ≡ some (event i e k) → arrive ((world_at n q l p).images i) e ≡ Outcome.refused z
      → (world_at n q l (suc p)).images i ≡ (world_at n q l p).images i → place_at n q l i (suc p) ≡ moved (heard_at n q l p i e) (place_at n q l i p)
      → (world_at n q l (suc p)).down i ≡ (world_at n q l p).down i → Source n q l p i e → AllowedTurn n q l p i
  unfolding arrive records_of
  refusing e k z h a m c d (from_store s o r) =
      absurd (recovery_taken _ z (answer_refused (store_at n q l p i) e recovery z (ap (λ y. step y e) (sym o) ∙ a) r))
  refusing e k z h a m c d (from_memory u r o x) =
      let y = ap (λ w. step w e) (sym o) ∙ a in
      refuses
      (record {
        bytes = e;
        sent = k;
        number = z;
        here = h;
        up = u;
        running = r;
        reads = x;
        refusal = y;
        images_next = m;
        down_next = d ∙ u;
        place_next = c ∙ refusal_stays A p i k z e h u r y;
        put = put_out_at n q l p i k e h ∙ ap records_of a;
      })

  pub allowed_turn : AllowedTurn n q l p i
  allowed_turn = go (T.turn n q l p i)
    where
      go : T.Turn n q l p i → AllowedTurn n q l p i
      go (T.rests o m c d) = rests o m c d
      go (T.crashes x m c d) = crashes x m c d
      go (T.saves x m c d) = saves x m c d (A.allowed.stores_up p i x)
      go (T.refuses e k z h a m c d) = refusing e k z h a m c d (source A p i k e h)
      go (T.acts e k t bs b g h a m c d) = acting e k t bs b g h a m c d (source A p i k e h)
