-- A taken request is stored, and the action made of it is on the own list or entered in every later image: an index that was numbered stays so.
use Prim.Native.Nat.{ℕ, ◌≤◌, ◌<◌}
use mathlib.Core.Path.{◌≡◌, refl, sym, ap, subst, ◌∙◌}
use mathlib.Core.Bool.{Bool, true}
use mathlib.Core.List.{List, map, Memᴰ}
use native.Mathlib.Omega.{arith}
use native.Mathlib.Decide.{dec_le}
use Rattle.base.specs.Tests.{pick}
use Rattle.base.specs.Lists.{above}
use Rattle.base.proofs.ListLaws.{map_each, above_each}
use Rattle.format.specs.Types.{Id, Action, Record, request}
use Rattle.replication.specs.Machine.Types.{Server, taken}
use Rattle.replication.specs.Machine.Colours.{cut}
use Rattle.replication.specs.Machine.Requests.{made_of}
use Rattle.replication.specs.Machine.Step.{step}
use Rattle.replication.specs.Machine.White.{full, sieved_record}
use Rattle.replication.specs.Machine.WellFormed.{ids_in, queue, well_formed}
use Rattle.replication.specs.Images.{Images, started, is_recovery, source_of, arrive, left_by, lived}
use Rattle.replication.specs.Laws.Images.{OfBoth, next}
use Rattle.replication.specs.Laws.Sending.{Own}
use Rattle.replication.specs.Laws.Transitions as L
use Rattle.replication.specs.Laws.Transitions.{Transition}
use Rattle.replication.specs.Runs.Requests as R
use Rattle.replication.specs.Runs.Requests.{HasId, TakesRequest, NothingLost}
use Rattle.replication.proofs.Step.Inversion.{taken_by}
use Rattle.replication.proofs.Step.Moves.{moved}
use Rattle.replication.proofs.Step.Growth.{taken_grows}
use Rattle.replication.proofs.Step.Identity.{taken_identity}
use Rattle.replication.proofs.Step.OwnActions.{own_raised, request_own}
use Rattle.replication.proofs.Step.Lifts.{lived_each}
use Rattle.replication.proofs.WellFormed.Clauses.{WellFormed}
use Rattle.replication.proofs.WellFormed.Facts.{well_formed_facts}
use Rattle.replication.proofs.WellFormed.Ids.{counted_has, has_member}
use Rattle.replication.proofs.WellFormed.Logs.{own_id}
use Rattle.replication.proofs.WellFormed.Steps.{step_well_formed, step_log_kept}
use Rattle.replication.proofs.WellFormed.Whole.{HeldOf, enter_held, held_held}
use Rattle.replication.proofs.Runs.Shifts.{says_same}
use Rattle.replication.proofs.Runs.LogActions.{each_of}

-- ---- an own id that was numbered is on the own list or entered

-- The id d is the server's own, and its index among those numbered.
pub record WasNumbered (d : Id) (s : Server) : Type 0 where
  pub creator : d.creator ≡ s.me
  pub least : 1 ≤ d.index
  pub most : d.index ≤ s.log.numbered

module _ (d : Id) (s : Server) (f : WellFormed s) (w : WasNumbered d s) (there : HeldOf s.servers d s.log) where
  held : d.index ≤ cut s.log s.me → HasId d s
  held h =
      R.entered
      (has_member d (ids_in (queue s.log))
      (counted_has d (ids_in (queue s.log)) (there.held (omega (arith, h, ap (cut s.log) w.creator)))))

  listed : cut s.log s.me < d.index → HasId d s
  listed h =
      let ids = ids_in s.log.own in
      let own = map (own_id s.me) (above (cut s.log s.me) s.log.numbered) in
      let each = map_each (λ x. Memᴰ x own) (own_id s.me) (above (cut s.log s.me) s.log.numbered) (each_of (λ x. Memᴰ x own) own (λ x m. m)) in
      let m = above_each (λ i. Memᴰ (own_id s.me i) own) (cut s.log s.me) s.log.numbered each d.index h w.most in
      let e : own_id s.me d.index ≡ d = ap (λ c. own_id c d.index) (sym w.creator) in
      R.on_own_list (subst (λ x. Memᴰ x ids) e (subst (λ l. Memᴰ (own_id s.me d.index) l) (sym f.own_list.ids) m))

  pub numbered_there : HasId d s
  numbered_there = go (dec_le d.index (cut s.log s.me))
    where
      go : Dec (d.index ≤ cut s.log s.me) → HasId d s
      go (yes h) = held h
      go (no h) = listed (omega arith)

-- ---- a request

-- A server that reads a request takes it from its memory, stores and numbers what it makes of it.
pub record Answers (s t : Server) (p : List ℕ) (b : Bool) : Type 0 where
  pub stores : b ≡ true
  pub own : Own s t (made_of p s)

request_stores : {s : Server} {p : List ℕ} {t : Server} {rs : List Record} {b : Bool} → Transition s (request p) t rs b → b ≡ true
request_stores (L.sends p c) = refl
request_stores (L.numbers p c) = refl

module _ {i : Images} {e p : List ℕ} {t : Server} {rs : List (List ℕ)} {b : Bool} {g : List Action} (x : TakesRequest i e p t rs b g) where
  from_memory : step i.memory e ≡ taken t rs b g
  unfolding arrive source_of is_recovery pick
  from_memory = ap (λ r. step (pick (is_recovery r) i.store i.memory) e) (sym x.reads) ∙ x.takes

  pub answers : Answers i.memory t p b
  unfolding sieved_record
  answers =
      let d = taken_by i.memory e t rs b g from_memory in
      let same : d.event ≡ request p = says_same (sym d.reads ∙ x.reads) in
      let m : Transition i.memory (request p) d.core d.records b = subst (λ r. Transition i.memory (sieved_record (full d.rule i.memory) r) d.core d.records b) same (moved d).0 in
      record { stores = request_stores m; own = subst (λ u. Own i.memory u (made_of p i.memory)) (sym d.raise) (own_raised _ (request_own m)) }

  pub numbered_by : WasNumbered (made_of p i.memory).id t
  numbered_by =
      let o = answers.own in
      record { creator = o.creator ∙ sym (taken_identity i.memory e t rs b g from_memory).me; least = omega (arith, o.above); most = o.within }

  -- Both images are then what it left.
  pub stored_next : next i e ≡ started t
  unfolding next left_by started pick
  stored_next = ap (λ o. left_by o i) x.takes ∙ ap (λ c. record { memory = t; store = pick c t i.store }) answers.stores

-- ---- over any events

-- A well-formed state that has numbered d and, if it entered it, holds it.
abbrev Has : Id → Server → Type 0
Has d s = (well_formed s ≡ true) × WasNumbered d s × HeldOf s.servers d s.log

held_kept : (d : Id) (s : Server) (e : List ℕ) (t : Server) (bs : List (List ℕ)) (b : Bool) (g : List Action) → step s e ≡ taken t bs b g → well_formed s ≡ true
    → HeldOf s.servers d s.log → HeldOf t.servers d t.log
held_kept d s e t bs b g h w f =
    subst (λ n. HeldOf n d t.log) (sym (taken_identity s e t bs b g h).servers)
    (step_log_kept s e t bs b g (HeldOf s.servers d) (enter_held s.servers d) (held_held s.servers d) (well_formed_facts s w) (taken_by s e t bs b g h) f)

has_kept : (d : Id) (s : Server) (e : List ℕ) (t : Server) (bs : List (List ℕ)) (b : Bool) (g : List Action) → step s e ≡ taken t bs b g → Has d s → Has d t
has_kept d s e t bs b g h (w, n, f) = (
  step_well_formed s e t bs b g w h,
  record {
    creator = n.creator ∙ sym (taken_identity s e t bs b g h).me;
    least = n.least;
    most = omega (arith, n.most, (taken_grows s e t bs b g h).numbers);
  },
  held_kept d s e t bs b g h w f,
)

has_there : (d : Id) (s : Server) → Has d s → HasId d s
has_there d s (w, n, f) = numbered_there d s (well_formed_facts s w) n f

-- What is not numbered is not entered.
not_yet : (d : Id) (s : Server) → WellFormed s → d.creator ≡ s.me → s.log.numbered < d.index → HeldOf s.servers d s.log
not_yet d s f e h = record { long = f.log.cuts_length; held = λ k. absurd (omega (arith, f.own_list.numbered, ap (cut s.log) e, k)) }

pub nothing_lost : NothingLost
unfolding NothingLost started
nothing_lost s w es fs e p t rs b g x = ((answers x).stores, record { memory = has_there d _ after.memory; store = has_there d _ after.store })
  where
    i : Images
    i = lived (started s) es

    d : Id
    d = (made_of p i.memory).id

    before : OfBoth (λ u. well_formed u ≡ true) i
    before = lived_each (λ u. well_formed u ≡ true) (λ u f v bs c h k z. step_well_formed u f v bs c h z k) (started s) es (record { memory = w; store = w })

    made : Has d t
    made = (
      step_well_formed i.memory e t rs b g before.memory (from_memory x),
      numbered_by x,
      held_kept d i.memory e t rs b g (from_memory x) before.memory (not_yet d i.memory (well_formed_facts i.memory before.memory) (answers x).own.creator (answers x).own.above),
    )

    after : OfBoth (Has d) (lived (next i e) fs)
    after = subst (λ j. OfBoth (Has d) (lived j fs)) (sym (stored_next x)) (lived_each (Has d) (has_kept d) (started t) fs (record { memory = made; store = made }))
