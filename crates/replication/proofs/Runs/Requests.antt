-- In every allowed run, stray events included, the action made of a taken request is on the own list or entered in every later image. All of
-- document 02, K4, on requests.
use Prim.Native.Nat.{ℕ, suc, ◌≤◌, ◌<◌}
use mathlib.Core.Path.{◌≡◌, sym, ap, subst, ◌∙◌}
use mathlib.Core.Bool.{Bool, true}
use mathlib.Core.List.Memᴰ
use mathlib.Core.List.{List}
use mathlib.Core.Option.{some}
use native.Mathlib.Omega.{arith}
use Rattle.base.specs.Lists.{at}
use Rattle.base.proofs.AtLaws.{upd_here}
use Rattle.base.proofs.ListLaws.{each_append}
use Rattle.format.specs.Types.{Id, Action}
use Rattle.format.specs.Range.{sizes_ok}
use Rattle.replication.specs.Machine.Types.{Server}
use Rattle.replication.specs.Machine.Requests.{made_of}
use Rattle.replication.specs.Machine.WellFormed.{ids_in, queue}
use Rattle.replication.specs.Images.{started}
use Rattle.replication.specs.Laws.Images.{OfBoth, next}
use Rattle.replication.specs.Runs.Run.{event, Run, world_after, world_at}
use Rattle.replication.specs.Runs.Strays.{AllowedWithStrays}
use Rattle.replication.specs.Runs.Requests as R
use Rattle.replication.specs.Runs.Requests.{HasId, TakesRequest, HasAction, NothingLostInRuns, NeverFour, RequestsKept}
use Rattle.replication.proofs.Step.Table as T
use Rattle.replication.proofs.Runs.Places.{world_next, of_event}
use Rattle.replication.proofs.Runs.Numbers.{numbers, invariant_at}
use Rattle.replication.proofs.Runs.AllowedTurns.{memory_at, store_at}
use Rattle.replication.proofs.Runs.ControlPart.{control_at, store_grows_between}
use Rattle.replication.proofs.Runs.LogActions.{EachIn, each_in}
use Rattle.replication.proofs.Runs.Made.{Made, made_one, all_made}
use Rattle.replication.proofs.Agreement.Whites.Room.{roomy}
use Rattle.replication.proofs.Runs.Strays.{kept, at_kept, world_kept, taken_kept}
use Rattle.replication.proofs.Runs.RequestsSent.{one_time_only, entered_not_sent}
use Rattle.replication.proofs.Runs.RequestsWaiting.{sent_on_reaching}
use Rattle.replication.proofs.Runs.EachSent.{each_sent, all_put_out}
use Rattle.replication.proofs.Runs.Taken.{until_quota}
use Rattle.replication.proofs.Runs.RequestsHeld.{WasNumbered, numbered_there, answers, numbered_by, stored_next, nothing_lost}

-- ---- an id is of some action

with_id : (d : Id) (s : Server) → HasId d s → (a : Action) × HasAction a s × (a.id ≡ d)
unfolding ids_in
with_id d s (R.HasId.on_own_list m) = let x = Memᴰ.of_map (λ a. a.id) s.log.own m in (x.0, R.HasAction.on_own_list x.1, x.2)
with_id d s (R.HasId.entered m) = let x = Memᴰ.of_map (λ a. a.id) (queue s.log) m in (x.0, R.HasAction.entered x.1, x.2)

of_each : {Q : Action → Type 0} (s : Server) (a : Action) → EachIn Q s.log → HasAction a s → Q a
unfolding queue
of_each {Q} s a h (R.HasAction.on_own_list m) = each_in Q s.log.own h.own a m
of_each {Q} s a h (R.HasAction.entered m) = each_in Q (queue s.log) (each_append Q s.log.green s.log.red h.green h.red) a m

-- ---- in every run an id that was numbered stays

module _ (n q i : ℕ) (sizes : sizes_ok n q ≡ true) (own : i < n) (l : Run) where
  numbered_later : (d : Id) (x y : ℕ) → x ≤ y → WasNumbered d (memory_at n q l x i) → OfBoth (WasNumbered d) ((world_at n q l y).images i)
  numbered_later d x y h w =
      let before = (numbers n q i l x).memory.me in
      let after = numbers n q i l y in
      let most : d.index ≤ (store_at n q l y i).log.numbered = omega (arith, w.most, (control_at n q l i x).numbered, (store_grows_between n q l i x y h).numbers) in
      record {
        memory = record { creator = w.creator ∙ before ∙ sym after.memory.me; least = w.least; most = omega (arith, most, (control_at n q l i y).numbered) };
        store = record { creator = w.creator ∙ before ∙ sym after.store.me; least = w.least; most = most };
      }

  there_later : (d : Id) (x y : ℕ) → x ≤ y → WasNumbered d (memory_at n q l x i) → OfBoth (HasId d) ((world_at n q l y).images i)
  there_later d x y h w =
      let v = invariant_at n q i sizes own l y in
      let o = numbered_later d x y h w in
      record {
        memory = numbered_there d _ v.memory.well_formed_lem o.memory (record { long = v.memory.well_formed_lem.log.cuts_length; held = v.memory.whole.held_to_cuts.entered d o.memory.least });
        store = numbered_there d _ v.store.well_formed_lem o.store (record { long = v.store.well_formed_lem.log.cuts_length; held = v.store.whole.held_to_cuts.entered d o.store.least });
      }

  -- What the event of a request leaves.
  left_by_request : (x k : ℕ) (e p : List ℕ) (t : Server) (rs : List (List ℕ)) (b : Bool) (g : List Action)
      → at l x ≡ some (event i e k) → TakesRequest ((world_at n q l x).images i) e p t rs b g → (world_at n q l (suc x)).images i ≡ started t
  unfolding world_after next
  left_by_request x k e p t rs b g h r = ap (λ w. w.images i) (world_next n q l x _ h) ∙ upd_here _ i _ ∙ stored_next r

-- ---- in allowed runs it is that action

module _ {n q : ℕ} {l : Run} (S : AllowedWithStrays n q l) where
  -- Every action in a log was made.
  made_at : (y i : ℕ) → OfBoth (λ s. EachIn (Made (roomy S.rest) (kept S.stray y)) s.log) ((world_at n q l y).images i)
  made_at y i =
      subst (λ w. OfBoth (λ s. EachIn (Made (roomy S.rest) (kept S.stray y)) s.log) (w.images i)) (sym (world_kept S y))
      (all_made (roomy S.rest) (kept S.stray y) i)

  module _ (x i k : ℕ) (e p : List ℕ) (t : Server) (rs : List (List ℕ)) (b : Bool) (g : List Action)
      (h : at l x ≡ some (event i e k)) (r : TakesRequest ((world_at n q l x).images i) e p t rs b g)
    where
      abbrev a : Action
      a = made_of p (memory_at n q l x i)

      there : i < n
      there = S.rest.servers (kept S.stray x) i (of_event (at_kept S.stray l x _ h (taken_kept S x i k e t rs b g h r.takes)))

      left : (world_at n q l (suc x)).images i ≡ started t
      left = left_by_request n q i S.rest.sizes there l x k e p t rs b g h r

      made : Made (roomy S.rest) (kept S.stray (suc x)) a
      unfolding started
      made = each_in _ t.log.own (subst (λ y. EachIn (Made (roomy S.rest) (kept S.stray (suc x))) y.memory.log) left (made_at (suc x) i).memory).own a (answers r).own.listed

      that_action : (y : ℕ) (s : Server) → EachIn (Made (roomy S.rest) (kept S.stray y)) s.log → HasId a.id s → HasAction a s
      that_action y s m d = let z = with_id a.id s d in subst (λ c. HasAction c s) (made_one (roomy S.rest) (of_each s z.0 m z.1) made z.2) z.1

      stays : (y : ℕ) → x < y → OfBoth (HasAction a) ((world_at n q l y).images i)
      unfolding started
      stays y less =
          let d = there_later n q i S.rest.sizes there l a.id (suc x) y less (subst (λ z. WasNumbered a.id z.memory) (sym left) (numbered_by r)) in
          record { memory = that_action y _ (made_at y i).memory d.memory; store = that_action y _ (made_at y i).store d.store }

nothing_lost_in_runs : NothingLostInRuns
unfolding NothingLostInRuns
nothing_lost_in_runs n q l S x i k e p t rs b g h r y less = stays S x i k e p t rs b g h r y less

never_four : NeverFour
unfolding NeverFour
never_four s e = T.never_four s e

pub requests_kept : RequestsKept
requests_kept = record {
  one_time_only = one_time_only;
  sent_on_reaching = sent_on_reaching;
  each_sent = each_sent;
  all_put_out = all_put_out;
  entered_not_sent = entered_not_sent;
  nothing_lost = nothing_lost;
  nothing_lost_in_runs = nothing_lost_in_runs;
  taken_until_quota = until_quota;
  never_four = never_four;
}
