-- K6: "Nothing that an exchange in an allowed run must resend is ever gone." What is white at a member that collects States is green at every member
-- that took the configuration, so below all that is planned.
use Prim.Native.Nat.{ℕ, zero, suc, ◌≤◌, ◌<◌, min}
use mathlib.Core.Path.{◌≡◌, refl, sym, ap, subst, ◌∙◌}
use mathlib.Core.Bool.{Bool, true, false}
use mathlib.Core.List.{List, [], ◌∷◌, ◌++◌, map, map-append, Memᴰ}
use mathlib.Core.Logic.{inl, inr}
use mathlib.Core.Option.{some}
use native.Mathlib.Omega.{arith}
use lib.ListN.{length, take, get_or, length-map}
use lib.Seq.{take-append-le}
use Rattle.base.specs.Lists.{at, Begins, Each}
use Rattle.base.proofs.TestLaws.{not_both}
use Rattle.base.proofs.AtLaws.{some_same}
use Rattle.base.proofs.Comparable.{Comparable}
use Rattle.format.specs.Types.{Id, Action, State, Record, action, retransmission, state, cpc, regular, transitional, request, recovery, says}
use Rattle.replication.specs.Machine.Types.{Exchange_states, Configuration, Server}
use Rattle.replication.specs.Machine.Colours.{cut}
use Rattle.replication.specs.Machine.Plan.{lowest_from, lowest, cut_in, green_in, own_part}
use Rattle.replication.specs.Machine.Step.{entering, own_state}
use Rattle.replication.specs.Machine.WellFormed.{ids_in, queue}
use Rattle.replication.specs.Machine.WellFormedRanges.{id_count}
use Rattle.replication.specs.Laws.Transitions as L
use Rattle.replication.specs.Laws.Transitions.{Transition}
use Rattle.replication.specs.Laws.Order.{SameHeld}
use Rattle.replication.specs.Runs.Run.{Run}
use Rattle.replication.specs.Runs.Happenings.{Message, Comes, Falls, Takes}
use Rattle.replication.proofs.WellFormed.Ids.{each_counted}
use Rattle.replication.proofs.Runs.Roomy.{Roomy as Allowed}
use Rattle.replication.proofs.Runs.Shifts.{comes_of}
use Rattle.replication.proofs.Runs.Numbers.{invariant_at}
use Rattle.replication.proofs.Runs.Deliveries.{Delivery}
use Rattle.replication.proofs.Runs.AllowedTurns.{memory_at, Acts}
use Rattle.replication.proofs.Runs.Sending.{regular_acts}
use Rattle.replication.proofs.Runs.LogActions.{carried, each_of, each_in}
use Rattle.replication.proofs.Runs.Memberships.{every_state_in}
use Rattle.replication.proofs.Runs.Stays.{membership_at, in_stay, acts_membership}
use Rattle.replication.proofs.Runs.Progress.{stay_member}
use Rattle.replication.proofs.Agreement.Exchange.Facts.{exchange_facts}
use Rattle.replication.proofs.Agreement.Exchange.Stages.{stage, InCom, remaining, stage_rises}
use Rattle.replication.proofs.Agreement.Exchange.ActionsTaken as T
use Rattle.replication.proofs.Agreement.Exchange.Retransmissions.{says_resent, PartMessage}
use Rattle.replication.proofs.Agreement.Whites.Times.{Sources, WhiteFrom, kept, by_body, by_noted, NotedFrom, as_before, by_action, by_end, below_at_taking}
use Rattle.replication.proofs.Agreement.Whites.Sources.{sources}
use Rattle.replication.proofs.Agreement.Contents.Whole.{whole_part, part_whole}
use Rattle.replication.proofs.Agreement.Contents.Logs.{LogMove, keeps, places, MemoryStep, still, moved, memory_step, acting, acts_log}
use Rattle.replication.proofs.Agreement.Contents.Sent.{resending_log, part_same, part_delivered}
use Rattle.replication.proofs.Agreement.Contents.Agreeable.{green_ids_at, Agreeable}
use Rattle.replication.proofs.Agreement.Contents.Collected.{states_of, states_same, Sent, sent, sent_one}

-- A configuration notes nothing.
regular_noted : {s : Server} {i t : ℕ} {u : Server} {rs : List Record} {b : Bool} → Transition s (regular i t) u rs b → u.noted ≡ s.noted
unfolding entering
regular_noted (L.joins c e) = refl
regular_noted (L.joins_marked c e) = refl
regular_noted (L.joins_unmarked c e) = refl
regular_noted (L.joins_yellow c e) = refl

carries_none : (r : Record) → says_resent (says r) ≡ false → ((a : Action) → r ≡ action a → ⊥) → (b : Action) → Memᴰ b (carried r) → ⊥
unfolding says_resent
carries_none (action a) h f b m = f a refl
carries_none (retransmission k p a) h f b m = not_both (sym h)
carries_none (state x) h f b m = mathlib.Core.List.Memᴰ.not-nil m
carries_none (cpc k i) h f b m = mathlib.Core.List.Memᴰ.not-nil m
carries_none (regular i t) h f b m = mathlib.Core.List.Memᴰ.not-nil m
carries_none (transitional t) h f b m = mathlib.Core.List.Memᴰ.not-nil m
carries_none (request p) h f b m = mathlib.Core.List.Memᴰ.not-nil m
carries_none recovery h f b m = mathlib.Core.List.Memᴰ.not-nil m

-- What is below each is below the lowest.
from_bound : (f : State → ℕ) (b m : ℕ) (xs : List State) → b ≤ m → Each (λ x. b ≤ f x) xs → b ≤ lowest_from f m xs
unfolding lowest_from
from_bound f b m [] h g = h
from_bound f b m (x ∷ xs) h g = from_bound f b (min m (f x)) xs (omega (arith, g.0)) g.1

lowest_bound : (f : State → ℕ) (b : ℕ) (y : State) (xs : List State) → Memᴰ y xs → Each (λ x. b ≤ f x) xs → b ≤ lowest f xs
unfolding lowest
lowest_bound f b y [] m g = absurd (mathlib.Core.List.Memᴰ.not-nil m)
lowest_bound f b y (x ∷ xs) m g = from_bound f b (f x) xs g.0 g.1

-- Lists of which one begins the other begin alike.
comparable_take : (x y : List Id) (w : ℕ) → Comparable x y → w ≤ length x → w ≤ length y → take w x ≡ take w y
unfolding Comparable Begins
comparable_take x y w (inl b) h k = sym (ap (take w) b.1 ∙ take-append-le w x b.0 h)
comparable_take x y w (inr b) h k = ap (take w) b.1 ∙ take-append-le w y b.0 k

take_member : (w : ℕ) (x : List Id) (d : Id) → Memᴰ d (take w x) → Memᴰ d x
take_member zero x d m = absurd (mathlib.Core.List.Memᴰ.not-nil m)
take_member (suc w) [] d m = m
take_member (suc w) (a ∷ x) d (mathlib.Core.List.Memᴰ.head e) = mathlib.Core.List.Memᴰ.head e
take_member (suc w) (a ∷ x) d (mathlib.Core.List.Memᴰ.tail m) = mathlib.Core.List.Memᴰ.tail (take_member w x d m)

ids_take : (w : ℕ) (l : List Action) → ids_in (take w l) ≡ take w (ids_in l)
unfolding ids_in
ids_take zero l = refl
ids_take (suc w) [] = refl
ids_take (suc w) (a ∷ l) = ap (λ z. a.id ∷ z) (ids_take w l)

module _ {n q : ℕ} {l : Run} (A : Allowed n q l) where
  abbrev M : Sources A
  M = sources A (exchange_facts A)

  -- ---- a member that collects States

  module _ {c : Configuration} {i e j f : ℕ} (took : Takes n q l e i c) (other : Takes n q l f j c) where
    inn : j < n
    inn = A.allowed.servers f j (comes_of other)

    -- The green length that j has on taking c.
    abbrev had : ℕ
    had = length (memory_at n q l (suc f) j).log.green

    abbrev Low : Server → Type 0
    Low s = (s.white ≤ had) × (get_or s.noted j 0 ≤ had)

    white_low : (s t : Server) (bs : List Action) → ((b : Action) → Memᴰ b bs → ⊥) → s.white ≤ had → get_or t.noted j 0 ≤ had → WhiteFrom A s t bs → t.white ≤ had
    white_low s t bs nobody w g (kept h) = omega arith
    white_low s t bs nobody w g (by_body a m h) = absurd (nobody a m)
    white_low s t bs nobody w g (by_noted h) = omega (arith, h j inn)

    on_taking : (t : ℕ) → Takes n q l t i c → Low (memory_at n q l (suc t) i)
    on_taking t w =
        let b = (below_at_taking A M f j c other inn t i w).memory in
        let x = regular_acts A t i c w in
        let g : (memory_at n q l (suc t) i).noted ≡ (memory_at n q l t i).noted =
        ap (λ s. s.noted) x.0.memory_next
        ∙ regular_noted (subst (λ r. Transition (memory_at n q l t i) r x.0.after x.0.by.records x.0.stores) x.1 x.0.moves) in
        let h : get_or (memory_at n q l (suc t) i).noted j 0 ≤ had = omega (arith, b.1, ap (λ z. get_or z j 0) g) in
        (white_low _ _ (carried x.0.by.event) (λ a m. mathlib.Core.List.Memᴰ.not-nil (subst (λ r. Memᴰ a (carried r)) x.1 m)) b.0 h (M.acts_white t i x.0), h)

    onward : (y : ℕ) → InCom n q l y i c → (x : Acts n q l y i) → ((b : Action) → Memᴰ b (carried x.by.event) → ⊥) → Low (memory_at n q l y i)
        → Low (memory_at n q l (suc y) i)
    onward y a x nobody (w, g) = let h = noted (M.acts_noted y i j x inn) in (white_low _ _ _ nobody w h (M.acts_white y i x), h)
      where
        noted : NotedFrom A y i j (memory_at n q l y i) (memory_at n q l (suc y) i) (carried x.by.event) → get_or (memory_at n q l (suc y) i).noted j 0 ≤ had
        noted (as_before h) = omega arith
        noted (by_action b m e h) = absurd (nobody b m)
        noted (by_end d v e t k h) =
            let z : d ≡ c = some_same (sym e ∙ a) in
            let u : v ≡ f = A.allowed.once v f j c (subst (λ y. Takes n q l v j y) z t) other in
            omega (arith, ap (λ y. length (memory_at n q l (suc y) j).log.green) u)

    -- While it collects States no more is white than is green at any member on taking c.
    pub white_collecting : (p : ℕ) → InCom n q l p i c → (membership_at n q l p i).mode ≡ Exchange_states → (memory_at n q l p i).white ≤ had
    unfolding stage
    white_collecting p here h =
        (in_stay n q l i c (λ y. stage (membership_at n q l y i).mode ≤ 0 → Low (memory_at n q l y i)) (λ t w k. on_taking t w)
        (λ y a b f g k w. step y a f g k w (memory_step A y i f)) p here (omega (arith, ap stage h))).0
      where
        step : (y : ℕ) → InCom n q l y i c → (Falls n q l y i → ⊥) → ((d : Configuration) → Takes n q l y i d → ⊥)
            → (stage (membership_at n q l y i).mode ≤ 0 → Low (memory_at n q l y i)) → stage (membership_at n q l (suc y) i).mode ≤ 0 → MemoryStep A y i
            → Low (memory_at n q l (suc y) i)
        step y a f g k w (still m o) = subst Low (sym m) (k (omega (arith, ap (λ s. stage s.membership.mode) m)))
        step y a f g k w (moved x) =
            let r = stage_rises (acts_membership A y i x) (remaining g f x.by.event (acting A x)) in
            go (omega (arith, r)) (acts_log A a (omega (arith, r)) g f x)
          where
            go : stage (membership_at n q l y i).mode ≤ 0 → LogMove (memory_at n q l y i) x.by.event x.after → Low (memory_at n q l (suc y) i)
            go z (keeps u s) =
                onward y a x
                (carries_none x.by.event u (λ b v. omega (arith, T.past A y i b (subst (λ r. Comes n q l y i r) v (acting A x)) c a))) (k z)
            go z (places u v b o m s) = absurd (omega (arith, ap stage m))

  -- ---- all that is planned is there

  module _ (c : Configuration) (p0 i0 : ℕ) (here : InCom n q l p0 i0 c) (full : every_state_in (membership_at n q l p0 i0) ≡ true)
      (t : ℕ) (most : p0 ≤ suc t) (G : Agreeable n q l t c)
    where
      abbrev states : List State
      states = states_of A c p0 i0 here full

      module _ (k e v : ℕ) (took : Takes n q l e k c) (inside : InCom n q l v k c) (collecting : (membership_at n q l v k).mode ≡ Exchange_states)
          (held : SameHeld (memory_at n q l (suc e) k).log (memory_at n q l (suc v) k).log)
        where
          mine : Memᴰ (own_state c (memory_at n q l (suc e) k)) states × (suc e < p0)
          mine = sent_one A c p0 i0 here full took (stay_member A k v c inside)

          low_at : (x : State) (s : Sent A c p0 i0 here full x) → (memory_at n q l v k).white ≤ length (memory_at n q l (suc s.at_place) x.sender).log.green
          low_at x s = white_collecting took s.took v inside collecting

          own_low : (memory_at n q l v k).white ≤ length (memory_at n q l (suc e) k).log.green
          own_low = white_collecting took took v inside collecting

          positions : (memory_at n q l v k).white ≤ lowest green_in states
          unfolding green_in own_state
          positions =
              lowest_bound green_in (memory_at n q l v k).white _ states mine.0
              (each_of (λ x. (memory_at n q l v k).white ≤ green_in x) states
              (λ x m. let s = sent A c p0 i0 here full x m in omega (arith, low_at x s, ap (λ z. z.green_length) s.says)))

          -- What is white here is held there.
          held_there : (d : Id) → Memᴰ d (ids_in (take (memory_at n q l v k).white (memory_at n q l (suc v) k).log.green)) → (x : State) (s : Sent A c p0 i0 here full x)
              → d.index ≤ cut (memory_at n q l (suc s.at_place) x.sender).log d.creator
          unfolding queue ids_in
          held_there d m x s =
              let w = (memory_at n q l v k).white in
              let there = (memory_at n q l (suc s.at_place) x.sender).log in
              let e1 : Memᴰ d (take w (green_ids_at n q l (suc e) k)) =
              subst (Memᴰ d) (ids_take w (memory_at n q l (suc v) k).log.green ∙ ap (λ z. take w (map (λ b. b.id) z)) held.green) m in
              let c1 = G.comparable e s.at_place k x.sender (omega (arith, mine.1)) (omega (arith, s.earlier)) took s.took in
              let f1 : w ≤ length (green_ids_at n q l (suc e) k) = omega (arith, length-map (memory_at n q l (suc e) k).log.green (λ b. b.id), own_low) in
              let g1 : w ≤ length (green_ids_at n q l (suc s.at_place) x.sender) = omega (arith, length-map there.green (λ b. b.id), low_at x s) in
              let d1 : Memᴰ d (green_ids_at n q l (suc s.at_place) x.sender) =
              take_member w _ d (subst (Memᴰ d) (comparable_take _ _ w c1 f1 g1) e1) in
              let h1 : Memᴰ d (map (λ b. b.id) (there.green ++ there.red)) =
              subst (Memᴰ d) (sym (map-append (λ b. b.id) there.green there.red)) (mathlib.Core.List.Memᴰ.append_left (map (λ b. b.id) there.red) d1) in
              (invariant_at n q x.sender A.allowed.sizes (A.allowed.servers s.at_place x.sender (comes_of s.took)) l (suc s.at_place)).memory.whole.held_to_cuts.within d (each_in (λ y. 1 ≤ id_count y (map (λ b. b.id) (there.green ++ there.red))) _ (each_counted (map (λ b. b.id) (there.green ++ there.red))) d h1)

          indexes : (d : Id) → Memᴰ d (ids_in (take (memory_at n q l v k).white (memory_at n q l (suc v) k).log.green)) → d.index ≤ lowest (cut_in d.creator) states
          unfolding cut_in own_state cut
          indexes d m =
              lowest_bound (cut_in d.creator) d.index _ states mine.0
              (each_of (λ x. d.index ≤ cut_in d.creator x) states
              (λ x o. let s = sent A c p0 i0 here full x o in omega (arith, held_there d m x s, ap (λ z. get_or z.cuts d.creator 0) s.says)))

          -- So its part is that of one with no white action.
          pub part_there : own_part n k (memory_at n q l v k).white (memory_at n q l (suc v) k).log states ≡ whole_part n k (memory_at n q l (suc e) k).log states
          part_there = part_whole n k (memory_at n q l v k).white (memory_at n q l (suc v) k).log states positions indexes ∙ part_same n k _ _ states held

      -- A message of the part of the plan that the server k sent: its place in the part, planned from these States and from what k held when it took c.
      pub message_at : {x i k e : ℕ} {m : Message} → PartMessage A m k c → (d : Delivery A x i m) → Takes n q l e k c
          → at (whole_part n k (memory_at n q l (suc e) k).log states) m.number ≡ some d.what
      message_at {x} {i} {k} {e} {m} u d took =
          let v = m.sending in
          let g = resending_log A took v u.put.before u.put.after u.put.collecting u.put.resending in
          let s = states_same A c p0 i0 here full (suc v) k u.put.after u.put.complete in
          sym (ap (λ z. at (own_part n k (memory_at n q l v k).white (memory_at n q l (suc v) k).log z) m.number) s
          ∙ ap (λ z. at z m.number) (part_there k e v took u.put.before u.put.collecting g))
          ∙ part_delivered A u d
