-- An action looked up by a hint, and turned green.
use Prim.Native.Nat.{ℕ, ◌+◌, ◌*◌, ◌-◌, ◌^◌, ◌≤◌, ◌<◌, zero, suc}
use mathlib.Core.Path.{◌≡◌, sym, ap, ◌∙◌, refl, subst}
use mathlib.Core.Bool.{Bool, true, false, not}
use mathlib.Core.List.{List, [], ◌∷◌, ◌++◌}
use mathlib.Core.Option.{some}
use borrow.Author.Tests.{not-false}
use native.Mathlib.Omega.{arith}
use lib.ListN.{length, get_or, set, length-append, length-set, drop, length-drop}
use lib.Seq.{drop_at}
use Rattle.base.specs.Bytes.{number_at}
use Rattle.base.proofs.ListLaws.{each_at, each_implied}
use Rattle.base.specs.Lists.{at}
use Rattle.base.specs.Tests.{◌≤?◌, ◌<?◌, pick}
use Rattle.base.proofs.TestLaws.{le_holds, le_fails, lt_holds, lt_fails, lt_yes, lt_no, pick_yes, pick_no, Known, holds, fails, known}
use Rattle.format.specs.Limits.{most_ids}
use Rattle.format.specs.Types.{Id, Action}
use Rattle.format.specs.Range.{same_id}
use Rattle.format.specs.Read.{id_at, action_at}
use Rattle.replication.specs.Machine.Types.{Log, Server, with_log}
use Rattle.replication.specs.Machine.Colours.{shown}
use Rattle.replication.specs.Machine.WellFormed.{queue}
use Rattle.replication.proofs.WellFormed.Facts.{well_formed_facts}
use Rattle.replication.proofs.WellFormed.Ids.{same_id_yes, same_id_holds}
use Rattle.image.specs.Layout.{slot_size, at_queue_length, at_green_count, the_queue}
use Rattle.image.specs.Header.{shown_log}
use Rattle.image.specs.Image.{image}
use Rattle.image.specs.Decode.{decoded}
use Rattle.image.specs.Holding.{Holds, HoldsSome}
use Rattle.image.proofs.InPlace.{such_decoded}
use Rattle.queue.specs.Queue.{position, first_with}
use Rattle.queue.proofs.FindLaws.{some_found, none_found}
use Rattle.image.specs.Decode.{actions_at}
use Rattle.queue.proofs.Positions.{position_found, position_most, actions_drop}
use Rattle.queue.proofs.ReadLaws.{find_at, queue_read}
use Rattle.install.specs.Swaps.{green_swap, green_swaps, green_at}
use Rattle.record.specs.Values.{slot}
use Rattle.record.proofs.OnePass.{kept_set}
use Rattle.install.specs.Table.{log_in, Hinted, IndexedFrom, Indexed, Turned, one_of_places, place_from, id_in}
use Rattle.std.specs.Prelude.{Option, Some, None}
use Rattle.std.proofs.lemmas.Option.{none-some, same_Some}
use Rattle.install.proofs.Places.{position_at_lem, same_place_lem}
use Rattle.install.proofs.SwapFits.{Swap, unmoved, moved, swap?, swap_each, shown_swap}
use Rattle.install.proofs.Swapped.{swap_image}
use Rattle.install.proofs.TableLaws.{read_at, read_id, green_read, queue_count_lem, queue_once}
use Rattle.install.proofs.Turning.{swaps_hold, indexed_by}
use Rattle.image.specs.Counts.{queue_count, green_count, place, CountsIn}
use Rattle.image.proofs.Slots.{actions_count}
use mir.Syntax.{w64}
use mir.Val.{Fits}
use Rattle.base.proofs.QuantifierLaws.{at_drop}
use Rattle.install.proofs.SwapLaws.{Once, cons_count}
use Rattle.image.proofs.Counts.{queue_parts}

-- ---- looked up

once_from : (k : ℕ) (l : List Action) → Once l → Once (drop k l)
once_from zero l o = o
once_from (suc k) [] o = o
once_from (suc k) (x ∷ l) o = once_from k l (λ d. omega (arith, o d, cons_count d x l))

module _ (first : ℕ) (b : List ℕ) (holds_some : HoldsSome b) (first-most : first ≤ queue_count b) (d : Id) where
  abbrev rest : List Action
  rest = drop first (queue (log_in b))

  -- The place in the queue; the number of actions where there is none.
  abbrev sought : ℕ
  sought = first + position d rest

  rest_count : length rest ≡ queue_count b - first
  rest_count = length-drop first (queue (log_in b)) ∙ ap (λ (m : ℕ). m - first) (sym (queue_count_lem b holds_some))

  -- An action from `first` on is found.
  found_there : position d rest < length rest → (a : Action) × (at (queue (log_in b)) sought ≡ some a) × (d ≡ a.id)
  unfolding log_in
  found_there h =
      let k = position_found d rest h in
      (k.it, sym (at_drop first (queue (shown_log (decoded b))) (position d rest)) ∙ sym (find_at d rest) ∙ k.found, k.named)

  -- Where there is none, the place is the number of actions.
  not_found_lem : (position d rest < length rest → ⊥) → queue_count b ≡ sought
  not_found_lem n =
      let most = position_most d rest in
      let least : length rest ≤ position d rest = go (known (length rest ≤? position d rest)) in
      omega (arith, rest_count, first-most)
    where
      go : Known (length rest ≤? position d rest) → length rest ≤ position d rest
      go (holds h) = le_holds _ _ h
      go (fails h) = absurd (n (le_fails _ _ h))

  -- Where it is told.
  pub place_there : (k n : ℕ) → k ≡ sought → n ≡ queue_count b → k < n → Some k ≡ place_from first d b
  unfolding place_from one_of_places
  place_there k n e f h = pick_yes (sought <? queue_count b) (Some k) (Some sought) None (lt_yes sought (queue_count b) (omega arith)) (ap Some e)

  pub place_none : queue_count b ≤ sought → None ≡ place_from first d b
  unfolding place_from one_of_places
  place_none h = pick_no (sought <? queue_count b) None (Some sought) None (lt_no sought (queue_count b) h) refl

  -- The id at the place k, as the code reads it.
  hint_named : (k : ℕ) (has : Bool) → k < queue_count b → has ≡ same_id d (id_in b k) → has ≡ true
      → (y : Action) × (at (queue (log_in b)) k ≡ some y) × (d ≡ y.id)
  unfolding log_in
  hint_named k has high e h =
      let w : Server = decoded b in
      let r = such_decoded _ b holds_some in
      let y : Action = action_at b (place the_queue b + slot_size * k) in
      let there : at (queue (shown_log (decoded b))) k ≡ some y = read_at w b r k high in
      (y, there, same_id_holds d _ (sym e ∙ h) ∙ read_id w b r k y there)

  -- One that stands before `first` stands nowhere else.
  pub entry_before : (k n : ℕ) (has : Bool) → n ≡ queue_count b → k < n → has ≡ same_id d (id_in b k) → has ≡ true → k < first
      → None ≡ place_from first d b
  unfolding log_in
  entry_before k n has j high e h l =
      let none : queue_count b ≡ sought =
      not_found_lem (λ m. let y = hint_named k has (omega arith) e h in
      let z = found_there m in
      let same : same_id y.0.id z.0.id ≡ true =
      same_id_yes _ _ (ap (λ (i : Id). i.creator) (sym y.2 ∙ z.2)) (ap (λ (i : Id). i.index) (sym y.2 ∙ z.2)) in
      let here : k ≡ sought =
      same_place_lem (queue (shown_log (decoded b))) (queue_once (decoded b) b (such_decoded _ b holds_some)) k sought y.0 z.0 y.1 z.1 same in
      omega arith) in
      place_none (omega (arith, none))

  -- The action stands where its id does.
  found_at : (k : ℕ) (y : Action) → first ≤ k → at (queue (log_in b)) k ≡ some y → d ≡ y.id → k ≡ sought
  unfolding log_in
  found_at k y low there named =
      let at_k : first + (k - first) ≡ k = omega arith in
      let rest_there : at rest (k - first) ≡ some y = at_drop first (queue (shown_log (decoded b))) (k - first) ∙ ap (at (queue (shown_log (decoded b)))) at_k ∙ there in
      let once : Once rest = once_from first (queue (shown_log (decoded b))) (queue_once (decoded b) b (such_decoded _ b holds_some)) in
      let stands : position d rest ≡ k - first = ap (λ (z : Id). position z rest) named ∙ position_at_lem rest once (k - first) y rest_there in
      omega arith

  pub entry_found : (k n : ℕ) (has : Bool) → first ≤ k → n ≡ queue_count b → k < n → has ≡ same_id d (id_in b k) → has ≡ true
      → Some k ≡ place_from first d b
  entry_found k n has low j high e h =
      let y = hint_named k has (omega arith) e h in
      place_there k n (found_at k y.0 low y.1 y.2) j high

-- An id without a hint is that of no action.
pub entry_absent : (first : ℕ) (t b : List ℕ) (d : Id) (p k : ℕ) → IndexedFrom first t b → p ≡ slot d → k ≡ get_or t p 0 → k ≡ 0
    → None ≡ place_from first d b
entry_absent first t b d p k x e f h =
    let none : queue_count b ≡ sought first b x.holds x.low d =
    not_found_lem first b x.holds x.low d (λ m. let z = found_there first b x.holds x.low d m in
    let there : 0 < get_or t (slot z.0.id) 0 = each_at _ (queue (log_in b)) (sought first b x.holds x.low d) z.0 x.hinted z.1 in
    let same : slot z.0.id ≡ p = ap slot (sym z.2) ∙ sym e in
    omega (arith, there, ap (λ (i : ℕ). get_or t i 0) same)) in
    place_none first b x.holds x.low d (omega (arith, none))

-- The search from `first` on.
module _ (first : ℕ) (b : List ℕ) (d : Id) (a n : ℕ) (s : HoldsSome b) (low : first ≤ queue_count b) (e : a ≡ place the_queue b) (f : n ≡ queue_count b) where
  abbrev searched : List Action
  searched = actions_at (n - first) b (a + slot_size * first)

  searched_rest : searched ≡ drop first (queue (log_in b))
  unfolding log_in
  searched_rest =
      (λ i. actions_at (f i - first) b (e i + slot_size * first)) ∙ sym (actions_drop first (queue_count b) b (place the_queue b) low)
      ∙ ap (drop first) (queue_read (decoded b) b (such_decoded _ b s))

  pub place_searched : (p : ℕ) → Some p ≡ first_with d searched → Some (first + p) ≡ place_from first d b
  place_searched p g =
      let k = some_found d searched p g in
      place_there first b s low d (first + p) n (ap (λ (m : ℕ). first + m) (k.0 ∙ ap (position d) searched_rest)) f
      (omega (arith, k.1, actions_count (n - first) b (a + slot_size * first)))

  pub place_absent : None ≡ first_with d searched → None ≡ place_from first d b
  place_absent g =
      place_none first b s low d (omega (arith, none_found d searched g, actions_count (n - first) b (a + slot_size * first), ap (position d) searched_rest))

  pub searched_fits : (p : ℕ) → CountsIn b → Some p ≡ first_with d searched → length b < 2 ^ 64 → Fits w64 (first + p)
  searched_fits p c g l =
      record { fits = omega (arith, c.queue_end, (some_found d searched p g).1, actions_count (n - first) b (a + slot_size * first)) }

-- ---- turned green

-- The place of a red action.
red_place : (b : List ℕ) (d : Id) → HoldsSome b → green_count b + position d (drop (green_count b) (queue (log_in b))) ≡ length (log_in b).green + position d (log_in b).red
unfolding queue
red_place b d s =
    ap (λ (m : ℕ). m + position d (drop m ((log_in b).green ++ (log_in b).red))) (green_read b s)
    ∙ ap (λ (l : List Action). length (log_in b).green + position d l) (drop_at (log_in b).green (log_in b).red (length (log_in b).green) refl)

-- Of the red actions, as the code looks them up.
pub place_as : (r : Option ℕ) (g : ℕ) (d : Id) (b c : List ℕ) → r ≡ place_from g d c → c ≡ b → g ≡ green_count b → r ≡ place_from (green_count b) d b
place_as r g d b c e f h = e ∙ (λ i. place_from (h i) d (f i))

-- What is told of a place that is looked up.
place_told : (n k j : ℕ) → Some k ≡ one_of_places n j → (k ≡ j) × (j < n)
unfolding one_of_places
place_told n k j e = go (known (j <? n)) e
  where
    go : Known (j <? n) → Some k ≡ pick (j <? n) (Some j) None → (k ≡ j) × (j < n)
    go (holds h) f = (same_Some k j (f ∙ sym (pick_yes (j <? n) (Some j) (Some j) None h refl)), lt_holds j n h)
    go (fails h) f = absurd (none-some k (sym (f ∙ sym (pick_no (j <? n) None (Some j) None h refl))))

place_missed : (n j : ℕ) → None ≡ one_of_places n j → n ≤ j
unfolding one_of_places
place_missed n j e = go (known (j <? n)) e
  where
    go : Known (j <? n) → None ≡ pick (j <? n) (Some j) None → n ≤ j
    go (holds h) f = absurd (none-some j (f ∙ sym (pick_yes (j <? n) (Some j) (Some j) None h refl)))
    go (fails h) f = lt_fails j n h

pub turned_passed : (t b : List ℕ) (d : Id) → Indexed t b → None ≡ place_from (green_count b) d b → Turned (d ∷ []) b t b
unfolding log_in green_swaps place_from
turned_passed t b d x e = go (swap? d (decoded b).log)
  where
    high : queue_count b ≤ green_count b + position d (drop (green_count b) (queue (log_in b)))
    high = place_missed _ _ e

    go : Swap d (decoded b).log → Turned (d ∷ []) b t b
    go (unmoved m p) = record { written = sym (ap (λ (l : Log). image (with_log l (decoded b)) b) p ∙ (such_decoded _ b x.holds).written); indexed = x }
    go (moved s p) =
        absurd (omega (arith, high, red_place b d x.holds, queue_count_lem b x.holds, queue_parts (shown_log (decoded b)), s.count, ap length s.whole, length-append s.before (s.it ∷ s.behind)))

-- The place has the id that was looked up.
pub turned_id : (t b t₁ b₁ : List ℕ) (d : Id) (k : ℕ) → Indexed t b → Some k ≡ place_from (green_count b) d b → Turned (id_in b k ∷ []) b t₁ b₁
    → Turned (d ∷ []) b t₁ b₁
unfolding place_from log_in
turned_id t b t₁ b₁ d k x e turn =
    let told = place_told (queue_count b) k (green_count b + position d (drop (green_count b) (queue (log_in b)))) e in
    let y = found_there (green_count b) b x.holds x.low d (omega (arith, told.1, rest_count (green_count b) b x.holds x.low d)) in
    let there : at (queue (shown_log (decoded b))) k ≡ some y.0 = ap (at (queue (shown_log (decoded b)))) told.0 ∙ y.1 in
    subst (λ (z : Id). Turned (z ∷ []) b t₁ b₁) (read_id (decoded b) b (such_decoded _ b x.holds) k y.0 there ∙ sym y.2) turn

-- A place that is found is that of a red action.
pub found_red : (t b : List ℕ) (d : Id) (k : ℕ) → Indexed t b → Some k ≡ place_from (green_count b) d b → (green_count b ≤ k) × (k < queue_count b)
unfolding place_from
found_red t b d k x e =
    let told = place_told (queue_count b) k (green_count b + position d (drop (green_count b) (queue (log_in b)))) e in
    (omega (arith, told.0), omega (arith, told.0, told.1))

pub turned_swapped : (t b t₂ t₁ b₁ : List ℕ) (k g p q : ℕ) → Indexed t b → green_count b ≤ k → k < queue_count b
    → g ≡ number_at 4 b at_green_count → b₁ ≡ green_at k b → p < most_ids → q < most_ids → t₂ ≡ set t p (k + 1) → t₁ ≡ set t₂ q (g + 1)
    → Turned (id_in b k ∷ []) b t₁ b₁
unfolding log_in green_swaps
turned_swapped t b t₂ t₁ b₁ k g p q x low h i made low₁ low₂ one two = go (swap? d (decoded b).log)
  where
    d : Id
    d = id_in b k

    y : Action
    y = action_at b (place the_queue b + slot_size * k)

    there : at (queue (shown_log (decoded b))) k ≡ some y
    there = read_at (decoded b) b (such_decoded _ b x.holds) k h

    q₀ : k ≡ green_count b + position d (drop (green_count b) (queue (shown_log (decoded b))))
    q₀ = found_at (green_count b) b x.holds x.low d k y low there (read_id (decoded b) b (such_decoded _ b x.holds) k y there)

    e : k ≡ length (shown_log (decoded b)).green + position d (decoded b).log.red
    e = q₀ ∙ red_place b d x.holds

    size₂ : length t₂ ≡ most_ids
    size₂ = ap length one ∙ length-set t p (k + 1) ∙ x.size

    low_white : (decoded b).white ≤ length (decoded b).log.green
    low_white = (well_formed_facts (decoded b) (such_decoded _ b x.holds).formed).white

    hinted : Hinted t₁ (queue (shown (decoded b).white (green_swap d (decoded b).log)))
    hinted =
        each_implied _ _ (λ a v. subst (λ (u : List ℕ). 0 < get_or u (slot a.id) 0) (sym two)
        (kept_set t₂ q (slot a.id) (g + 1) (omega (arith, size₂)) (omega arith)
        (subst (λ (u : List ℕ). 0 < get_or u (slot a.id) 0) (sym one) (kept_set t p (slot a.id) (k + 1) (omega (arith, x.size)) (omega arith) v))))
        (queue (shown (decoded b).white (green_swap d (decoded b).log)))
        (subst (λ (l : Log). Hinted t (queue l)) (shown_swap (decoded b).white d (decoded b).log low_white) (swap_each _ d (shown_log (decoded b)) x.hinted))

    go : Swap d (decoded b).log → Turned (d ∷ []) b t₁ b₁
    go (unmoved m y) = absurd (omega (arith, e, queue_count_lem b x.holds, queue_parts (shown_log (decoded b))))
    go (moved s y) =
        let w : Server = decoded b in
        let r : Holds w b = such_decoded _ b x.holds in
        let written : b₁ ≡ image (with_log (green_swap d w.log) w) b = made ∙ ap (λ (z : ℕ). green_at z b) e ∙ swap_image w b r d s in
        record { written = written; indexed = indexed_by _ b₁ t₁ (swaps_hold w b b₁ r (d ∷ []) written) (ap length two ∙ length-set t₂ q (g + 1) ∙ size₂) hinted }
