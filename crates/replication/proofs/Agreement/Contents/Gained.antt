-- What a server in the exchange has gained by the retransmissions that have come: its green list begins the longest one and reaches each position that
-- came, its cuts reach each index that came and no cut exceeds the highest.
use Prim.Native.Nat.{ℕ, zero, suc, ◌+◌, ◌-◌, ◌≤◌, ◌<◌}
use mathlib.Core.Path.{◌≡◌, refl, sym, ap, subst, ◌∙◌}
use mathlib.Core.Bool.{true}
use mathlib.Core.List.{List, [], ◌∷◌, ◌++◌}
use mathlib.Core.Logic.{◌⊎◌, inl, inr}
use mathlib.Core.Option.{some}
use native.Mathlib.Omega.{arith}
use native.Mathlib.Decide.{dec_lt}
use lib.ListN.{length, get_or}
use Rattle.base.specs.Lists.{at, Begins}
use Rattle.base.proofs.AtLaws.{none_some, some_same, at_low, at_there, at_among}
use Rattle.base.proofs.Comparable.{comparable_shorter}
use Rattle.base.proofs.CountLaws.{count_map}
use Rattle.base.specs.Sets.{in_set}
use Rattle.format.specs.Range.{same_id}
use Rattle.format.specs.Types.{Id, Action, State, retransmission}
use Rattle.replication.specs.Machine.Types.{Configuration, Log}
use Rattle.replication.specs.Machine.Colours.{cut, find}
use Rattle.replication.specs.Machine.Plan.{highest, lowest, resender, cut_in, green_in}
use Rattle.replication.specs.Machine.Step.{own_state, placed}
use Rattle.replication.specs.Machine.WellFormed.{ids_in, queue}
use Rattle.replication.proofs.WellFormed.Clauses.{held_count}
use Rattle.replication.specs.Runs.Run.{Run}
use Rattle.replication.specs.Runs.Happenings.{is_message, Comes, Takes}
use Rattle.replication.proofs.Runs.Roomy.{Roomy as Allowed}
use Rattle.replication.proofs.WellFormed.Held.{Found, absent, found, found?}
use Rattle.replication.proofs.Runs.Numbers.{invariant_at}
use Rattle.replication.proofs.Runs.Shifts.{comes_of, comes_once}
use Rattle.replication.proofs.Runs.Order.{taker_member}
use Rattle.replication.proofs.Runs.AllowedTurns.{memory_at}
use Rattle.replication.proofs.Runs.Memberships.{every_state_in}
use Rattle.replication.proofs.Runs.Stays.{membership_at}
use Rattle.replication.proofs.Agreement.Exchange.Stages.{InCom}
use Rattle.replication.proofs.Agreement.Exchange.Answers.{coming}
use Rattle.replication.proofs.Agreement.Exchange.Retransmissions.{PartMessage, part_message}
use Rattle.replication.proofs.Agreement.Lists.Fifo.{Fifo}
use Rattle.replication.proofs.Agreement.Lists.Held.{HeldExactly, held_exactly, green_held}
use Rattle.replication.proofs.Agreement.Contents.Agreeable.{green_ids_at, Agreeable}
use Rattle.replication.specs.Laws.Order.{SameHeld}
use Rattle.replication.proofs.Agreement.Contents.Plan.{PartRecord, by_position, by_index, part_record}
use Rattle.replication.proofs.Agreement.Contents.Placing.{ids_length, PlacedAt, placed_position, placed_index}
use Rattle.replication.proofs.Agreement.Contents.Collected.{states_of, sent_one, Resender, resender_by, resender_same, resender_has, sent_between, took_it}
use Rattle.replication.proofs.Agreement.Contents.Come.{Came, part_from, Numbered, numbered}

-- ---- finding a held action

-- What is found has the id.
pub found_id : (d : Id) (xs : List Action) (a : Action) → find d xs ≡ some a → d ≡ a.id
found_id d xs a e = go (found? d xs)
  where
    go : Found d xs → d ≡ a.id
    go (absent f h) = none_some (sym f ∙ e)
    go (found x f h w) = h ∙ ap (λ y. y.id) (some_same (sym f ∙ e))

-- What is held is found.
pub held_found : (d : Id) (m : Log) → 1 ≤ held_count d m → (a : Action) × (find d (m.green ++ m.red) ≡ some a)
unfolding ids_in queue
held_found d m h = go (found? d (m.green ++ m.red))
  where
    go : Found d (m.green ++ m.red) → (a : Action) × (find d (m.green ++ m.red) ≡ some a)
    go (absent f k) = absurd (omega (arith, count_map (same_id d) (λ a. a.id) (m.green ++ m.red)))
    go (found x f k w) = (x, f)

-- The ids of a list stand where its actions stand.
id_at_lem : (xs : List Action) (p : ℕ) (a : Action) → at xs p ≡ some a → at (ids_in xs) p ≡ some a.id
unfolding at ids_in
id_at_lem [] p a e = none_some e
id_at_lem (x ∷ xs) zero a e = ap (λ o. some o.id) (some_same e)
id_at_lem (x ∷ xs) (suc p) a e = id_at_lem xs p a e

resent_position : {k k' p p' : ℕ} {a a' : Action} → retransmission k p a ≡ retransmission k' p' a' → p ≡ p'
resent_position e = cc

resent_action : {k k' p p' : ℕ} {a a' : Action} → retransmission k p a ≡ retransmission k' p' a' → a ≡ a'
resent_action e = cc

module _ {n q : ℕ} {l : Run} (A : Allowed n q l) (c : Configuration) (p0 i0 : ℕ) (here : InCom n q l p0 i0 c)
    (full : every_state_in (membership_at n q l p0 i0) ≡ true) (t : ℕ) (most : p0 ≤ suc t) (G : Agreeable n q l t c) where
  abbrev pub states : List State
  states = states_of A c p0 i0 here full

  -- Who resends by position.
  pub leader : Resender A c p0 i0 here full green_in
  leader = resender_by A c p0 i0 here full green_in

  -- The longest green list.
  abbrev pub longest : List Id
  longest = green_ids_at n q l (suc leader.at_place) leader.server

  -- The highest cut of a creator.
  abbrev pub high_cut : ℕ → ℕ
  high_cut d = highest (cut_in d) states

  -- One who took c is a member.
  pub member : {e k : ℕ} → Takes n q l e k c → (k < n) × (in_set k c.set ≡ true)
  member {e} {k} w = (A.allowed.servers e k (comes_of w), taker_member w)

  pub exact : {e k : ℕ} → Takes n q l e k c → (p : ℕ) → HeldExactly (memory_at n q l p k).log
  exact {e} {k} w p = held_exactly (memory_at n q l p k) (invariant_at n q k A.allowed.sizes (member w).0 l p).memory

  -- ---- what members had when they took c

  pub longest_length : length longest ≡ highest green_in states
  unfolding green_in own_state
  longest_length = ids_length (memory_at n q l (suc leader.at_place) leader.server).log.green ∙ leader.has

  longest_fifo : Fifo longest
  longest_fifo = G.fifo leader.at_place leader.server (omega (arith, leader.earlier)) leader.took

  had_begins : {e k : ℕ} → Takes n q l e k c → Begins (green_ids_at n q l (suc e) k) longest
  unfolding green_in own_state
  had_begins {e} {k} w =
      let b = sent_between A c p0 i0 here full green_in w (member w) in
      comparable_shorter _ _
      (G.comparable e leader.at_place k leader.server (omega (arith, (sent_one A c p0 i0 here full w (member w)).1)) (omega (arith, leader.earlier)) w leader.took)
      (omega (arith, b.1, ids_length (memory_at n q l (suc e) k).log.green, longest_length))

  had_length : {e k : ℕ} → Takes n q l e k c → lowest green_in states ≤ length (memory_at n q l (suc e) k).log.green
  unfolding green_in own_state
  had_length w = (sent_between A c p0 i0 here full green_in w (member w)).0

  had_cuts : {e k : ℕ} → Takes n q l e k c → (d : ℕ)
      → (lowest (cut_in d) states ≤ cut (memory_at n q l (suc e) k).log d) × (cut (memory_at n q l (suc e) k).log d ≤ high_cut d)
  unfolding cut_in own_state cut
  had_cuts w d = sent_between A c p0 i0 here full (cut_in d) w (member w)

  -- ---- what the log m of the server i has gained by what came before y

  pub record Gained (m : Log) (y i : ℕ) : Type 0 where
    pub begins : Begins (ids_in m.green) longest
    pub low_length : lowest green_in states ≤ length m.green
    pub positions : (k p : ℕ) (a : Action) → Came A c y i (retransmission k p a) → p ≤ length m.green
    pub low_cuts : (d : ℕ) → lowest (cut_in d) states ≤ cut m d
    pub high_cuts : (d : ℕ) → cut m d ≤ high_cut d
    pub indexes : (k : ℕ) (a : Action) → Came A c y i (retransmission k 0 a) → a.id.index ≤ cut m a.id.creator

  -- What it had when it took c.
  pub gained_nothing : {e i y : ℕ} → Takes n q l e i c → ((k p : ℕ) (a : Action) → Came A c y i (retransmission k p a) → ⊥) → Gained (memory_at n q l (suc e) i).log y i
  gained_nothing w f = record {
    begins = had_begins w;
    low_length = had_length w;
    positions = λ k p a z. absurd (f k p a z);
    low_cuts = λ d. (had_cuts w d).0;
    high_cuts = λ d. (had_cuts w d).1;
    indexes = λ k a z. absurd (f k 0 a z);
  }

  -- Nothing came.
  pub gained_still : {m : Log} {y i : ℕ} → ((k p : ℕ) (a : Action) → Came A c (suc y) i (retransmission k p a) → Came A c y i (retransmission k p a))
      → Gained m y i → Gained m (suc y) i
  gained_still f g = record {
    begins = g.begins;
    low_length = g.low_length;
    positions = λ k p a z. g.positions k p a (f k p a z);
    low_cuts = g.low_cuts;
    high_cuts = g.high_cuts;
    indexes = λ k a z. g.indexes k a (f k 0 a z);
  }

  pub gained_same : {m w : Log} {y i : ℕ} → SameHeld m w → Gained m y i → Gained w y i
  unfolding cut
  gained_same {m} {w} s g = record {
    begins = subst (λ x. Begins (ids_in x) longest) (sym s.green) g.begins;
    low_length = omega (arith, ap length s.green, g.low_length);
    positions = λ k p a z. omega (arith, ap length s.green, g.positions k p a z);
    low_cuts = λ d. omega (arith, ap (λ x. get_or x d 0) s.cuts, g.low_cuts d);
    high_cuts = λ d. omega (arith, ap (λ x. get_or x d 0) s.cuts, g.high_cuts d);
    indexes = λ k a z. omega (arith, ap (λ x. get_or x a.id.creator 0) s.cuts, g.indexes k a z);
  }

  -- ---- one retransmission more

  module _ {y i k p : ℕ} {a : Action} (come : Comes n q l y i (retransmission k p a)) (inside : InCom n q l y i c) where
    -- What came by now came before, or is this one.
    last_or : (j u : ℕ) (b : Action) → Came A c (suc y) i (retransmission j u b) → Came A c y i (retransmission j u b) ⊎ ((u ≡ p) × (b ≡ a))
    last_or j u b w = go (dec_lt w.place y)
      where
        go : Dec (w.place < y) → Came A c y i (retransmission j u b) ⊎ ((u ≡ p) × (b ≡ a))
        go (yes h) = inl (record { place = w.place; earlier = h; comes = w.comes; inside = w.inside })
        go (no h) =
            let e : w.place ≡ y = omega (arith, w.earlier) in
            let s : retransmission j u b ≡ retransmission k p a = comes_once (subst (λ x. Comes n q l x i (retransmission j u b)) e w.comes) come in
            inr (resent_position s, resent_action s)

    gained_placed : {m w : Log} → Gained m y i → PlacedAt longest high_cut p a m w → Gained w (suc y) i
    gained_placed {m} {w} g s = record {
      begins = s.begins;
      low_length = omega (arith, g.low_length, s.longer);
      positions = λ j u b z. position j u b (last_or j u b z);
      low_cuts = λ d. omega (arith, g.low_cuts d, s.cuts d);
      high_cuts = s.high_cuts;
      indexes = λ j b z. index j b (last_or j 0 b z);
    }
      where
        position : (j u : ℕ) (b : Action) → Came A c y i (retransmission j u b) ⊎ ((u ≡ p) × (b ≡ a)) → u ≤ length w.green
        position j u b (inl z) = omega (arith, g.positions j u b z, s.longer)
        position j u b (inr z) = omega (arith, s.reached, z.0)

        index : (j : ℕ) (b : Action) → Came A c y i (retransmission j 0 b) ⊎ ((0 ≡ p) × (b ≡ a)) → b.id.index ≤ cut w b.id.creator
        index j b (inl z) = omega (arith, g.indexes j b z, s.cuts b.id.creator)
        index j b (inr z) = subst (λ x. x.id.index ≤ cut w x.id.creator) (sym z.1) (s.raised (sym z.0))

    message : PartMessage A (A.allowed.source y) k c
    unfolding is_message
    message = part_message A (coming A come refl) refl inside

    -- One by position.
    position_more : {m : Log} → HeldExactly m → Gained m y i → (e : ℕ) → Takes n q l e k c → (s : Numbered A c p0 i0 here full t most G y i k p a e)
        → resender green_in states ≡ some k → lowest green_in states < p → at (memory_at n q l (suc e) k).log.green (p - 1) ≡ some a
        → ((j : ℕ) (b : Action) → lowest green_in states < j → j < p → at (memory_at n q l (suc e) k).log.green (j - 1) ≡ some b
        → (u : ℕ) × (u < s.number) × (at (part_from A c p0 i0 here full t most G e k) u ≡ some (retransmission k j b)))
        → PlacedAt longest high_cut p a m (placed p a m)
    position_more {m} x g e took s r low there before =
        placed_position longest high_cut a m g.begins g.high_cuts bound x longest_fifo p (omega arith) (next (dec_lt (lowest green_in states) (p - 1))) in_longest
      where
        among : at (ids_in (memory_at n q l (suc e) k).log.green) (p - 1) ≡ some a.id
        among = id_at_lem (memory_at n q l (suc e) k).log.green (p - 1) a there

        in_longest : at longest (p - 1) ≡ some a.id
        in_longest = let w = resender_same A c p0 i0 here full leader r took in (λ z. at (green_ids_at n q l (suc (w.1 z)) (w.0 z)) (p - 1)) ∙ among

        bound : a.id.index ≤ high_cut a.id.creator
        bound =
            let w = green_held a.id (memory_at n q l (suc e) k).log (at_among (ids_in (memory_at n q l (suc e) k).log.green) (p - 1) a.id among) in
            omega (arith, ((exact took (suc e)).within a.id w).1, (had_cuts took a.id.creator).1)

        next : Dec (lowest green_in states < p - 1) → p ≤ length m.green + 1
        next (no h) = omega (arith, g.low_length)
        next (yes h) =
            let b = at_there (memory_at n q l (suc e) k).log.green (p - 1 - 1) (omega (arith, at_low (memory_at n q l (suc e) k).log.green (p - 1) a there)) in
            let w = before (p - 1) b.0 h (omega arith) b.1 in
            omega (arith, g.positions k (p - 1) b.0 (s.before w.0 (retransmission k (p - 1) b.0) w.1 w.2))

    -- One as red, the action d of its creator.
    index_more : {m : Log} → length m.cuts ≡ n → Gained m y i → (e : ℕ) → Takes n q l e k c → (s : Numbered A c p0 i0 here full t most G y i k p a e) (d : Id)
        → d.creator < n → resender (cut_in d.creator) states ≡ some k → lowest (cut_in d.creator) states < d.index → d.index ≤ high_cut d.creator
        → d ≡ a.id
        → ((j : ℕ) (b : Action) → lowest (cut_in d.creator) states < j → j < d.index
        → find (record { creator = d.creator; index = j }) ((memory_at n q l (suc e) k).log.green ++ (memory_at n q l (suc e) k).log.red) ≡ some b
        → (u : ℕ) × (u < s.number) × (at (part_from A c p0 i0 here full t most G e k) u ≡ some (retransmission k 0 b)))
        → PlacedAt longest high_cut 0 a m (placed 0 a m)
    unfolding cut_in own_state cut
    index_more {m} h g e took s d inn r low high same before =
        placed_index longest high_cut a m g.begins g.high_cuts (subst (λ z. z.index ≤ high_cut z.creator) same high)
        (subst (λ z. z.creator < length m.cuts) same (omega arith))
        (subst (λ z. z.index ≤ cut m z.creator + 1) same (next (dec_lt (lowest (cut_in d.creator) states) (d.index - 1))))
      where
        next : Dec (lowest (cut_in d.creator) states < d.index - 1) → d.index ≤ cut m d.creator + 1
        next (no v) = omega (arith, g.low_cuts d.creator)
        next (yes v) =
            let had = (memory_at n q l (suc e) k).log in
            let f : Id = record { creator = d.creator; index = d.index - 1 } in
            let held = (exact took (suc e)).entered f (omega arith) (omega (arith, resender_has A c p0 i0 here full (cut_in d.creator) r took)) in
            let b = held_found f had held in
            let w = before (d.index - 1) b.0 v (omega arith) b.1 in
            let z = g.indexes k b.0 (s.before w.0 (retransmission k 0 b.0) w.1 w.2) in
            omega (arith, subst (λ u. u.index ≤ cut m u.creator) (sym (found_id f (had.green ++ had.red) b.0 b.1)) z)

    pub one_more_lem : {m : Log} → HeldExactly m → length m.cuts ≡ n → Gained m y i → Gained (placed p a m) (suc y) i
    one_more_lem {m} x h g = gained_placed g (go (part_record n k (memory_at n q l (suc e) k).log states num.number (retransmission k p a) num.there))
      where
        e : ℕ
        e = (took_it A message.put.before).0

        took : Takes n q l e k c
        took = (took_it A message.put.before).1

        num : Numbered A c p0 i0 here full t most G y i k p a e
        num = numbered A c p0 i0 here full t most G y i k p a e come inside took

        go : PartRecord n k (memory_at n q l (suc e) k).log states num.number (retransmission k p a) → PlacedAt longest high_cut p a m (placed p a m)
        go (by_position u b s r low high there before) =
            let w = resent_position s in
            position_more x g e took num r (omega arith)
            (ap (λ z. at (memory_at n q l (suc e) k).log.green (z - 1)) w ∙ there ∙ ap some (sym (resent_action s)))
            (λ j o v z. before j o v (omega arith))
        go (by_index d j b s inn r low high there before) =
            let held = (memory_at n q l (suc e) k).log.green ++ (memory_at n q l (suc e) k).log.red in
            subst (λ z. PlacedAt longest high_cut z a m (placed z a m)) (sym (resent_position s))
            (index_more h g e took num (record { creator = d; index = j }) inn r low high
            (found_id (record { creator = d; index = j }) held b there ∙ ap (λ z. z.id) (sym (resent_action s))) before)
