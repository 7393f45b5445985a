-- Held actions sent one after another, by their positions or by a creator's indexes.
use Prim.Native.Nat.{ℕ, ◌+◌, ◌*◌, ◌-◌, ◌≤◌, ◌<◌}
use mathlib.Core.Path.{◌≡◌, refl, sym, ap, subst, ◌∙◌}
use mathlib.Core.List.{List, [], ◌++◌, append-nil}
use mathlib.Core.Option.{Option, some}
use native.Mathlib.Omega.{arith}
use lib.ListN.{length, length-append}
use Rattle.base.specs.Bytes.{number_at}
use Rattle.base.specs.Lists.{at, at_front, gather, after, above}
use Rattle.format.specs.Places.{most_retransmission}
use Rattle.format.specs.Read.{action_at}
use Rattle.format.specs.Types.{Id, Action, Record}
use Rattle.record.specs.Values.{id_of}
use Rattle.replication.specs.Machine.Colours.{find}
use Rattle.replication.specs.Machine.Plan.{resent}
use Rattle.replication.specs.Machine.WellFormed.{queue}
use Rattle.image.proofs.InPlace.{such_decoded}
use Rattle.image.specs.Counts.{queue_count, place}
use Rattle.image.specs.Decode.{decoded}
use Rattle.image.specs.Holding.{HoldsSome}
use Rattle.image.specs.Layout.{slot_size, at_queue_length, the_queue}
use Rattle.queue.proofs.ReadLaws.{actions_at_lem, find_at, queue_read}
use Rattle.queue.specs.Queue.{position}
use Rattle.install.proofs.NextLaws.{NoneOver, none_next, none_before, none_found, next_over}
use Rattle.install.proofs.Places.{position_at_lem}
use Rattle.install.proofs.SwapLaws.{Once}
use Rattle.install.proofs.TableLaws.{read_at, read_id, queue_once}
use Rattle.install.specs.Table.{log_in, id_in, NextFrom, NextAt}
use Rattle.std.specs.Prelude.{None}
use Rattle.outgoing.specs.Resending.{queue_in, from_place, at_position, as_red, greens_of, reds_of, one_of, Sends, PositionsIn, IsNextRed}
use Rattle.outgoing.proofs.GatherLaws.{Nothing, none_above, one_above, more_above, more_count}
use Rattle.outgoing.proofs.ResendingLaws.{rest, restored, rest_length, sends_none, sends_next, position_there}
use Rattle.outgoing.specs.declared.resending.Red.{Red}

-- ---- each of them is asked for

pub none_sent_at : (xs : List Record) → xs ≡ [] → (o : List ℕ) → Sends (length xs) xs o o 0
none_sent_at xs e o = subst (λ (rs : List Record). Sends (length rs) rs o o 0) (sym e) (sends_none 0 o)

pub sent_next : (q r : ℕ) (xs ys : List Record) (o o₁ y : List ℕ) → Sends (length xs) xs o o₁ q → Sends (length ys) ys (rest q o₁) y r
    → Sends (length (xs ++ ys)) (xs ++ ys) o (restored q o₁ y) (q + r)
sent_next q r xs ys o o₁ y a b =
    subst (λ (m : ℕ). Sends m (xs ++ ys) o (restored q o₁ y) (q + r)) (sym (length-append xs ys)) (sends_next (length xs) (length ys) q r xs ys o o₁ y a b)

-- ---- all of them

module _ (f : ℕ → Option Record) (low : ℕ) (o : List ℕ) where
  pub walk_start : Sends (length (gather f (above low low))) (gather f (above low low)) o o 0
  walk_start = none_sent_at (gather f (above low low)) (none_above f low low (λ j over most. absurd (omega arith))) o

  module _ (i q : ℕ) (o₁ : List ℕ) (l : low ≤ i) (a : Sends (length (gather f (above low i))) (gather f (above low i)) o o₁ q) where
    -- Room for one more.
    pub walk_room : (y high : ℕ) → i < y → y ≤ high → length (gather f (above i y)) ≡ 1 → most_retransmission * length (gather f (above low high)) ≤ length o
        → most_retransmission ≤ length (rest q o₁)
    walk_room y high h most one room =
        let long = rest_length q o₁ in
        omega (arith, a.most, a.size, long, one, more_count f low i high l (omega arith), more_count f i y high (omega arith) most)

    pub walk_again : (y r : ℕ) (z : List ℕ) → i < y → Sends (length (gather f (above i y))) (gather f (above i y)) (rest q o₁) z r
        → Sends (length (gather f (above low y))) (gather f (above low y)) o (restored q o₁ z) (q + r)
    walk_again y r z h d =
        subst (λ (rs : List Record). Sends (length rs) rs o (restored q o₁ z) (q + r)) (sym (more_above f low i y l (omega arith)))
        (sent_next q r (gather f (above low i)) (gather f (above i y)) o o₁ z a d)

    pub walk_end : (high : ℕ) → i - low ≤ high - low → high ≤ i → Sends (length (gather f (above low high))) (gather f (above low high)) o o₁ q
    unfolding above
    walk_end high most h = subst (λ (m : ℕ). Sends (length (gather f (after low m))) (gather f (after low m)) o o₁ q) (omega arith) a

    -- None of those left is there.
    walk_cut : (high : ℕ) → i < high → gather f (above i high) ≡ [] → Sends (length (gather f (above low high))) (gather f (above low high)) o o₁ q
    walk_cut high h none =
        let same : gather f (above low i) ≡ gather f (above low high) =
        sym (append-nil (gather f (above low i))) ∙ ap (λ (rs : List Record). gather f (above low i) ++ rs) (sym none) ∙ sym (more_above f low i high l (omega arith)) in
        subst (λ (rs : List Record). Sends (length rs) rs o o₁ q) same a

-- One record, as it is sent.
one_sent : (xs ys : List Record) (r : ℕ) (o o₁ : List ℕ) → ys ≡ xs → length xs ≡ 1 → Sends 1 xs o o₁ r → Sends (length ys) ys o o₁ r
one_sent xs ys r o o₁ same one d =
    subst (λ (rs : List Record). Sends (length rs) rs o o₁ r) (sym same) (subst (λ (m : ℕ). Sends m xs o o₁ r) (sym one) d)

-- ---- the next position

module _ (b : List ℕ) (me low high i : ℕ) (s : PositionsIn low high b) (l : low ≤ i) (h : i < high) where
  one_green : greens_of me i (i + 1) b ≡ one_of (at_position me b (i + 1))
  unfolding one_of
  one_green = one_above (at_position me b) i (i + 1) (omega arith)

  one_there : length (one_of (at_position me b (i + 1))) ≡ 1
  unfolding at_position one_of resent at_front
  one_there = rw (position_there b s.queue (i + 1) (omega (arith, s.unwhite)) (omega (arith, s.green))) refl

  pub position_in : PositionsIn (i + 1 - 1) (i + 1) b
  position_in = record { queue = s.queue; unwhite = omega (arith, s.unwhite); green = omega (arith, s.green) }

  module _ (q : ℕ) (o o₁ : List ℕ) (a : Sends (length (greens_of me low i b)) (greens_of me low i b) o o₁ q) where
    pub position_room : most_retransmission * length (greens_of me low high b) ≤ length o → most_retransmission ≤ length (rest q o₁)
    position_room room =
        walk_room (at_position me b) low o i q o₁ l a (i + 1) high (omega arith) (omega arith) (ap length one_green ∙ one_there) room

    pub position_again : (r : ℕ) (y : List ℕ) → Sends 1 (one_of (at_position me b (i + 1))) (rest q o₁) y r
        → Sends (length (greens_of me low (i + 1) b)) (greens_of me low (i + 1) b) o (restored q o₁ y) (q + r)
    position_again r y d =
        walk_again (at_position me b) low o i q o₁ l a (i + 1) r y (omega arith)
        (one_sent (one_of (at_position me b (i + 1))) (greens_of me i (i + 1) b) r (rest q o₁) y one_green one_there d)

-- ---- a creator's next action

one_resent : (me position k : ℕ) (a : Action) (l : List Action) → at l k ≡ some a → length (one_of (from_place me position l k)) ≡ 1
unfolding from_place one_of resent at_front
one_resent me position k a l e = rw e refl

none_reds : (me c i m : ℕ) (l : List Action) → NoneOver c i m l → Nothing (as_red me l c) i m
unfolding as_red resent
none_reds me c i m l h p over most = rw (none_found c i m p l h over most) refl

red_at : (me c y k : ℕ) (l : List Action) → find (id_of c y) l ≡ at l k → one_of (as_red me l c y) ≡ one_of (from_place me 0 l k)
unfolding as_red from_place
red_at me c y k l e = ap (λ (x : Option Action). one_of (resent me 0 x)) e

module _ (b : List ℕ) (s : HoldsSome b) (c i : ℕ) where
  held : queue (log_in b) ≡ queue_in b
  unfolding queue_in log_in
  held = sym (queue_read (decoded b) b (such_decoded _ b s))

  empty : (m : ℕ) → NoneOver c i m (queue (log_in b)) → (me : ℕ) → reds_of me c i m b ≡ []
  empty m h me = none_above (as_red me (queue_in b) c) i m (none_reds me c i m (queue_in b) (subst (NoneOver c i m) held h))

  pub none_left : (m : ℕ) → NextFrom 0 c i None b → (me : ℕ) → reds_of me c i m b ≡ []
  none_left m next = empty m (none_next b s 0 c i m next)

  module _ (k x : ℕ) (next : NextAt (queue_count b) 0 c i k b) (read : x ≡ (id_in b k).index) where
    pub short_left : (m : ℕ) → m < x → (me : ℕ) → reds_of me c i m b ≡ []
    short_left m less = empty m (none_before b s 0 c i m k next (omega arith))

    there : at (queue_in b) k ≡ some (action_at b (place the_queue b + slot_size * k))
    unfolding log_in
    there = ap (λ (l : List Action). at l k) (sym held) ∙ read_at (decoded b) b (such_decoded _ b s) k next.high

    -- It is found by its id.
    found : find (id_of c x) (queue_in b) ≡ at (queue_in b) k
    unfolding id_of log_in
    found =
        let a : Action = action_at b (place the_queue b + slot_size * k) in
        let r = such_decoded _ b s in
        let once : Once (queue_in b) = subst Once held (queue_once (decoded b) b r) in
        let id : id_in b k ≡ a.id = read_id (decoded b) b r k a (read_at (decoded b) b r k next.high) in
        let named : id_of c x ≡ a.id = (λ j. id_of (sym next.creator j) (read j)) ∙ id in
        find_at (id_of c x) (queue_in b) ∙ ap (λ (d : Id). at (queue_in b) (position d (queue_in b))) named ∙ ap (at (queue_in b)) (position_at_lem (queue_in b) once k a there)

    over : i < x
    over = next_over b 0 c i k x read next

    the_next : (me : ℕ) → reds_of me c i x b ≡ one_of (from_place me 0 (queue_in b) k)
    unfolding one_of
    the_next me =
        let f : ℕ → Option Record = as_red me (queue_in b) c in
        let whole : x - 1 + 1 ≡ x = omega (arith, over) in
        more_above f i (x - 1) x (omega (arith, over)) (omega arith)
        ∙ ap (λ (rs : List Record). rs ++ reds_of me c (x - 1) x b) (empty (x - 1) (none_before b s 0 c i (x - 1) k next (omega (arith, over, read))) me)
        ∙ one_above f (x - 1) x (omega (arith, over))
        ∙ ap (λ (z : ℕ). one_of (f z)) whole
        ∙ red_at me c x k (queue_in b) found

    pub is_next : (m : ℕ) → x ≤ m → IsNextRed c i m b (record { place = k; index = x })
    is_next m most = record { there = next.high; over = over; most = most; alone = the_next }

-- ---- one of the creator's actions behind another

module _ (b : List ℕ) (me c low high i q : ℕ) (o o₁ : List ℕ) (l : low ≤ i) (a : Sends (length (reds_of me c low i b)) (reds_of me c low i b) o o₁ q) where
  pub reds_cut : i < high → ((m : ℕ) → reds_of m c i high b ≡ []) → Sends (length (reds_of me c low high b)) (reds_of me c low high b) o o₁ q
  reds_cut h none = walk_cut (as_red me (queue_in b) c) low o i q o₁ l a high h (none me)

  module _ (x : Red) (n : IsNextRed c i high b x) where
    one_red : length (one_of (from_place me 0 (queue_in b) x.place)) ≡ 1
    unfolding queue_in
    one_red = one_resent me 0 x.place _ (queue_in b) (actions_at_lem (queue_count b) b (place the_queue b) x.place n.there)

    pub red_room : most_retransmission * length (reds_of me c low high b) ≤ length o → most_retransmission ≤ length (rest q o₁)
    red_room room =
        walk_room (as_red me (queue_in b) c) low o i q o₁ l a x.index high n.over n.most (ap length (n.alone me) ∙ one_red) room

    again : (r : ℕ) (y : List ℕ) → Sends 1 (one_of (from_place me 0 (queue_in b) x.place)) (rest q o₁) y r
        → Sends (length (reds_of me c low x.index b)) (reds_of me c low x.index b) o (restored q o₁ y) (q + r)
    again r y d =
        walk_again (as_red me (queue_in b) c) low o i q o₁ l a x.index r y n.over
        (one_sent (one_of (from_place me 0 (queue_in b) x.place)) (reds_of me c i x.index b) r (rest q o₁) y (n.alone me) one_red d)

    pub red_again : (j : ℕ) → j ≡ x.index → (r : ℕ) (y : List ℕ) → Sends 1 (one_of (from_place me 0 (queue_in b) x.place)) (rest q o₁) y r
        → Sends (length (reds_of me c low j b)) (reds_of me c low j b) o (restored q o₁ y) (q + r)
    red_again j same r y d =
        subst (λ (k : ℕ). Sends (length (reds_of me c low k b)) (reds_of me c low k b) o (restored q o₁ y) (q + r)) (sym same) (again r y d)
