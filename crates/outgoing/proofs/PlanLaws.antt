-- The parts of the plan: what a buffer says of its queue, and whose part is what.
use Prim.Native.Nat.{ℕ, zero, suc, ◌+◌, ◌*◌, ◌≤◌, ◌<◌, max, min}
use mathlib.Core.Path.{◌≡◌, refl, sym, ap, ap₂, subst, ◌∙◌}
use mathlib.Core.Bool.{Bool, true, false}
use mathlib.Core.List.{List, [], ◌∷◌, ◌++◌, append-nil}
use mathlib.Core.Option.{none}
use native.Mathlib.Omega.{arith}
use native.Mathlib.Decide.{dec_lt}
use lib.ListN.{length, length-append}
use Rattle.base.specs.Bytes.{number_at, over}
use Rattle.base.proofs.Comparable.{gather_all_append}
use Rattle.base.specs.Lists.{gather, gather_all, above, below}
use Rattle.base.specs.Tests.{pick}
use Rattle.format.specs.Limits.{most_number_limit}
use Rattle.format.specs.Types.{Record}
use Rattle.record.specs.Values.{id_of}
use Rattle.replication.specs.Machine.Types.{Server}
use Rattle.replication.specs.Machine.Colours.{places_of}
use Rattle.replication.specs.Machine.Plan.{missing, highest, cut_in, green_in, resent, resend_green, resend_red, own_part}
use Rattle.replication.specs.Machine.Step.{collected}
use Rattle.replication.specs.Machine.WellFormed.{queue}
use Rattle.replication.proofs.Step.PartHeld.{part_held}
use Rattle.replication.proofs.WellFormed.Changes.{Body, body, collected_fit_lem}
use Rattle.replication.proofs.WellFormed.Decisions.{cut_bound}
use Rattle.replication.proofs.WellFormed.Facts.{well_formed_facts}
use Rattle.image.specs.Header.{shown_log}
use Rattle.image.specs.Layout.{out_length, at_servers, at_me}
use Rattle.image.specs.Decode.{decoded_as, servers_in, quota_in, decoded, greens_in, white_in}
use Rattle.image.specs.Holding.{Holds, HoldsSuch, HoldsSome}
use Rattle.image.proofs.InPlace.{holds_decoded, holds_some}
use Rattle.image.proofs.InRange.{in_range}
use Rattle.queue.proofs.ReadLaws.{holds_queue, queue_read}
use Rattle.outgoing.specs.Lent.{LentSuch}
use Rattle.exchange.specs.Plan.{part_of}
use Rattle.exchange.specs.declared.plan.Part.{Part}
use Rattle.exchange.specs.declared.plan.Share.{Share}
use Rattle.exchange.specs.declared.plan.Share.TheVariants.{Own, Others}
use Rattle.outgoing.specs.Resending.{queue_in, at_position, as_red, greens_of, reds_of, Sends, Stated, PositionsIn, green_part}
use Rattle.outgoing.specs.Resending.{red_part, red_parts, whole_part}
use Rattle.outgoing.proofs.GatherLaws.{without_first, without_last}
use Rattle.outgoing.proofs.ResendingLaws.{rest, restored, rest_length, position_white, position_past}
use Rattle.outgoing.proofs.WalkLaws.{none_sent_at, sent_next}
use Rattle.format.specs.Places.{most_retransmission}
use Rattle.format.specs.Write.{record_bytes}
use Rattle.image.specs.Counts.{most_actions}
use Rattle.image.proofs.Counts.{numbers, holds_counts, queue_parts}

-- ---- a buffer that holds a state

module _ (s : Server) (b : List ℕ) (r : Holds s b) where
  holds_stated : Stated b
  holds_stated = record { holds = subst (λ (t : Server). Holds t b) (sym (holds_decoded s b r)) r; queue = holds_queue s b r }

-- ---- whose part is what

same_sent : (r : ℕ) (xs ys : List Record) (o o₁ : List ℕ) → xs ≡ ys → Sends (length xs) xs o o₁ r → Sends (length ys) ys o o₁ r
same_sent r xs ys o o₁ e s = subst (λ (l : List Record). Sends (length l) l o o₁ r) e s

same_room : (xs ys : List Record) (o : List ℕ) → xs ≡ ys → most_retransmission * length ys ≤ length o → most_retransmission * length xs ≤ length o
same_room xs ys o e h = omega (arith, ap length e)

pub stated_some : (b : List ℕ) → Stated b → HoldsSome b
stated_some b s = holds_some (decoded b) b s.holds

-- ---- by position

pub positions_in : (b : List ℕ) (low high white green l h : ℕ) → Stated b → white ≡ white_in b → green ≡ length (greens_in b) → l ≡ max low white
    → h ≡ min high green → PositionsIn l h b
positions_in b low high white green l h s w g e f = record { queue = s.queue; unwhite = omega arith; green = omega arith }

-- White ones and those past the green list may be left out.
module _ (b : List ℕ) (s : Stated b) (me low high : ℕ) where
  abbrev first : ℕ
  first = max low (white_in b)

  abbrev last : ℕ
  last = min high (length (greens_in b))

  white_none : (p : ℕ) → low < p → p ≤ first → at_position me b p ≡ none
  unfolding at_position resent
  white_none p over most = ap (resent me p) (position_white b s.queue p (omega arith))

  past_none : (p : ℕ) → last < p → p ≤ high → at_position me b p ≡ none
  unfolding at_position resent
  past_none p over most = ap (resent me p) (position_past b s.queue p (omega arith))

  positions_held : greens_of me first last b ≡ greens_of me low high b
  positions_held =
      sym (without_first (at_position me b) low first high (omega arith) white_none ∙ without_last (at_position me b) first last high (omega arith) past_none)

-- What is sent of a part: nothing of another's.
abbrev sent_of : (Part → List Record) → Share → List Record
sent_of f (Own p) = f p
sent_of f (Others p) = []

sent_by : (f : Part → List Record) (t : Bool) (p : Part) → sent_of f (pick t (Own p) (Others p)) ≡ pick t (f p) []
unfolding pick
sent_by f true p = refl
sent_by f false p = refl

abbrev high_of : Share → ℕ
high_of (Own p) = p.high
high_of (Others p) = p.high

high_is : (t : Bool) (p q : Part) → pick t (Own p) (Others p) ≡ Own q → q.high ≡ p.high
unfolding pick
high_is true p q e = sym (ap high_of e)
high_is false p q e = sym (ap high_of e)

module _ (b : List ℕ) (x : Share) (s : Stated b) (e : (t : Server) → Holds t b → x ≡ part_of green_in t.me (collected t)) where
  greens : x ≡ part_of green_in (decoded b).me (collected (decoded b))
  greens = e (decoded b) s.holds

  green_is : (me : ℕ) → me ≡ number_at 1 b at_me → sent_of (λ p. greens_of me p.low p.high b) x ≡ green_part b
  unfolding green_part resend_green missing part_of at_position decoded decoded_as
  green_is me m =
      ap₂ {A = ℕ} {B = Share} {C = List Record} (λ k y. sent_of (λ p. greens_of k p.low p.high b) y) m greens ∙ sent_by _ _ _

  pub green_none : (me : ℕ) (p : Part) (o : List ℕ) → me ≡ number_at 1 b at_me → x ≡ Others p → Sends (length (green_part b)) (green_part b) o o 0
  green_none me p o m t =
      none_sent_at (green_part b) (sym (green_is me m) ∙ ap (sent_of (λ q. greens_of me q.low q.high b)) t) o

  module _ (me white green l h : ℕ) (p : Part) (m : me ≡ number_at 1 b at_me) (t : x ≡ Own p) (w : white ≡ white_in b) (n : green ≡ length (greens_in b))
      (f : l ≡ max p.low white) (g : h ≡ min p.high green) where
    green_whole : greens_of me l h b ≡ green_part b
    green_whole =
        (λ i. greens_of me (f i) (g i) b)
        ∙ (λ i. greens_of me (max p.low (w i)) (min p.high (n i)) b)
        ∙ positions_held b s me p.low p.high
        ∙ sym (ap (sent_of (λ p. greens_of me p.low p.high b)) t)
        ∙ green_is me m

    pub green_room : (o : List ℕ) → most_retransmission * length (green_part b) ≤ length o → most_retransmission * length (greens_of me l h b) ≤ length o
    green_room o k = same_room (greens_of me l h b) (green_part b) o green_whole k

    pub green_sent : (r : ℕ) (o o₁ : List ℕ) → Sends (length (greens_of me l h b)) (greens_of me l h b) o o₁ r
        → Sends (length (green_part b)) (green_part b) o o₁ r
    green_sent r o o₁ a = same_sent r (greens_of me l h b) (green_part b) o o₁ green_whole a

-- ---- by index

pub stated_creator : (b : List ℕ) (c : ℕ) → Stated b → c < servers_in b → HoldsSuch (λ s. c < s.servers) b
unfolding decoded decoded_as servers_in quota_in
stated_creator b c s h = record { state = decoded b; holds = s.holds; fact = h }

module _ (b : List ℕ) (c : ℕ) (x : Share) (e : (t : Server) → Holds t b → x ≡ part_of (cut_in c) t.me (collected t)) (s : Stated b) where
  reds : x ≡ part_of (cut_in c) (decoded b).me (collected (decoded b))
  reds = e (decoded b) s.holds

  facts : Body (decoded b).white (decoded b)
  facts = body (decoded b) (well_formed_facts (decoded b) s.holds.formed)

  pub red_high : (p : Part) → x ≡ Own p → p.high ≤ most_number_limit
  unfolding part_of
  red_high p t =
      let same : p.high ≡ highest (cut_in c) (collected (decoded b)) = high_is _ _ p (sym reds ∙ t) in
      omega (arith, same, cut_bound (decoded b).servers (decoded b).quota c (collected (decoded b)) (collected_fit_lem (decoded b) facts))

  held : queue (shown_log (decoded b)) ≡ queue_in b
  unfolding queue_in
  held = sym (queue_read (decoded b) b s.holds)

  red_is : (me : ℕ) → me ≡ number_at 1 b at_me → sent_of (λ p. reds_of me c p.low p.high b) x ≡ red_part b c
  unfolding red_part resend_red places_of missing part_of as_red id_of queue white_in decoded decoded_as
  red_is me m =
      (λ i. sent_of (λ p. gather (as_red (m i) (sym held i) c) (above p.low p.high)) (reds i)) ∙ sent_by _ _ _

  pub red_none : (me : ℕ) (p : Part) (o : List ℕ) → me ≡ number_at 1 b at_me → x ≡ Others p → Sends (length (red_part b c)) (red_part b c) o o 0
  red_none me p o m t =
      none_sent_at (red_part b c) (sym (red_is me m) ∙ ap (sent_of (λ q. reds_of me c q.low q.high b)) t) o

  module _ (me : ℕ) (p : Part) (m : me ≡ number_at 1 b at_me) (t : x ≡ Own p) where
    red_whole : reds_of me c p.low p.high b ≡ red_part b c
    red_whole = sym (ap (sent_of (λ p. reds_of me c p.low p.high b)) t) ∙ red_is me m

    pub part_room : (o : List ℕ) → most_retransmission * length (red_part b c) ≤ length o
        → most_retransmission * length (reds_of me c p.low p.high b) ≤ length o
    part_room o l = same_room (reds_of me c p.low p.high b) (red_part b c) o red_whole l

    pub red_sent : (r : ℕ) (o o₁ : List ℕ) → Sends (length (reds_of me c p.low p.high b)) (reds_of me c p.low p.high b) o o₁ r
        → Sends (length (red_part b c)) (red_part b c) o o₁ r
    red_sent r o o₁ a = same_sent r (reds_of me c p.low p.high b) (red_part b c) o o₁ red_whole a

-- ---- every creator

pub reds_start : (b o : List ℕ) → Sends (length (red_parts b 0)) (red_parts b 0) o o 0
unfolding red_parts gather_all below
reds_start b o = none_sent_at (red_parts b 0) refl o

pub reds_creator : (b : List ℕ) (c n : ℕ) → n ≡ number_at 1 b at_servers → c < n → c < servers_in b
unfolding servers_in
reds_creator b c n e h = omega arith

below_more : (m : ℕ) → below m ++ (m ∷ []) ≡ below (m + 1)
unfolding below
below_more m = let e : m + 1 ≡ suc m = omega arith in ap below (sym e)

parts_more : (b : List ℕ) (c : ℕ) → red_parts b c ++ red_part b c ≡ red_parts b (c + 1)
unfolding red_parts gather_all
parts_more b c =
    ap (λ (y : List Record). red_parts b c ++ y) (sym (append-nil (red_part b c)))
    ∙ sym (gather_all_append (red_part b) (below c) (c ∷ []))
    ∙ ap (λ (y : List ℕ). gather_all (red_part b) y) (below_more c)

more_count : (b : List ℕ) (c : ℕ) → length (red_parts b (c + 1)) ≡ length (red_parts b c) + length (red_part b c)
more_count b c = ap length (sym (parts_more b c)) ∙ length-append (red_parts b c) (red_part b c)

parts_count : (b : List ℕ) (c n : ℕ) → c ≤ n → length (red_parts b c) ≤ length (red_parts b n)
parts_count b c zero h = let e : c ≡ 0 = omega arith in omega (arith, ap (λ (m : ℕ). length (red_parts b m)) e)
parts_count b c (suc n) h = go (dec_lt c (suc n)) (λ l. parts_count b c n l)
  where
    next : n + 1 ≡ suc n
    next = omega arith

    go : Dec (c < suc n) → (c ≤ n → length (red_parts b c) ≤ length (red_parts b n)) → length (red_parts b c) ≤ length (red_parts b (suc n))
    go (yes l) less = omega (arith, less (omega arith), more_count b n, ap (λ (m : ℕ). length (red_parts b m)) next)
    go (no l) less = let e : c ≡ suc n = omega arith in omega (arith, ap (λ (m : ℕ). length (red_parts b m)) e)

module _ (b : List ℕ) (c j : ℕ) (o o₁ : List ℕ) (a : Sends (length (red_parts b c)) (red_parts b c) o o₁ j) where
  pub reds_room : (n : ℕ) → n ≡ number_at 1 b at_servers → c < n → most_retransmission * length (red_parts b (servers_in b)) ≤ length o
      → most_retransmission * length (red_part b c) ≤ length (rest j o₁)
  reds_room n e h l =
      let long = rest_length j o₁ in
      omega (arith, a.most, a.size, long, more_count b c, parts_count b (c + 1) (servers_in b) (omega (arith, reds_creator b c n e h)))

  pub reds_again : (r : ℕ) (y : List ℕ) → Sends (length (red_part b c)) (red_part b c) (rest j o₁) y r
      → Sends (length (red_parts b (c + 1))) (red_parts b (c + 1)) o (restored j o₁ y) (j + r)
  reds_again r y d =
      same_sent (j + r) (red_parts b c ++ red_part b c) (red_parts b (c + 1)) o (restored j o₁ y) (parts_more b c)
      (sent_next j r (red_parts b c) (red_part b c) o o₁ y a d)

  pub reds_end : (n : ℕ) → n ≡ number_at 1 b at_servers → c ≤ n → n ≤ c → Sends (length (red_parts b (servers_in b))) (red_parts b (servers_in b)) o o₁ j
  unfolding servers_in
  reds_end n e h l = subst (λ (m : ℕ). Sends (length (red_parts b m)) (red_parts b m) o o₁ j) (omega arith) a

-- ---- the whole

whole_count : (b : List ℕ) → length (whole_part b) ≡ length (green_part b) + length (red_parts b (servers_in b))
unfolding whole_part
whole_count b = length-append (green_part b) (red_parts b (servers_in b))

pub green_first : (b o : List ℕ) → most_retransmission * length (whole_part b) ≤ length o → most_retransmission * length (green_part b) ≤ length o
green_first b o h = omega (arith, whole_count b)

pub reds_behind : (b : List ℕ) (i : ℕ) (o o₁ : List ℕ) → most_retransmission * length (whole_part b) ≤ length o
    → Sends (length (green_part b)) (green_part b) o o₁ i → most_retransmission * length (red_parts b (servers_in b)) ≤ length (rest i o₁)
reds_behind b i o o₁ h a = let long = rest_length i o₁ in omega (arith, whole_count b, a.most, a.size, long)

pub plan_sent : (b : List ℕ) (i r : ℕ) (o o₁ y : List ℕ) → Sends (length (green_part b)) (green_part b) o o₁ i
    → Sends (length (red_parts b (servers_in b))) (red_parts b (servers_in b)) (rest i o₁) y r
    → Sends (length (whole_part b)) (whole_part b) o (restored i o₁ y) (i + r)
unfolding whole_part
plan_sent b i r o o₁ y a d = sent_next i r (green_part b) (red_parts b (servers_in b)) o o₁ y a d

whole : (b : List ℕ) → whole_part b ≡ own_part (decoded b).servers (decoded b).me (decoded b).white (decoded b).log (collected (decoded b))
unfolding whole_part green_part red_part red_parts own_part white_in decoded decoded_as
whole b = refl

pub lent_stated : (P : Server → Type 0) (b o : List ℕ) → LentSuch P b o → Stated b
lent_stated P b o l = holds_stated l.state b l.holds

-- Each action that is held is sent at most once by its position and once by its index, however many are planned.
whole_held : (b : List ℕ) → Stated b → length (whole_part b) ≤ 2 * most_actions b
unfolding places_of queue
whole_held b s =
    let t : Server = decoded b in
    let m = numbers t b s.holds in
    omega (
      arith,
      ap length (whole b),
      part_held t.servers t.me t.white t.log (collected t),
      (in_range t s.holds.formed).queue_count,
      queue_parts (shown_log t),
      ap₂ {A = ℕ} {B = ℕ} {C = ℕ} (λ n q. n * q) m.servers m.quota,
    )

pub plan_room : (P : Server → Type 0) (b o : List ℕ) → LentSuch P b o → most_retransmission * length (whole_part b) ≤ length o
unfolding out_length
plan_room P b o l =
    let m = numbers l.state b l.holds in
    let all : 2 * most_retransmission * most_actions b ≤ length o =
    subst (λ (k : ℕ). 2 * most_retransmission * k ≤ length o) (λ i. sym m.servers i * sym m.quota i) l.room in
    omega (arith, whole_held b (lent_stated P b o l))

pub part_fits : (P : Server → Type 0) (b : List ℕ) (r : ℕ) (o o₁ : List ℕ) → LentSuch P b o
    → Sends (length (whole_part b)) (whole_part b) o o₁ r → r < 4294967296
part_fits P b r o o₁ l a = omega (arith, (holds_counts l.state b l.holds).most, a.most, whole_held b (lent_stated P b o l))

module _ (b : List ℕ) (r : ℕ) (o o₁ : List ℕ) (a : Sends (length (whole_part b)) (whole_part b) o o₁ r) (s : Server) (h : Holds s b) where
  own : whole_part b ≡ own_part s.servers s.me s.white s.log (collected s)
  own = whole b ∙ ap (λ (t : Server). own_part t.servers t.me t.white t.log (collected t)) (holds_decoded s b h)

  pub part_length : r ≡ length (record_bytes (own_part s.servers s.me s.white s.log (collected s)))
  part_length = omega (arith, a.count, ap (λ (xs : List Record). length (record_bytes xs)) own)

  pub part_bytes : o₁ ≡ over (record_bytes (own_part s.servers s.me s.white s.log (collected s))) o
  part_bytes = a.bytes ∙ ap (λ (xs : List Record). over (record_bytes xs) o) own
