-- The vector clocks of a table: each row knows what its server knew after its earlier rows, and what the sender of the message it delivers knew.
use Prim.Native.Nat.{ℕ, zero, suc, ◌+◌, ◌≤◌, ◌<◌}
use mathlib.Core.Path.{◌≡◌, refl, sym, ap, subst, ◌∙◌}
use mathlib.Core.List.{List, [], ◌∷◌}
use mathlib.Core.Option.{Option, none, some}
use native.Mathlib.Omega.{arith}
use lib.ListN.{length, take, drop, get_or}
use Rattle.base.specs.Tests.{◌=?◌}
use Rattle.base.proofs.TestLaws.{Known, holds, fails, known, eq_holds, eq_fails}
use Rattle.base.specs.Lists.{at, upd}
use Rattle.base.proofs.AtLaws.{upd_here, upd_elsewhere, none_some, some_same}
use Rattle.base.proofs.QuantifierLaws.{at_drop}
use Rattle.replication.specs.Audit.Table.{delivers, Row}
use Rattle.replication.specs.Audit.Clocks.{join_clocks, raise, Stamp, Stamps, number_of, clock_with, learnt, stamp_for, with_stamp, stamps_through, no_stamps, stamps}

-- ---- clocks

-- What is known by a is known by b.
abbrev pub Below : List ℕ → List ℕ → Type 0
Below a b = (j : ℕ) → get_or a j 0 ≤ get_or b j 0

pub below_trans : (a b c : List ℕ) → Below a b → Below b c → Below a c
below_trans a b c h k j = omega (arith, h j, k j)

pub join_left : (xs ys : List ℕ) → Below xs (join_clocks xs ys)
unfolding join_clocks
join_left [] ys j = omega arith
join_left (x ∷ xs) [] j = omega arith
join_left (x ∷ xs) (y ∷ ys) zero = omega arith
join_left (x ∷ xs) (y ∷ ys) (suc j) = join_left xs ys j

pub join_right : (xs ys : List ℕ) → Below ys (join_clocks xs ys)
unfolding join_clocks
join_right [] ys j = omega arith
join_right (x ∷ xs) [] j = omega arith
join_right (x ∷ xs) (y ∷ ys) zero = omega arith
join_right (x ∷ xs) (y ∷ ys) (suc j) = join_right xs ys j

pub raise_below : (i v : ℕ) (xs : List ℕ) → Below xs (raise i v xs)
unfolding raise
raise_below zero v [] j = omega arith
raise_below zero v (x ∷ xs) zero = omega arith
raise_below zero v (x ∷ xs) (suc j) = omega arith
raise_below (suc i) v [] j = omega arith
raise_below (suc i) v (x ∷ xs) zero = omega arith
raise_below (suc i) v (x ∷ xs) (suc j) = raise_below i v xs j

pub raise_at : (i v : ℕ) (xs : List ℕ) → v ≤ get_or (raise i v xs) i 0
unfolding raise
raise_at zero v [] = omega arith
raise_at zero v (x ∷ xs) = omega arith
raise_at (suc i) v [] = raise_at i v []
raise_at (suc i) v (x ∷ xs) = raise_at i v xs

pub raise_more : (i v u : ℕ) (xs : List ℕ) → v ≤ u → Below (raise i v xs) (raise i u xs)
unfolding raise
raise_more zero v u [] h zero = omega arith
raise_more zero v u [] h (suc j) = omega arith
raise_more zero v u (x ∷ xs) h zero = omega arith
raise_more zero v u (x ∷ xs) h (suc j) = omega arith
raise_more (suc i) v u [] h zero = omega arith
raise_more (suc i) v u [] h (suc j) = raise_more i v u [] h j
raise_more (suc i) v u (x ∷ xs) h zero = omega arith
raise_more (suc i) v u (x ∷ xs) h (suc j) = raise_more i v u xs h j

-- ---- the walk

stamped : Stamps → Row → Stamps
stamped s r = with_stamp s r (stamp_for s r)

through_split : (m : ℕ) (s : Stamps) (rs : List Row) → stamps_through s rs ≡ stamps_through (stamps_through s (take m rs)) (drop m rs)
unfolding stamps_through
through_split zero s rs = refl
through_split (suc m) s [] = refl
through_split (suc m) s (r ∷ rs) = through_split m (with_stamp s r (stamp_for s r)) rs

through_next : (s : Stamps) (rs : List Row) (p : ℕ) (r : Row) → at rs p ≡ some r
    → stamps_through s (take (suc p) rs) ≡ stamped (stamps_through s (take p rs)) r
unfolding stamps_through stamped at
through_next s [] p r e = none_some e
through_next s (y ∷ rs) zero r e = ap (λ z. with_stamp s z (stamp_for s z)) (some_same e)
through_next s (y ∷ rs) (suc p) r e = through_next (with_stamp s y (stamp_for s y)) rs p r e

through_past : (s : Stamps) (rs : List Row) (p : ℕ) → at rs p ≡ none → stamps_through s (take (suc p) rs) ≡ stamps_through s (take p rs)
unfolding stamps_through at
through_past s [] zero e = refl
through_past s [] (suc p) e = refl
through_past s (y ∷ rs) zero e = none_some (sym e)
through_past s (y ∷ rs) (suc p) e = through_past (with_stamp s y (stamp_for s y)) rs p e

-- Rows of other places leave a place's stamp.
stamp_kept : (s : Stamps) (rs : List Row) (x : ℕ) → ((k : ℕ) (r : Row) → at rs k ≡ some r → x ≡ r.place → ⊥) → (stamps_through s rs).stamp x ≡ s.stamp x
unfolding stamps_through with_stamp at
stamp_kept s [] x h = refl
stamp_kept s (r ∷ rs) x h =
    stamp_kept (with_stamp s r (stamp_for s r)) rs x (λ k y e. h (suc k) y e) ∙ upd_elsewhere s.stamp r.place (stamp_for s r) x (h 0 r refl)

module _ (rs : List Row) (ordered : (p : ℕ) (r : Row) → at rs p ≡ some r → r.place ≡ p) where
  -- The stamps before the place p.
  until : ℕ → Stamps
  until p = stamps_through no_stamps (take p rs)

  -- A place's stamp is the same later.
  stamp_lasts : (s m : ℕ) → s < m → (stamps rs).stamp s ≡ (until m).stamp s
  unfolding stamps until
  stamp_lasts s m less =
      ap (λ (z : Stamps). z.stamp s) (through_split m no_stamps rs)
      ∙ stamp_kept (stamps_through no_stamps (take m rs)) (drop m rs) s
      (λ k r e same. let place : r.place ≡ m + k = ordered (m + k) r (sym (at_drop m rs k) ∙ e) in omega arith)

  stamp_is : (p : ℕ) (r : Row) → at rs p ≡ some r → (stamps rs).stamp p ≡ stamp_for (until p) r
  unfolding until stamped with_stamp
  stamp_is p r e =
      stamp_lasts p (suc p) (omega arith)
      ∙ ap (λ (z : Stamps). z.stamp p) (through_next no_stamps rs p r e)
      ∙ subst (λ x. upd (until p).stamp x (stamp_for (until p) r) p ≡ stamp_for (until p) r) (sym (ordered p r e)) (upd_here (until p).stamp p (stamp_for (until p) r))

  -- What a server knows after its row r at p.
  abbrev after : ℕ → Row → List ℕ
  after p r = raise r.server (((stamps rs).stamp p).first + length r.sent) ((stamps rs).stamp p).clock

  -- What a server knows is not lost.
  latest_after : (m : ℕ) (y : Row) (i : ℕ) → at rs m ≡ some y → Below ((until m).latest i) ((stamped (until m) y).latest i)
  unfolding stamped with_stamp stamp_for
  latest_after m y i e = go (known (i =? y.server))
    where
      t : Stamp
      t = stamp_for (until m) y

      new : List ℕ
      new = raise y.server ((until m).count + length y.sent) t.clock

      go : Known (i =? y.server) → Below ((until m).latest i) (upd (until m).latest y.server new i)
      go (holds h) =
          let same : i ≡ y.server = eq_holds i y.server h in
          subst (λ z. Below ((until m).latest i) z) (sym (ap (upd (until m).latest y.server new) same ∙ upd_here (until m).latest y.server new))
          (below_trans ((until m).latest i) t.clock new
          (subst (λ k. Below ((until m).latest k) t.clock) (sym same) (join_left ((until m).latest y.server) (learnt (until m) y.role y.source)))
          (raise_below y.server ((until m).count + length y.sent) t.clock))
      go (fails h) =
          subst (λ z. Below ((until m).latest i) z) (sym (upd_elsewhere (until m).latest y.server new i (eq_fails i y.server h))) (λ j. omega arith)

  latest_grows : (m i : ℕ) → Below ((until m).latest i) ((until (suc m)).latest i)
  unfolding until
  latest_grows m i = go (at rs m) refl
    where
      go : (o : Option Row) → at rs m ≡ o → Below ((until m).latest i) ((until (suc m)).latest i)
      go none e = subst (λ (z : Stamps). Below ((until m).latest i) (z.latest i)) (sym (through_past no_stamps rs m e)) (λ j. omega arith)
      go (some y) e = subst (λ (z : Stamps). Below ((until m).latest i) (z.latest i)) (sym (through_next no_stamps rs m y e)) (latest_after m y i e)

  latest_here : (p : ℕ) (r : Row) → at rs p ≡ some r → after p r ≡ (until (suc p)).latest r.server
  unfolding until stamped with_stamp stamp_for
  latest_here p r e =
      ap (λ (z : Stamp). raise r.server (z.first + length r.sent) z.clock) (stamp_is p r e)
      ∙ sym (upd_here (until p).latest r.server (raise r.server ((until p).count + length r.sent) (stamp_for (until p) r).clock))
      ∙ ap (λ (z : Stamps). z.latest r.server) (sym (through_next no_stamps rs p r e))

  latest_knows : (m p : ℕ) (r : Row) → p < m → at rs p ≡ some r → Below (after p r) ((until m).latest r.server)
  latest_knows zero p r less e = absurd (omega arith)
  latest_knows (suc m) p r less e = go (known (p =? m)) (λ h. latest_knows m p r h e)
    where
      go : Known (p =? m) → (p < m → Below (after p r) ((until m).latest r.server)) → Below (after p r) ((until (suc m)).latest r.server)
      go (holds h) before =
          subst (λ k. Below (after p r) ((until (suc k)).latest r.server)) (eq_holds p m h)
          (subst (λ z. Below (after p r) z) (latest_here p r e) (λ j. omega arith))
      go (fails h) before =
          below_trans (after p r) ((until m).latest r.server) ((until (suc m)).latest r.server) (before (omega (arith, eq_fails p m h)))
          (latest_grows m r.server)

  -- ---- the two laws

  -- A server's later row knows all that it knew, and all that it sent, before.
  pub knows_own : (p r : ℕ) (x y : Row) → p < r → at rs p ≡ some x → at rs r ≡ some y → x.server ≡ y.server
      → Below (raise x.server (((stamps rs).stamp p).first + length x.sent) ((stamps rs).stamp p).clock) ((stamps rs).stamp r).clock
  unfolding stamp_for
  knows_own p r x y less e f same =
      subst (λ (z : Stamp). Below (after p x) z.clock) (sym (stamp_is r y f))
      (below_trans (after p x) ((until r).latest y.server) (stamp_for (until r) y).clock
      (subst (λ i. Below (after p x) ((until r).latest i)) same (latest_knows r p x less e))
      (join_left ((until r).latest y.server) (learnt (until r) y.role y.source)))

  -- A delivery knows all that the message's sender knew, and the message.
  pub knows_delivered : (p : ℕ) (r : Row) → at rs p ≡ some r → r.role ≡ delivers → r.source.sending < p
      → Below (clock_with (stamps rs) r.source) ((stamps rs).stamp p).clock
  unfolding stamp_for learnt clock_with number_of
  knows_delivered p r e h less =
      let s : ℕ = r.source.sending in
      let told : learnt (until p) r.role r.source ≡ clock_with (stamps rs) r.source =
      ap (λ o. learnt (until p) o r.source) h
      ∙ ap (λ (z : Stamp). raise z.server (suc (z.first + r.source.number)) z.clock) (sym (stamp_lasts s p less)) in
      subst (λ (z : Stamp). Below (clock_with (stamps rs) r.source) z.clock) (sym (stamp_is p r e))
      (subst (λ z. Below z (stamp_for (until p) r).clock) told (join_right ((until p).latest r.server) (learnt (until p) r.role r.source)))

  pub stamp_server : (p : ℕ) (r : Row) → at rs p ≡ some r → ((stamps rs).stamp p).server ≡ r.server
  unfolding stamp_for
  stamp_server p r e = ap (λ (z : Stamp). z.server) (stamp_is p r e)
