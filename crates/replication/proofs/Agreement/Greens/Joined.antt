-- A bit of a mark is of a member of which the image has all that can be known, one place further.
use Prim.Native.Nat.{ℕ, suc, ◌≤◌, ◌<◌}
use mathlib.Core.Path.{◌≡◌, refl, sym, ap, subst, ◌∙◌}
use mathlib.Core.Bool.{true}
use mathlib.Core.List.{List, [], ◌∷◌, Memᴰ}
use mathlib.Core.Logic.{◌⊎◌, inl, inr}
use native.Mathlib.Omega.{arith}
use Rattle.base.specs.Lists.{filter}
use Rattle.base.proofs.Members.{filter_from}
use Rattle.base.specs.Sets.{in_set, union, with_member}
use Rattle.base.proofs.SetLaws.{in_empty, in_union, in_with_member}
use Rattle.base.specs.Tests.{◌or◌, ◌=?◌}
use Rattle.base.proofs.TestLaws.{and_holds, eq_holds, not_both, Known, holds, fails}
use Rattle.base.proofs.TestLaws as T
use Rattle.format.specs.Types.{Mark, State}
use Rattle.replication.specs.Machine.Types.{Configuration, Server, cleared_mark, with_white}
use Rattle.replication.specs.Machine.Exchange.{alike, is_marked, same_attempt_of, join_bits, joined_bits, judged_mark, kept_mark}
use Rattle.replication.specs.Machine.Requests.{recovered}
use Rattle.replication.specs.Machine.Step.{collected, unmarked, yellow_valid}
use Rattle.replication.specs.Laws.Order.{in_exchange}
use Rattle.replication.specs.Runs.Run.{Run}
use Rattle.replication.specs.Runs.Happenings.{Takes, Falls}
use Rattle.replication.proofs.Runs.Roomy.{Roomy as Allowed}
use Rattle.replication.proofs.Runs.AllowedTurns.{memory_at, store_at, Acts}
use Rattle.replication.proofs.Runs.ControlPart.{store_below, store_grows_between}
use Rattle.replication.proofs.Runs.Entries.{had}
use Rattle.replication.proofs.Agreement.Terms.{Image, in_memory, in_store, Within, EndsAt, InstallsAt, installed, ExchangeFacts}
use Rattle.replication.proofs.Agreement.Votes.Turns.{ends_at, votes_at, Decides, with_quorum_lem, without_quorum_lem, ended, ended_last}
use Rattle.replication.proofs.Agreement.Votes.Events.{taken_before}
use Rattle.replication.proofs.Agreement.Votes.Judging.{Alike, Judged, cleared, kept, judged?}
use Rattle.replication.proofs.Agreement.Votes.Collected.{StateOf, own_state_lem, own_mark_judged}
use Rattle.replication.proofs.Agreement.Votes.Marks.{taken_mark, marking_mark, installed_attempted}
use Rattle.replication.proofs.Agreement.Votes.Phases.{installs_attempt}
use Rattle.replication.proofs.Agreement.Votes.Present.{covered_index}
use Rattle.replication.proofs.Agreement.Votes.Rising.{index_rises}
use Rattle.replication.proofs.Agreement.Greens.Beginnings.{Prefix, prefix_refl, prefix_trans, prefix_to}
use Rattle.replication.proofs.Agreement.Greens.Terms as G
use Rattle.replication.proofs.Agreement.Greens.Terms.{greens, base_of, reach, mark_of_install, nothing_more, fell}
use Rattle.replication.proofs.Agreement.Greens.Parts.{Parts}
use Rattle.replication.proofs.Agreement.Greens.Invariant.{UpTo}
use Rattle.replication.proofs.Agreement.Greens.Taking.{grows_greens}
use Rattle.replication.proofs.Agreement.Greens.Steps as S
use Rattle.replication.proofs.Agreement.Greens.Steps.{GreenStep, green_step}
use Rattle.replication.proofs.Agreement.Greens.Images as M
use Rattle.replication.proofs.Agreement.Greens.Images.{ImageStep, image_step}
use Rattle.replication.proofs.Agreement.Greens.Reaching.{recovered_greens}
use Rattle.replication.proofs.Agreement.Greens.Bases.{grown}
use Rattle.replication.proofs.Agreement.Greens.Gathered.{Sender, sender}
use Rattle.replication.proofs.Agreement.Greens.Leaving.{like_marked, Departed, with_none, by_fall, departed, kept_alike}

-- ---- which State a joined bit is from

pub alike_marks : (v w : State) → alike v w ≡ true → Alike v.mark w.mark
unfolding alike is_marked same_attempt_of
alike_marks v w h =
    let a = and_holds _ _ h in
    let b = and_holds _ _ a.1 in
    let c = and_holds _ _ b.0 in
    record { status = eq_holds _ _ a.0; index = eq_holds _ _ c.0; attempt = eq_holds _ _ c.1; set = eq_holds _ _ b.1 }

-- The server d is in the bits of w, or its sender.
abbrev pub Brings : State → ℕ → Type 0
Brings w d = (in_set d w.mark.bits ≡ true) ⊎ (d ≡ w.sender)

joins_from : (d : ℕ) (ws : List State) (bits : ℕ) → in_set d (join_bits ws bits) ≡ true → (in_set d bits ≡ true) ⊎ ((w : State) × Memᴰ w ws × Brings w d)
unfolding join_bits ◌or◌
joins_from d [] bits h = inl h
joins_from d (w ∷ ws) bits h = go (joins_from d ws (with_member w.sender (union bits w.mark.bits)) h)
  where
    here : Known (in_set d bits) → Known (in_set d w.mark.bits) → ((in_set d bits or in_set d w.mark.bits) or d =? w.sender) ≡ true
        → (in_set d bits ≡ true) ⊎ ((v : State) × Memᴰ v (w ∷ ws) × Brings v d)
    here (holds a) b e = inl a
    here (fails a) (holds b) e = inr (w, Memᴰ.head refl, inl b)
    here (fails a) (fails b) e =
        let f : (d =? w.sender) ≡ true = sym (ap (λ z. (z or in_set d w.mark.bits) or d =? w.sender) a ∙ ap (λ z. z or d =? w.sender) b) ∙ e in
        inr (w, Memᴰ.head refl, inr (eq_holds _ _ f))

    go : (in_set d (with_member w.sender (union bits w.mark.bits)) ≡ true) ⊎ ((v : State) × Memᴰ v ws × Brings v d)
        → (in_set d bits ≡ true) ⊎ ((v : State) × Memᴰ v (w ∷ ws) × Brings v d)
    go (inl e) =
        here (T.known (in_set d bits)) (T.known (in_set d w.mark.bits))
        (ap (λ z. z or d =? w.sender) (sym (in_union d bits w.mark.bits)) ∙ sym (in_with_member d w.sender (union bits w.mark.bits)) ∙ e)
    go (inr r) = inr (r.0, Memᴰ.tail r.1, r.2)

pub joined_from : (d : ℕ) (xs : List State) (v : State) (m : Mark) → Memᴰ v xs → Alike m v.mark → in_set d (joined_bits xs v) ≡ true
    → (w : State) × Memᴰ w xs × Alike m w.mark × Brings w d
unfolding joined_bits
joined_from d xs v m a h e = go (joins_from d (filter (alike v) xs) v.mark.bits e)
  where
    go : (in_set d v.mark.bits ≡ true) ⊎ ((w : State) × Memᴰ w (filter (alike v) xs) × Brings w d)
        → (w : State) × Memᴰ w xs × Alike m w.mark × Brings w d
    go (inl f) = (v, a, h, inl f)
    go (inr r) =
        let k = filter_from (alike v) r.0 xs r.1 in
        let o = alike_marks v r.0 k.1 in
        (r.0, k.0, record { status = o.status; index = o.index ∙ h.index; attempt = o.attempt ∙ h.attempt; set = o.set ∙ h.set }, r.2)

module _ {n q : ℕ} {l : Run} (A : Allowed n q l) (X : ExchangeFacts n q l) (P : Parts A) {p i : ℕ} {c : Configuration} (x : InstallsAt n q l p i c) where
  -- What one image has another has that goes further.
  known_further : {r t d : ℕ} {u v : Server} → r ≤ t → u.votes.last.index ≤ v.votes.last.index → Prefix (greens u) (greens v) → G.Known A x r d u
      → G.Known A x t d v
  known_further h k b (nothing_more e) = nothing_more e
  known_further h k b (fell y o f w a g) = fell y (omega arith) f w (omega arith) (prefix_trans g b)

  -- A server that has the mark, and took another configuration since, itself has what can be known of it.
  departed_known : (e d : ℕ) {o : Configuration} → Takes n q l e d o → Alike (mark_of_install A x) (votes_at n q l (suc e) d).mark
      → G.Known A x (suc e) d (memory_at n q l (suc e) d)
  departed_known e d {o} k h = go (departed A X x P (suc e) d h out)
    where
      u : Server
      u = memory_at n q l (suc e) d

      out : Within n q l (suc e) d c → ⊥
      out w =
          let m = like_marked A X x (suc e) d h in
          let y = had n q l (suc e) d c w.here in
          let z = taken_before A y.took (ap (λ z. z.regular) m.2.ending.here) in
          y.alone e o (omega (arith, z, m.1)) (omega arith) k

      installer : (y : ℕ) → y ≤ e → (s : ℕ) × (s < y) × InstallsAt n q l s d c → (installed n q l x).index ≤ u.votes.last.index
      installer y b (s, a, z) =
          omega (arith, index_rises A d (suc s) (suc e) (omega arith), ap (λ v. v.votes.last.index) z.acts.memory_next, same_index z)
        where
          same_index : {s : ℕ} (z : InstallsAt n q l s d c) → (installed n q l z).index ≡ (installed n q l x).index
          same_index z =
              let m = (installs_attempt A x).marking in
              ap (λ v. v.index) (installed_attempted A X z m ∙ sym (installed_attempted A X x m))

      fallen : (y : ℕ) → y < suc e → Falls n q l y d → Within n q l y d c → ((s : ℕ) × (s < y) × InstallsAt n q l s d c) ⊎ (reach A x d ≡ base_of A x)
          → G.Known A x (suc e) d u
      fallen y b f w (inl z) =
          fell y b f w (installer y (omega arith) z)
          (prefix_trans (grows_greens (store_at n q l y d) (store_at n q l (suc e) d) (store_grows_between n q l d y (suc e) (omega arith)))
          (grows_greens (store_at n q l (suc e) d) u (store_below n q l d (suc e))))
      fallen y b f w (inr z) = nothing_more z

      go : Departed A X x (suc e) d → G.Known A x (suc e) d u
      go (with_none z) = nothing_more z
      go (by_fall y b f w) = fallen y b f w (P.primaries.falls_after y p i d c x f w)

  module _ {t : ℕ} (U : UpTo A t) where
    -- A joined bit, at the end of an exchange.
    pub joined_known : (d : ℕ) {s : ℕ} {e : Configuration} (y : EndsAt n q l t s e) → in_exchange (memory_at n q l t s).membership.mode ≡ true
        → (v : State) → Memᴰ v (collected y.judged) → Alike (mark_of_install A x) v.mark
        → in_set d (joined_bits (collected y.judged) v) ≡ true → G.Known A x (suc t) d (memory_at n q l (suc t) s)
    joined_known d {s} {e} y o v a h b = go (joined_from d (collected y.judged) v (mark_of_install A x) a h b)
      where
        go : (w : State) × Memᴰ w (collected y.judged) × Alike (mark_of_install A x) w.mark × Brings w d
            → G.Known A x (suc t) d (memory_at n q l (suc t) s)
        go (w, m, k, r) = brought r
          where
            z : Sender A t e (greens (memory_at n q l (suc t) s)) w
            z = sender A X P U y o w m

            u : Server
            u = memory_at n q l (suc z.it.took_at) z.server

            further : G.Known A x (suc z.it.took_at) d u → G.Known A x (suc t) d (memory_at n q l (suc t) s)
            further g =
                known_further (omega (arith, z.it.earlier))
                (omega (arith, covered_index m, ap (λ a. a.index) z.it.last, ap (λ a. a.index) (ended_last y))) z.begins g

            marked : Alike (mark_of_install A x) u.votes.mark
            marked = subst (λ o. Alike (mark_of_install A x) o) z.it.mark k

            brought : Brings w d → G.Known A x (suc t) d (memory_at n q l (suc t) s)
            brought (inl f) =
                further ((U (suc z.it.took_at) z.it.earlier).bits p i z.server d c u x z.image marked (ap (λ o. in_set d o.bits) (sym z.it.mark) ∙ f))
            brought (inr f) =
                let g : z.server ≡ d = sym z.it.sender ∙ sym f in
                further
                (subst (λ j. Takes n q l z.it.took_at j e → Alike (mark_of_install A x) (votes_at n q l (suc z.it.took_at) j).mark
                → G.Known A x (suc z.it.took_at) d (memory_at n q l (suc z.it.took_at) j)) (sym g) (λ a b. departed_known z.it.took_at d a b) z.it.took marked)

    acting : (d : ℕ) {s : ℕ} (y : Acts n q l t s) → GreenStep (memory_at n q l t s) y.by.event y.after y.by.records y.stores
        → Alike (mark_of_install A x) y.after.votes.mark → in_set d y.after.votes.mark.bits ≡ true → G.Known A x (suc t) d y.after
    unfolding unmarked yellow_valid cleared_mark kept_mark
    acting d {s} y g h b = go g
      where
        u : Server
        u = memory_at n q l t s

        same : y.after.votes.mark ≡ u.votes.mark → u.votes.last.index ≤ y.after.votes.last.index → G.Known A x (suc t) d y.after
        same e k =
            known_further (omega arith) k (grown y)
            ((U t (omega arith)).bits p i s d c u x (in_memory y.up) (subst (λ o. Alike (mark_of_install A x) o) e h) (ap (λ o. in_set d o.bits) (sym e) ∙ b))

        ending : {e : Configuration} (z : EndsAt n q l t s e) → in_exchange (memory_at n q l t s).membership.mode ≡ true
            → Decides n q l t s e (collected z.judged) → G.Known A x (suc t) d (memory_at n q l (suc t) s)
        ending {e} z j (with_quorum_lem a v m o) =
            let k = marking_mark (record { ending = z; has_quorum = a }) in
            not_both (sym (ap (λ o. in_set d o.bits) k ∙ in_empty d) ∙ ap (λ w. in_set d w.votes.mark.bits) y.memory_next ∙ b)
        ending {e} z j (without_quorum_lem a v m) = judging (judged? (collected z.judged) own.0)
          where
            own : (s' : State) × Memᴰ s' (collected z.judged) × StateOf n q l t s e s'
            own = own_state_lem A X z

            mark_now : y.after.votes.mark ≡ judged_mark (collected z.judged) own.0
            mark_now =
                ap (λ w. w.votes.mark) (sym y.memory_next) ∙ taken_mark s (collected z.judged) v ∙ own_mark_judged A X z own.0 own.1 own.2

            judging : Judged (collected z.judged) own.0 → G.Known A x (suc t) d (memory_at n q l (suc t) s)
            judging (cleared f) = absurd (omega (arith, ap (λ o. o.status) (mark_now ∙ f), h.status))
            judging (kept a f) =
                joined_known d z j own.0 own.1 (kept_alike own.0 _ _ (mark_now ∙ f) h) (ap (λ o. in_set d o.bits) (sym (mark_now ∙ f)) ∙ b)

        go : GreenStep u y.by.event y.after y.by.records y.stores → G.Known A x (suc t) d y.after
        go (S.steady a v k) = same (ap (λ z. z.mark) v) (omega (arith, ap (λ z. z.last.index) v))
        go (S.delivers a o v m) = same m (omega (arith, ap (λ z. z.index) v))
        go (S.exchanges a o v) = same (ap (λ z. z.mark) v) (omega (arith, ap (λ z. z.last.index) v))
        go (S.ends o j) =
            let z = ends_at A _ _ y o j in
            G.known_lowered A x y.white (subst (λ w. G.Known A x (suc t) d w) y.memory_next (ending z.1 j.exchanging (ended z.1)))
        go (S.installs k o a j) = same j.mark (omega (arith, j.index))
        go (S.unmarks a o f v) = absurd (omega (arith, ap (λ z. z.mark.status) v, h.status))
        go (S.makes_valid a r o f g' v) = absurd (omega (arith, ap (λ z. z.mark.status) v, h.status))

    pub bits_after : (s d : ℕ) (u : Server) → Image n q l (suc t) s u → Alike (mark_of_install A x) u.votes.mark → in_set d u.votes.mark.bits ≡ true
        → G.Known A x (suc t) d u
    unfolding recovered
    bits_after s d u y h b = go (image_step A y)
      where
        w : Server
        w = store_at n q l t s

        stored : Image n q l t s w
        stored = in_store

        from_store : Alike (mark_of_install A x) w.votes.mark → in_set d w.votes.mark.bits ≡ true → G.Known A x t d w
        from_store k o = (U t (omega arith)).bits p i s d c w x stored k o

        go : ImageStep n q l t s u → G.Known A x (suc t) d u
        go (M.kept z f) = known_further (omega arith) (omega arith) prefix_refl ((U t (omega arith)).bits p i s d c u x z h b)
        go (M.fallen f g) =
            subst (λ z. G.Known A x (suc t) d z) (sym g)
            (known_further (omega arith) (omega arith) prefix_refl
            (from_store (subst (λ z. Alike (mark_of_install A x) z.votes.mark) g h) (ap (λ z. in_set d z.votes.mark.bits) (sym g) ∙ b)))
        go (M.restored f k g) =
            subst (λ z. G.Known A x (suc t) d z) (sym g)
            (known_further {u = w} {v = with_white k (recovered w)} (omega arith) (omega arith) (prefix_to prefix_refl (sym (recovered_greens A w)))
            (from_store (subst (λ z. Alike (mark_of_install A x) z.votes.mark) g h) (ap (λ z. in_set d z.votes.mark.bits) (sym g) ∙ b)))
        go (M.acted z g) =
            subst (λ v. G.Known A x (suc t) d v) (sym g)
            (G.known_raised A x z.white (acting d z (green_step (memory_at n q l t s) z.moves) (subst (λ v. Alike (mark_of_install A x) v.votes.mark) g h)
            (ap (λ v. in_set d v.votes.mark.bits) (sym g) ∙ b)))
