-- Whoever answers for the primary component that it knows last has all that can still be known of it, one place further.
use Prim.Native.Nat.{ℕ, suc, ◌<◌}
use mathlib.Core.Path.{◌≡◌, refl, sym, ap, subst, ◌∙◌}
use mathlib.Core.Bool.{true, false}
use mathlib.Core.List.{List, []}
use mathlib.Core.Logic.{inr}
use native.Mathlib.Omega.{arith}
use Rattle.base.specs.Tests.{◌=?◌, pick}
use Rattle.base.proofs.TestLaws.{not_both, eq_yes}
use Rattle.base.specs.Sets.{in_set}
use Rattle.format.specs.Types.{Id, regular, says}
use Rattle.replication.specs.Machine.Types.{Mode, Trans_prim, Exchange_actions, No, Configuration, Server}
use Rattle.replication.specs.Machine.Requests.{recovered}
use Rattle.replication.specs.Machine.Step.{unmarked, yellow_valid}
use Rattle.replication.specs.Machine.WellFormed.{ids_in}
use Rattle.replication.specs.Laws.Modes as M
use Rattle.replication.specs.Laws.Order.{in_exchange}
use Rattle.replication.specs.Runs.Run.{Run}
use Rattle.replication.specs.Runs.Happenings.{Takes}
use Rattle.replication.proofs.Runs.Roomy.{Roomy as Allowed}
use Rattle.replication.proofs.Runs.AllowedTurns.{memory_at, store_at, Acts}
use Rattle.replication.proofs.Runs.Modes.{standing, standing_in}
use Rattle.replication.proofs.Agreement.Terms.{Image, in_memory, in_store, Within, EndsAt, InstallsAt, installed, ExchangeFacts}
use Rattle.replication.proofs.Agreement.Votes.Turns.{ends_at, last_at}
use Rattle.replication.proofs.Agreement.Votes.Judging.{Alike}
use Rattle.replication.proofs.Agreement.Votes.Unique.{unique_install}
use Rattle.replication.proofs.Agreement.Greens.Beginnings.{Prefix, prefix_trans, prefix_to, prefix_from, comparable_beginnings}
use Rattle.replication.proofs.Agreement.Greens.Terms.{greens, plus, valid_yellow, mark_of_install, residue, Answers, by_yellow, by_attempt, by_mark, answers_raised, answers_lowered}
use Rattle.replication.proofs.Agreement.Greens.Parts.{Parts}
use Rattle.replication.proofs.Agreement.Greens.Invariant.{UpTo}
use Rattle.replication.proofs.Agreement.Greens.Residues.{residue_shrinks, residue_reach}
use Rattle.replication.proofs.Agreement.Greens.Comparing.{residue_comparable}
use Rattle.replication.proofs.Agreement.Greens.Taking.{agreeable, took_begins, same_install_next}
use Rattle.replication.proofs.Agreement.Greens.Steps as S
use Rattle.replication.proofs.Agreement.Greens.Steps.{GreenStep, green_step}
use Rattle.replication.proofs.Agreement.Greens.Images.{ImageStep, kept, fallen, restored, acted, image_step, configured_within}
use Rattle.replication.proofs.Agreement.Greens.Reaching.{recovered_greens}
use Rattle.replication.proofs.Agreement.Greens.Earlier.{Earlier, earlier, earlier_residue}
use Rattle.replication.proofs.Agreement.Greens.Bases.{grown}
use Rattle.replication.proofs.Agreement.Greens.Covering.{answers_in}
use Rattle.replication.proofs.Agreement.Greens.Silence.{install_mark, silent}

-- What an image has, green and valid yellow.
abbrev pub known_list : Server → List Id
known_list u = plus (greens u) (valid_yellow u)

pub same_known : (u v : Server) → u.log.green ≡ v.log.green → u.votes.yellow ≡ v.votes.yellow → known_list u ≡ known_list v
unfolding valid_yellow
same_known u v e f = λ z. plus (ids_in (e z)) (pick ((f z).status =? 1) (f z).ids [])

pub all_valid : (ids : List Id) → pick (1 =? 1) ids [] ≡ ids
unfolding pick
all_valid ids = rw (eq_yes 1 1 refl)

idle : {m : Mode} → m ≡ Exchange_actions → M.attempting m ≡ false
unfolding M.attempting
idle e = ap M.attempting e

busy : {m : Mode} → m ≡ No → M.attempting m ≡ true
unfolding M.attempting
busy e = ap M.attempting e

pub takes_of : {n q : ℕ} {l : Run} {t s : ℕ} {c : Configuration} (y : Acts n q l t s) → y.by.event ≡ regular c.id c.set → Takes n q l t s c
takes_of y r = record { bytes = y.bytes; sent = y.sent; here = y.here; heard = y.heard ∙ ap says r }

module _ {n q : ℕ} {l : Run} (A : Allowed n q l) (X : ExchangeFacts n q l) where
  -- All Installs of a primary component have like marks.
  pub like_marks : {p r i j : ℕ} {c d : Configuration} (x : InstallsAt n q l p i c) (y : InstallsAt n q l r j d)
      → (installed n q l y).index ≡ (installed n q l x).index
      → Alike (mark_of_install A x) (mark_of_install A y)
  like_marks x y e =
      let a = install_mark A x in
      let b = install_mark A y in
      let f = (unique_install A X y x e).1 in
      record {
        status = b.status;
        index = omega (arith, a.index, b.index, e);
        attempt = sym b.attempt ∙ ap (λ z. z.attempt) f ∙ a.attempt;
        set = sym b.set ∙ ap (λ z. z.set) f ∙ a.set;
      }

  alike_through : {p r i j : ℕ} {c d : Configuration} (x : InstallsAt n q l p i c) (y : InstallsAt n q l r j d)
      → (installed n q l y).index ≡ (installed n q l x).index
      → (u : Server) → Alike (mark_of_install A y) u.votes.mark → Alike (mark_of_install A x) u.votes.mark
  alike_through x y e u h =
      let k = like_marks x y e in
      record { status = h.status; index = h.index ∙ k.index; attempt = h.attempt ∙ k.attempt; set = h.set ∙ k.set }

  pub answers_same : {p i r s : ℕ} {c : Configuration} {u : Server} (x : InstallsAt n q l p i c) → Answers A x s u → (z : Earlier A x r)
      → Answers A z.install s u
  answers_same x (by_yellow h) z = by_yellow h
  answers_same x (by_attempt h) z = by_attempt h
  answers_same {u = u} x (by_mark m f) z = by_mark m (λ h. f (alike_through x z.install z.index u h))

  module _ (P : Parts A) {t : ℕ} (U : UpTo A t) where
    -- At the end of an exchange.
    abbrev pub ExchangeCovers : Type 0
    ExchangeCovers =
        (p i s d : ℕ) (c e : Configuration) (x : InstallsAt n q l p i c) → p < suc t → EndsAt n q l t s e → in_exchange (memory_at n q l t s).membership.mode ≡ true
        → (last_at n q l (suc t) s).index ≡ (installed n q l x).index
        → Answers A x s (memory_at n q l (suc t) s) → in_set d c.set ≡ true → Prefix (residue A x (suc t) d) (known_list (memory_at n q l (suc t) s))

    module _ {p i : ℕ} {c : Configuration} (x : InstallsAt n q l p i c) (h : p < suc t) (d : ℕ) (m : in_set d c.set ≡ true) where
      before : {s : ℕ} {u : Server} → Image n q l t s u → u.votes.last.index ≡ (installed n q l x).index → Answers A x s u
          → Prefix (residue A x (suc t) d) (known_list u)
      before {s} {u} y e a = answers_in A X P U d x h (omega arith) y e (answers_same x a) m

      -- A retransmission made green.
      growing : {s : ℕ} (y : Acts n q l t s) → (memory_at n q l t s).membership.mode ≡ Exchange_actions → y.after.votes ≡ (memory_at n q l t s).votes
          → y.after.votes.last.index ≡ (installed n q l x).index → Answers A x s (memory_at n q l t s)
          → Prefix (residue A x (suc t) d) (known_list y.after)
      unfolding valid_yellow
      growing {s} y k v e a =
          let u = memory_at n q l t s in
          let f = ap (λ z. z.last.index) (sym v) ∙ e in
          let w : Image n q l t s u = in_memory y.up in
          let g = standing_in u Exchange_actions k (standing n q l s t).memory in
          let o : Within n q l t s g.configuration = configured_within A y.up g.there in
          let all : (b j : ℕ) → Takes n q l b j g.configuration → b < t = λ b j z. P.contents.all_took t s b j g.configuration o k z in
          let b = P.contents.resent_from t s g.configuration (agreeable A X P g.configuration (U t (omega arith)) all) o k y in
          let st : Image n q l t b.0 (store_at n q l t b.0) = in_store in
          let z = earlier A X P U x h (omega arith) w f in
          let r : Prefix (residue A x (suc t) d) (residue A z.install t d) = prefix_to (residue_shrinks A x t (suc t) d (omega arith)) (earlier_residue A x z t d) in
          prefix_to
          (P.lists.growth (residue A x (suc t) d) (greens u) (greens y.after) (valid_yellow u) (before w f a) (grown y)
          (comparable_beginnings r
          (prefix_from (ap greens (sym y.memory_next)) (prefix_trans b.3 (took_begins A b.2 (all b.1 b.0 b.2))))
          (residue_comparable A X P (U t (omega arith)) d z.install z.before m st)))
          (ap (λ z. plus (greens y.after) (pick (z.yellow.status =? 1) z.yellow.ids [])) (sym v))

      -- Leaving the primary component from Trans_prim.
      leaving : {s : ℕ} {e : Configuration} (y : Acts n q l t s) → Takes n q l t s e → (memory_at n q l t s).membership.mode ≡ Trans_prim
          → (last_at n q l t s).index ≡ (installed n q l x).index
          → Prefix (residue A x (suc t) d) (plus (greens (memory_at n q l t s)) (memory_at n q l t s).votes.yellow.ids)
      leaving {s} {e} y k o f = go (P.primaries.in_primary_lem t s g.configuration w (inr o))
        where
          u : Server
          u = memory_at n q l t s

          g : M.InTransitional u.membership.configuration u.membership.transitional
          g = standing_in u Trans_prim o (standing n q l s t).memory

          w : Within n q l t s g.configuration
          w = configured_within A y.up g.there

          same : (b : Configuration) → c ≡ b → Within n q l t s b → (r : ℕ) → r < t → InstallsAt n q l r s b
              → Prefix (residue A x (suc t) d) (plus (greens u) u.votes.yellow.ids)
          same b v =
              subst (λ b. Within n q l t s b → (r : ℕ) → r < t → InstallsAt n q l r s b → Prefix (residue A x (suc t) d) (plus (greens u) u.votes.yellow.ids)) v
              (λ w r a z.
              let k' = same_install_next A X P U p r i s c x z h (omega arith) in
              prefix_trans (residue_reach A x (suc t) d) (P.primaries.leaves_with_all t p r i s d c e x z a k w o k'.0 k'.1 m))

          go : (r : ℕ) × (r < t) × (z : InstallsAt n q l r s g.configuration) × (installed n q l z ≡ u.votes.last)
              → Prefix (residue A x (suc t) d) (plus (greens u) u.votes.yellow.ids)
          go (r, a, z, v) = same g.configuration (unique_install A X x z (sym (ap (λ b. b.index) v ∙ f))).0 w r a z

      acting : ExchangeCovers → {s : ℕ} (y : Acts n q l t s) → GreenStep (memory_at n q l t s) y.by.event y.after y.by.records y.stores
          → y.after.votes.last.index ≡ (installed n q l x).index → Answers A x s y.after → Prefix (residue A x (suc t) d) (known_list y.after)
      unfolding unmarked yellow_valid valid_yellow pick
      acting E {s} y (S.steady g v k) e a =
          prefix_to (before (in_memory y.up) (ap (λ z. z.last.index) (sym v) ∙ e) (unchanged a))
          (sym (same_known y.after (memory_at n q l t s) g (ap (λ z. z.yellow) v)))
        where
          unchanged : Answers A x s y.after → Answers A x s (memory_at n q l t s)
          unchanged (by_yellow f) = by_yellow (ap (λ z. z.yellow.status) (sym v) ∙ f)
          unchanged (by_attempt f) = by_attempt (k f)
          unchanged (by_mark o f) = by_mark o (λ b. f (subst (λ z. Alike (mark_of_install A x) z.mark) (sym v) b))
      acting E {s} y (S.delivers k b v o) e a = absurd (silent A X y b x e a)
      acting E {s} y (S.exchanges k b v) e a = growing y k v e (unchanged a)
        where
          unchanged : Answers A x s y.after → Answers A x s (memory_at n q l t s)
          unchanged (by_yellow f) = by_yellow (ap (λ z. z.yellow.status) (sym v) ∙ f)
          unchanged (by_attempt f) = not_both (sym (idle b) ∙ f)
          unchanged (by_mark o f) = by_mark o (λ b. f (subst (λ z. Alike (mark_of_install A x) z.mark) (sym v) b))
      acting E {s} y (S.ends b j) e a =
          let z = ends_at A _ _ y b j in
          prefix_to
          (E p i s d c z.0 x h z.1 j.exchanging (ap (λ w. w.votes.last.index) y.memory_next ∙ e) (subst (λ w. Answers A x s w) (sym y.memory_next) (answers_raised A x y.white a)) m)
          (ap known_list y.memory_next)
      acting E {s} y (S.installs k b o j) e a = absurd (silent A X y o x e a)
      acting E {s} y (S.unmarks k b g v) e a =
          prefix_to (before (in_memory y.up) (ap (λ z. z.last.index) (sym v) ∙ e) (by_attempt (busy k)))
          (sym (same_known y.after (memory_at n q l t s) (ap (λ z. z.green) g) (ap (λ z. z.yellow) v)))
      acting E {s} y (S.makes_valid o r k b g v) e a =
          prefix_to (leaving y (takes_of y r) k (ap (λ z. z.last.index) (sym v) ∙ e))
          (sym (ap (λ z. plus (ids_in z.green) (valid_yellow y.after)) g ∙ ap (λ z. plus (greens (memory_at n q l t s)) (pick (z.yellow.status =? 1) z.yellow.ids [])) v
          ∙ ap (λ z. plus (greens (memory_at n q l t s)) z) (all_valid (memory_at n q l t s).votes.yellow.ids)))

      pub answers_after : ExchangeCovers → (s : ℕ) (u : Server) → Image n q l (suc t) s u → u.votes.last.index ≡ (installed n q l x).index → Answers A x s u
          → Prefix (residue A x (suc t) d) (known_list u)
      unfolding recovered valid_yellow M.attempting
      answers_after E s u y e a = go (image_step A y)
        where
          w : Server
          w = store_at n q l t s

          stored : Image n q l t s w
          stored = in_store

          restoring : Answers A x s (recovered w) → Answers A x s w
          restoring (by_yellow f) = by_yellow f
          restoring (by_attempt f) = not_both f
          restoring (by_mark o f) = by_mark o f

          go : ImageStep n q l t s u → Prefix (residue A x (suc t) d) (known_list u)
          go (kept z f) = before z e a
          go (fallen f g) =
              prefix_to (before stored (ap (λ z. z.votes.last.index) (sym g) ∙ e) (subst (λ z. Answers A x s z) g a)) (ap known_list (sym g))
          go (restored f k g) =
              prefix_to (before stored (ap (λ z. z.votes.last.index) (sym g) ∙ e) (restoring (answers_lowered A x k (subst (λ z. Answers A x s z) g a))))
              (ap (λ z. plus z (valid_yellow w)) (sym (recovered_greens A w)) ∙ ap known_list (sym g))
          go (acted z g) =
              prefix_to
              (acting E z (green_step (memory_at n q l t s) z.moves) (ap (λ w. w.votes.last.index) (sym g) ∙ e) (answers_lowered A x z.white (subst (λ z. Answers A x s z) g a)))
              (ap known_list (sym g))
