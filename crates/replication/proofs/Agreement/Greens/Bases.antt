-- Whoever knows a primary component has what was green at its Install, one place further.
use Prim.Native.Nat.{ℕ, suc, ◌≤◌, ◌<◌}
use mathlib.Core.Path.{◌≡◌, sym, ap, subst, ◌∙◌}
use mathlib.Core.Bool.{true}
use native.Mathlib.Omega.{arith}
use Rattle.replication.specs.Machine.Types.{Configuration, Server}
use Rattle.replication.specs.Machine.Exchange.{taken_primary}
use Rattle.replication.specs.Machine.Requests.{recovered}
use Rattle.replication.specs.Machine.Step.{collected, unmarked, yellow_valid}
use Rattle.replication.specs.Laws.Order.{in_exchange}
use Rattle.replication.specs.Runs.Run.{Run}
use Rattle.replication.proofs.Runs.Roomy.{Roomy as Allowed}
use Rattle.replication.proofs.Step.Growth.{transition_grows}
use Rattle.replication.proofs.Runs.AllowedTurns.{memory_at, store_at, Acts}
use Rattle.replication.proofs.Agreement.Terms.{Image, in_memory, in_store, EndsAt, InstallsAt, installed, ExchangeFacts}
use Rattle.replication.proofs.Agreement.Votes.Turns.{ends_at, last_at, ended_last}
use Rattle.replication.proofs.Agreement.Votes.Judging.{taken_from_lem}
use Rattle.replication.proofs.Agreement.Votes.Collected.{own_state_lem, state_from_lem}
use Rattle.replication.proofs.Agreement.Votes.Unique.{unique_install}
use Rattle.replication.proofs.Agreement.Greens.Beginnings.{Prefix, prefix_trans, prefix_to, prefix_from, prefix_same}
use Rattle.replication.proofs.Agreement.Greens.Terms.{greens, base_of}
use Rattle.replication.proofs.Agreement.Greens.Parts.{Parts}
use Rattle.replication.proofs.Agreement.Greens.Invariant.{UpTo}
use Rattle.replication.proofs.Agreement.Greens.Taking.{grows_greens, same_install_next}
use Rattle.replication.proofs.Agreement.Greens.Steps as S
use Rattle.replication.proofs.Agreement.Greens.Steps.{GreenStep, green_step}
use Rattle.replication.proofs.Agreement.Greens.Images.{ImageStep, kept, fallen, restored, acted, image_step}
use Rattle.replication.proofs.Agreement.Greens.Reaching.{installs_here, base_after, recovered_greens}
use Rattle.replication.proofs.Agreement.Greens.Earlier.{taker_image, ending_agreeable, earlier}

pub grown : {n q : ℕ} {l : Run} {t s : ℕ} (x : Acts n q l t s) → Prefix (greens (memory_at n q l t s)) (greens x.after)
grown {n} {q} {l} {t} {s} x = grows_greens (memory_at n q l t s) x.after (transition_grows x.moves)

module _ {n q : ℕ} {l : Run} (A : Allowed n q l) (X : ExchangeFacts n q l) (P : Parts A) {t : ℕ} (U : UpTo A t) where
  -- An image at r, no later than t.
  pub base_in : {p i r s : ℕ} {c : Configuration} {u : Server} (x : InstallsAt n q l p i c) → p < suc t → r ≤ t → Image n q l r s u
      → u.votes.last.index ≡ (installed n q l x).index → Prefix (base_of A x) (greens u)
  base_in {p} {i} {r} {s} {c} {u} x h k y e =
      let z = earlier A X P U x h k y e in
      prefix_from z.base ((U r k).has_base z.place z.server s c u z.install z.before y (e ∙ sym z.index))

  -- Whoever ends an exchange has the base of what is taken.
  pub taken_base : {p i s : ℕ} {c e : Configuration} (x : InstallsAt n q l p i c) → p < suc t → (y : EndsAt n q l t s e)
      → in_exchange (memory_at n q l t s).membership.mode ≡ true
      → (taken_primary (collected y.judged)).index ≡ (installed n q l x).index → Prefix (base_of A x) (greens (memory_at n q l (suc t) s))
  taken_base {p} {i} {s} {c} {e} x h y w f =
      let own = own_state_lem A X y in
      let r = taken_from_lem own.0 (collected y.judged) own.1 in
      let z = state_from_lem A X y r.0 r.1 in
      let g : (last_at n q l (suc z.2.took_at) z.0).index ≡ (installed n q l x).index = ap (λ a. a.index) (sym z.2.last ∙ sym r.2) ∙ f in
      prefix_trans (base_in x h z.2.earlier (taker_image A z.2.took) g)
      (P.contents.ends_longest t s z.2.took_at z.0 e (ending_agreeable A X P U (omega arith) y) y w z.2.took)

  installing_base : {p i s : ℕ} {c d : Configuration} (x : InstallsAt n q l p i c) → p < suc t → c ≡ d → (y : InstallsAt n q l t s d) → base_of A x ≡ base_of A y
  installing_base {p} {i} {s} {c} {d} x h f =
      subst (λ k. (y : InstallsAt n q l t s k) → base_of A x ≡ base_of A y) f (λ y. (same_install_next A X P U p t i s c x y h (omega arith)).0)

  module _ {p i : ℕ} {c : Configuration} (x : InstallsAt n q l p i c) (h : p < suc t) where
    acting : {s : ℕ} (y : Acts n q l t s) → GreenStep (memory_at n q l t s) y.by.event y.after y.by.records y.stores
        → y.after.votes.last.index ≡ (installed n q l x).index → Prefix (base_of A x) (greens y.after)
    unfolding unmarked yellow_valid
    acting {s} y (S.steady g v a) e = prefix_trans (base_in x h (omega arith) (in_memory y.up) (ap (λ z. z.last.index) (sym v) ∙ e)) (grown y)
    acting {s} y (S.delivers a b v m) e = prefix_trans (base_in x h (omega arith) (in_memory y.up) (ap (λ z. z.index) (sym v) ∙ e)) (grown y)
    acting {s} y (S.exchanges a b v) e = prefix_trans (base_in x h (omega arith) (in_memory y.up) (ap (λ z. z.last.index) (sym v) ∙ e)) (grown y)
    acting {s} y (S.ends b j) e =
        let z = ends_at A _ _ y b j in
        prefix_to
        (taken_base x h z.1 j.exchanging (ap (λ w. w.index) (sym (ended_last z.1)) ∙ ap (λ w. w.votes.last.index) y.memory_next ∙ e))
        (ap greens y.memory_next)
    acting {s} y (S.installs k b a j) e =
        let z = installs_here A y k in
        prefix_same
        (installing_base x h (unique_install A X x z.1 (sym e ∙ ap (λ w. w.after.votes.last.index) (sym z.2))).0 z.1 ∙ sym (base_after A z.1)
        ∙ ap (λ w. greens w.after) z.2)
    acting {s} y (S.unmarks a b g v) e = prefix_trans (base_in x h (omega arith) (in_memory y.up) (ap (λ z. z.last.index) (sym v) ∙ e)) (grown y)
    acting {s} y (S.makes_valid d r a b g v) e = prefix_trans (base_in x h (omega arith) (in_memory y.up) (ap (λ z. z.last.index) (sym v) ∙ e)) (grown y)

    pub has_base_after : (s : ℕ) (u : Server) → Image n q l (suc t) s u → u.votes.last.index ≡ (installed n q l x).index → Prefix (base_of A x) (greens u)
    unfolding recovered
    has_base_after s u y e = go (image_step A y)
      where
        stored : Image n q l t s (store_at n q l t s)
        stored = in_store

        go : ImageStep n q l t s u → Prefix (base_of A x) (greens u)
        go (kept z f) = base_in x h (omega arith) z e
        go (fallen f g) = prefix_to (base_in x h (omega arith) stored (ap (λ z. z.votes.last.index) (sym g) ∙ e)) (ap greens (sym g))
        go (restored f k g) =
            prefix_to (base_in x h (omega arith) stored (ap (λ z. z.votes.last.index) (sym g) ∙ e)) (sym (recovered_greens A (store_at n q l t s)) ∙ ap greens (sym g))
        go (acted z g) =
            prefix_to (acting z (green_step (memory_at n q l t s) z.moves) (ap (λ w. w.votes.last.index) (sym g) ∙ e)) (ap greens (sym g))
