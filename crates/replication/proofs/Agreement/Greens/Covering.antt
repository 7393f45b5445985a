-- At an Install all that the installer answers for becomes green: so what can still be known of a primary component is green at the Install of the next.
use Prim.Native.Nat.{ℕ, zero, suc, ◌≤◌, ◌<◌}
use mathlib.Core.Path.{◌≡◌, refl, sym, ap, subst, ◌∙◌}
use mathlib.Core.Bool.{true}
use mathlib.Core.Logic.{◌⊎◌, inl, inr}
use native.Mathlib.Omega.{arith}
use native.Mathlib.Decide.{dec_lt}
use Rattle.base.specs.Lists.{Each}
use Rattle.base.specs.Tests.{◌=?◌, pick}
use Rattle.base.proofs.TestLaws.{eq_fails, Known, holds, fails, known}
use Rattle.base.specs.Sets.{in_set}
use Rattle.replication.specs.Machine.Types.{Construct, Un, Configuration, Server}
use Rattle.replication.specs.Machine.Colours.{cut}
use Rattle.replication.specs.Machine.Install.{install_log}
use Rattle.replication.specs.Machine.WellFormed.{ids_in}
use Rattle.replication.specs.Laws.Modes as M
use Rattle.replication.specs.Laws.Modes.{Attempts, ModeFacts}
use Rattle.replication.specs.Runs.Run.{Run}
use Rattle.replication.proofs.Runs.Roomy.{Roomy as Allowed}
use Rattle.replication.proofs.Runs.AllowedTurns.{memory_at}
use Rattle.replication.proofs.Runs.Modes.{mode_facts_at}
use Rattle.replication.proofs.Runs.Numbers.{invariant_at}
use Rattle.replication.proofs.Runs.Places.{of_event}
use Rattle.replication.proofs.Agreement.Terms.{Image, in_memory, InstallsAt, installed, ExchangeFacts}
use Rattle.replication.proofs.Agreement.Votes.Turns.{last_at, votes_at, mode_at}
use Rattle.replication.proofs.Agreement.Votes.Events.{installing_at}
use Rattle.replication.proofs.Agreement.Votes.Attempts.{installed_index}
use Rattle.replication.proofs.Agreement.Contents.Installed.{installs_green}
use Rattle.replication.proofs.Agreement.Greens.Beginnings.{Prefix, prefix_trans, prefix_to, prefix_from}
use Rattle.replication.proofs.Agreement.Greens.Terms.{greens, plus, Fifo, valid_yellow, base_of, residue, Answers, by_attempt}
use Rattle.replication.proofs.Agreement.Greens.Parts.{Parts}
use Rattle.replication.proofs.Agreement.Greens.Invariant.{UpTo}
use Rattle.replication.proofs.Agreement.Greens.Residues.{residue_shrinks}
use Rattle.replication.proofs.Agreement.Greens.Reaching.{base_after}
use Rattle.replication.proofs.Agreement.Greens.Earlier.{Earlier, earlier, earlier_residue}

module _ {n q : ℕ} {l : Run} (A : Allowed n q l) where
  -- ---- the state that installs

  pub installing_attempts : {p i : ℕ} {c : Configuration} (x : InstallsAt n q l p i c)
      → (M.attempting (mode_at n q l p i) ≡ true) × Attempts (votes_at n q l p i) (memory_at n q l p i).membership.configuration
  unfolding M.attempting
  installing_attempts {p} {i} x = go (installing_at x).from (mode_facts_at n q l i p).memory
    where
      u : Server
      u = memory_at n q l p i

      go : (u.membership.mode ≡ Construct) ⊎ (u.membership.mode ≡ Un) → M.ModeFactsOf u
          → (M.attempting u.membership.mode ≡ true) × Attempts u.votes u.membership.configuration
      go (inl e) f = (ap M.attempting e, (subst (λ m. ModeFacts m u.votes u.membership.configuration u.membership.transitional) e f).1)
      go (inr e) f = (ap M.attempting e, (subst (λ m. ModeFacts m u.votes u.membership.configuration u.membership.transitional) e f).1)

  -- It was not valid only if empty.
  installing_yellow : {p i : ℕ} {c : Configuration} (x : InstallsAt n q l p i c) → valid_yellow (memory_at n q l p i) ≡ (memory_at n q l p i).votes.yellow.ids
  unfolding valid_yellow pick
  installing_yellow {p} {i} x = go (known (u.votes.yellow.status =? 1))
    where
      u : Server
      u = memory_at n q l p i

      low : u.votes.yellow.status ≤ 1
      low = (invariant_at n q i A.allowed.sizes (A.allowed.servers p i (of_event x.acts.here)) l p).memory.well_formed_lem.votes.yellow.status

      go : Known (u.votes.yellow.status =? 1) → valid_yellow u ≡ u.votes.yellow.ids
      go (holds h) = rw h
      go (fails h) = rw h (sym ((installing_attempts x).1.invalid_empty (zero_then u.votes.yellow.status low (eq_fails _ _ h))))
        where
          zero_then : (k : ℕ) → k ≤ 1 → (k ≡ 1 → ⊥) → k ≡ 0
          zero_then zero a f = refl
          zero_then (suc zero) a f = absurd (f refl)
          zero_then (suc (suc k)) a f = absurd (omega arith)

  installed_green : {p i : ℕ} {c : Configuration} (x : InstallsAt n q l p i c)
      → x.acts.after.log.green ≡ (install_log (memory_at n q l p i).votes.yellow.ids (memory_at n q l p i).log).green
  installed_green x = ap (λ s. s.log.green) (sym x.acts.memory_next) ∙ installs_green A x

  module _ (X : ExchangeFacts n q l) (P : Parts A) {t : ℕ} (U : UpTo A t) where
    -- ---- what becomes green

    pub install_covers : {j : ℕ} {e : Configuration} (y : InstallsAt n q l t j e)
        → Prefix (plus (greens (memory_at n q l t j)) (valid_yellow (memory_at n q l t j))) (base_of A y) × Fifo (base_of A y)
    install_covers {j} {e} y =
        let u = memory_at n q l t j in
        let f = installing_yellow y in
        let m : Image n q l t j u = in_memory y.acts.up in
        let w = (invariant_at n q j A.allowed.sizes (A.allowed.servers t j (of_event y.acts.here)) l t).memory in
        let g : ids_in (install_log u.votes.yellow.ids u.log).green ≡ base_of A y = sym (ap (λ z. ids_in z) (installed_green y)) ∙ base_after A y in
        let r = P.lists.installs_yellow u u.votes.yellow.ids w
        (subst (λ z. Each (λ d. d.index ≤ cut u.log d.creator) z) f ((U t (omega arith)).yellow_entered j u m))
        (subst (λ z. Fifo (plus (greens u) z)) f ((U t (omega arith)).fifo j u m)) in
        (prefix_from (ap (plus (greens u)) f) (prefix_to r.0 g), subst (λ z. Fifo z) g r.1)

    pub base_fifo_after : (p i : ℕ) (c : Configuration) (x : InstallsAt n q l p i c) → p < suc t → Fifo (base_of A x)
    base_fifo_after p i c x h = go (dec_lt p t)
      where
        go : Dec (p < t) → Fifo (base_of A x)
        go (yes a) = (U t (omega arith)).base_fifo p i c x a
        go (no a) = let e : t ≡ p = omega arith in subst (λ z. (y : InstallsAt n q l z i c) → Fifo (base_of A y)) e (λ y. (install_covers y).1) x

    -- ---- the Install of the next primary component

    pub answers_in : (d : ℕ) {p i r s : ℕ} {c : Configuration} {u : Server} (x : InstallsAt n q l p i c) → p < suc t → r ≤ t → Image n q l r s u
        → u.votes.last.index ≡ (installed n q l x).index → ((z : Earlier A x r) → Answers A z.install s u) → in_set d c.set ≡ true
        → Prefix (residue A x (suc t) d) (plus (greens u) (valid_yellow u))
    answers_in d {p} {i} {r} {s} {c} {u} x h k y e a m =
        let z = earlier A X P U x h k y e in
        prefix_trans (residue_shrinks A x r (suc t) d (omega arith))
        (prefix_from (earlier_residue A x z r d) ((U r k).answers z.place z.server s d c u z.install z.before y (e ∙ sym z.index) (a z) m))

    pub next_covers_after : (p r i j d : ℕ) (c e : Configuration) (x : InstallsAt n q l p i c) (y : InstallsAt n q l r j e) → p < suc t → r < suc t
        → (installed n q l y).index ≡ suc (installed n q l x).index → in_set d c.set ≡ true → Prefix (residue A x (suc t) d) (base_of A y)
    next_covers_after p r i j d c e x y h k f m = go (dec_lt r t)
      where
        known_last : {r j : ℕ} {e : Configuration} (y : InstallsAt n q l r j e) → (installed n q l y).index ≡ suc (installed n q l x).index
            → (last_at n q l r j).index ≡ (installed n q l x).index
        known_last y f = omega (arith, f, installed_index y)

        now : (y : InstallsAt n q l t j e) → (installed n q l y).index ≡ suc (installed n q l x).index → Prefix (residue A x (suc t) d) (base_of A y)
        now y f =
            let z : Image n q l t j (memory_at n q l t j) = in_memory y.acts.up in
            prefix_trans (answers_in d x h (omega arith) z (known_last y f) (λ w. by_attempt (installing_attempts y).0) m) (install_covers y).0

        go : Dec (r < t) → Prefix (residue A x (suc t) d) (base_of A y)
        go (yes a) =
            let w : Image n q l r j (memory_at n q l r j) = in_memory y.acts.up in
            let z = earlier A X P U x h (omega arith) w (known_last y f) in
            prefix_trans (residue_shrinks A x t (suc t) d (omega arith))
            (prefix_from (earlier_residue A x z t d)
            ((U t (omega arith)).next_covers z.place r z.server j d c e z.install y (omega (arith, z.before)) a (f ∙ ap suc (sym z.index)) m))
        go (no a) =
            let b : t ≡ r = omega arith in
            subst (λ v. (y : InstallsAt n q l v j e) → (installed n q l y).index ≡ suc (installed n q l x).index → Prefix (residue A x (suc t) d) (base_of A y)) b now y f
