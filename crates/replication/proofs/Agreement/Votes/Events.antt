-- Taking a configuration, ending an exchange and installing exclude one another; in which order a server does them.
use Prim.Native.Nat.{ℕ, suc, ◌<◌}
use mathlib.Core.Path.{◌≡◌, sym, ap, subst, ◌∙◌}
use mathlib.Core.Bool.{true, false}
use mathlib.Core.Logic.{◌⊎◌, inl, inr}
use mathlib.Core.Option.{some}
use native.Mathlib.Omega.{arith}
use native.Mathlib.Decide.{dec_lt}
use Rattle.base.proofs.TestLaws.{not_both}
use Rattle.format.specs.Types.{regular}
use Rattle.replication.specs.Machine.Types.{Reg_prim, Trans_prim, Configuration}
use Rattle.replication.specs.Machine.Step.{collected, installs_by}
use Rattle.replication.specs.Laws.Modes as M
use Rattle.replication.specs.Laws.Order.{in_exchange}
use Rattle.replication.specs.Runs.Run.{Run, place_at}
use Rattle.replication.specs.Runs.Happenings.{Takes}
use Rattle.replication.proofs.Runs.Roomy.{Roomy as Allowed}
use Rattle.replication.proofs.Runs.Shifts.{regular_same, takes_same}
use Rattle.replication.proofs.Runs.Entries.{Had, had}
use Rattle.replication.proofs.Runs.Coupling.{coupled}
use Rattle.replication.proofs.Runs.Modes.{standing}
use Rattle.replication.proofs.Runs.AllowedTurns.{memory_at, Acts}
use Rattle.replication.proofs.Runs.Sending.{regular_acts}
use Rattle.replication.proofs.Agreement.Terms.{EndsAt, InstallsAt}
use Rattle.replication.proofs.Agreement.Votes.Changes as C
use Rattle.replication.proofs.Agreement.Votes.Changes.{is_regular, Joins, Installing, VotesStep, votes_step}
use Rattle.replication.proofs.Agreement.Votes.Turns.{mode_at, installer_placed, Decides, with_quorum_lem, without_quorum_lem, ended}

-- Of two configurations that a server took, which came first.
pub data InOrder (w e : ℕ) (c d : Configuration) : Type 0 where
  first : w < e → InOrder w e c d
  same : c ≡ d → w ≡ e → InOrder w e c d
  second : e < w → InOrder w e c d

-- ---- what the events leave

module _ {n q : ℕ} {l : Run} where
  pub installing_at : {p i : ℕ} {c : Configuration} → InstallsAt n q l p i c → Installing (memory_at n q l p i) (memory_at n q l (suc p) i)
  installing_at {p} {i} x = go (votes_step (memory_at n q l p i) x.acts.moves)
    where
      yes_installs : C.installing (memory_at n q l p i) x.acts.by.event ≡ true
      yes_installs = ap (λ z. installs_by z (memory_at n q l p i)) x.acts.by.ruled ∙ x.installs

      go : VotesStep (memory_at n q l p i) x.acts.by.event x.acts.after x.acts.by.records x.acts.stores
          → Installing (memory_at n q l p i) (memory_at n q l (suc p) i)
      go (C.keeps r o v s) = not_both (sym o ∙ yes_installs)
      go (C.joins c e o j) = not_both (sym o ∙ yes_installs)
      go (C.ends r o b j) = not_both (sym o ∙ yes_installs)
      go (C.installs r o j) = subst (λ t. Installing (memory_at n q l p i) t) (sym x.acts.memory_next) (record { from = j.from; to = j.to; index = j.index; attempt = j.attempt; set = j.set; last = j.last; mark = j.mark })

  -- After an end of an exchange, or an Install, the server is in no exchange.
  pub ends_exchange : {p i : ℕ} {c : Configuration} → EndsAt n q l p i c → in_exchange (mode_at n q l (suc p) i) ≡ false
  unfolding in_exchange
  ends_exchange {p} {i} {c} x = go (ended x)
    where
      go : Decides n q l p i c (collected x.judged) → in_exchange (mode_at n q l (suc p) i) ≡ false
      go (with_quorum_lem h v m d) = ap in_exchange m
      go (without_quorum_lem h v m) = ap in_exchange m

  pub installs_outside : {p i : ℕ} {c : Configuration} → InstallsAt n q l p i c
      → (in_exchange (mode_at n q l (suc p) i) ≡ false) × (M.attempting (mode_at n q l (suc p) i) ≡ false)
  unfolding in_exchange M.attempting
  installs_outside {p} {i} x = go (installing_at x).to
    where
      go : (mode_at n q l (suc p) i ≡ Reg_prim) ⊎ (mode_at n q l (suc p) i ≡ Trans_prim)
          → (in_exchange (mode_at n q l (suc p) i) ≡ false) × (M.attempting (mode_at n q l (suc p) i) ≡ false)
      go (inl e) = (ap in_exchange e, ap M.attempting e)
      go (inr e) = (ap in_exchange e, ap M.attempting e)

module _ {n q : ℕ} {l : Run} (A : Allowed n q l) where
  pub takes_joins : {p i : ℕ} {c : Configuration} → Takes n q l p i c → Joins (memory_at n q l p i) c (memory_at n q l (suc p) i)
  unfolding is_regular
  takes_joins {p} {i} {c} t = go (votes_step (memory_at n q l p i) x.moves)
    where
      x : Acts n q l p i
      x = (regular_acts A p i c t).0

      e : x.by.event ≡ regular c.id c.set
      e = (regular_acts A p i c t).1

      go : VotesStep (memory_at n q l p i) x.by.event x.after x.by.records x.stores → Joins (memory_at n q l p i) c (memory_at n q l (suc p) i)
      go (C.keeps r o v s) = not_both (sym r ∙ ap is_regular e)
      go (C.joins d f o j) =
          let g = regular_same (sym f ∙ e) in
          let h : d ≡ c = λ z. record { id = g.0 z; set = g.1 z } in
          subst (λ t. Joins (memory_at n q l p i) c t) (sym x.memory_next) (C.joins_raised x.white (subst (λ y. Joins (memory_at n q l p i) y x.after) h j))
      go (C.ends r o b j) = not_both (sym r ∙ ap is_regular e)
      go (C.installs r o j) = not_both (sym r ∙ ap is_regular e)

  pub takes_exchanging : {p i : ℕ} {c : Configuration} → Takes n q l p i c → in_exchange (mode_at n q l (suc p) i) ≡ true
  unfolding in_exchange
  takes_exchanging t = ap in_exchange (takes_joins t).mode

  -- An event that installs finds a configuration.
  pub installer_configured : {p i : ℕ} (x : Acts n q l p i) → installs_by (some x.by.rule) (memory_at n q l p i) ≡ true
      → (c : Configuration) × ((place_at n q l i p).regular ≡ some c)
  installer_configured {p} {i} x h = go (votes_step (memory_at n q l p i) x.moves)
    where
      installs_here : C.installing (memory_at n q l p i) x.by.event ≡ true
      installs_here = ap (λ z. installs_by z (memory_at n q l p i)) x.by.ruled ∙ h

      go : VotesStep (memory_at n q l p i) x.by.event x.after x.by.records x.stores → (c : Configuration) × ((place_at n q l i p).regular ≡ some c)
      go (C.keeps r o v s) = not_both (sym o ∙ installs_here)
      go (C.joins c e o j) = not_both (sym o ∙ installs_here)
      go (C.ends r o b j) = not_both (sym o ∙ installs_here)
      go (C.installs r o j) =
          let g = installer_placed (memory_at n q l p i) j.from (standing n q l i p).memory in
          (g.0, ap (λ z. z.regular) (sym (coupled A p i x.up)) ∙ g.1)

  -- ---- the order at one server

  -- A server has a configuration only after taking it.
  pub taken_before : {w p i : ℕ} {c : Configuration} → Takes n q l w i c → (place_at n q l i p).regular ≡ some c → w < p
  taken_before {w} {p} {i} {c} t h = let x = had n q l p i c h in omega (arith, A.allowed.once w x.took_at i c t x.took, x.earlier)

  -- What a server does in c without taking a configuration comes before the configurations that it takes after c.
  pub done_before : {w e p i : ℕ} {c d : Configuration} → Takes n q l w i c → Takes n q l e i d → (place_at n q l i p).regular ≡ some c
      → in_exchange (mode_at n q l (suc p) i) ≡ false → w < e → p < e
  done_before {w} {e} {p} {i} {c} {d} t u h m o = go (dec_lt e p) (dec_lt p e)
    where
      x : Had n q l i p c
      x = had n q l p i c h

      s : w ≡ x.took_at
      s = A.allowed.once w x.took_at i c t x.took

      go : Dec (e < p) → Dec (p < e) → p < e
      go (yes a) b = absurd (x.alone e d (omega (arith, s)) a u)
      go (no a) (yes b) = b
      go (no a) (no b) = let k : e ≡ p = omega arith in not_both (sym m ∙ takes_exchanging (subst (λ z. Takes n q l z i d) k u))

module _ {n q : ℕ} {l : Run} where
  pub in_order : {w e i : ℕ} {c d : Configuration} → Takes n q l w i c → Takes n q l e i d → InOrder w e c d
  in_order {w} {e} {i} {c} {d} t u = go (dec_lt w e) (dec_lt e w)
    where
      go : Dec (w < e) → Dec (e < w) → InOrder w e c d
      go (yes a) b = first a
      go (no a) (yes b) = second b
      go (no a) (no b) = let k : e ≡ w = omega arith in same (takes_same t (subst (λ z. Takes n q l z i d) k u)) (omega arith)
