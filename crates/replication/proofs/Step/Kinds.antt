-- Which records a taken event puts out, kind by kind.
use Prim.Native.Nat.{ℕ}
use mathlib.Core.Path.{◌≡◌, refl, sym, ap}
use mathlib.Core.Bool.{Bool}
use mathlib.Core.List.Memᴰ
use mathlib.Core.List.{List, [], ◌∷◌, Memᴰ}
use native.Mathlib.Omega.{arith}
use Rattle.format.specs.Types.{Action, State, Record, action, retransmission, state, cpc, kind_number, kind_of}
use Rattle.replication.specs.Machine.Types.{Log, Server}
use Rattle.replication.specs.Machine.Requests.{unsent}
use Rattle.replication.specs.Machine.Step.{collected}
use Rattle.replication.specs.Laws.Sending as P
use Rattle.replication.specs.Laws.Sending.{SendsWaiting, PutsOut, Resent}
use Rattle.replication.specs.Laws.Kinds.{StateSent, PartSent, CpcSent}
use Rattle.replication.proofs.Step.Parts.{part_resent}

-- Records of different kinds differ.
other_kind : {X : Type 0} (x y : Record) → x ≡ y → (kind_number (kind_of x) ≡ kind_number (kind_of y) → ⊥) → X
other_kind x y e n = absurd (n (ap (λ r. kind_number (kind_of r)) e))

not_waiting : {X : Type 0} (k : ℕ) (t : Server) (rs : List Record) (x : Record) → SendsWaiting k t rs → Memᴰ x rs
    → (kind_number (kind_of x) ≡ 1 → ⊥) → X
unfolding kind_number kind_of
not_waiting k t rs x w m n =
    let y = Memᴰ.of_map action (unsent k t.log.own) (rw w.records at m) in
    other_kind x (action y.0) (sym y.2) n

resent_kind : (me w : ℕ) (l : Log) (xs : List State) (x : Record) → Resent me w l xs x → kind_number (kind_of x) ≡ 2
unfolding kind_number kind_of
resent_kind me w l xs x (P.as_green p a m f e) = rw e
resent_kind me w l xs x (P.as_red c i a m f e) = rw e

not_resent : {X : Type 0} (t : Server) (x : Record) → Resent t.me t.white t.log (collected t) x → (kind_number (kind_of x) ≡ 2 → ⊥) → X
not_resent t x p n = absurd (n (resent_kind t.me t.white t.log (collected t) x p))

module _ {s : Server} {r : Record} {t : Server} where
  pub state_sent : {rs : List Record} {b : Bool} → PutsOut s r t rs b → (x : State) → Memᴰ (state x) rs → StateSent r t rs b x
  unfolding kind_number kind_of
  state_sent (P.nothing b n) x m = absurd (Memᴰ.not-nil m)
  state_sent (P.state_on_entry c e f g n) x m =
      let h = Memᴰ.eq_of_singleton m in
      record { entered = c; brought = e; there = g; to = f; says = cc; alone = ap (λ y. y ∷ []) (sym h); stored = refl }
  state_sent (P.part_of_plan y e f g h i n) x m = not_resent t (state x) (part_resent t.me t.white t.log (collected t) (state x) t.servers m) (λ z. omega arith)
  state_sent (P.cpc_on_attempt e q f n) x m = other_kind (state x) _ (Memᴰ.eq_of_singleton m) (λ z. omega arith)
  state_sent (P.request_at_once o us e f g n w) x m = not_waiting _ t us (state x) w m (λ z. omega arith)
  state_sent (P.request_waits o e f n w) x m = absurd (Memᴰ.not-nil m)
  state_sent (P.waiting_after_exchange us e q f n w) x m = not_waiting _ t us (state x) w m (λ z. omega arith)
  state_sent (P.waiting_after_install j l us e f g h n w) x m = not_waiting _ t us (state x) w m (λ z. omega arith)

  pub part_sent : {rs : List Record} {b : Bool} → PutsOut s r t rs b → (k p : ℕ) (a : Action) → Memᴰ (retransmission k p a) rs
      → PartSent s r t rs b (retransmission k p a)
  unfolding kind_number kind_of
  part_sent (P.nothing b n) k p a m = absurd (Memᴰ.not-nil m)
  part_sent (P.state_on_entry c e f g n) k p a m = other_kind (retransmission k p a) _ (Memᴰ.eq_of_singleton m) (λ z. omega arith)
  part_sent (P.part_of_plan y e f g h i n) k p a m =
      record { last = y; brought = e; from = f; to = g; complete = h; whole = refl; planned = part_resent t.me t.white t.log (collected t) _ t.servers m; unstored = refl }
  part_sent (P.cpc_on_attempt e q f n) k p a m = other_kind (retransmission k p a) _ (Memᴰ.eq_of_singleton m) (λ z. omega arith)
  part_sent (P.request_at_once o us e f g n w) k p a m = not_waiting _ t us (retransmission k p a) w m (λ z. omega arith)
  part_sent (P.request_waits o e f n w) k p a m = absurd (Memᴰ.not-nil m)
  part_sent (P.waiting_after_exchange us e q f n w) k p a m = not_waiting _ t us (retransmission k p a) w m (λ z. omega arith)
  part_sent (P.waiting_after_install j l us e f g h n w) k p a m = not_waiting _ t us (retransmission k p a) w m (λ z. omega arith)

  pub cpc_sent : {rs : List Record} {b : Bool} → PutsOut s r t rs b → (k i : ℕ) → Memᴰ (cpc k i) rs → CpcSent s r t rs b k i
  unfolding kind_number kind_of
  cpc_sent (P.nothing b n) k i m = absurd (Memᴰ.not-nil m)
  cpc_sent (P.state_on_entry c e f g n) k i m = other_kind (cpc k i) _ (Memᴰ.eq_of_singleton m) (λ z. omega arith)
  cpc_sent (P.part_of_plan y e f g h j n) k i m = not_resent t (cpc k i) (part_resent t.me t.white t.log (collected t) (cpc k i) t.servers m) (λ z. omega arith)
  cpc_sent (P.cpc_on_attempt e q f n) k i m =
      let h = Memᴰ.eq_of_singleton m in
      record { ended = e; agreed = q; to = f; sender = cc; configuration = cc; alone = ap (λ y. y ∷ []) (sym h); stored = refl }
  cpc_sent (P.request_at_once o us e f g n w) k i m = not_waiting _ t us (cpc k i) w m (λ z. omega arith)
  cpc_sent (P.request_waits o e f n w) k i m = absurd (Memᴰ.not-nil m)
  cpc_sent (P.waiting_after_exchange us e q f n w) k i m = not_waiting _ t us (cpc k i) w m (λ z. omega arith)
  cpc_sent (P.waiting_after_install j l us e f g h n w) k i m = not_waiting _ t us (cpc k i) w m (λ z. omega arith)
