-- Own actions are numbered on from those numbered before, carry the green length of then and stand on the own list; those put out stood there,
-- above those sent, and go out stored first.
use Prim.Native.Nat.{ℕ, ◌≤◌, ◌<◌}
use mathlib.Core.Path.{◌≡◌, refl}
use mathlib.Core.Bool.{Bool, true}
use mathlib.Core.List.Memᴰ
use mathlib.Core.List.{List, Memᴰ}
use native.Mathlib.Omega.{arith}
use Rattle.base.specs.Tests.{◌<?◌}
use Rattle.base.proofs.TestLaws.{lt_holds}
use Rattle.base.proofs.Members.{filter_from}
use Rattle.format.specs.Types.{Action, State, Record, action, request}
use Rattle.replication.specs.Machine.Types.{Log, Server, with_white}
use Rattle.replication.specs.Machine.Requests.{numbered, send_waiting}
use Rattle.replication.specs.Machine.Requests.{made_of, numbered, unsent, send_waiting}
use Rattle.replication.specs.Machine.Step.{collected}
use Rattle.replication.specs.Laws.Transitions as L
use Rattle.replication.specs.Laws.Transitions.{Transition}
use Rattle.replication.specs.Laws.Sending as P
use Rattle.replication.specs.Laws.Sending.{Numbers, SendsWaiting, PutsOut, Own, Resent}
use Rattle.replication.proofs.Step.Parts.{part_resent}

-- ---- the action that a request makes

pub made_own : (s t : Server) (p : List ℕ) → Numbers s t p → Own s t (made_of p s)
unfolding made_of
made_own s t p n = record {
  creator = refl;
  above = omega arith;
  within = omega (arith, n.numbered);
  green_length_lem = refl;
  white_length_lem = refl;
  listed = rw n.own (Memᴰ.append_right s.log.own (Memᴰ.head refl));
}

-- What a taken request makes is newly numbered, and on the own list.
pub own_raised : {s t : Server} {a : Action} (w : ℕ) → Own s t a → Own s (with_white w t) a
own_raised w o = record { creator = o.creator; above = o.above; within = o.within; green_length_lem = o.green_length_lem; white_length_lem = o.white_length_lem; listed = o.listed }

pub request_own : {s : Server} {p : List ℕ} {t : Server} {rs : List Record} {b : Bool} → Transition s (request p) t rs b → Own s t (made_of p s)
unfolding numbered send_waiting
request_own {s} (L.sends p c) = made_own s _ p (record { numbered = refl; own = refl })
request_own {s} (L.numbers p c) = made_own s _ p (record { numbered = refl; own = refl })

-- ---- the actions that an event puts out

-- Sent after s: an action on the own list of t, above those that s had sent, if s had sent only what it had numbered.
pub record Waited (s t : Server) (a : Action) : Type 0 where
  pub listed : Memᴰ a t.log.own
  pub above : s.log.sent ≤ s.log.numbered → s.log.sent < a.id.index
  pub sent : t.log.sent ≡ t.log.numbered

waited : (s t : Server) (k : ℕ) (rs : List Record) (a : Action) → SendsWaiting k t rs → Memᴰ (action a) rs
    → (s.log.sent ≤ s.log.numbered → s.log.sent ≤ k) → Waited s t a
unfolding unsent
waited s t k rs a w m h =
    let y = Memᴰ.of_map action (unsent k t.log.own) (rw w.records at m) in
    let e : a ≡ y.0 = cc in
    let f = filter_from (λ x. k <? x.id.index) a t.log.own (Memᴰ.cast e y.1) in
    record { listed = f.0; above = λ z. omega (arith, h z, lt_holds _ _ f.1); sent = w.sent }

resent_no_action : {X : Type 0} (me w : ℕ) (l : Log) (xs : List State) (a : Action) → Resent me w l xs (action a) → X
resent_no_action me w l xs a (P.as_green p b m f e) = let z : ◌≡◌ {A = ℕ} 0 1 = cc in absurd (omega arith)
resent_no_action me w l xs a (P.as_red c i b m f e) = let z : ◌≡◌ {A = ℕ} 0 1 = cc in absurd (omega arith)

-- An action that an event puts out waited on the own list, and is stored first.
pub own_sent : {s : Server} {r : Record} {t : Server} {rs : List Record} {b : Bool} → PutsOut s r t rs b → (a : Action) → Memᴰ (action a) rs
    → Waited s t a × (b ≡ true)
own_sent (P.nothing b n) a m = absurd (Memᴰ.not-nil m)
own_sent (P.state_on_entry c e f g n) a m = let h = Memᴰ.eq_of_singleton m in let z : ◌≡◌ {A = ℕ} 0 1 = cc in absurd (omega arith)
own_sent {t = t} (P.part_of_plan x e f g h i n) a m = resent_no_action t.me t.white t.log (collected t) a (part_resent t.me t.white t.log (collected t) (action a) t.servers m)
own_sent (P.cpc_on_attempt e q f n) a m = let h = Memᴰ.eq_of_singleton m in let z : ◌≡◌ {A = ℕ} 0 1 = cc in absurd (omega arith)
own_sent {s} {t = t} {rs} (P.request_at_once p us e f g n w) a m = (waited s t _ us a w m (λ z. omega arith), refl)
own_sent (P.request_waits p e f n w) a m = absurd (Memᴰ.not-nil m)
own_sent {s} {t = t} (P.waiting_after_exchange us e q f n w) a m = (waited s t _ us a w m (λ z. omega arith), refl)
own_sent {s} {t = t} (P.waiting_after_install k i us e f g h n w) a m = (waited s t _ us a w m (λ z. omega arith), refl)
