-- Records put out: the number of one that is put out alone, and the states in which actions are put out.
use Prim.Native.Nat.{ℕ}
use mathlib.Core.Path.{◌≡◌, sym, ap, subst, ◌∙◌}
use mathlib.Core.Bool.{Bool}
use mathlib.Core.List.Memᴰ
use mathlib.Core.List.{List, [], ◌∷◌, Memᴰ}
use mathlib.Core.Logic.{◌⊎◌, inl, inr}
use mathlib.Core.Option.{some}
use native.Mathlib.Omega.{arith}
use Rattle.base.specs.Lists.{at}
use Rattle.base.proofs.AtLaws.{at_single}
use Rattle.format.specs.Types.{Action, State, Record, action}
use Rattle.replication.specs.Machine.Types.{Non_prim, Reg_prim, Log, Server}
use Rattle.replication.specs.Machine.Requests.{sends_now}
use Rattle.replication.specs.Machine.Step.{collected}
use Rattle.replication.specs.Laws.Sending as P
use Rattle.replication.specs.Laws.Sending.{PutsOut, Resent}
use Rattle.replication.proofs.Step.Apart.{sends_in_lem}
use Rattle.replication.proofs.Step.Parts.{part_resent}

pub alone_first : (rs : List Record) (y : Record) (j : ℕ) (x : Record) → rs ≡ y ∷ [] → at rs j ≡ some x → j ≡ 0
alone_first rs y j x e h = (at_single y j x (ap (λ z. at z j) (sym e) ∙ h)).0

resent_no_action : {X : Type 0} (me w : ℕ) (l : Log) (xs : List State) (a : Action) → Resent me w l xs (action a) → X
resent_no_action me w l xs a (P.as_green p b m f e) = let z : ◌≡◌ {A = ℕ} 0 1 = cc in absurd (omega arith)
resent_no_action me w l xs a (P.as_red c i b m f e) = let z : ◌≡◌ {A = ℕ} 0 1 = cc in absurd (omega arith)

-- Actions are put out in Reg_prim and Non_prim.
pub action_sent_in : {s t : Server} {r : Record} {rs : List Record} {b : Bool} → PutsOut s r t rs b → (a : Action) → Memᴰ (action a) rs
    → (t.membership.mode ≡ Non_prim) ⊎ (t.membership.mode ≡ Reg_prim)
unfolding sends_now
action_sent_in (P.nothing b n) a m = absurd (Memᴰ.not-nil m)
action_sent_in (P.state_on_entry c e f g n) a m = let h = Memᴰ.eq_of_singleton m in let z : ◌≡◌ {A = ℕ} 0 1 = cc in absurd (omega arith)
action_sent_in {t = t} (P.part_of_plan x e f g h i n) a m =
    resent_no_action t.me t.white t.log (collected t) a (part_resent t.me t.white t.log (collected t) (action a) t.servers m)
action_sent_in (P.cpc_on_attempt e q f n) a m = let h = Memᴰ.eq_of_singleton m in let z : ◌≡◌ {A = ℕ} 0 1 = cc in absurd (omega arith)
action_sent_in {s} (P.request_at_once p us e f g n w) a m = subst (λ z. (z.mode ≡ Non_prim) ⊎ (z.mode ≡ Reg_prim)) (sym g) (sends_in_lem s.membership.mode _ f inl inr)
action_sent_in (P.request_waits p e f n w) a m = absurd (Memᴰ.not-nil m)
action_sent_in (P.waiting_after_exchange us e q f n w) a m = inl f
action_sent_in (P.waiting_after_install k i us e f g h n w) a m = inr h
