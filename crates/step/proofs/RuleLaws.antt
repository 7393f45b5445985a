-- The rules of actions: what each takes before it, and that none of them reads the white length.
use Prim.Native.Nat.{ℕ}
use mathlib.Core.Path.{◌≡◌, refl, sym, subst}
use mathlib.Core.Bool.{Bool}
use mathlib.Core.Option.{some, some-injective, none-ne-some}
use Rattle.format.specs.Types.{Action}
use Rattle.replication.specs.Machine.Types.{Mode, Non_prim, Reg_prim, Trans_prim, Exchange_states, Exchange_actions, Construct, No, Un, Server, with_white}
use Rattle.replication.specs.Machine.Rules.{Rule, reddening, greening, yellowing, late_installing, exchanging, on_action}
use Rattle.replication.specs.Machine.Step.{apply}
use Rattle.replication.specs.Machine.White.{entrant, met_log, is_recovering, took_white, full, sifted, sieved}
use Rattle.replication.specs.Laws.RuleFits.{Delivered, RuleFits}
use Rattle.image.proofs.Raising.{at_white, reddening_at, greening_at, yellowing_at, exchanging_at}

-- The rule k of the action a takes what reddening takes, from the log as it is, and does not read the white length.
pub record Plain (k : Rule) (a : Action) (s : Server) : Type 0 where
  pub took : took_white k s ≡ took_white (reddening a) s
  pub sieves : full k s ≡ full (reddening a) s
  pub met : met_log k s ≡ s.log
  pub at : (w : ℕ) (x : Bool) → apply (sieved x k) (with_white w s) ≡ at_white w (apply (sieved x k) s)

pub plain_red : (a : Action) (s : Server) → Plain (reddening a) a s
unfolding met_log sieved
plain_red a s = record { took = refl; sieves = refl; met = refl; at = λ w x. reddening_at w (sifted x a) s }

plain_green : (a : Action) (s : Server) → Plain (greening a) a s
unfolding met_log sieved full took_white entrant is_recovering
plain_green a s = record { took = refl; sieves = refl; met = refl; at = λ w x. greening_at w (sifted x a) s }

plain_yellow : (a : Action) (s : Server) → Plain (yellowing a) a s
unfolding met_log sieved full took_white entrant is_recovering
plain_yellow a s = record { took = refl; sieves = refl; met = refl; at = λ w x. yellowing_at w (sifted x a) s }

pub exchanging_plain : (p : ℕ) (a : Action) (s : Server) (w : ℕ) (x : Bool)
    → apply (sieved x (exchanging p a)) (with_white w s) ≡ at_white w (apply (sieved x (exchanging p a)) s)
unfolding sieved
exchanging_plain p a s w x = exchanging_at w p (sifted x a) s

-- ---- by the state

at_rule : (P : Rule → Type 0) (j k : Rule) → some j ≡ some k → P j → P k
at_rule P j k e h = subst P (some-injective j k e) h

pub action_plain : (m : Mode) (a : Action) (k : Rule) (s : Server) → (m ≡ Un → ⊥) → on_action m a ≡ some k → Plain k a s
unfolding on_action
action_plain Non_prim a k s u e = at_rule (λ j. Plain j a s) (reddening a) k e (plain_red a s)
action_plain Reg_prim a k s u e = at_rule (λ j. Plain j a s) (greening a) k e (plain_green a s)
action_plain Trans_prim a k s u e = at_rule (λ j. Plain j a s) (yellowing a) k e (plain_yellow a s)
action_plain Exchange_states a k s u e = at_rule (λ j. Plain j a s) (reddening a) k e (plain_red a s)
action_plain Exchange_actions a k s u e = absurd (none-ne-some k e)
action_plain Construct a k s u e = absurd (none-ne-some k e)
action_plain No a k s u e = absurd (none-ne-some k e)
action_plain Un a k s u e = absurd (u refl)

pub action_delivered : (m : Mode) (a : Action) (k : Rule) (s : Server) → on_action m a ≡ some k → RuleFits k s → Delivered s a
unfolding on_action
action_delivered Non_prim a k s e f = at_rule (λ j. RuleFits j s) k (reddening a) (sym e) f
action_delivered Reg_prim a k s e f = (at_rule (λ j. RuleFits j s) k (greening a) (sym e) f).0
action_delivered Trans_prim a k s e f = (at_rule (λ j. RuleFits j s) k (yellowing a) (sym e) f).0
action_delivered Exchange_states a k s e f = at_rule (λ j. RuleFits j s) k (reddening a) (sym e) f
action_delivered Exchange_actions a k s e f = absurd (none-ne-some k e)
action_delivered Construct a k s e f = absurd (none-ne-some k e)
action_delivered No a k s e f = absurd (none-ne-some k e)
action_delivered Un a k s e f = (at_rule (λ j. RuleFits j s) k (late_installing a) (sym e) f).0
