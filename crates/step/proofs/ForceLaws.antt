-- The numbers of a state and a record in range in it: what the code's tests say.
use Prim.Native.Nat.{ℕ, ◌<◌}
use mathlib.Core.Path.{◌≡◌, refl, sym, ap, ◌∙◌}
use mathlib.Core.Bool.{Bool, true}
use mathlib.Core.List.{List}
use native.Mathlib.Omega.{arith}
use Rattle.base.specs.Tests.{◌<?◌}
use Rattle.base.proofs.TestLaws.{lt_holds}
use Rattle.format.specs.Types.{Action}
use Rattle.record.specs.declared.State.{State as Numbers}
use Rattle.record.specs.declared.ActionHead.{ActionHead}
use Rattle.record.specs.Values.{id_of, action_of}
use Rattle.replication.specs.Machine.Types.{Mode, Server, context_of}
use Rattle.replication.specs.Machine.Rules.{numbered_own, member_of}
use Rattle.image.specs.Header.{header_of, mode_number}
use Rattle.image.proofs.InRange.{in_range}
use Rattle.image.specs.Holding.{Holds}
use Rattle.guards.proofs.ModeLaws.{at_mode_lem}
use Rattle.image.specs.Decode.{mode_named}

pub numbers_mode : (h : Numbers) (s : Server) → h ≡ header_of s → h.mode ≡ mode_number s.membership.mode
unfolding header_of
numbers_mode h s e = ap (λ (n : Numbers). n.mode) e

-- What holds in the state of this number.
pub numbers_at_lem : (P : Mode → Type 0) (h : Numbers) (s : Server) (l : ℕ) → h ≡ header_of s → h.mode ≡ l → P (mode_named l) → P s.membership.mode
numbers_at_lem P h s l e f p = at_mode_lem P s.membership.mode l (sym f ∙ numbers_mode h s e) p

-- A server's number is below 8.
pub below_eight : (s : Server) (b : List ℕ) (k : ℕ) → Holds s b → (k <? s.servers) ≡ true → k < 8
unfolding context_of
below_eight s b k r e = omega (arith, lt_holds k s.servers e, (in_range s r.formed).context.sizes.most)

-- ---- the code's tests, with the numbers h

abbrev pub OwnNumbered : Numbers → ActionHead → Bool → Type 0
OwnNumbered h x t = (s : Server) (a : Action) → h ≡ header_of s → a.id ≡ id_of x.creator x.index → t ≡ numbered_own s a

pub own_numbered : (h : Numbers) (x : ActionHead) (p : List ℕ) (t : Bool) (s : Server) → OwnNumbered h x t → h ≡ header_of s
    → t ≡ numbered_own s (action_of x p)
unfolding action_of
own_numbered h x p t s f e = f s (action_of x p) e refl

abbrev pub Member : Numbers → ℕ → Bool → Type 0
Member h k t = (s : Server) → h ≡ header_of s → t ≡ member_of s.membership.configuration k
