-- "Nothing that an exchange in an allowed run must resend is ever gone": who goes from Exchange_states to Exchange_actions puts out what it would with no
-- white action.
use Prim.Native.Nat.{ℕ, suc}
use mathlib.Core.Path.{◌≡◌, sym, ◌∙◌}
use mathlib.Core.Bool.{true}
use mathlib.Core.List.Memᴰ
use native.Mathlib.Omega.{arith}
use lib.ListN.{length}
use Rattle.base.proofs.AtLaws.{at_low}
use Rattle.replication.specs.Machine.Types.{Exchange_states, Exchange_actions, Configuration}
use Rattle.replication.specs.Machine.Plan.{own_part}
use Rattle.replication.specs.Machine.WellFormed.{ids_in}
use Rattle.replication.specs.Runs.Run.{Run}
use Rattle.replication.proofs.Runs.Roomy.{Roomy as Allowed}
use Rattle.replication.proofs.Runs.AllowedTurns.{memory_at}
use Rattle.replication.proofs.Runs.Memberships.{states_in_of, every_state_in}
use Rattle.replication.proofs.Runs.Stays.{membership_at}
use Rattle.replication.proofs.Agreement.Exchange.Stages.{InCom}
use Rattle.replication.proofs.Agreement.Exchange.Facts.{exchange_facts}
use Rattle.replication.proofs.Agreement.Contents.Agreeable as C
use Rattle.replication.proofs.Agreement.Contents.Collected.{took_it}
use Rattle.replication.proofs.Agreement.Contents.Whole.{part_whole}
use Rattle.replication.proofs.Agreement.Contents.Sent.{resending_log, part_same}
use Rattle.replication.proofs.Agreement.Contents.White.{part_there}
use Rattle.replication.proofs.Agreement.Greens.Taking.{agreeable}
use Rattle.replication.proofs.Agreement.Greens.OfContents.{agreeable_before}
use Rattle.replication.proofs.Agreement.Greens.Whole.{parts}
use Rattle.replication.proofs.Agreement.Greens.Induction as I

module _ {n q : ℕ} {l : Run} (A : Allowed n q l) where
  agreed : (t : ℕ) (c : Configuration) → C.Agreeable n q l t c
  agreed t c =
      agreeable_before A t
      (agreeable A (exchange_facts A) (parts A) c (I.invariant A (exchange_facts A) (parts A) (length l)) (λ e k x. at_low l e _ x.here))

  pub nothing_gone : (p i : ℕ) (c : Configuration) → InCom n q l p i c → InCom n q l (suc p) i c → (membership_at n q l p i).mode ≡ Exchange_states
      → (membership_at n q l (suc p) i).mode ≡ Exchange_actions → every_state_in (membership_at n q l (suc p) i) ≡ true
      → own_part n i (memory_at n q l p i).white (memory_at n q l (suc p) i).log (states_in_of (membership_at n q l (suc p) i))
      ≡ own_part n i 0 (memory_at n q l (suc p) i).log (states_in_of (membership_at n q l (suc p) i))
  unfolding ids_in
  nothing_gone p i c a b h k full =
      let w = took_it A a in
      let g = resending_log A w.1 p a b h k in
      let xs = states_in_of (membership_at n q l (suc p) i) in
      part_there A c (suc p) i b full p (omega arith) (agreed p c) i w.0 p w.1 a h g
      ∙ sym (part_whole n i 0 (memory_at n q l (suc p) i).log xs (omega arith) (λ d m. absurd (Memᴰ.not-nil m)) ∙ part_same n i _ _ xs g)
