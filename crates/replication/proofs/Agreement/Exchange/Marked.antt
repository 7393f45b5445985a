-- A server in Construct, No, Un, Reg_prim or Trans_prim marked its attempt in its present configuration.
use Prim.Native.Nat.{ℕ, ◌≤◌, ◌<◌}
use mathlib.Core.Path.{◌≡◌, ap}
use native.Mathlib.Omega.{arith}
use Rattle.replication.specs.Machine.Types.{Mode, Configuration}
use Rattle.replication.specs.Runs.Run.{Run}
use Rattle.replication.specs.Runs.Happenings.{Falls}
use Rattle.replication.proofs.Runs.Roomy.{Roomy as Allowed}
use Rattle.replication.proofs.Runs.Entries.{had}
use Rattle.replication.proofs.Runs.AllowedTurns.{memory_at}
use Rattle.replication.proofs.Runs.Stays.{membership_at}
use Rattle.replication.proofs.Agreement.Terms.{Within, MarksAt, AfterMarking, in_construct, in_no, in_un, in_reg, in_trans}
use Rattle.replication.proofs.Agreement.Exchange.Stages.{stage, InCom}
use Rattle.replication.proofs.Agreement.Exchange.Phases.{Phase, exchanging, marked, settled, interrupted, phase}

marked_stage : {n q : ℕ} {l : Run} {m : Mode} → AfterMarking n q l m → 3 ≤ stage m
unfolding stage
marked_stage in_construct = omega arith
marked_stage in_no = omega arith
marked_stage in_un = omega arith
marked_stage in_reg = omega arith
marked_stage in_trans = omega arith

module _ {n q : ℕ} {l : Run} (A : Allowed n q l) where
  -- A server at the last stage of its stay marked in it.
  pub marked_in_stay : (p i : ℕ) (c : Configuration) → InCom n q l p i c → 3 ≤ stage (membership_at n q l p i).mode → (r : ℕ) × (r < p) × MarksAt n q l r i c
  unfolding stage
  marked_in_stay p i c here h = go (phase A i c p here)
    where
      go : Phase n q l p i c → (r : ℕ) × (r < p) × MarksAt n q l r i c
      go (exchanging k) = absurd (omega arith)
      go (marked r k x e) = (r, k, x)
      go (settled r k x e f) = absurd (omega (arith, ap stage f))
      go (interrupted x e f) = absurd (omega (arith, ap stage e))

  -- .. and was up since.
  pub up_since : (p r i : ℕ) (c : Configuration) → InCom n q l p i c → InCom n q l r i c → (y : ℕ) → r < y → y < p → Falls n q l y i → ⊥
  up_since p r i c a b y h k =
      let u = had n q l p i c a in
      let v = had n q l r i c b in
      u.steady y (omega (arith, v.earlier, A.allowed.once u.took_at v.took_at i c u.took v.took)) k

  pub marked_here : (p i : ℕ) (c : Configuration) (m : Mode) → Within n q l p i c → (memory_at n q l p i).membership.mode ≡ m → AfterMarking n q l m
      → (r : ℕ) × (r < p) × MarksAt n q l r i c × ((y : ℕ) → r < y → y < p → Falls n q l y i → ⊥)
  marked_here p i c m w e h =
      let x = marked_in_stay p i c w.here (omega (arith, ap stage e, marked_stage h)) in
      (x.0, x.1, x.2, up_since p x.0 i c w.here (ap (λ z. z.regular) x.2.ending.here))
