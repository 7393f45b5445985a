-- A primary component that is known was installed before; all its Installs give the same, so a fact of one is a fact of all. The end of an exchange, with its place.
use Prim.Native.Nat.{ℕ, suc, ◌≤◌, ◌<◌}
use mathlib.Core.Path.{◌≡◌, sym, subst}
use native.Mathlib.Omega.{arith}
use Rattle.replication.specs.Machine.Types.{Configuration, Server}
use Rattle.replication.specs.Runs.Run.{Run}
use Rattle.replication.specs.Runs.Happenings.{Takes}
use Rattle.replication.proofs.Runs.Roomy.{Roomy as Allowed}
use Rattle.replication.proofs.Runs.Order.{taker_member}
use Rattle.replication.proofs.Runs.Shifts.{comes_of}
use Rattle.replication.proofs.Runs.Sending.{regular_acts}
use Rattle.replication.proofs.Runs.AllowedTurns.{memory_at}
use Rattle.replication.proofs.Agreement.Terms.{Image, in_memory, EndsAt, InstallsAt, installed, ExchangeFacts}
use Rattle.replication.proofs.Agreement.Votes.Turns.{last_at}
use Rattle.replication.proofs.Agreement.Votes.Attempts.{installed_index}
use Rattle.replication.proofs.Agreement.Votes.Unique.{unique_install}
use Rattle.replication.proofs.Agreement.Greens.Terms.{base_of, cuts_of, residue, Agreeable}
use Rattle.replication.proofs.Agreement.Greens.Parts.{Parts}
use Rattle.replication.proofs.Agreement.Greens.Invariant.{UpTo}
use Rattle.replication.proofs.Agreement.Greens.Residues.{same_residue}
use Rattle.replication.proofs.Agreement.Greens.Comparing.{known_installed}
use Rattle.replication.proofs.Agreement.Greens.Taking.{agreeable, same_install_next}

module _ {n q : ℕ} {l : Run} (A : Allowed n q l) where
  -- An Install before r that gives the same as x.
  pub record Earlier {p i : ℕ} {c : Configuration} (x : InstallsAt n q l p i c) (r : ℕ) : Type 0 where
    pub place : ℕ
    pub server : ℕ
    pub install : InstallsAt n q l place server c
    pub before : place < r
    pub index : (installed n q l install).index ≡ (installed n q l x).index
    pub base : base_of A x ≡ base_of A install
    pub cuts : cuts_of A x ≡ cuts_of A install

  pub earlier_residue : {p i r : ℕ} {c : Configuration} (x : InstallsAt n q l p i c) (e : Earlier x r) (t d : ℕ) → residue A x t d ≡ residue A e.install t d
  earlier_residue x e t d = same_residue A x e.install e.base e.cuts t d

  pub taker_image : {e k : ℕ} {c : Configuration} → Takes n q l e k c → Image n q l (suc e) k (memory_at n q l (suc e) k)
  taker_image {e} {k} {c} t = in_memory (regular_acts A e k c t).0.down_next

  module _ (X : ExchangeFacts n q l) where
    -- All members have taken the configuration before one ends its exchange.
    pub enders_before : {p i e k : ℕ} {c : Configuration} → EndsAt n q l p i c → Takes n q l e k c → e < p
    enders_before {p} {i} {e} {k} {c} x t =
        let r = X.states_sent p i c x k (A.allowed.servers e k (comes_of t)) (taker_member t) in
        omega (arith, A.allowed.once e r.2.at k c t r.2.took, r.3)

    module _ (P : Parts A) {t : ℕ} (U : UpTo A t) where
      pub ending_agreeable : {p i : ℕ} {c : Configuration} → p ≤ t → EndsAt n q l p i c → Agreeable A c
      ending_agreeable {p} {i} {c} h x = agreeable A X P c (U t (omega arith)) (λ e k o. omega (arith, enders_before x o))

      along_same : {p r i j : ℕ} {c d : Configuration} (x : InstallsAt n q l p i c) → p < suc t → r < suc t → c ≡ d → (y : InstallsAt n q l r j d)
          → (installed n q l y).index ≡ (installed n q l x).index → (z : ℕ) → r < z → Earlier x z
      along_same {p} {r} {i} {j} {c} {d} x h k f =
          subst (λ v. (y : InstallsAt n q l r j v) → (installed n q l y).index ≡ (installed n q l x).index → (z : ℕ) → r < z → Earlier x z) f
          (λ y e z o.
          let s = same_install_next A X P U p r i j c x y h k in
          record { place = r; server = j; install = y; before = o; index = e; base = s.0; cuts = s.1 })

      -- What an image knows last was installed before, in the same way.
      pub earlier : {p i r s : ℕ} {c : Configuration} {u : Server} (x : InstallsAt n q l p i c) → p < suc t → r ≤ t → Image n q l r s u
          → u.votes.last.index ≡ (installed n q l x).index → Earlier x r
      earlier {p} {i} {r} {s} {c} {u} x h k y e =
          let g : u.votes.last.index ≡ suc (last_at n q l p i).index = omega (arith, e, installed_index x) in
          let z = known_installed A X y g in
          let f : (installed n q l z.install).index ≡ (installed n q l x).index = omega (arith, e, g, z.index) in
          along_same x h (omega (arith, z.before)) (unique_install A X x z.install (sym f)).0 z.install f r z.before
