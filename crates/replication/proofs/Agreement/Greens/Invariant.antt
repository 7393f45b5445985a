-- The invariant of green lists, at one place, for all images at once.
use Prim.Native.Nat.{ℕ, suc, ◌≤◌, ◌<◌}
use mathlib.Core.Path.{◌≡◌}
use mathlib.Core.Bool.{true}
use Rattle.base.specs.Lists.{Each}
use Rattle.base.specs.Sets.{in_set}
use Rattle.replication.specs.Machine.Types.{Configuration, Server}
use Rattle.replication.specs.Machine.Colours.{cut}
use Rattle.replication.specs.Runs.Run.{Run}
use Rattle.replication.proofs.Runs.Roomy.{Roomy as Allowed}
use Rattle.replication.proofs.Agreement.Terms.{Image, InstallsAt, installed}
use Rattle.replication.proofs.Agreement.Votes.Judging.{Alike}
use Rattle.replication.proofs.Agreement.Greens.Beginnings.{Prefix}
use Rattle.replication.proofs.Agreement.Greens.Terms.{greens, plus, Fifo, valid_yellow, base_of, cuts_of, mark_of_install, residue, Reached, Answers, Known}

module _ {n q : ℕ} {l : Run} (A : Allowed n q l) where
  pub record Invariant (t : ℕ) : Type 0 where
    -- Every green list is within an installed primary component.
    pub reached : (s : ℕ) (u : Server) → Image n q l t s u → Reached A t s (greens u)
    -- The Installs in one configuration give the same.
    pub same_install : (p r i j : ℕ) (c : Configuration) (x : InstallsAt n q l p i c) (y : InstallsAt n q l r j c) → p < t → r < t
        → (base_of A x ≡ base_of A y) × (cuts_of A x ≡ cuts_of A y)
    -- Whoever knows a primary component has what was green at its Install.
    pub has_base : (p i s : ℕ) (c : Configuration) (u : Server) (x : InstallsAt n q l p i c) → p < t → Image n q l t s u
        → u.votes.last.index ≡ (installed n q l x).index → Prefix (base_of A x) (greens u)
    -- What can still be known of a primary component was green at the Install of the next.
    pub next_covers : (p r i j d : ℕ) (c e : Configuration) (x : InstallsAt n q l p i c) (y : InstallsAt n q l r j e) → p < t → r < t
        → (installed n q l y).index ≡ suc (installed n q l x).index → in_set d c.set ≡ true → Prefix (residue A x t d) (base_of A y)
    -- Whoever answers for the primary component that it knows last has all that can still be known of it.
    pub answers : (p i s d : ℕ) (c : Configuration) (u : Server) (x : InstallsAt n q l p i c) → p < t → Image n q l t s u
        → u.votes.last.index ≡ (installed n q l x).index → Answers A x s u → in_set d c.set ≡ true
        → Prefix (residue A x t d) (plus (greens u) (valid_yellow u))
    -- A bit of a mark is of a member of which the image has all that can be known.
    pub bits : (p i s d : ℕ) (c : Configuration) (u : Server) (x : InstallsAt n q l p i c) → Image n q l t s u → Alike (mark_of_install A x) u.votes.mark
        → in_set d u.votes.mark.bits ≡ true → Known A x t d u
    -- Each creator's ids stand in order, those green at an Install, and green and valid yellow ones; valid yellow ones are entered.
    pub base_fifo : (p i : ℕ) (c : Configuration) (x : InstallsAt n q l p i c) → p < t → Fifo (base_of A x)
    pub fifo : (s : ℕ) (u : Server) → Image n q l t s u → Fifo (plus (greens u) (valid_yellow u))
    pub yellow_entered : (s : ℕ) (u : Server) → Image n q l t s u → Each (λ d. d.index ≤ cut u.log d.creator) (valid_yellow u)

  -- Up to t.
  abbrev pub UpTo : ℕ → Type 0
  UpTo t = (x : ℕ) → x ≤ t → Invariant x
