-- What the induction on green lists takes from the arguments on lists, on one exchange and on one primary component.
use Prim.Native.Nat.{ℕ, suc, ◌≤◌, ◌<◌}
use mathlib.Core.Path.{◌≡◌}
use mathlib.Core.Bool.{true}
use mathlib.Core.List.{List, ◌∷◌, Memᴰ}
use mathlib.Core.Logic.{◌⊎◌}
use Rattle.base.specs.Lists.{Each}
use Rattle.base.specs.Sets.{in_set}
use Rattle.format.specs.Types.{Id, State}
use Rattle.replication.specs.Machine.Types.{Reg_prim, Trans_prim, Exchange_actions, Un, Configuration, Server}
use Rattle.replication.specs.Machine.Colours.{cut}
use Rattle.replication.specs.Machine.Exchange.{common_yellow}
use Rattle.replication.specs.Machine.Install.{install_log}
use Rattle.replication.specs.Machine.WellFormed.{ids_in}
use Rattle.replication.proofs.WellFormed.Clauses.{Invariant}
use Rattle.replication.specs.Laws.Order.{in_exchange}
use Rattle.replication.specs.Runs.Run.{Run}
use Rattle.replication.specs.Runs.Happenings.{Takes, Falls}
use Rattle.replication.proofs.Runs.Roomy.{Roomy as Allowed}
use Rattle.replication.proofs.Runs.AllowedTurns.{memory_at, Acts}
use Rattle.replication.proofs.Agreement.Terms.{Within, EndsAt, InstallsAt, installed}
use Rattle.replication.proofs.Agreement.Greens.Beginnings.{Prefix, Comparable}
use Rattle.replication.proofs.Agreement.Greens.Terms.{greens, plus, Fifo, base_of, cuts_of, reach, Agreeable}

-- ---- lists of ids

pub record ListParts : Type 0 where
  pub growth : (r g g' ys : List Id) → Prefix r (plus g ys) → Prefix g g' → Comparable r g' → Prefix r (plus g' ys)
  -- The ids common to the yellow lists of all these States, in the order of the first, where f says what was green with each.
  pub common_covers : (r g : List Id) (f : State → List Id) (v : State) (vs : List State) → Comparable r g → Fifo g
      → ((w : State) → Memᴰ w (v ∷ vs) → Prefix (f w) g × Prefix r (plus (f w) w.yellow.ids) × Fifo (plus (f w) w.yellow.ids))
      → Prefix r (plus g (common_yellow (v ∷ vs)).ids)
  pub common_fifo : (g : List Id) (f : State → List Id) (v : State) (vs : List State) → Fifo g
      → ((w : State) → Memᴰ w (v ∷ vs) → Prefix (f w) g × Fifo (plus (f w) w.yellow.ids))
      → Fifo (plus g (common_yellow (v ∷ vs)).ids)
  -- More green, the yellow list as it was.
  pub growth_fifo : (g g' ys : List Id) → Fifo (plus g ys) → Prefix g g' → Fifo g' → Fifo (plus g' ys)
  -- Install: the yellow ids, all held, come directly above the green ones.
  pub installs_yellow : (s : Server) (ys : List Id) → Invariant s → Each (λ d. d.index ≤ cut s.log d.creator) ys → Fifo (plus (greens s) ys)
      → Prefix (plus (greens s) ys) (ids_in (install_log ys s.log).green) × Fifo (ids_in (install_log ys s.log).green)

module _ {n q : ℕ} {l : Run} (A : Allowed n q l) where
  -- ---- one exchange

  pub record ContentParts : Type 0 where
    -- Whoever ends the exchange has a green list that a member had, which each member's begins, and each member's cuts.
    pub ends_longest : (p i e k : ℕ) (c : Configuration) → Agreeable A c → EndsAt n q l p i c → in_exchange (memory_at n q l p i).membership.mode ≡ true
        → Takes n q l e k c → Prefix (greens (memory_at n q l (suc e) k)) (greens (memory_at n q l (suc p) i))
    pub ends_from : (p i : ℕ) (c : Configuration) → Agreeable A c → EndsAt n q l p i c → in_exchange (memory_at n q l p i).membership.mode ≡ true
        → (k : ℕ) × (e : ℕ) × Takes n q l e k c × (greens (memory_at n q l (suc p) i) ≡ greens (memory_at n q l (suc e) k))
    pub ends_cuts : (p i e k : ℕ) (c : Configuration) → Agreeable A c → EndsAt n q l p i c → in_exchange (memory_at n q l p i).membership.mode ≡ true
        → Takes n q l e k c → (a : ℕ) → cut (memory_at n q l (suc e) k).log a ≤ cut (memory_at n q l (suc p) i).log a
    -- While retransmissions come, all members have taken c, and the green list begins one that a member had.
    pub all_took : (p i e k : ℕ) (c : Configuration) → Within n q l p i c → (memory_at n q l p i).membership.mode ≡ Exchange_actions → Takes n q l e k c → e < p
    pub resent_from : (p i : ℕ) (c : Configuration) → Agreeable A c → Within n q l p i c → (memory_at n q l p i).membership.mode ≡ Exchange_actions
        → Acts n q l p i
        → (k : ℕ) × (e : ℕ) × Takes n q l e k c × Prefix (greens (memory_at n q l (suc p) i)) (greens (memory_at n q l (suc e) k))
    -- All Installs in c give the same.
    pub one_base : (p r i j : ℕ) (c : Configuration) → Agreeable A c → (x : InstallsAt n q l p i c) (y : InstallsAt n q l r j c)
        → (base_of A x ≡ base_of A y) × (cuts_of A x ≡ cuts_of A y)

  -- ---- one primary component

  pub record PrimaryParts : Type 0 where
    -- Whoever is in a primary component installed it in its present configuration.
    pub in_primary_lem : (p i : ℕ) (c : Configuration) → Within n q l p i c
        → ((memory_at n q l p i).membership.mode ≡ Reg_prim) ⊎ ((memory_at n q l p i).membership.mode ≡ Trans_prim)
        → (r : ℕ) × (r < p) × (x : InstallsAt n q l r i c) × (installed n q l x ≡ (memory_at n q l p i).votes.last)
    pub begins_reach : (p r i : ℕ) (c : Configuration) (x : InstallsAt n q l r i c) → r < p → Within n q l p i c
        → Prefix (greens (memory_at n q l p i)) (reach A x i)
    pub reaches_comparable : (r i d e : ℕ) (c : Configuration) (x : InstallsAt n q l r i c) → in_set d c.set ≡ true → in_set e c.set ≡ true
        → Comparable (reach A x d) (reach A x e)
    -- Whoever leaves from Trans_prim has all that any member reaches, green or yellow.
    pub leaves_with_all : (p r s i j e : ℕ) (c d : Configuration) (x : InstallsAt n q l r i c) (y : InstallsAt n q l s j c) → s < p → Takes n q l p j d
        → Within n q l p j c
        → (memory_at n q l p j).membership.mode ≡ Trans_prim → base_of A x ≡ base_of A y → cuts_of A x ≡ cuts_of A y → in_set e c.set ≡ true
        → Prefix (reach A x e) (plus (greens (memory_at n q l p j)) (memory_at n q l p j).votes.yellow.ids)
    pub leaves_in_order : (p s j : ℕ) (c d : Configuration) (y : InstallsAt n q l s j c) → s < p → Takes n q l p j d → Within n q l p j c
        → (memory_at n q l p j).membership.mode ≡ Trans_prim → Fifo (base_of A y)
        → Fifo (plus (greens (memory_at n q l p j)) (memory_at n q l p j).votes.yellow.ids)
    -- Whoever leaves otherwise does so from Un, and then no member gets further than the Install.
    pub leaves_with_none : (p r i j e : ℕ) (c d : Configuration) (x : InstallsAt n q l r i c) → Takes n q l p j d → Within n q l p j c
        → ((memory_at n q l p j).membership.mode ≡ Trans_prim → ⊥) → in_set e c.set ≡ true
        → ((memory_at n q l p j).membership.mode ≡ Un) × (reach A x e ≡ base_of A x)
    -- Whoever falls had installed, or gets no further than the Install.
    pub falls_after : (p r i d : ℕ) (c : Configuration) (x : InstallsAt n q l r i c) → Falls n q l p d → Within n q l p d c
        → ((s : ℕ) × (s < p) × InstallsAt n q l s d c) ⊎ (reach A x d ≡ base_of A x)
    pub reach_fifo : (r i d : ℕ) (c : Configuration) (x : InstallsAt n q l r i c) → in_set d c.set ≡ true → Fifo (base_of A x) → Fifo (reach A x d)

  pub record Parts : Type 0 where
    pub lists : ListParts
    pub contents : ContentParts
    pub primaries : PrimaryParts
