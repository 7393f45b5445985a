-- From the invariant at t: any two green lists are comparable, and with what can still be known of any member; so members who took one configuration had
-- comparable lists, and all Installs in it give the same.
use Prim.Native.Nat.{ℕ, zero, suc, ◌<◌}
use mathlib.Core.Path.{◌≡◌, refl, sym, ap, subst, ◌∙◌}
use mathlib.Core.Bool.{true}
use mathlib.Core.List.{List, []}
use native.Mathlib.Omega.{arith}
use native.Mathlib.Decide.{dec_lt}
use Rattle.base.specs.Sets.{in_set}
use Rattle.format.specs.Types.{Id}
use Rattle.replication.specs.Machine.Types.{Configuration, Server}
use Rattle.replication.specs.Runs.Run.{Run}
use Rattle.replication.specs.Runs.Happenings.{Takes}
use Rattle.replication.proofs.Runs.Roomy.{Roomy as Allowed}
use Rattle.replication.proofs.Runs.AllowedTurns.{memory_at}
use Rattle.replication.proofs.Runs.Entries.{had}
use Rattle.replication.proofs.Runs.Order.{taker_member}
use Rattle.replication.proofs.Runs.Shifts.{comes_of}
use Rattle.replication.proofs.Agreement.Terms.{Image, in_memory, InstallsAt, installed, ExchangeFacts}
use Rattle.replication.proofs.Agreement.Votes.Events.{taken_before}
use Rattle.replication.proofs.Agreement.Votes.Known.{KnownPrimary, of_start, of_install, image_known}
use Rattle.replication.proofs.Agreement.Votes.Attempts.{installed_index}
use Rattle.replication.proofs.Agreement.Votes.Unique.{unique_install}
use Rattle.replication.proofs.Agreement.Lists.Plus.{plus_begins}
use Rattle.replication.proofs.Agreement.Lists.Fifo.{begins_fifo}
use Rattle.replication.proofs.Agreement.Greens.Beginnings.{Prefix, Comparable, shorter, longer, prefix_refl, prefix_trans, prefix_from, prefix_nil, both_begin, comparable_beginnings}
use Rattle.replication.proofs.Agreement.Greens.Terms.{greens, Fifo, base_of, residue, Settled, nothing, at_base, left, Reached, settled, own}
use Rattle.replication.proofs.Agreement.Greens.Parts.{Parts}
use Rattle.replication.proofs.Agreement.Greens.Invariant.{Invariant}
use Rattle.replication.proofs.Agreement.Greens.Residues.{residue_reach, base_residue, same_residue}

-- ---- orders

pub fifo_beginning : {x y : List Id} → Prefix x y → Fifo y → Fifo x
fifo_beginning {x} {y} h f = record { follows = begins_fifo x y h.begins f.follows }

-- ---- Installs before t

module _ (n q : ℕ) (l : Run) where
  pub record InstalledBefore (t k : ℕ) : Type 0 where
    pub place : ℕ
    pub server : ℕ
    pub configuration : Configuration
    pub install : InstallsAt n q l place server configuration
    pub index : (installed n q l install).index ≡ k
    pub before : place < t

module _ {n q : ℕ} {l : Run} (A : Allowed n q l) (X : ExchangeFacts n q l) where
  -- A primary component that is known was installed before.
  pub known_installed : {t s k : ℕ} {u : Server} → Image n q l t s u → u.votes.last.index ≡ suc k → InstalledBefore n q l t (suc k)
  known_installed {t} {s} {k} {u} x e = go (image_known A X x)
    where
      go : KnownPrimary A t s u.votes.last → InstalledBefore n q l t (suc k)
      go (of_start f) = absurd (omega (arith, ap (λ z. z.index) f))
      go (of_install r j w v c d y h f g o a b) =
          record { place = r; server = j; configuration = c; install = y; index = ap (λ z. z.index) f ∙ e; before = h }

  -- .. and so was the one before it, if that is not the start's.
  pub previous_installed : {p i k : ℕ} {c : Configuration} (x : InstallsAt n q l p i c) → (installed n q l x).index ≡ suc (suc k)
      → InstalledBefore n q l p (suc k)
  previous_installed {p} {i} {k} x e =
      let m : Image n q l p i (memory_at n q l p i) = in_memory x.acts.up in
      known_installed m (omega (arith, installed_index x))

  pub installer_member : {p i : ℕ} {c : Configuration} → InstallsAt n q l p i c → in_set i c.set ≡ true
  installer_member {p} {i} {c} x = taker_member (had n q l p i c x.here).took

  -- All who take the configuration of an Install have done so before it.
  pub takers_before : {p i e k : ℕ} {c : Configuration} → InstallsAt n q l p i c → Takes n q l e k c → e < p
  takers_before {p} {i} {e} {k} {c} x t =
      let r = X.all_marked p i c x k (A.allowed.servers e k (comes_of t)) (taker_member t) in
      omega (arith, taken_before A t (ap (λ z. z.regular) r.2.ending.here), r.1)

  module _ (P : Parts A) {t : ℕ} (I : Invariant A t) where
    -- The list g begins what can be known of some member of a primary component.
    pub data Bounded (g : List Id) : Type 0 where
      empty : g ≡ [] → Bounded g
      under : (p i d : ℕ) (c : Configuration) (x : InstallsAt n q l p i c) → p < t → in_set d c.set ≡ true → Prefix g (residue A x t d) → Bounded g

    pub settled_bounded : {g : List Id} → Settled A t g → Bounded g
    settled_bounded (nothing e) = empty e
    settled_bounded (at_base p i c x h b) = under p i i c x h (installer_member x) (prefix_trans b (base_residue A x t i))
    settled_bounded (left p i d c x h m o b) = under p i d c x h m b

    pub reached_bounded : {s : ℕ} {g : List Id} → Reached A t s g → Bounded g
    reached_bounded (settled b) = settled_bounded b
    reached_bounded {s} (own p i c x h m b) = under p i s c x h m b

    -- What can still be known of a primary component was green at every later Install.
    pub covers_all : (b d : ℕ) {p r i j : ℕ} {c e : Configuration} (x : InstallsAt n q l p i c) (y : InstallsAt n q l r j e) → p < t → r < t
        → (installed n q l y).index ≡ b → (installed n q l x).index < b → in_set d c.set ≡ true → Prefix (residue A x t d) (base_of A y)
    covers_all zero d x y h k f o m = absurd (omega arith)
    covers_all (suc zero) d x y h k f o m = absurd (omega (arith, installed_index x))
    covers_all (suc (suc b)) d {p} {r} {i} {j} {c} {e} x y h k f o m =
        go (dec_lt (installed n q l x).index (suc b)) (λ a. covers_all (suc b) d x z.install h (omega (arith, z.before)) z.index a m)
      where
        z : InstalledBefore n q l r (suc b)
        z = previous_installed y f

        go : Dec ((installed n q l x).index < suc b) → ((installed n q l x).index < suc b → Prefix (residue A x t d) (base_of A z.install))
            → Prefix (residue A x t d) (base_of A y)
        go (yes a) g =
            prefix_trans (g a)
            (prefix_trans (base_residue A z.install t z.server)
            (I.next_covers z.place r z.server j z.server z.configuration e z.install y (omega (arith, z.before)) k (omega (arith, z.index))
            (installer_member z.install)))
        go (no a) g = I.next_covers p r i j d c e x y h k (omega arith) m

    pub later_covers : (d : ℕ) {p r i j : ℕ} {c e : Configuration} (x : InstallsAt n q l p i c) (y : InstallsAt n q l r j e) → p < t → r < t
        → (installed n q l x).index < (installed n q l y).index → in_set d c.set ≡ true → Prefix (residue A x t d) (base_of A y)
    later_covers d x y h k o m = covers_all (installed n q l y).index d x y h k refl o m

    one_level : (d e : ℕ) {p r i j : ℕ} {c c' : Configuration} {g h : List Id} (x : InstallsAt n q l p i c) → p < t → r < t → c ≡ c' → in_set d c.set ≡ true
        → Prefix g (residue A x t d) → (y : InstallsAt n q l r j c') → in_set e c'.set ≡ true → Prefix h (residue A y t e) → Comparable g h
    one_level d e {p} {r} {i} {j} {c} {c'} {g} {h} x a b f m u =
        subst (λ k. (y : InstallsAt n q l r j k) → in_set e k.set ≡ true → Prefix h (residue A y t e) → Comparable g h) f go
      where
        go : (y : InstallsAt n q l r j c) → in_set e c.set ≡ true → Prefix h (residue A y t e) → Comparable g h
        go y o v =
            let s = I.same_install p r i j c x y a b in
            comparable_beginnings (prefix_trans u (residue_reach A x t d))
            (prefix_trans v (prefix_from (sym (same_residue A x y s.0 s.1 t e)) (residue_reach A x t e)))
            (P.primaries.reaches_comparable p i d e c x m o)

    pub bounded_comparable : {g h : List Id} → Bounded g → Bounded h → Comparable g h
    bounded_comparable (empty e) b = shorter (prefix_from e prefix_nil)
    bounded_comparable (under p i d c x a m u) (empty e) = longer (prefix_from e prefix_nil)
    bounded_comparable {g} {h} (under p i d c x a m u) (under r j e c' y b o v) =
        go (dec_lt (installed n q l x).index (installed n q l y).index) (dec_lt (installed n q l y).index (installed n q l x).index)
      where
        go : Dec ((installed n q l x).index < (installed n q l y).index) → Dec ((installed n q l y).index < (installed n q l x).index) → Comparable g h
        go (yes k) w = both_begin g h (residue A y t e) (prefix_trans u (prefix_trans (later_covers d x y a b k m) (base_residue A y t e))) v
        go (no k) (yes w) = both_begin g h (residue A x t d) u (prefix_trans v (prefix_trans (later_covers e y x b a w o) (base_residue A x t d)))
        go (no k) (no w) = one_level d e x a b (unique_install A X x y (omega arith)).0 m u y o v

    -- ---- any two green lists are comparable

    pub agree : {s z : ℕ} {u v : Server} → Image n q l t s u → Image n q l t z v → Comparable (greens u) (greens v)
    agree {s} {z} {u} {v} x y = bounded_comparable (reached_bounded (I.reached s u x)) (reached_bounded (I.reached z v y))

    pub residue_comparable : (d : ℕ) {p i s : ℕ} {c : Configuration} {u : Server} (x : InstallsAt n q l p i c) → p < t → in_set d c.set ≡ true
        → Image n q l t s u
        → Comparable (residue A x t d) (greens u)
    residue_comparable d {p} {i} {s} {c} {u} x h m y = bounded_comparable (under p i d c x h m prefix_refl) (reached_bounded (I.reached s u y))

    pub image_fifo : {s : ℕ} {u : Server} → Image n q l t s u → Fifo (greens u)
    image_fifo {s} {u} x = fifo_beginning (record { begins = plus_begins (greens u) _ }) (I.fifo s u x)
