-- Every green list stays within an installed primary component: what a place does to one.
use Prim.Native.Nat.{ℕ, suc, max, ◌≤◌, ◌<◌}
use mathlib.Core.Path.{◌≡◌, refl, sym}
use mathlib.Core.Bool.{false}
use mathlib.Core.List.{List, [], ◌∷◌}
use native.Mathlib.Omega.{arith}
use native.Mathlib.Decide.{dec_lt}
use lib.ListN.{length}
use Rattle.base.proofs.TestLaws.{Known, holds, fails, known}
use Rattle.base.proofs.Chains.{chain}
use Rattle.format.specs.Types.{Id}
use Rattle.replication.specs.Machine.Types.{Configuration}
use Rattle.replication.specs.Runs.Run.{Run}
use Rattle.replication.specs.Runs.Happenings.{Takes, Falls}
use Rattle.replication.proofs.Runs.Roomy.{Roomy as Allowed}
use Rattle.replication.proofs.Runs.AllowedTurns.{store_at}
use Rattle.replication.proofs.Runs.Entries.{Had, had}
use Rattle.replication.proofs.Agreement.Terms.{Within, InstallsAt, ExchangeFacts}
use Rattle.replication.proofs.Agreement.Greens.Beginnings.{Prefix, prefix_trans, prefix_to, begins_take, prefix_length}
use Rattle.replication.proofs.Agreement.Greens.Terms.{greens, base_of, falls_in, residue, Settled, nothing, at_base, left, Reached, settled, own}
use Rattle.replication.proofs.Agreement.Greens.Residues.{within_place, fallen, residue_stays, residue_fallen}
use Rattle.replication.proofs.Agreement.Greens.Comparing.{takers_before}

nothing_begins : {x : List Id} → Prefix x [] → x ≡ []
nothing_begins {x} h = go x h
  where
    go : (x : List Id) → Prefix x [] → x ≡ []
    go [] h = refl
    go (a ∷ x) h = absurd (omega (arith, prefix_length h))

module _ {n q : ℕ} {l : Run} (A : Allowed n q l) (X : ExchangeFacts n q l) where
  pub settled_prefix : {t : ℕ} {g h : List Id} → Prefix g h → Settled A t h → Settled A t g
  settled_prefix k (nothing e) = nothing (nothing_begins (prefix_to k e))
  settled_prefix k (at_base p i c x a b) = at_base p i c x a (prefix_trans k b)
  settled_prefix k (left p i d c x a m o b) = left p i d c x a m o (prefix_trans k b)

  -- ---- one place

  not_within : (t d : ℕ) (c : Configuration) → (Within n q l t d c → ⊥) → falls_in A c d t ≡ false
  not_within t d c f = go (known (falls_in A c d t))
    where
      go : Known (falls_in A c d t) → falls_in A c d t ≡ false
      go (holds h) = absurd (f (fallen A t d c h).1)
      go (fails h) = h

  pub no_fall : (t d : ℕ) (c : Configuration) → (Falls n q l t d → ⊥) → falls_in A c d t ≡ false
  no_fall t d c f = go (known (falls_in A c d t))
    where
      go : Known (falls_in A c d t) → falls_in A c d t ≡ false
      go (holds h) = absurd (f (fallen A t d c h).0)
      go (fails h) = h

  -- Nobody comes into the configuration of an Install after it.
  pub stays_out : {p i t d : ℕ} {c : Configuration} → InstallsAt n q l p i c → p < t → (Within n q l t d c → ⊥) → Within n q l (suc t) d c → ⊥
  stays_out {p} {i} {t} {d} {c} x h f w = go (dec_lt y.took_at t)
    where
      y : Had n q l d (suc t) c
      y = had n q l (suc t) d c w.here

      go : Dec (y.took_at < t) → ⊥
      go (yes a) = f (within_place A (y.kept t a (omega arith)))
      go (no a) = omega (arith, takers_before A X x y.took, y.earlier)

  pub settled_next : {t : ℕ} {g : List Id} → Settled A t g → Settled A (suc t) g
  settled_next (nothing e) = nothing e
  settled_next (at_base p i c x a b) = at_base p i c x (omega arith) b
  settled_next {t} (left p i d c x a m o b) =
      left p i d c x (omega arith) m (stays_out x a o) (prefix_to b (sym (residue_stays A x t d (not_within t d c o))))

  pub settled_between : {t r : ℕ} {g : List Id} → t ≤ r → Settled A t g → Settled A r g
  settled_between {t} {r} {g} h b = chain (λ u v. (Settled A u g → Settled A v g)) (λ u z. z) (λ u v w f k z. k (f z)) (λ z. z) t r h (λ z a o. settled_next) b

  -- A server that does not fall keeps what it reached; after a fall it has what it had stored.
  pub reached_next : {t s : ℕ} {g : List Id} → (Falls n q l t s → ⊥) → Reached A t s g → Reached A (suc t) s g
  reached_next f (settled b) = settled (settled_next b)
  reached_next {t} {s} f (own p i c x a m b) = own p i c x (omega arith) m (prefix_to b (sym (residue_stays A x t s (no_fall t s c f))))

  pub reached_fallen : {t s : ℕ} → Reached A t s (greens (store_at n q l t s)) → Reached A (suc t) s (greens (store_at n q l t s))
  reached_fallen (settled b) = settled (settled_next b)
  reached_fallen {t} {s} (own p i c x a m b) = own p i c x (omega arith) m (go (known (falls_in A c s t)))
    where
      go : Known (falls_in A c s t) → Prefix (greens (store_at n q l t s)) (residue A x (suc t) s)
      go (holds h) =
          prefix_to (begins_take (max (length (base_of A x)) (length (greens (store_at n q l t s)))) (greens (store_at n q l t s)) (residue A x t s) b (omega arith))
          (sym (residue_fallen A x t s h))
      go (fails h) = prefix_to b (sym (residue_stays A x t s h))

  -- What a server had when it took a configuration is settled then.
  pub reached_settled : {e k : ℕ} {c : Configuration} {g : List Id} → Takes n q l e k c → Reached A (suc e) k g → Settled A (suc e) g
  reached_settled t (settled b) = b
  reached_settled {e} {k} {c} t (own p i d x a m b) = left p i k d x a m (λ w. out w) b
    where
      out : Within n q l (suc e) k d → ⊥
      out w = let y = had n q l (suc e) k d w.here in go y (dec_lt y.took_at e)
        where
          go : (y : Had n q l k (suc e) d) → Dec (y.took_at < e) → ⊥
          go y (yes z) = y.alone e c z (omega arith) t
          go y (no z) = omega (arith, takers_before A X x y.took, y.earlier)
