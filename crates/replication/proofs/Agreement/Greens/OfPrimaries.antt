-- The part on one primary component.
use Prim.Native.Nat.{ℕ, zero, suc, ◌<◌}
use mathlib.Core.Path.{◌≡◌, sym, ap, subst, subst₂, ◌∙◌}
use mathlib.Core.Bool.{true}
use mathlib.Core.List.{List, [], ◌++◌, append-nil}
use mathlib.Core.Logic.{◌⊎◌, inl, inr}
use mathlib.Core.Option.{some}
use native.Mathlib.Omega.{arith}
use native.Mathlib.Decide.{dec_lt}
use lib.ListN.{length}
use Rattle.base.proofs.AtLaws.{some_same}
use Rattle.base.proofs.Comparable.{begins_map, comparable_map}
use Rattle.base.specs.Lists.{Begins}
use Rattle.base.specs.Sets.{in_set}
use Rattle.base.proofs.TestLaws.{not_both}
use Rattle.format.specs.Types.{Action}
use Rattle.replication.specs.Machine.Types.{Mode, Reg_prim, Trans_prim, Un, Configuration}
use Rattle.replication.specs.Machine.WellFormed.{ids_in}
use Rattle.replication.specs.Laws.Folds.{entered}
use Rattle.replication.specs.Laws.Order.{in_exchange}
use Rattle.replication.specs.Runs.Run.{Run, place_at}
use Rattle.replication.proofs.Runs.DeliveryFacts.{within_regular}
use Rattle.replication.specs.Runs.Happenings.{Takes}
use Rattle.replication.proofs.Runs.Roomy.{Roomy as Allowed}
use Rattle.replication.proofs.Runs.AllowedTurns.{memory_at}
use Rattle.replication.proofs.Runs.Entries.{Had, had}
use Rattle.replication.proofs.Runs.Made.{all_made}
use Rattle.replication.proofs.Agreement.Terms.{Within, InstallsAt, installed}
use Rattle.replication.proofs.Agreement.Votes.Turns.{last_at, VotesTurn, keeps, joins, ends, installs, votes_turn}
use Rattle.replication.proofs.Agreement.Votes.Events.{taken_before}
use Rattle.replication.proofs.Agreement.Lists.Fifo as F
use Rattle.replication.proofs.Agreement.Primaries.Acted.{acted_in, acted_regular}
use Rattle.replication.proofs.Agreement.Primaries.Parts.{ids_append}
use Rattle.replication.proofs.Agreement.Primaries.Terms.{begins_nothing, base, regularly, in_com}
use Rattle.replication.proofs.Agreement.Primaries.Installed as I
use Rattle.replication.proofs.Agreement.Primaries.Installed.{in_primary, stays_primary, installs_once}
use Rattle.replication.proofs.Agreement.Primaries.Leaving as L
use Rattle.replication.proofs.Agreement.Primaries.Leaving.{reached, reached_comparable, green_whole, leaves_from_un}
use Rattle.replication.proofs.Agreement.Primaries.Orders.{reached_fifo, yellow_joins, yellow_fifo}
use Rattle.replication.proofs.Agreement.Greens.Beginnings.{Prefix, Comparable, lists_comparable, prefix_to, prefix_from}
use Rattle.replication.proofs.Agreement.Greens.Terms.{greens, plus, base_of, cuts_of, reach}
use Rattle.replication.proofs.Agreement.Greens.Parts.{PrimaryParts}
use Rattle.replication.proofs.Agreement.Greens.Residues.{within_place}
use Rattle.replication.proofs.Agreement.Contents.Same.{same_actions}

primary_mode : {m : Mode} → (m ≡ Reg_prim) ⊎ (m ≡ Trans_prim) → in_primary m ≡ true
unfolding in_primary
primary_mode (inl e) = ap in_primary e
primary_mode (inr e) = ap in_primary e

primary_no_exchange : (m : Mode) → in_primary m ≡ true → in_exchange m ≡ true → ⊥
unfolding in_primary in_exchange
primary_no_exchange Mode.Non_prim h k = not_both h
primary_no_exchange Reg_prim h k = not_both k
primary_no_exchange Trans_prim h k = not_both k
primary_no_exchange Mode.Exchange_states h k = not_both h
primary_no_exchange Mode.Exchange_actions h k = not_both h
primary_no_exchange Mode.Construct h k = not_both h
primary_no_exchange Mode.No h k = not_both h
primary_no_exchange Un h k = not_both h

module _ {n q : ℕ} {l : Run} (A : Allowed n q l) where
  -- While a server stays in the configuration in which it installed, it knows what it installed.
  last_kept : {r i : ℕ} {c : Configuration} (x : InstallsAt n q l r i c) (p : ℕ) → r < p → Within n q l p i c → last_at n q l p i ≡ installed n q l x
  last_kept {r} {i} {c} x zero h w = absurd (omega arith)
  last_kept {r} {i} {c} x (suc p) h w = go (dec_lt r p) (λ a. last_kept x p a (within_place A (kept a)))
    where
      stay : Had n q l i (suc p) c
      stay = had n q l (suc p) i c w.here

      taken : (r < p) → stay.took_at < p
      taken a = omega (arith, taken_before A stay.took x.here)

      kept : (a : r < p) → (place_at n q l i p).regular ≡ some c
      kept a = stay.kept p (taken a) (omega arith)

      step : r < p → VotesTurn n q l p i → last_at n q l p i ≡ installed n q l x → last_at n q l (suc p) i ≡ installed n q l x
      step a (keeps v s) e = v.last ∙ e
      step a (joins d t j) e = j.last ∙ e
      step a (ends d y m) e = absurd (primary_no_exchange _ (stays_primary A x p a (kept a)) m)
      step a (installs d y) e =
          let f : d ≡ c = some_same (sym y.here ∙ kept a) in
          absurd (omega (arith, installs_once A x (subst (λ z. InstallsAt n q l p i z) f y)))

      go : Dec (r < p) → (r < p → last_at n q l p i ≡ installed n q l x) → last_at n q l (suc p) i ≡ installed n q l x
      go (yes a) f = step a (votes_turn A p i) (f a)
      go (no a) f = let e : r ≡ p = omega arith in subst (λ z. last_at n q l (suc z) i ≡ installed n q l x) e (ap (λ s. s.votes.last) x.acts.memory_next)

  -- What is reached, on ids.
  reach_ids : {p i : ℕ} {c : Configuration} (x : InstallsAt n q l p i c) (d : ℕ)
      → ids_in (reached A c (base A x) (memory_at n q l p i).log.cuts d (length l)) ≡ reach A x d
  unfolding reach base_of cuts_of
  reach_ids {p} {i} {c} x d = ids_append (base A x) (entered (memory_at n q l p i).log.cuts (acted_in A (within_regular c) d (length l)))

  reach_nothing : {p i : ℕ} {c : Configuration} (x : InstallsAt n q l p i c) (d : ℕ) → regularly A c d (length l) ≡ [] → reach A x d ≡ base_of A x
  unfolding reach entered ids_in
  reach_nothing {p} {i} {c} x d e = ap (λ z. base_of A x ++ ids_in (entered (cuts_of A x) z)) e ∙ append-nil (base_of A x)

  none_regularly : (c : Configuration) (d : ℕ) → ((r : ℕ) → in_com A c d r ≡ []) → regularly A c d (length l) ≡ []
  none_regularly c d f =
      begins_nothing _ (subst (λ z. Begins (regularly A c d (length l)) z) (f (length l)) (acted_regular A c d (length l) (length l) (omega arith)))

  -- Equal ids, equal actions.
  same_base : {p r i j : ℕ} {c : Configuration} (x : InstallsAt n q l p i c) (y : InstallsAt n q l r j c) → base_of A x ≡ base_of A y → base A x ≡ base A y
  unfolding base_of
  same_base {p} {r} {i} {j} x y e = same_actions A (suc p) (suc r) (base A x) (base A y) (all_made A (suc p) i).memory.green (all_made A (suc r) j).memory.green e

  begins_ids : (x y : List Action) → Begins x y → Prefix (ids_in x) (ids_in y)
  unfolding ids_in
  begins_ids x y h = record { begins = begins_map (λ a. a.id) x y h }

  leaves_with_all : (p r s i j e : ℕ) (c d : Configuration) (x : InstallsAt n q l r i c) (y : InstallsAt n q l s j c) → s < p → Takes n q l p j d
      → Within n q l p j c
      → (memory_at n q l p j).membership.mode ≡ Trans_prim → base_of A x ≡ base_of A y → cuts_of A x ≡ cuts_of A y → in_set e c.set ≡ true
      → Prefix (reach A x e) (plus (greens (memory_at n q l p j)) (memory_at n q l p j).votes.yellow.ids)
  unfolding cuts_of
  leaves_with_all p r s i j e c d x y h t w m b k o =
      prefix_from (sym (reach_ids x e))
      (prefix_to (record { begins = L.leaves_with_all A x y (same_base x y b) k h w.here t m e (length l) }) (sym (yellow_joins A y p h w.here m)))

  compare : (r i d e : ℕ) (c : Configuration) (x : InstallsAt n q l r i c) → Comparable (reach A x d) (reach A x e)
  unfolding ids_in
  compare r i d e c x =
      subst₂ (λ y z. Comparable y z) (reach_ids x d) (reach_ids x e)
      (lists_comparable _ _ (comparable_map (λ a. a.id) _ _ (reached_comparable A c (base A x) (memory_at n q l r i).log.cuts d e (length l) (length l))))

  pub primary_parts : PrimaryParts A
  unfolding base_of cuts_of
  primary_parts =
      record {
        in_primary_lem = λ p i c w m.
            let x = I.in_primary_lem A p i c w.here (primary_mode m) in
            (x.0, x.1, x.2, sym (last_kept x.2 p x.1 w));
        begins_reach = λ p r i c x h w. prefix_to (begins_ids _ _ (green_whole A x p h w.here)) (reach_ids x i);
        reaches_comparable = λ r i d e c x m k. compare r i d e c x;
        leaves_with_all = leaves_with_all;
        leaves_in_order = λ p s j c d y h t w m f. record { follows = yellow_fifo A y p h w.here m f.follows };
        leaves_with_none = λ p r i j e c d x t w f m.
            ((leaves_from_un A x w.here t f).0, reach_nothing x e (L.leaves_with_none A x w.here t f e (length l)));
        falls_after = λ p r i d c x f w. falling r i d c x (L.falls_after A x p d w.here f);
        reach_fifo = λ r i d c x m f. record { follows = subst (λ z. F.Fifo z) (reach_ids x d) (reached_fifo A x f.follows d (length l)) };
      }
    where
      falling : (r i d : ℕ) (c : Configuration) (x : InstallsAt n q l r i c) {p : ℕ}
          → ((s : ℕ) × (s < p) × InstallsAt n q l s d c) ⊎ ((r : ℕ) → in_com A c d r ≡ [])
          → ((s : ℕ) × (s < p) × InstallsAt n q l s d c) ⊎ (reach A x d ≡ base_of A x)
      falling r i d c x (inl y) = inl y
      falling r i d c x (inr f) = inr (reach_nothing x d (none_regularly c d f))
