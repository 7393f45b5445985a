-- What row 8 says of an own list, action by action, and what waits on it.
use Prim.Native.Nat.{ℕ, zero, suc, ◌+◌, ◌-◌, ◌≤◌, ◌<◌}
use mathlib.Core.Path.{◌≡◌, refl, sym, ap, ◌∙◌}
use mathlib.Core.List.{List, [], ◌∷◌, map}
use native.Mathlib.Omega.{arith}
use lib.ListN.{length, drop, length-map}
use lib.Seq.{drop-nil}
use Rattle.base.specs.Tests.{◌<?◌}
use Rattle.base.specs.Lists.{filter, after, above, Each}
use Rattle.base.proofs.TestLaws.{lt_holds, lt_fails, Known, holds, fails, known}
use Rattle.base.proofs.ListLaws.{each_filter, each_implied, each_map, map_each, above_between, above_length}
use Rattle.base.proofs.Filters.{filter_yes, filter_no, filter_length}
use Rattle.format.specs.Types.{Id, Action}
use Rattle.replication.specs.Machine.Types.{Log}
use Rattle.replication.specs.Machine.Colours.{cut}
use Rattle.replication.specs.Machine.Requests.{unsent, waiting}
use Rattle.replication.specs.Machine.WellFormed.{ids_in}
use Rattle.replication.proofs.WellFormed.Clauses.{OwnListFits}
use Rattle.replication.proofs.WellFormed.Logs.{own_id}

-- In a list whose ids run on from k, what is above those sent stands behind them.
unsent_after : (me k m sent : ℕ) (xs : List Action) → ids_in xs ≡ map (own_id me) (after k m) → unsent sent xs ≡ drop (sent - k) xs
unfolding ids_in after unsent filter
unsent_after me k zero sent [] e = sym (drop-nil (sent - k))
unsent_after me k (suc m) sent [] e = sym (drop-nil (sent - k))
unsent_after me k zero sent (x ∷ xs) e = let z : ◌≡◌ {A = ℕ} 0 1 = cc in absurd (omega arith)
unsent_after me k (suc m) sent (x ∷ xs) e = go (known (sent <? x.id.index)) (unsent_after me (k + 1) m sent xs cc)
  where
    index : x.id.index ≡ k + 1
    index = let g : x.id ≡ own_id me (k + 1) = cc in ap (λ d. d.index) g

    go : Known (sent <? x.id.index) → unsent sent xs ≡ drop (sent - (k + 1)) xs → unsent sent (x ∷ xs) ≡ drop (sent - k) (x ∷ xs)
    go (holds h) more =
        let none : sent - k ≡ 0 = omega (arith, lt_holds _ _ h, index) in
        let rest : sent - (k + 1) ≡ 0 = omega (arith, lt_holds _ _ h, index) in
        filter_yes _ x xs h ∙ ap (λ y. x ∷ y) (more ∙ ap (λ j. drop j xs) rest) ∙ ap (λ j. drop j (x ∷ xs)) (sym none)
    go (fails h) more =
        let next : sent - k ≡ suc (sent - (k + 1)) = omega (arith, lt_fails _ _ h, index) in
        filter_no _ x xs h ∙ more ∙ ap (λ j. drop j (x ∷ xs)) (sym next)

-- Numbered by the server me, and above its cut.
pub record OwnId (me : ℕ) (l : Log) (d : Id) : Type 0 where
  pub creator : d.creator ≡ me
  pub above : cut l me < d.index
  pub within : d.index ≤ l.numbered

module _ (me : ℕ) (l : Log) (f : OwnListFits me l) where
  pub own_ids : Each (λ a. OwnId me l a.id) l.own
  unfolding ids_in
  own_ids =
      map_each (OwnId me l) (λ a. a.id) l.own
      (rw f.ids
      (each_map (OwnId me l) (own_id me) (above (cut l me) l.numbered)
      (each_implied (λ i. (cut l me < i) × (i ≤ l.numbered)) (λ i. OwnId me l (own_id me i)) (λ i h. record { creator = refl; above = h.0; within = h.1 })
      (above (cut l me) l.numbered) (above_between (cut l me) l.numbered))))

  pub own_length : length l.own ≡ l.numbered - cut l me
  unfolding ids_in
  own_length =
      sym (length-map l.own (λ a. a.id))
      ∙ ap length f.ids
      ∙ length-map (above (cut l me) l.numbered) (own_id me)
      ∙ above_length (cut l me) l.numbered

  pub unsent_short : (k : ℕ) → length (unsent k l.own) ≤ l.numbered - cut l me
  unfolding unsent
  unsent_short k = omega (arith, filter_length (λ a. k <? a.id.index) l.own, own_length)

  pub unsent_ids : (k : ℕ) → Each (λ a. OwnId me l a.id) (unsent k l.own)
  unfolding unsent
  unsent_ids k = each_filter (λ a. OwnId me l a.id) _ l.own own_ids

  pub waiting_behind : waiting l ≡ drop (l.sent - cut l me) l.own
  unfolding waiting above
  waiting_behind = unsent_after me (cut l me) (l.numbered - cut l me) l.sent l.own f.ids
