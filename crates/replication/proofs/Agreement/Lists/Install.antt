-- What Install does to the ids of the green list: those of the yellow list that are held join it in order, then all others that are held, by creator and index.
use Prim.Native.Nat.{ℕ, zero, suc, ◌+◌, ◌-◌, ◌≤◌}
use mathlib.Core.Path.{◌≡◌, sym, ap, subst, ◌∙◌}
use mathlib.Core.Bool.{true}
use mathlib.Core.List.{List, [], ◌∷◌, map, Memᴰ}
use mathlib.Core.Logic.{inr}
use native.Mathlib.Omega.{arith}
use native.Mathlib.Decide.{ℕ_discrete, dec_le}
use Rattle.base.specs.Lists.{filter, after, above, Begins}
use Rattle.base.specs.Counts.{count}
use Rattle.base.proofs.Filters.{filter_all}
use Rattle.base.proofs.Comparable.{begins_member}
use Rattle.format.specs.Types.{Id}
use Rattle.replication.specs.Machine.Types.{Log}
use Rattle.replication.specs.Machine.Colours.{cut, green_ids, add_id}
use Rattle.replication.specs.Machine.Install.{ids_up_to, install_log}
use Rattle.replication.specs.Machine.WellFormed.{ids_in}
use Rattle.replication.proofs.WellFormed.Clauses.{held_count}
use Rattle.replication.specs.Laws.Folds.{add_ids}
use Rattle.replication.proofs.Runs.LogActions.{each_in}
use Rattle.replication.proofs.WellFormed.Ids.{counted_has, has_member, up_to_each}
use Rattle.replication.proofs.WellFormed.Held.{action_count}
use Rattle.replication.proofs.Agreement.Lists.Plus.{plus, add_begins, add_has, plus_append, plus_begins}
use Rattle.replication.proofs.Agreement.Lists.Fifo.{created_by, Fifo, begins_fifo, fifo_within, fifo_has}
use Rattle.replication.proofs.Agreement.Lists.FifoPlus.{with_index, fifo_add, fifo_filtered}
use Rattle.replication.proofs.Agreement.Lists.Held.{HeldExactly, is_held, is_held_lem, held_bounds, tells_kept, cuts_tell, green_count_lem, green_held, green_ids_held, green_ids_cuts, green_ids_plus}

-- ---- the ids up to the cuts

up_to_held : (cuts : List ℕ) (d : Id) → Memᴰ d (ids_up_to 0 cuts) → is_held cuts d ≡ true
up_to_held cuts d m =
    each_in (λ x. is_held cuts x ≡ true) (ids_up_to 0 cuts)
    (up_to_each (λ x. is_held cuts x ≡ true) 0 cuts (λ c i low high. let z : 0 + c ≡ c = omega arith in rw z (is_held_lem cuts _ low high))) d m

-- A run of one creator's ids joins a list that has the ones below it.
run_fifo : (c j m : ℕ) (g : List Id) → Fifo g → ((i : ℕ) → 1 ≤ i → i ≤ j → Memᴰ (record { creator = c; index = i }) g)
    → Fifo (plus g (map (λ i. record { creator = c; index = i }) (after j m)))
unfolding plus add_ids after
run_fifo c j zero g p f = p
run_fifo c j (suc m) g p f =
    run_fifo c (j + 1) m (add_id d g) (fifo_add g d p (omega arith) (λ i low high. f i low (omega arith))) (λ i low high. go i low (ℕ_discrete i (j + 1)) high)
  where
    d : Id
    d = record { creator = c; index = j + 1 }

    go : (i : ℕ) → 1 ≤ i → Dec (i ≡ j + 1) → i ≤ j + 1 → Memᴰ (record { creator = c; index = i }) (add_id d g)
    go i low (yes e) high = rw e (add_has d g)
    go i low (no e) high = begins_member g (add_id d g) _ (add_begins d g) (f i low (omega arith))

pub up_to_fifo : (k : ℕ) (cuts : List ℕ) (g : List Id) → Fifo g → Fifo (plus g (ids_up_to k cuts))
unfolding ids_up_to above plus add_ids
up_to_fifo k [] g p = p
up_to_fifo k (x ∷ cuts) g p =
    subst Fifo (sym (plus_append g (map (λ i. record { creator = k; index = i }) (above 0 x)) (ids_up_to (k + 1) cuts)))
    (up_to_fifo (k + 1) cuts _ (run_fifo k 0 (x - 0) g p (λ i low high. absurd (omega arith))))

-- ---- Install

module _ (ys : List Id) (l : Log) where
  pub install_cuts : (install_log ys l).cuts ≡ l.cuts
  unfolding install_log
  install_cuts = green_ids_cuts (ids_up_to 0 l.cuts) (green_ids ys l) ∙ green_ids_cuts ys l

  pub install_held : (d : Id) → held_count d (install_log ys l) ≡ held_count d l
  unfolding install_log
  install_held d = green_ids_held (ids_up_to 0 l.cuts) (green_ids ys l) d ∙ green_ids_held ys l d

  module _ (h : HeldExactly l) where
    pub install_exactly : HeldExactly (install_log ys l)
    unfolding cut
    install_exactly = record {
      once = λ d. omega (arith, install_held d, h.once d);
      within = λ d k. rw install_cuts (h.within d (omega (arith, install_held d)));
      entered = λ d low high. omega (arith, install_held d, h.entered d low (rw install_cuts at high));
    }

    pub install_ids : ids_in (install_log ys l).green ≡ plus (plus (ids_in l.green) (filter (is_held l.cuts) ys)) (ids_up_to 0 l.cuts)
    unfolding install_log
    install_ids =
        let t = is_held l.cuts in
        let tells = cuts_tell l h in
        green_ids_plus t (ids_up_to 0 l.cuts) (green_ids ys l) (tells_kept t ys l tells)
        ∙ ap (λ g. plus g (filter t (ids_up_to 0 l.cuts))) (green_ids_plus t ys l tells)
        ∙ ap (plus (plus (ids_in l.green) (filter t ys))) (filter_all t (ids_up_to 0 l.cuts) (up_to_held l.cuts))

    -- If the yellow ids are held, what they join begins the green list.
    pub install_begins : ((d : Id) → Memᴰ d ys → is_held l.cuts d ≡ true) → Begins (plus (ids_in l.green) ys) (ids_in (install_log ys l).green)
    install_begins f =
        rw (install_ids, filter_all (is_held l.cuts) ys f) (plus_begins (plus (ids_in l.green) ys) (ids_up_to 0 l.cuts))

    pub install_fifo : Fifo (plus (ids_in l.green) ys) → Fifo (ids_in (install_log ys l).green)
    install_fifo p =
        let g = ids_in l.green in
        let t = is_held l.cuts in
        rw install_ids (up_to_fifo 0 l.cuts (plus g (filter t ys))
        (fifo_filtered t g g ys (begins_fifo g (plus g ys) (plus_begins g ys) p) p (λ e m k. m)
        (λ d j k low high. inr (let b = held_bounds l.cuts d k in is_held_lem l.cuts (with_index d j) low (omega (arith, b.1))))))

-- Two logs with the same green ids and the same cuts have the same green ids after Install.
pub install_same : (ys : List Id) (l m : Log) → HeldExactly l → HeldExactly m → ids_in l.green ≡ ids_in m.green → l.cuts ≡ m.cuts
    → ids_in (install_log ys l).green ≡ ids_in (install_log ys m).green
install_same ys l m h k p q =
    install_ids ys l h
    ∙ ap (λ g. plus (plus g (filter (is_held l.cuts) ys)) (ids_up_to 0 l.cuts)) p
    ∙ ap (λ c. plus (plus (ids_in m.green) (filter (is_held c) ys)) (ids_up_to 0 c)) q
    ∙ sym (install_ids ys m k)

-- ---- logs without red actions

pub all_green : (l : Log) → l.red ≡ [] → (d : Id) → 1 ≤ held_count d l → Memᴰ d (ids_in l.green)
unfolding count
all_green l r d k = has_member d _ (counted_has d _ (omega (arith, green_count_lem d l, ap (action_count d) r)))

-- If all held actions are green and in order, a creator has as many green ids as its cut says.
pub green_created : (l : Log) → HeldExactly l → l.red ≡ [] → Fifo (ids_in l.green) → (c : ℕ) → created_by c (ids_in l.green) ≡ cut l c
green_created l h r p c = go (dec_le (created_by c g) (cut l c)) (dec_le (cut l c) (created_by c g))
  where
    g : List Id
    g = ids_in l.green

    id_of : ℕ → Id
    id_of i = record { creator = c; index = i }

    go : Dec (created_by c g ≤ cut l c) → Dec (cut l c ≤ created_by c g) → created_by c g ≡ cut l c
    go (yes a) (yes b) = omega arith
    go (no a) b = absurd (omega (arith, (h.within (id_of (created_by c g)) (green_held _ l (fifo_has g p c (created_by c g) (omega arith) (omega arith)))).1))
    go (yes a) (no b) =
        absurd (omega (arith, (fifo_within g (id_of (cut l c)) p (all_green l r _ (h.entered (id_of (cut l c)) (omega arith) (omega arith)))).1))

-- So it is after Install.
