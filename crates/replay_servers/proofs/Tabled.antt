-- A table keeps what each server has.
use Prim.Native.Nat.{ℕ, zero, suc, ◌≤◌, ◌<◌}
use mathlib.Core.Path.{◌≡◌, refl, sym, ap, subst, ◌∙◌}
use mathlib.Core.Bool.{true}
use mathlib.Core.List.{List, map}
use mathlib.Core.Option.{Option, some}
use native.Mathlib.Omega.{arith}
use native.Mathlib.Decide.{ℕ_discrete}
use lib.ListN.{length, get_or, set, length-set, length-map}
use lib.Seq.{get_or-set_same, get_or-set_other}
use Rattle.base.specs.Tests.{◌<?◌}
use Rattle.base.proofs.TestLaws.{lt_yes}
use Rattle.base.specs.Lists.{at, below}
use Rattle.base.proofs.AtLaws.{some_same, at_low, at_set_same, at_set_other, at_map}
use Rattle.base.proofs.Gathered.{at_below}
use Rattle.base.proofs.ListLaws.{below_length}
use Rattle.format.specs.Range.{sizes_ok}
use Rattle.replication.specs.Machine.Types.{start}
use Rattle.replication.specs.Images.{Images, started, arrive, left_by}
use Rattle.replication.specs.Replay.{table_after}
use Rattle.replay_servers.specs.declared.Server as declared
use Rattle.replay_servers.specs.Starting.{fresh_of, fresh_table}
use Rattle.replay_servers.specs.Table as table
use Rattle.replay_servers.specs.Core.{table_servers, table_quota, core_of}
use Rattle.replay_servers.specs.Table.{altered, replied}
use Rattle.replay_servers.proofs.Keeping.{Keeps, Arrives, arrives}
use Rattle.replay_servers.proofs.StartingLaws.{fresh_keeps}

pub record Tabled (t : List Images) (s : List declared.Server) : Type 0 where
  pub long : length t ≤ length s
  pub each : (k : ℕ) (i : Images) → at t k ≡ some i → Keeps i (get_or s k table.none)

pub altered_length : (s : List declared.Server) (k : ℕ) (e : List ℕ) → length (altered s k e) ≡ length s
unfolding altered
altered_length s k e = length-set s k (core_of (get_or s k table.none) e).server

module _ (t : List Images) (s : List declared.Server) (k : ℕ) (i : Images) (e : List ℕ) (r : Tabled t s) (here : at t k ≡ some i) where
  inside : k < length s
  inside = omega (arith, at_low t k i here, r.long)

  pub entry_after_lem : get_or (altered s k e) k table.none ≡ (core_of (get_or s k table.none) e).server
  unfolding altered
  entry_after_lem = get_or-set_same s k (core_of (get_or s k table.none) e).server table.none inside

  pub entry_arrives : Arrives i (arrive i e) (core_of (get_or s k table.none) e)
  entry_arrives = arrives i (get_or s k table.none) e (r.each k i here)

  pub reply_is : replied s k e ≡ (core_of (get_or s k table.none) e).reply
  unfolding replied ◌<?◌
  reply_is = rw (lt_yes k (length s) inside)

  abbrev new : Images
  new = left_by (arrive i e) i

  keeps_after : (j : ℕ) (x : Images) → Dec (j ≡ k) → at (set t k new) j ≡ some x → Keeps x (get_or (altered s k e) j table.none)
  unfolding altered
  keeps_after j x (yes q) h =
      let there : at (set t k new) j ≡ some new = ap (at (set t k new)) q ∙ at_set_same t k new (at_low t k i here) in
      let same : new ≡ x = some_same (sym there ∙ h) in
      subst (λ (y : Images). Keeps y (get_or (altered s k e) j table.none)) same
      (subst (Keeps new) (sym (ap (λ (m : ℕ). get_or (altered s k e) m table.none) q ∙ entry_after_lem)) entry_arrives.entry)
  keeps_after j x (no q) h =
      subst (Keeps x) (sym (get_or-set_other s k j (core_of (get_or s k table.none) e).server table.none q))
      (r.each j x (sym (at_set_other t k j new q) ∙ h))

  pub tabled_after : Tabled (table_after k e (at t k) t) (altered s k e)
  unfolding table_after
  tabled_after =
      subst (λ (x : Option Images). Tabled (table_after k e x t) (altered s k e)) (sym here)
      (record { long = sizes; each = λ j x h. keeps_after j x (ℕ_discrete j k) h })
    where
      sizes : length (set t k new) ≤ length (altered s k e)
      sizes = omega (arith, r.long, length-set t k new, altered_length s k e)

-- ---- the table at the start

fresh_at : (n q k : ℕ) → k < table_servers → get_or (fresh_table n q) k table.none ≡ fresh_of n q k
unfolding fresh_table
fresh_at n q zero h = refl
fresh_at n q (suc zero) h = refl
fresh_at n q (suc (suc zero)) h = refl
fresh_at n q (suc (suc (suc zero))) h = refl
fresh_at n q (suc (suc (suc (suc k)))) h = absurd (omega arith)

pub fresh_tabled : (n q : ℕ) → sizes_ok n q ≡ true → n ≤ table_servers → q ≤ table_quota → Tabled (map (λ k. started (start n q k)) (below n)) (fresh_table n q)
unfolding fresh_table
fresh_tabled n q ok few small = record {
  long = omega (arith, length-map (below n) (λ k. started (start n q k)), below_length n);
  each = λ k i h. keeps k i (at_map (λ k. started (start n q k)) (below n) k i h);
}
  where
    keeps : (k : ℕ) (i : Images) → (x : ℕ) × (at (below n) k ≡ some x) × (i ≡ started (start n q x)) → Keeps i (get_or (fresh_table n q) k table.none)
    keeps k i h =
        let p = at_below n k h.0 h.1 in
        let same : started (start n q k) ≡ i = ap (λ (x : ℕ). started (start n q x)) (sym p.1) ∙ sym h.2 in
        subst (λ (y : Images). Keeps y (get_or (fresh_table n q) k table.none)) same
        (subst (Keeps (started (start n q k))) (sym (fresh_at n q k (omega (arith, p.0)))) (fresh_keeps n q k ok few small p.0))
