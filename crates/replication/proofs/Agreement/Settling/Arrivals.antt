-- Which records of one kind come to a server in a regular configuration, and how many.
use Prim.Native.Nat.{ℕ, zero, suc, ◌≤◌, ◌<◌}
use mathlib.Core.Path.{◌≡◌, refl, ap, subst, ◌∙◌}
use mathlib.Core.Bool.{Bool, true}
use mathlib.Core.Option.{Option, none, some}
use native.Mathlib.Omega.{arith}
use native.Mathlib.Decide.{dec_lt}
use lib.ListN.{length}
use Rattle.base.specs.Tests.{pick}
use Rattle.base.specs.Lists.{at}
use Rattle.base.proofs.TestLaws.{not_both, eq_holds, eq_yes, and_holds, both_yes, Known, holds, fails, known}
use Rattle.base.proofs.Passing.{passing}
use Rattle.format.specs.Types.{Action, State, Record, action, retransmission, state, cpc, regular, transitional, request, recovery, kind_number, kind_of, Kind, Reading, says, refused}
use Rattle.replication.specs.Machine.Types.{Configuration}
use Rattle.replication.specs.Runs.Run.{Entry, event, crash, store, Run, place_at}
use Rattle.replication.specs.Runs.Happenings.{Comes}
use Rattle.replication.specs.Runs.Settling.{says_kind, how_many, brings_by, brings, arrived}
use Rattle.replication.proofs.Runs.DeliveryLists.{within_regular_holds, within_regular_yes}
use Rattle.replication.proofs.Runs.Order.{in_regular_of}

-- ---- kinds

says_kind_lem : (k : Kind) (x : Reading Record) → says_kind k x ≡ true → (r : Record) × (x ≡ says r) × (kind_number (kind_of r) ≡ kind_number k)
unfolding says_kind
says_kind_lem k (says r) h = (r, refl, eq_holds _ _ h)
says_kind_lem k (refused j) h = not_both h

pub is_state_lem : (r : Record) → kind_number (kind_of r) ≡ 3 → (x : State) × (r ≡ state x)
unfolding kind_number kind_of
is_state_lem (action a) h = absurd (omega arith)
is_state_lem (retransmission k p a) h = absurd (omega arith)
is_state_lem (state x) h = (x, refl)
is_state_lem (cpc k i) h = absurd (omega arith)
is_state_lem (regular i s) h = absurd (omega arith)
is_state_lem (transitional s) h = absurd (omega arith)
is_state_lem (request p) h = absurd (omega arith)
is_state_lem recovery h = absurd (omega arith)

pub is_retransmission : (r : Record) → kind_number (kind_of r) ≡ 2 → (k p : ℕ) × (a : Action) × (r ≡ retransmission k p a)
unfolding kind_number kind_of
is_retransmission (action a) h = absurd (omega arith)
is_retransmission (retransmission k p a) h = (k, p, a, refl)
is_retransmission (state x) h = absurd (omega arith)
is_retransmission (cpc k i) h = absurd (omega arith)
is_retransmission (regular i s) h = absurd (omega arith)
is_retransmission (transitional s) h = absurd (omega arith)
is_retransmission (request p) h = absurd (omega arith)
is_retransmission recovery h = absurd (omega arith)

pub is_cpc : (r : Record) → kind_number (kind_of r) ≡ 4 → (k i : ℕ) × (r ≡ cpc k i)
unfolding kind_number kind_of
is_cpc (action a) h = absurd (omega arith)
is_cpc (retransmission k p a) h = absurd (omega arith)
is_cpc (state x) h = absurd (omega arith)
is_cpc (cpc k i) h = (k, i, refl)
is_cpc (regular i s) h = absurd (omega arith)
is_cpc (transitional s) h = absurd (omega arith)
is_cpc (request p) h = absurd (omega arith)
is_cpc recovery h = absurd (omega arith)

-- ---- counts

how_many_length : (t : ℕ → Bool) (p : ℕ) → how_many t p ≡ length (passing t p)
unfolding how_many passing pick
how_many_length t zero = refl
how_many_length t (suc p) = go (known (t p)) (how_many_length t p)
  where
    go : Known (t p) → how_many t p ≡ length (passing t p) → how_many t (suc p) ≡ length (passing t (suc p))
    go (holds e) h = rw e (omega (arith, h))
    go (fails e) h = rw e h

how_many_grows : (t : ℕ → Bool) (p : ℕ) → how_many t p ≤ how_many t (suc p)
unfolding how_many pick
how_many_grows t p = go (known (t p))
  where
    go : Known (t p) → how_many t p ≤ how_many t (suc p)
    go (holds e) = rw e (omega arith)
    go (fails e) = rw e (omega arith)

how_many_onward : (t : ℕ → Bool) (p r : ℕ) → p ≤ r → how_many t p ≤ how_many t r
unfolding how_many
how_many_onward t p zero h = let e : p ≡ 0 = omega arith in rw e (omega arith)
how_many_onward t p (suc r) h = go (dec_lt p (suc r)) (how_many_onward t p r)
  where
    go : Dec (p < suc r) → (p ≤ r → how_many t p ≤ how_many t r) → how_many t p ≤ how_many t (suc r)
    go (yes k) f = omega (arith, f (omega arith), how_many_grows t r)
    go (no k) f = let e : p ≡ suc r = omega arith in omega (arith, ap (how_many t) e)

-- Where the count rises a number passes.
pub how_many_risen : (t : ℕ → Bool) (p : ℕ) → how_many t p < how_many t (suc p) → t p ≡ true
unfolding how_many pick
how_many_risen t p h = go (known (t p)) h
  where
    go : Known (t p) → how_many t p < how_many t (suc p) → t p ≡ true
    go (holds e) k = e
    go (fails e) k = absurd (omega (arith, rw e at k))

module _ (n q : ℕ) (l : Run) (c : Configuration) (k : Kind) (i : ℕ) where
  pub arrived_length : (p : ℕ) → arrived n q l c k i p ≡ length (passing (brings n q l c k i) p)
  unfolding arrived
  arrived_length p = how_many_length (brings n q l c k i) p

  pub arrived_onward : (p r : ℕ) → p ≤ r → arrived n q l c k i p ≤ arrived n q l c k i r
  unfolding arrived
  arrived_onward p r h = how_many_onward (brings n q l c k i) p r h

  pub arrived_risen : (p : ℕ) → arrived n q l c k i p < arrived n q l c k i (suc p) → brings n q l c k i p ≡ true
  unfolding arrived
  arrived_risen p h = how_many_risen (brings n q l c k i) p h

  pub brings_yes : (p : ℕ) (r : Record) → Comes n q l p i r → kind_number (kind_of r) ≡ kind_number k → place_at n q l i p ≡ in_regular_of c
      → brings n q l c k i p ≡ true
  unfolding brings brings_by says_kind
  brings_yes p r x h a =
      ap (brings_by n q l c k i p) x.here
      ∙ both_yes _ _ (eq_yes i i refl) (both_yes _ _ (ap (says_kind k) x.heard ∙ eq_yes _ _ h) (within_regular_yes c (place_at n q l i p) a))

  pub brings_holds : (p : ℕ) → brings n q l c k i p ≡ true
      → (r : Record) × Comes n q l p i r × (kind_number (kind_of r) ≡ kind_number k) × (place_at n q l i p ≡ in_regular_of c)
  unfolding brings brings_by
  brings_holds p h = go (at l p) refl h
    where
      go : (x : Option Entry) → at l p ≡ x → brings_by n q l c k i p x ≡ true
          → (r : Record) × Comes n q l p i r × (kind_number (kind_of r) ≡ kind_number k) × (place_at n q l i p ≡ in_regular_of c)
      go none e h = not_both h
      go (some (crash j)) e h = not_both h
      go (some (store j)) e h = not_both h
      go (some (event j f m)) e h =
          let x = and_holds _ _ h in
          let y = and_holds _ _ x.1 in
          let z = says_kind_lem k _ y.0 in
          let s : j ≡ i = eq_holds _ _ x.0 in (
            z.0,
            record { bytes = f; sent = m; here = subst (λ w. at l p ≡ some (event w f m)) s e; heard = z.1 },
            z.2,
            within_regular_holds c _ y.1,
          )
