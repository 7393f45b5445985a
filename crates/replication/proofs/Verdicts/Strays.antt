-- A run that passes the audit with strays is allowed with them.
use Prim.Native.Nat.{ℕ, zero, suc}
use mathlib.Core.Path.{◌≡◌, refl, subst}
use mathlib.Core.Bool.{Bool, true, false}
use mathlib.Core.List.{List, [], ◌∷◌}
use mathlib.Core.Option.{some}
use lib.ListN.{take}
use Rattle.base.proofs.TestLaws.{and_holds, not_holds, not_both, lt_holds}
use Rattle.base.specs.Lists.{at}
use Rattle.base.proofs.AtLaws.{none_some, some_same}
use Rattle.base.proofs.QuantifierLaws.{implied}
use Rattle.replication.specs.Machine.Types.{Outcome, taken}
use Rattle.replication.specs.Images.{arrive}
use Rattle.replication.specs.Runs.Run.{Entry, event, crash, store, Run, World, beginning, world_after, world_through, world_at}
use Rattle.replication.specs.Runs.Strays.{IsStray, AllowedWithStraysUp}
use Rattle.replication.specs.Audit.Witness.{Witness}
use Rattle.replication.specs.Audit.Strays.{is_refused, is_stray, strays_from, is_one_of, audit_with_strays}
use Rattle.replication.proofs.Verdicts.Sound.{audit_sound}

is_stray_lem : (n : ℕ) (w : World) (x : Entry) → is_stray n w x ≡ true → IsStray n w x
unfolding is_stray is_refused
is_stray_lem n w (crash i) h = not_both h
is_stray_lem n w (store i) h = not_both h
is_stray_lem n w (event i e k) h = go (arrive (w.images i) e) refl (and_holds _ _ (and_holds _ _ h).1).1
  where
    go : (o : Outcome (List ℕ)) → arrive (w.images i) e ≡ o → is_refused o ≡ true → IsStray n w (event i e k)
    go (Outcome.refused z) a t = record {
      server = i;
      bytes = e;
      sent = k;
      number = z;
      is = refl;
      there = lt_holds i n (and_holds _ _ h).0;
      refusal = a;
    }
    go (taken t r b g) a f = not_both f

-- A stray event comes to a server that is up.
stray_up : (n : ℕ) (w : World) (i : ℕ) (e : List ℕ) (k : ℕ) → is_stray n w (event i e k) ≡ true → w.down i ≡ false
unfolding is_stray
stray_up n w i e k h = not_holds _ (and_holds _ _ (and_holds _ _ h).1).0

-- Each entry that is named passes the test of a stray in its world.
strays_from_lem : (n : ℕ) (s : ℕ → Bool) (w : World) (l : Run) → strays_from n s w l ≡ true → (p : ℕ) (x : Entry) → at l p ≡ some x → s p ≡ true
    → is_stray n (world_through w (take p l)) x ≡ true
unfolding strays_from world_through at
strays_from_lem n s w [] h p x e f = none_some e
strays_from_lem n s w (y ∷ l) h zero x e f = subst (λ z. is_stray n w z ≡ true) (some_same e) (implied _ _ (and_holds _ _ h).0 f)
strays_from_lem n s w (y ∷ l) h (suc p) x e f = strays_from_lem n (λ r. s (suc r)) (world_after w y) l (and_holds _ _ h).1 p x e f

pub strays_sound : (n q : ℕ) (l : Run) (places : List ℕ) (w : Witness) → audit_with_strays n q l places w ≡ true → AllowedWithStraysUp n q l
unfolding audit_with_strays world_at
strays_sound n q l places w h = record {
  allowed = record {
    stray = is_one_of places;
    refused = λ p x e f. is_stray_lem n _ x (strays_from_lem n (is_one_of places) (beginning n q) l (and_holds _ _ h).0 p x e f);
    rest = audit_sound n q _ w (and_holds _ _ h).1;
  };
  up = λ p i k e f g. stray_up n _ i e k (strays_from_lem n (is_one_of places) (beginning n q) l (and_holds _ _ h).0 p (event i e k) f g);
}
