-- Along every run each register, in memory and in store, is the fold of its server's green list.
use Prim.Native.Nat.{ℕ}
use mathlib.Core.Path.{◌≡◌, refl, sym, ap, ◌∙◌}
use mathlib.Core.Bool.{Bool, true, false}
use mathlib.Core.List.{List, [], ◌∷◌, ◌++◌, map-append}
use lib.ListN.{take}
use Rattle.base.specs.Tests.{pick}
use Rattle.base.specs.Lists.{upd}
use Rattle.base.proofs.AtLaws.{Upd, here, elsewhere, upd?}
use Rattle.format.specs.Types.{Action}
use Rattle.format.specs.Read.{read}
use Rattle.replication.specs.Machine.Types.{Server, Outcome, refused, taken, context_of, start}
use Rattle.replication.specs.Machine.Step.{step}
use Rattle.replication.specs.Images.{Images, started, is_recovery, source_of, arrive, left_by}
use Rattle.replication.specs.Runs.Run.{Entry, event, crash, store, Run, World, beginning, world_after, world_through, world_at}
use Rattle.replication.specs.Runs.Claim.{stored_green, memory_green}
use Rattle.replication.proofs.Step.Growth.{green_gained}
use Rattle.pegs.specs.Operations.{Peg}
use Rattle.pegs.specs.Register.{advance, register_of}
use Rattle.pegs.proofs.Advance.{advance_append}
use Rattle.register_runs.specs.Joint.{payloads}
use Rattle.register_runs.specs.Registers.{Registers, empty_ones, source_register, registers_left, registers_after, registers_through, registers_at}
use Rattle.register_runs.specs.Claim.{RegistersFold}

-- ---- the fold of a green list that went on

pub payloads_append : (l g : List Action) → payloads (l ++ g) ≡ payloads l ++ payloads g
unfolding payloads
payloads_append l g = map-append (λ (a : Action). a.payload) l g

pub fold_append : (l g : List Action) → register_of (payloads (l ++ g)) ≡ advance (register_of (payloads l)) (payloads g)
unfolding register_of
fold_append l g = ap (advance []) (payloads_append l g) ∙ sym (advance_append [] (payloads l) (payloads g))

-- ---- one server

abbrev fold_of : Server → List Peg
fold_of s = register_of (payloads s.log.green)

fold_taken : (s : Server) (e : List ℕ) (t : Server) (rs : List (List ℕ)) (w : Bool) (g : List Action) → step s e ≡ taken t rs w g
    → fold_of t ≡ advance (fold_of s) (payloads g)
fold_taken s e t rs w g h = ap (λ (l : List Action). register_of (payloads l)) (green_gained s e t rs w g h) ∙ fold_append s.log.green g

record Folds (i : Images) (r : Registers) : Type 0 where
  memory : r.memory ≡ fold_of i.memory
  store : r.store ≡ fold_of i.store

source_folds : (i : Images) (e : List ℕ) (r : Registers) → Folds i r → source_register i e r ≡ fold_of (source_of i e)
unfolding source_register source_of pick
source_folds i e r f = go (is_recovery (read (context_of i.memory) e))
  where
    go : (c : Bool) → pick c r.store r.memory ≡ fold_of (pick c i.store i.memory)
    go true = f.store
    go false = f.memory

left_folds : (i : Images) (e : List ℕ) (r : Registers) (o : Outcome (List ℕ)) → arrive i e ≡ o → Folds i r
    → Folds (left_by o i) (registers_left o (source_register i e r) r)
unfolding arrive left_by registers_left pick
left_folds i e r (refused k) h f = f
left_folds i e r (taken t rs w g) h f = record { memory = new; store = stored w }
  where
    new : advance (source_register i e r) (payloads g) ≡ fold_of t
    new = ap (λ (l : List Peg). advance l (payloads g)) (source_folds i e r f) ∙ sym (fold_taken (source_of i e) e t rs w g h)

    stored : (c : Bool) → pick c (advance (source_register i e r) (payloads g)) r.store ≡ fold_of (pick c t i.store)
    stored true = new
    stored false = f.store

-- ---- all servers

abbrev AllFold : World → (ℕ → Registers) → Type 0
AllFold w r = (j : ℕ) → Folds (w.images j) (r j)

upd_folds : (f : ℕ → Images) (r : ℕ → Registers) (i : ℕ) (v : Images) (z : Registers) → ((j : ℕ) → Folds (f j) (r j)) → Folds v z → (j : ℕ)
    → Folds (upd f i v j) (upd r i z j)
upd_folds f r i v z h k j = go (upd? f i v j) (upd? r i z j)
  where
    go : Upd f i v j → Upd r i z j → Folds (upd f i v j) (upd r i z j)
    go (here p a) (here q b) = rw (a, b) k
    go (here p a) (elsewhere q b) = absurd (q p)
    go (elsewhere p a) (here q b) = absurd (p q)
    go (elsewhere p a) (elsewhere q b) = rw (a, b) (h j)

after_folds : (w : World) (r : ℕ → Registers) (x : Entry) → AllFold w r → AllFold (world_after w x) (registers_after w r x)
unfolding world_after registers_after
after_folds w r (event i e k) f = upd_folds w.images r i _ _ f (left_folds (w.images i) e (r i) (arrive (w.images i) e) refl (f i))
after_folds w r (crash i) f = f
after_folds w r (store i) f = upd_folds w.images r i _ _ f (record { memory = (f i).memory; store = (f i).memory })

through_folds : (l : Run) (w : World) (r : ℕ → Registers) → AllFold w r → AllFold (world_through w l) (registers_through w r l)
unfolding world_through registers_through
through_folds [] w r f = f
through_folds (x ∷ l) w r f = through_folds l (world_after w x) (registers_after w r x) (after_folds w r x f)

begin_folds : (n q : ℕ) → AllFold (beginning n q) (λ i. empty_ones)
unfolding beginning started start empty_ones register_of payloads advance
begin_folds n q j = record { memory = refl; store = refl }

at_folds : (n q : ℕ) (l : Run) (p : ℕ) → AllFold (world_at n q l p) (registers_at n q l p)
unfolding world_at registers_at
at_folds n q l p = through_folds (take p l) (beginning n q) (λ i. empty_ones) (begin_folds n q)

pub registers_fold : (n q : ℕ) (l : Run) → RegistersFold n q l
unfolding memory_green stored_green
registers_fold n q l = record { memory = λ p i. (at_folds n q l p i).memory; store = λ p i. (at_folds n q l p i).store }
