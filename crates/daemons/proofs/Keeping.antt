-- Buffers that keep a server's state and stored state: at the start, and after a store.
use Prim.Native.Nat.{ℕ, ◌≤◌, ◌<◌}
use mathlib.Core.Path.{◌≡◌, refl, sym, ap, subst, ◌∙◌}
use mathlib.Core.Bool.{true, false}
use mathlib.Core.List.{List}
use mathlib.Core.Option.{some}
use native.Mathlib.Omega.{arith}
use lib.ListN.{length}
use Rattle.base.proofs.TestLaws.{and_holds}
use Rattle.base.proofs.Branches.{or_no}
use Rattle.format.specs.Range.{sizes_ok, context_ok}
use Rattle.replication.specs.Laws.Order.{SameServer}
use Rattle.replication.specs.Machine.Types.{Server, context_of, start}
use Rattle.replication.specs.Machine.Step.{step}
use Rattle.replication.specs.Machine.WellFormed.{ranges, well_formed}
use Rattle.replication.specs.Images.{Images, started, saved_in}
use Rattle.replication.proofs.WellFormed.Runs.{start_well_formed}
use Rattle.image.specs.Layout.{state_length, out_length}
use Rattle.image.specs.Decode.{read_image}
use Rattle.image.specs.Outcome.{state_short, out_short, too_short, image_after, result_of, step_on, start_on}
use Rattle.image.proofs.ImageLaws.{image_length, read_image_lem}
use Rattle.image.specs.Holding.{Holds, blanked}
use Rattle.image.proofs.Blanks.{blank_same}
use Rattle.image.proofs.Taken.{image_held}
use Rattle.image.proofs.Refusals.{step_read, holds_long as state_long, holds_out_long}
use Rattle.daemons.specs.Buffers.{Buffers, Lent, begun, saved}
use Rattle.daemons.proofs.BufferLaws.{start_left, saved_state, saved_store}

-- The stored image is the stored state's, white actions blank; where U, the state's buffer holds the state in memory likewise.
pub record KeepsWhere (U : Type 0) (i : Images) (b : Buffers) : Type 0 where
  pub formed : well_formed i.memory ≡ true
  pub formed_store : well_formed i.store ≡ true
  pub memory : U → Holds (blanked i.memory) b.state
  pub store : Holds (blanked i.store) b.store
  pub same : SameServer i.memory i.store

abbrev pub Keeps : Images → Buffers → Type 0
Keeps i b = KeepsWhere (Unit {0}) i b

pub keeps_where : {U W : Type 0} {i : Images} {b : Buffers} → (W → U) → KeepsWhere U i b → KeepsWhere W i b
keeps_where f k =
    record { formed = k.formed; formed_store = k.formed_store; memory = λ v. k.memory (f v); store = k.store; same = k.same }

pub same_itself : (s : Server) → SameServer s s
same_itself s = record { servers = refl; quota = refl; me = refl }

-- Both buffers have the length m.
pub record Sized (m : ℕ) (b : Buffers) : Type 0 where
  pub state : length b.state ≡ m
  pub store : length b.store ≡ m

-- ---- the step over a buffer that holds a state

pub formed_context : (s : Server) → well_formed s ≡ true → context_ok (context_of s) ≡ true
unfolding well_formed ranges
formed_context s ok = (and_holds _ _ (and_holds _ _ ok).0).0

module _ (s : Server) (b : List ℕ) (h : Holds s b) where
  pub holds_read : read_image b ≡ some s
  holds_read =
      subst (λ (x : List ℕ). read_image x ≡ some s) h.written
      (read_image_lem s b h.formed h.long ∙ ap (λ (t : Server). some t) (blank_same s h.blank))

  -- Neither buffer is too short.
  pub holds_long : (o : List ℕ) → out_length s.servers s.quota ≤ length o → too_short b o ≡ false
  unfolding too_short
  holds_long o room = sym (or_no false (state_short b) (out_short b o) (state_long s b h) (sym (holds_out_long s b h o room)))

  pub holds_step : (e o : List ℕ) → out_length s.servers s.quota ≤ length o → step_on b e o ≡ result_of (image_after s e) (step s e) b o
  holds_step e o room = step_read b e o s (holds_long o room) holds_read

-- ---- the start

module _ (n q i : ℕ) (sizes : sizes_ok n q ≡ true) (own : i < n) where
  module _ (b : List ℕ) (long : state_length n q ≤ length b) where
    start_holds : Holds (blanked (start n q i)) (start_on n q i b).state
    unfolding start
    start_holds =
        subst (Holds (blanked (start n q i))) (sym (start_left n q i b sizes long own))
        (image_held (start n q i) b (start_well_formed n q i sizes own) long)

    start_length : length (start_on n q i b).state ≡ length b
    unfolding start
    start_length = ap length (start_left n q i b sizes long own) ∙ image_length (start n q i) b (start_well_formed n q i sizes own) long

  module _ (b : Buffers) (lent : Lent n q b) where
    long : state_length n q ≤ length b.state
    long = omega (arith, lent.long)

    abbrev made : Buffers
    made = record { state = (start_on n q i b.state).state; store = b.store }

    pub begun_keeps : Keeps (started (start n q i)) (begun n q i b)
    unfolding started begun
    begun_keeps = record {
      formed = start_well_formed n q i sizes own;
      formed_store = start_well_formed n q i sizes own;
      memory = λ u. subst (Holds (blanked (start n q i))) (saved_state made) (start_holds b.state long);
      store = subst (Holds (blanked (start n q i))) (saved_store made) (start_holds b.state long);
      same = same_itself (start n q i);
    }

    pub begun_sized : Sized (length b.state) (begun n q i b)
    unfolding begun
    begun_sized = record {
      state = ap length (sym (saved_state made)) ∙ start_length b.state long;
      store = ap length (sym (saved_store made)) ∙ start_length b.state long;
    }

-- ---- a store

pub saved_keeps : (i : Images) (b : Buffers) → Keeps i b → Keeps (saved_in i) (saved b)
saved_keeps i b k = record {
  formed = k.formed;
  formed_store = k.formed;
  memory = λ u. subst (Holds (blanked i.memory)) (saved_state b) (k.memory u);
  store = subst (Holds (blanked i.memory)) (saved_store b) (k.memory tt);
  same = same_itself i.memory;
}

pub saved_sized : (m : ℕ) (b : Buffers) → Sized m b → Sized m (saved b)
saved_sized m b z = record { state = ap length (sym (saved_state b)) ∙ z.state; store = ap length (sym (saved_store b)) ∙ z.state }
