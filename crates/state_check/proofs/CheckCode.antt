-- What the code on a whole buffer answers.
use Prim.Native.Nat.{ℕ, ◌≤◌}
use mathlib.Core.Path.{◌≡◌, sym, ap, ◌∙◌}
use mathlib.Core.Bool.{Bool, true, false, not}
use mathlib.Core.List.{List}
use native.Mathlib.Omega.{arith}
use lib.Dec.{ltb}
use lib.ListN.{length}
use borrow.Author.Tests.{not-false}
use Rattle.base.specs.Tests.{◌<?◌}
use Rattle.base.proofs.TestLaws.{and_holds, and_yes, and_no, le_holds}
use Rattle.base.proofs.Branches.{told_lt}
use Rattle.base.specs.Bytes.{Bytes}
use Rattle.base.specs.Sets.{inside}
use Rattle.format.specs.Range.{context_ok}
use Rattle.record.specs.Context.{context_of, ContextIn}
use Rattle.record.specs.declared.Context.{Context}
use Rattle.record.specs.declared.State.{State}
use Rattle.reader.proofs.Placing.{context_in_lem}
use Rattle.replication.specs.Machine.Plan.{planned}
use Rattle.image.specs.Layout.{the_states, offset, state_length}
use Rattle.exchange.specs.declared.states.States.{States}
use Rattle.exchange.specs.Slots.{slots_of, slot_at, states_of}
use Rattle.exchange.proofs.Collected.{present_states}
use Rattle.state_check.specs.Numbers.{queue_count_ok, yellow_count_ok, room_ok, counts_ok, numbers_ok, CountsIn}
use Rattle.state_check.specs.Collected.{planned_in}
use Rattle.state_check.specs.Checks.{place_of, exchange_ok, Buffer}

pub exchange_told : (c : Context) (h : State) (b : List ℕ) (t : Bool) (x : States) (p : ℕ) → t ≡ inside h.configuration_set h.states → t ≡ true
    → x.slots ≡ slots_of c.servers c.quota h.states → x.bytes.now ≡ b → p ≡ planned x.slots.servers (states_of x.slots x.bytes.now) → ltb h.come p ≡ exchange_ok (context_of c) h b
unfolding exchange_ok place_of context_of planned_in slots_of states_of slot_at
exchange_told c h b t x p e f g d k =
    let n : ℕ = c.servers in
    let q : ℕ = c.quota in
    let states = present_states n q h.states b n 0 (offset n q the_states) (omega arith) in
    and_yes _ (inside h.configuration_set h.states) _ (sym e ∙ f)
    (told_lt h.come p ∙ ap (λ (m : ℕ). h.come <? m) (k ∙ (λ i. planned (g i).servers (states_of (g i) (d i))) ∙ ap (planned n) (sym states)))

pub exchange_denied : (c : Context) (h : State) (b : List ℕ) (t : Bool) → t ≡ inside h.configuration_set h.states → t ≡ false → t ≡ exchange_ok (context_of c) h b
unfolding exchange_ok
exchange_denied c h b t e f = f ∙ and_no (inside h.configuration_set h.states) _ (sym e ∙ f)

-- ---- what the callees ask for

pub context_made : (c : Context) (t : Bool) → t ≡ context_ok (context_of c) → not t ≡ false → ContextIn c
context_made c t e f = context_in_lem c (sym e ∙ not-false t f)

pub buffer_made : (c : Context) (b : List ℕ) (t : Bool) → Bytes b → state_length c.servers c.quota ≤ length b → t ≡ context_ok (context_of c) → not t ≡ false → Buffer c b
buffer_made c b t k l e f = record { context = context_made c t e f; bytes = k; long = l }

pub counts_made : (c : Context) (h : State) (t : Bool) → t ≡ numbers_ok (context_of c) h → t ≡ true → CountsIn c.servers c.quota h
unfolding numbers_ok counts_ok room_ok queue_count_ok yellow_count_ok context_of
counts_made c h t e f =
    let a = and_holds _ _ (sym e ∙ f) in
    let counts = and_holds _ _ (and_holds _ _ (and_holds _ _ a.1).1).0 in
    let r₁ = and_holds _ _ counts.0 in
    let r₂ = and_holds _ _ r₁.1 in
    let r₃ = and_holds _ _ r₂.1 in
    record { actions = le_holds _ _ r₁.0; own = le_holds _ _ r₃.0; ids = le_holds _ _ r₃.1 }
