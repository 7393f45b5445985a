-- Which retransmissions have come to a server: with one of a member's part all that stand before it, and at the end of the exchange all that are planned.
use Prim.Native.Nat.{ℕ, suc, ◌+◌, ◌≤◌, ◌<◌}
use mathlib.Core.Path.{◌≡◌, refl, sym, ap, subst, ◌∙◌}
use mathlib.Core.Bool.{true}
use mathlib.Core.List.{List}
use mathlib.Core.Option.{some}
use native.Mathlib.Omega.{arith}
use Rattle.base.specs.Lists.{at}
use Rattle.base.proofs.AtLaws.{some_same, at_low}
use Rattle.base.proofs.Distinct.{numbered_onto}
use Rattle.base.proofs.Passing.{passing, passing_in, passing_distinct}
use Rattle.base.proofs.Totals.{total, slot_below, slot_same}
use Rattle.format.specs.Types.{Action, Record, retransmission}
use Rattle.replication.specs.Machine.Types.{Configuration}
use Rattle.replication.specs.Runs.Run.{Run}
use Rattle.replication.specs.Runs.Happenings.{is_message, Comes, Takes}
use Rattle.replication.proofs.Runs.Roomy.{Roomy as Allowed}
use Rattle.replication.proofs.Runs.AllowedTurns.{memory_at}
use Rattle.replication.proofs.Runs.Memberships.{every_state_in, planned_in}
use Rattle.replication.proofs.Runs.Stays.{membership_at}
use Rattle.replication.proofs.Agreement.Exchange.Stages.{InCom}
use Rattle.replication.proofs.Agreement.Exchange.Answers.{coming}
use Rattle.replication.proofs.Agreement.Exchange.Retransmissions.{resent_at, resent_holds, PartMessage, part_message}
use Rattle.replication.proofs.Agreement.Exchange.Tally.{resent_count}
use Rattle.replication.proofs.Agreement.Exchange.Shares.{share, shares_planned}
use Rattle.replication.proofs.Agreement.Exchange.ResentTaken.{plan_number, resent, number_below, number_once}
use Rattle.replication.proofs.Agreement.Contents.Sent.{part_before}
use Rattle.replication.proofs.Agreement.Contents.Collected.{states_of}
use Rattle.replication.proofs.Agreement.Contents.Agreeable.{Agreeable}
use Rattle.replication.proofs.Agreement.Contents.Whole.{whole_part, whole_within}
use Rattle.replication.proofs.Agreement.Contents.White.{message_at}

module _ {n q : ℕ} {l : Run} (A : Allowed n q l) where
  -- The record r came to the server i in com(c) before y.
  pub record Came (c : Configuration) (y i : ℕ) (r : Record) : Type 0 where
    pub place : ℕ
    pub earlier : place < y
    pub comes : Comes n q l place i r
    pub inside : InCom n q l place i c

  module _ (c : Configuration) (p0 i0 : ℕ) (here : InCom n q l p0 i0 c) (full : every_state_in (membership_at n q l p0 i0) ≡ true)
      (t : ℕ) (most : p0 ≤ suc t) (G : Agreeable n q l t c) where
    -- The part of the plan of the server k, which took c at e.
    abbrev pub part_from : ℕ → ℕ → List Record
    part_from e k = whole_part n k (memory_at n q l (suc e) k).log (states_of A c p0 i0 here full)

    -- A retransmission that comes: its number in its sender's part; what stands before it came before it.
    pub record Numbered (y i k p : ℕ) (a : Action) (e : ℕ) : Type 0 where
      pub number : ℕ
      pub there : at (part_from e k) number ≡ some (retransmission k p a)
      pub before : (u : ℕ) (r : Record) → u < number → at (part_from e k) u ≡ some r → Came c y i r

    pub numbered : (y i k p : ℕ) (a : Action) (e : ℕ) → Comes n q l y i (retransmission k p a) → InCom n q l y i c → Takes n q l e k c → Numbered y i k p a e
    unfolding is_message
    numbered y i k p a e come inside took =
        let d = coming A come refl in
        let m = part_message A d refl inside in
        record {
          number = (A.allowed.source y).number;
          there = message_at A c p0 i0 here full t most G m d took;
          before = λ u r h w.
              let x = part_before A m d u h in
              let s : x.2.what ≡ r = some_same (sym (message_at A c p0 i0 here full t most G x.3 x.2 took) ∙ w) in
              record { place = x.0; earlier = x.1; comes = subst (λ z. Comes n q l x.0 i z) s x.2.comes; inside = x.4 };
        }

    -- When as many have come as planned, all of every part have.
    pub all_came : planned_in n (membership_at n q l p0 i0) ≤ resent_count A i0 c p0 → (e k : ℕ) → Takes n q l e k c → k < n → (j : ℕ) (r : Record)
        → at (part_from e k) j ≡ some r → Came c p0 i0 r
    unfolding is_message
    all_came h e k took b j r w =
        let xs = states_of A c p0 i0 here full in
        let f = share n xs in
        let s : j < f k = omega (arith, at_low (part_from e k) j r w, whole_within n k (memory_at n q l (suc e) k).log xs) in
        let z1 : total k f + j < planned_in n (membership_at n q l p0 i0) = omega (arith, slot_below n f k j b s, shares_planned n xs) in
        let ps = passing (resent_at n q l c i0) p0 in
        let x =
        numbered_onto (plan_number A p0 i0 c here full p0) (planned_in n (membership_at n q l p0 i0)) ps (number_once A p0 i0 c here full p0)
        (number_below A p0 i0 c here full p0) (passing_distinct (resent_at n q l c i0) p0) h (total k f + j) z1
        in
        let u = resent A p0 i0 c here full p0 x.0 x.1 in
        let v = slot_same f u.sender (A.allowed.source x.0).number k j u.below_share s (sym u.number ∙ x.2) in
        let g = passing_in (resent_at n q l c i0) p0 x.0 x.1 in
        let o = resent_holds n q l c i0 x.0 g.1 in
        let m = subst (λ z. PartMessage A (A.allowed.source x.0) z c) v.0 u.message in
        let z = message_at A c p0 i0 here full t most G m (coming A o.3 refl) took in
        record {
          place = x.0;
          earlier = g.0;
          comes = subst (λ y. Comes n q l x.0 i0 y) (some_same (sym z ∙ ap (at (part_from e k)) v.1 ∙ w)) o.3;
          inside = o.4;
        }
