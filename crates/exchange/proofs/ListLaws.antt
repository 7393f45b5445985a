-- The yellow lists in the slots: where a buffer holds a state, they fit and their ids are in range.
use Prim.Native.Nat.{ℕ, ◌*◌, ◌≤◌, ◌<◌}
use mathlib.Core.Path.{◌≡◌, subst}
use mathlib.Core.Bool.{true}
use mathlib.Core.List.{List}
use mathlib.Core.Option.{none}
use native.Mathlib.Nat.{mul-le-mul}
use native.Mathlib.Omega.{arith}
use lib.ListN.{length}
use Rattle.format.specs.Limits.{most_ids}
use Rattle.base.proofs.ListLaws.{each_there}
use Rattle.base.specs.Sets.{in_set}
use Rattle.format.proofs.Ranges.{StateRange}
use Rattle.replication.specs.Machine.Types.{Server, context_of}
use Rattle.image.specs.Layout.{state_size}
use Rattle.image.specs.Header.{senders}
use Rattle.image.proofs.InRange.{CollectedRange, in_range}
use Rattle.image.specs.Holding.{Holds}
use Rattle.exchange.specs.Slots.{slots_of, slots_in, slot_at, state_in}
use Rattle.exchange.specs.Table.{ids_in, ListInside, ListsFit}
use Rattle.exchange.proofs.SlotLaws.{slot_inside}
use Rattle.exchange.proofs.RoomLaws.{state_there, holds_room}
use Rattle.format.specs.Places.{id_size}

module _ (s : Server) (b : List ℕ) (h : Holds s b) where
  in_slot : (k : ℕ) → k < s.servers → in_set k (senders 0 s.membership.states) ≡ true → StateRange (context_of s) (state_in (slots_in s) b k)
  in_slot k l t =
      let r = in_range s h.formed in
      subst (CollectedRange (context_of s)) (state_there s b h k l t)
      (each_there (CollectedRange (context_of s)) s.membership.states none k (omega (arith, r.states_count)) r.states)

  few : (k : ℕ) → k < s.servers → in_set k (senders 0 s.membership.states) ≡ true → length (ids_in (slots_in s) b k) ≤ s.servers * s.quota
  unfolding context_of
  few k l t = (in_slot k l t).yellow.few

  most : s.servers * s.quota ≤ most_ids
  unfolding context_of
  most = let z = (in_range s h.formed).context.sizes in mul-le-mul z.most z.highest

  pub holds_fit : (o : List ℕ) → id_size * most_ids ≤ length o → ListsFit (slots_in s) b o
  unfolding ListsFit ListInside slots_in slots_of slot_at state_size
  holds_fit o m k l t =
      record {
        inside = omega (arith, few k l t, slot_inside (slots_in s) b k (holds_room s b h).space l);
        short = omega (arith, few k l t, most);
        few = omega (arith, few k l t, most);
        differ = (in_slot k l t).yellow.differ;
      }
