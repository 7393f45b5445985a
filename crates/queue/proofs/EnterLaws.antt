-- An action is entered in the buffer.
use Prim.Native.Nat.{ℕ, ◌+◌, ◌*◌, ◌<◌}
use mathlib.Core.Path.{◌≡◌, sym, ap, ap₂, ◌∙◌}
use mathlib.Core.Bool.{true, false}
use mathlib.Core.List.{List, [], ◌∷◌, ◌++◌, append_assoc}
use native.Mathlib.Omega.{arith}
use lib.ListN.{length, length-append}
use Rattle.base.specs.Bytes.{bytes_of, over, slot}
use Rattle.base.proofs.BytesLaws.{bytes_length}
use Rattle.base.specs.Lists.{above, Each}
use Rattle.base.proofs.ListLaws.{each_always, each_map}
use Rattle.base.specs.Patched.{patched}
use Rattle.base.specs.Tests.{pick}
use Rattle.format.specs.Types.{Id, Action}
use Rattle.format.specs.Range.{same_id}
use Rattle.format.specs.Write.{cuts_bytes, action_bytes}
use Rattle.format.proofs.Lengths.{cuts_length}
use Rattle.replication.specs.Machine.Types.{Log, Server, with_log}
use Rattle.replication.specs.Machine.Colours.{cut, remove, enter}
use Rattle.replication.specs.Machine.WellFormed.{queue}
use Rattle.replication.proofs.WellFormed.Clauses.{OwnListFits}
use Rattle.replication.proofs.WellFormed.Ids.{same_id_yes, same_id_no}
use Rattle.replication.proofs.WellFormed.Held.{remove_absent}
use Rattle.replication.proofs.WellFormed.Logs.{own_id}
use Rattle.image.specs.Layout.{slot_size, at_queue_length, at_own_count}
use Rattle.image.specs.Header.{shown_log}
use Rattle.image.specs.Image.{header_bytes, action_slots}
use Rattle.image.proofs.Used.{ActionFits, action_slots_length, slots_append}
use Rattle.base.proofs.Over.{over_extended, over_changed}
use Rattle.image.proofs.Fields.{opened_header}
use Rattle.queue.proofs.SlotLaws.{slots_one, cut_set}

-- ---- the header

pub one_more_lem : (a : Action) (l : Log) → length (queue (enter a l)) ≡ length (queue l) + 1
unfolding queue enter
one_more_lem a l =
    length-append l.green (l.red ++ (a ∷ [])) ∙ omega (arith, length-append l.green l.red, length-append l.red (a ∷ []))

-- The counts of the queue and of the own list.
pub header_entered : (s : Server) (a : Action) → length (remove a.id s.log.own) ≡ length s.log.own
    → patched at_queue_length (bytes_of 4 (length (queue (shown_log s)) + 1)) (header_bytes s) ≡ header_bytes (with_log (enter a s.log) s)
unfolding enter opened_header
header_entered s a e =
    ap₂ {A = ℕ} {B = ℕ} {C = List ℕ} (λ i j. patched at_queue_length (bytes_of 4 i) (patched at_own_count (bytes_of 2 j) (header_bytes s))) (sym (one_more_lem a (shown_log s))) (sym e)

pub header_left : (s : Server) (a : Action) (k : ℕ) → k ≡ length (remove a.id s.log.own)
    → patched at_own_count (bytes_of 2 k) (patched at_queue_length (bytes_of 4 (length (queue (shown_log s)) + 1)) (header_bytes s)) ≡ header_bytes (with_log (enter a s.log) s)
unfolding enter opened_header
header_left s a k e =
    ap₂ {A = ℕ} {B = ℕ} {C = List ℕ} (λ i j. patched at_own_count (bytes_of 2 j) (patched at_queue_length (bytes_of 4 i) (header_bytes s))) (sym (one_more_lem a (shown_log s))) e

-- ---- the sections

joins : (a : Action) (l : Log) → queue l ++ (a ∷ []) ≡ queue (enter a l)
unfolding queue enter
joins a l = append_assoc l.green l.red (a ∷ [])

pub queue_entered : (a : Action) (l : Log) (k : ℕ) (x : List ℕ) → Each ActionFits (queue l) → k ≡ slot_size * length (queue l)
    → patched k (slot slot_size (action_bytes a)) (over (action_slots (queue l)) x) ≡ over (action_slots (queue (enter a l))) x
queue_entered a l k x f e =
    ap (λ (m : ℕ). patched m (slot slot_size (action_bytes a)) (over (action_slots (queue l)) x)) (e ∙ sym (action_slots_length (queue l) f))
    ∙ over_extended (action_slots (queue l)) (slot slot_size (action_bytes a)) x
    ∙ ap (λ (y : List ℕ). over y x)
    (ap (λ (y : List ℕ). action_slots (queue l) ++ y) (sym (slots_one a)) ∙ sym (slots_append (queue l) (a ∷ [])) ∙ ap action_slots (joins a l))

pub cuts_entered : (a : Action) (l : Log) (x : List ℕ) → a.id.creator < length l.cuts
    → patched (2 * a.id.creator) (bytes_of 2 a.id.index) (over (cuts_bytes l.cuts) x) ≡ over (cuts_bytes (enter a l).cuts) x
unfolding enter
cuts_entered a l x h =
    over_changed (cuts_bytes l.cuts) (bytes_of 2 a.id.index) x (2 * a.id.creator)
    (omega (arith, cuts_length l.cuts, bytes_length 2 a.id.index))
    ∙ ap (λ (y : List ℕ). over y x) (cut_set l.cuts a.id.creator a.id.index h)

-- ---- the own list

pub others_stay : (me : ℕ) (a : Action) (l : Log) → OwnListFits me l → (a.id.creator ≡ me → ⊥) → remove a.id l.own ≡ l.own
others_stay me a l f c =
    remove_absent a.id l.own
    (rw f.ids
    (each_map (λ x. same_id a.id x ≡ false) (own_id me) (above (cut l me) l.numbered)
    (each_always (λ i. same_id a.id (own_id me i) ≡ false) (λ i. same_id_no a.id (own_id me i) c) (above (cut l me) l.numbered))))

-- The first of the own list leaves it.
pub first_leaves : (d : Id) (x : Action) (rest : List Action) → x.id ≡ d → remove d (x ∷ rest) ≡ rest
unfolding remove pick
first_leaves d x rest e = let t : same_id d x.id ≡ true = same_id_yes d x.id (ap (λ y. y.creator) (sym e)) (ap (λ y. y.index) (sym e)) in rw t
