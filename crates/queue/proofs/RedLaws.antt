-- The cut in the buffer decides whether an action is entered.
use Prim.Native.Nat.{ℕ, ◌+◌, ◌*◌, ◌<◌}
use mathlib.Core.Path.{◌≡◌, sym, ap, ◌∙◌}
use mathlib.Core.Bool.{true, false}
use mathlib.Core.List.{List}
use native.Mathlib.Omega.{arith}
use lib.ListN.{length, get_or}
use Rattle.base.specs.Bytes.{number_at}
use Rattle.base.proofs.BytesLaws.{numbers_at_lem}
use Rattle.base.specs.Lists.{sum}
use Rattle.base.proofs.TestLaws.{eq_yes, eq_no}
use Rattle.format.specs.Types.{Action}
use Rattle.replication.specs.Machine.Types.{Log, Server, with_log}
use Rattle.replication.specs.Machine.Colours.{cut, next_index, is_next, enter, red}
use Rattle.replication.proofs.Step.Logs.{red_entered, red_ignored}
use Rattle.image.specs.Layout.{sections, offset, header_size, at_servers}
use Rattle.image.specs.Image.{image}
use Rattle.image.specs.Decode.{decoded_as, servers_in, quota_in, decoded}
use Rattle.image.specs.Holding.{Holds}
use Rattle.image.proofs.InPlace.{holds_decoded}
use Rattle.record.specs.declared.ActionHead.{ActionHead}
use Rattle.record.specs.Values.{id_of, action_of}
use Rattle.queue.specs.Queue.{Placed, RoomFor, RoomIfNext}
use Rattle.queue.proofs.Entered.{room_for}
use Rattle.image.proofs.Counts.{numbers, holds_counts}

pub cut_read : (s : Server) (b : List ℕ) (c : ℕ) → Holds s b → c < s.servers → number_at 2 b (header_size + 2 * c) ≡ cut s.log c
unfolding cut decoded decoded_as servers_in quota_in offset sections sum
cut_read s b c r h =
    sym (numbers_at_lem 2 (number_at 1 b at_servers) b header_size c (omega (arith, (numbers s b r).servers)))
    ∙ ap (λ (t : Server). get_or t.log.cuts c 0) (holds_decoded s b r)

-- ---- as the code tests it

pub next_room : (c i m k : ℕ) (b : List ℕ) → RoomIfNext c i m b → k ≡ number_at 2 b (header_size + 2 * c) → k + 1 ≡ i → RoomFor c m b
next_room c i m k b r e f = record { counts = r.counts; creator = r.creator; short = r.short; room = r.room (ap (λ (x : ℕ). x + 1) (sym e) ∙ f) }

module _ (h : ActionHead) (p b : List ℕ) (k : ℕ) (e : k ≡ number_at 2 b (header_size + 2 * h.creator)) where
  cut_known : (s : Server) → Holds s b → Placed s (action_of h p) → k ≡ cut s.log h.creator
  unfolding action_of id_of
  cut_known s r d = e ∙ cut_read s b h.creator r d.delivered.fits.creator

  pub red_passed : (k + 1 ≡ h.index → ⊥) → (s : Server) → Holds s b → Placed s (action_of h p) → b ≡ image (with_log (red (action_of h p) s.log) s) b
  unfolding is_next next_index action_of id_of
  red_passed n s r d =
      let c = cut_known s r d in
      let no : is_next s.log (action_of h p) ≡ false = eq_no _ _ (λ g. n (omega arith)) in
      sym (ap (λ (l : Log). image (with_log l s) b) (red_ignored (action_of h p) s.log no) ∙ r.written)

  pub red_taken : k + 1 ≡ h.index → (c : List ℕ)
      → ((s : Server) → Holds s b → Placed s (action_of h p) → is_next s.log (action_of h p) ≡ true → c ≡ image (with_log (enter (action_of h p) s.log) s) b)
      → (s : Server) → Holds s b → Placed s (action_of h p) → c ≡ image (with_log (red (action_of h p) s.log) s) b
  unfolding is_next next_index action_of id_of
  red_taken f c g s r d =
      let j = cut_known s r d in
      let yes : is_next s.log (action_of h p) ≡ true = eq_yes _ _ (omega arith) in
      g s r d yes ∙ ap (λ (l : Log). image (with_log l s) b) (sym (red_entered (action_of h p) s.log yes))

-- ---- for a caller

pub room_if_next : (s : Server) (a : Action) (b : List ℕ) → Holds s b → Placed s a → RoomIfNext a.id.creator a.id.index (length a.payload) b
unfolding is_next next_index
room_if_next s a b r d =
    let m = numbers s b r in
    record {
      counts = holds_counts s b r;
      creator = rw m.servers d.delivered.fits.creator;
      short = d.delivered.fits.payload.most;
      room = λ e. (room_for s a b r d (eq_yes _ _ (omega (arith, cut_read s b a.id.creator r d.delivered.fits.creator)))).room;
    }
