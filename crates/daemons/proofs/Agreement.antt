-- Demand 3 on buffers, from demand 3 on the machine's states.
use Prim.Native.Nat.{ℕ, suc, ◌≤◌, ◌<◌}
use mathlib.Core.Path.{◌≡◌, refl, sym, ap, subst, ◌∙◌}
use mathlib.Core.Bool.{Bool, true, false}
use mathlib.Core.List.{List}
use mathlib.Core.Option.{some}
use native.Mathlib.Omega.{arith}
use lib.ListN.{length, take}
use Rattle.base.specs.Tests.{pick}
use Rattle.base.proofs.TestLaws.{not_both}
use Rattle.base.specs.Bytes.{joined}
use Rattle.base.specs.Lists.{at, Begins}
use Rattle.base.proofs.Prefixes.{begins_length}
use Rattle.replication.specs.Machine.Types.{Server}
use Rattle.replication.specs.Images.{Images, arrive}
use Rattle.replication.specs.Runs.Run.{event, Run, world_at, put_out, sent_at}
use Rattle.replication.specs.Runs.Strays.{AllowedWithStraysUp}
use Rattle.replication.specs.Runs.Claim.{stored_green, memory_green, green_at, IsPrimary, Agreement, Consequences, Demand3, Corollaries}
use Rattle.replication.specs.Runs.Whites.{WhiteWasStored}
use Rattle.replication.proofs.Agreement.Greens.Demand.{demand3, corollaries}
use Rattle.replication.proofs.Agreement.Greens.KeptWhileUp.{kept_while_up}
use Rattle.replication.proofs.Agreement.Greens.Resending.{white_was_stored}
use Rattle.replication.proofs.Runs.ControlPart.{store_below}
use Rattle.replication.proofs.Runs.Places.{put_out_at, sent_at_lem}
use Rattle.image.specs.Decode.{white_in}
use Rattle.image.specs.Outcome.{Result}
use Rattle.image.specs.Holding.{Holds, blanked}
use Rattle.image.proofs.InPlace.{holds_decoded}
use Rattle.daemons.specs.Buffers.{step_in}
use Rattle.daemons.specs.Sending.{cut_records}
use Rattle.daemons.specs.Daemons.{Daemons, Lending, LongEnough, daemons_at}
use Rattle.daemons.specs.Claim.{primary_in, HistoryIn, shown, HeldBy, running, stored, BuffersFollow, BuffersAgree, BuffersDemand}
use Rattle.daemons.proofs.Keeping.{holds_read}
use Rattle.daemons.proofs.Arriving.{Arrives, answered, arrives}
use Rattle.daemons.proofs.Entries.{Kept}
use Rattle.daemons.proofs.Histories.{history_held, shown_agree}
use Rattle.daemons.proofs.Runs.{out_room_lem, event_keeps, kept_at}

primary_held : (s : Server) (b : List ℕ) → Holds (blanked s) b → s.votes.last ≡ primary_in b
unfolding primary_in blanked
primary_held s b h = ap (λ (t : Server). t.votes.last) (sym (holds_decoded (blanked s) b h))

module _ {n q : ℕ} {l : Run} (S : AllowedWithStraysUp n q l) (x : Lending) (long : LongEnough n q l x) where
  abbrev daemons : ℕ → Daemons
  daemons p = daemons_at n q l x p

  abbrev images : ℕ → ℕ → Images
  images p i = (world_at n q l p).images i

  at_server : (p i : ℕ) → i < n → Kept (length (x.first i).state) (world_at n q l p) (daemons p) i
  at_server p i b = kept_at S x long p i b

  state_holds : (p i : ℕ) → i < n → (daemons p).down i ≡ false → Holds (blanked (images p i).memory) ((daemons p).buffers i).state
  state_holds p i b d = let k = at_server p i b in k.keeps.memory (sym k.down ∙ d)

  store_holds : (p i : ℕ) → i < n → Holds (blanked (images p i).store) ((daemons p).buffers i).store
  store_holds p i b = (at_server p i b).keeps.store

  -- ---- the daemons do what the machine does

  module _ (p i k : ℕ) (e : List ℕ) (r : Result) (h : at l p ≡ some (event i e k)) (f : step_in ((daemons p).buffers i) e (x.out p) ≡ r) where
    arrived : Arrives (images p i) (arrive (images p i) e) ((daemons p).buffers i) r
    arrived =
        subst (Arrives (images p i) (arrive (images p i) e) ((daemons p).buffers i)) f
        (arrives (images p i) ((daemons p).buffers i) e (event_keeps S x long p i k e h) (x.out p) (out_room_lem S x long p i))

    bytes_are : take r.sent r.out ≡ joined (put_out n q l p)
    bytes_are = arrived.bytes ∙ ap joined (sym (put_out_at n q l p i k e h))

    records_are : cut_records (take r.sent r.out) ≡ put_out n q l p
    records_are = arrived.records ∙ sym (put_out_at n q l p i k e h)

    sent_are : take k (cut_records (take r.sent r.out)) ≡ sent_at n q l p
    sent_are = ap (take k) records_are ∙ sym (sent_at_lem n q l p i k e h)

  pub buffers_follow : BuffersFollow n q l x
  buffers_follow = record {
    down = λ p i b. (at_server p i b).down;
    state = λ p i b d. holds_read _ _ (state_holds p i b d);
    store = λ p i b. holds_read _ _ (store_holds p i b);
    answer = λ p i k e h. answered (images p i) ((daemons p).buffers i) e (event_keeps S x long p i k e h) (x.out p) (out_room_lem S x long p i);
    bytes = bytes_are;
    records = records_are;
    sent = sent_are;
    state_length_lem = λ p i b. (at_server p i b).sized.state;
    store_length = λ p i b. (at_server p i b).sized.store ∙ sym (long.first i b).alike;
  }

  -- ---- agreement

  agree : Agreement n q l
  unfolding Demand3
  agree = demand3 n q l S.allowed

  follow : Consequences n q l
  unfolding Corollaries
  follow = corollaries n q l S.allowed

  stored_held : (p i : ℕ) → i < n → HistoryIn ((daemons p).buffers i).store (stored_green n q l p i)
  unfolding stored_green
  stored_held p i b = history_held _ _ (store_holds p i b) (at_server p i b).keeps.formed_store

  running_held : (p i : ℕ) → i < n → (daemons p).down i ≡ false → HistoryIn ((daemons p).buffers i).state (memory_green n q l p i)
  unfolding memory_green
  running_held p i b d = history_held _ _ (state_holds p i b d) (at_server p i b).keeps.formed

  shown_held : (p i : ℕ) → i < n → HistoryIn (shown (daemons p) i) (green_at n q l p i)
  unfolding green_at shown pick
  shown_held p i b = go ((world_at n q l p).down i) ((daemons p).down i) refl (at_server p i b).down
    where
      go : (u v : Bool) → (daemons p).down i ≡ v → v ≡ u
          → HistoryIn (pick v ((daemons p).buffers i).store ((daemons p).buffers i).state) (pick u (stored_green n q l p i) (memory_green n q l p i))
      go true true d h = stored_held p i b
      go false false d h = running_held p i b d
      go true false d h = not_both h
      go false true d h = not_both (sym h)

  held_primary : (p i : ℕ) (b : List ℕ) → i < n → HeldBy (daemons p) i b → IsPrimary n q l (primary_in b)
  held_primary p i b h (running d) =
      subst (IsPrimary n q l) (primary_held _ _ (state_holds p i h d)) (follow.known p i h).0
  held_primary p i b h stored = subst (IsPrimary n q l) (primary_held _ _ (store_holds p i h)) (follow.known p i h).1

  -- ---- what is white was read

  white_held : (p i : ℕ) → i < n → (daemons p).down i ≡ false → white_in ((daemons p).buffers i).state ≡ (images p i).memory.white
  unfolding white_in blanked
  white_held p i b d = ap (λ (t : Server). t.white) (holds_decoded _ _ (state_holds p i b d))

  white_before_it : (p i j : ℕ) → i < n → j < n → (daemons (suc p)).down i ≡ false
      → white_in ((daemons (suc p)).buffers i).state ≤ length (stored_green n q l p j)
  unfolding WhiteWasStored
  white_before_it p i j h k d = omega (arith, white_held (suc p) i h d, white_was_stored n q l S.allowed p i j k)

  stored_begins : (p i : ℕ) → Begins (stored_green n q l p i) (memory_green n q l p i)
  unfolding stored_green memory_green
  stored_begins p i = (store_below n q l i p).greens

  pub buffers_agree : BuffersAgree n q l x
  buffers_agree = record {
    history = shown_held;
    stored_history = stored_held;
    running_history = running_held;
    green = agree.green;
    shown_green_lem = λ p i j w h k u v a b. shown_agree _ _ _ _ w (shown_held p i h) (shown_held p j k) u v a b (agree.green p i j h k);
    stored_first = stored_begins;
    white_stored = λ p i j h k d. omega (arith, white_before_it p i j h k d, (stored_held p j k).size);
    white_read = λ p i h u d. omega (arith, white_before_it p i i h h d, begins_length _ _ (stored_begins p i), (running_held p i h u).size);
    primary = λ p r i j b c h k u v. agree.primary _ _ (held_primary p i b h u) (held_primary r j c k v);
    known = held_primary;
    stored = follow.stored;
    later = λ p r i j o h k d. follow.later p r i j o h k (sym (at_server r j k).down ∙ d);
    kept = follow.kept;
    while_up = λ p r i j k a o h m s e low.
        kept_while_up.everywhere n q l S.allowed p r i j k a o h m s e (omega (arith, low, (shown_held r j m).size));
  }

pub buffers_demand : BuffersDemand
unfolding BuffersDemand
buffers_demand n q l S x long = (buffers_follow S x long, buffers_agree S x long)
