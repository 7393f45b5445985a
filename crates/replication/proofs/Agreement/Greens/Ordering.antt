-- Each creator's ids stand in order in every green list, with the valid yellow ones above it, and these are entered: one place further.
use Prim.Native.Nat.{ℕ, suc}
use mathlib.Core.Path.{◌≡◌, sym, ap, subst, subst₂, ◌∙◌}
use mathlib.Core.Bool.{true}
use mathlib.Core.List.{List, [], ◌∷◌, Memᴰ}
use mathlib.Core.Logic.{inr}
use native.Mathlib.Omega.{arith}
use lib.ListN.{take}
use Rattle.base.specs.Tests.{◌=?◌, pick}
use Rattle.base.proofs.TestLaws.{eq_no}
use Rattle.format.specs.Types.{Id, State}
use Rattle.replication.specs.Machine.Types.{Trans_prim, Configuration, Server}
use Rattle.replication.specs.Machine.Requests.{recovered}
use Rattle.replication.specs.Machine.Step.{collected, unmarked, yellow_valid}
use Rattle.replication.specs.Machine.WellFormed.{ids_in}
use Rattle.replication.specs.Laws.Order.{in_exchange}
use Rattle.replication.specs.Runs.Run.{Run}
use Rattle.replication.proofs.Runs.Roomy.{Roomy as Allowed}
use Rattle.replication.proofs.Runs.AllowedTurns.{memory_at, store_at, Acts}
use Rattle.replication.proofs.Runs.Modes.{standing, standing_in}
use Rattle.replication.proofs.Agreement.Votes.Turns.{ends_at}
use Rattle.replication.proofs.Agreement.Terms.{Image, in_memory, in_store, Within, EndsAt, ExchangeFacts}
use Rattle.replication.proofs.Agreement.Lists.Plus.{plus_nil}
use Rattle.replication.proofs.Agreement.Greens.Beginnings.{Prefix, prefix_trans, take_begins}
use Rattle.replication.proofs.Agreement.Greens.Terms.{greens, plus, Fifo, valid_yellow, Settled, nothing, at_base, left, Reached, settled, own}
use Rattle.replication.proofs.Agreement.Greens.Parts.{Parts}
use Rattle.replication.proofs.Agreement.Greens.Invariant.{UpTo}
use Rattle.replication.proofs.Agreement.Greens.Residues.{residue_reach}
use Rattle.replication.proofs.Agreement.Greens.Comparing.{fifo_beginning}
use Rattle.replication.proofs.Agreement.Greens.Steps as S
use Rattle.replication.proofs.Agreement.Greens.Steps.{GreenStep, green_step}
use Rattle.replication.proofs.Agreement.Greens.Images.{ImageStep, kept, fallen, restored, acted, image_step, configured_within}
use Rattle.replication.proofs.Agreement.Greens.Reaching.{recovered_greens, reached_after}
use Rattle.replication.proofs.Agreement.Greens.Bases.{grown}
use Rattle.replication.proofs.Agreement.Greens.Covering.{base_fifo_after}
use Rattle.replication.proofs.Agreement.Greens.Silence.{no_yellow_after}
use Rattle.replication.proofs.Agreement.Greens.Answering.{known_list, same_known, all_valid, takes_of}
use Rattle.replication.proofs.Agreement.Greens.Gathered.{YellowTaken, invalid, valid, yellow_taken, valid_sender, sender_yellow}

pub fifo_nil : Fifo []
fifo_nil = record { follows = tt }

-- Not valid.
pub no_valid_yellow : (u : Server) → u.votes.yellow.status ≡ 0 → valid_yellow u ≡ []
unfolding valid_yellow pick
no_valid_yellow u h = rw (eq_no u.votes.yellow.status 1 (λ e. omega arith))

module _ {n q : ℕ} {l : Run} (A : Allowed n q l) (X : ExchangeFacts n q l) (P : Parts A) {t : ℕ} (U : UpTo A t) where
  settled_fifo : {g : List Id} → Settled A (suc t) g → Fifo g
  settled_fifo (nothing e) = subst (λ z. Fifo z) (sym e) fifo_nil
  settled_fifo (at_base p i c x h b) = fifo_beginning b (base_fifo_after A X P U p i c x h)
  settled_fifo (left p i d c x h m o b) =
      fifo_beginning (prefix_trans b (residue_reach A x (suc t) d)) (P.primaries.reach_fifo p i d c x m (base_fifo_after A X P U p i c x h))

  reached_fifo : {s : ℕ} {g : List Id} → Reached A (suc t) s g → Fifo g
  reached_fifo (settled b) = settled_fifo b
  reached_fifo {s} (own p i c x h m b) =
      fifo_beginning (prefix_trans b (residue_reach A x (suc t) s)) (P.primaries.reach_fifo p i s c x m (base_fifo_after A X P U p i c x h))

  pub greens_fifo : {s : ℕ} {u : Server} → Image n q l (suc t) s u → Fifo (greens u)
  greens_fifo {s} {u} y = reached_fifo (reached_after A X P U s u y)

  acted_fifo : {s : ℕ} (y : Acts n q l t s) → Fifo (greens y.after)
  acted_fifo {s} y = subst (λ u. Fifo (greens u)) y.memory_next (greens_fifo (in_memory y.down_next))

  invalid_fifo : {s : ℕ} (y : Acts n q l t s) → y.after.votes.yellow.status ≡ 0 → Fifo (known_list y.after)
  invalid_fifo y h = subst (λ z. Fifo z) (sym (ap (plus (greens y.after)) (no_valid_yellow y.after h) ∙ plus_nil _)) (acted_fifo y)

  -- ---- at the end of an exchange

  ending_fifo : {s : ℕ} {c : Configuration} (y : EndsAt n q l t s c) → in_exchange (memory_at n q l t s).membership.mode ≡ true
      → YellowTaken A X P U (memory_at n q l (suc t) s) (collected y.judged)
      → Fifo (known_list (memory_at n q l (suc t) s))
  ending_fifo {s} y o (invalid h e) = subst (λ z. Fifo z) (sym (ap (plus (greens u)) (no_valid_yellow u h) ∙ plus_nil _)) (greens_fifo (in_memory y.acts.down_next))
    where
      u : Server
      u = memory_at n q l (suc t) s
  ending_fifo {s} {c} y o (valid v vs e h f) =
      subst (λ z. Fifo (plus g z)) (sym f) (P.lists.common_fifo g (λ w. take w.green_length g) v vs (greens_fifo (in_memory y.acts.down_next)) each)
    where
      g : List Id
      g = greens (memory_at n q l (suc t) s)

      each : (w : State) → Memᴰ w (v ∷ vs) → Prefix (take w.green_length g) g × Fifo (plus (take w.green_length g) w.yellow.ids)
      each w m =
          let a = valid_sender A X P U y o e m in
          let z = a.1 in
          let b = (U (suc z.it.took_at) z.it.earlier).fifo z.server _ z.image in
          (take_begins w.green_length g, subst₂ (λ j k. Fifo (plus j k)) (sym z.by_length) (sender_yellow A X P U z a.0.status) b)

  -- ---- the step

  acting_fifo : {s : ℕ} (y : Acts n q l t s) → GreenStep (memory_at n q l t s) y.by.event y.after y.by.records y.stores
      → Fifo (known_list y.after)
  unfolding unmarked yellow_valid valid_yellow pick
  acting_fifo {s} y (S.steady g v k) =
      subst (λ z. Fifo z) (sym (same_known y.after (memory_at n q l t s) g (ap (λ z. z.yellow) v))) ((U t (omega arith)).fifo s _ (in_memory y.up))
  acting_fifo y (S.delivers k b v o) = invalid_fifo y (no_yellow_after A y b)
  acting_fifo {s} y (S.exchanges k b v) =
      subst (λ z. Fifo (plus (greens y.after) z)) (ap (λ z. pick (z.yellow.status =? 1) z.yellow.ids []) (sym v))
      (P.lists.growth_fifo (greens (memory_at n q l t s)) (greens y.after) (valid_yellow (memory_at n q l t s)) ((U t (omega arith)).fifo s _ (in_memory y.up)) (grown y)
      (acted_fifo y))
  acting_fifo {s} y (S.ends b j) =
      let z = ends_at A _ _ y b j in
      subst (λ u. Fifo (known_list u)) y.memory_next (ending_fifo z.1 j.exchanging (yellow_taken A X P U z.1))
  acting_fifo y (S.installs k b o j) = invalid_fifo y (no_yellow_after A y o)
  acting_fifo {s} y (S.unmarks k b g v) =
      subst (λ z. Fifo z) (sym (same_known y.after (memory_at n q l t s) (ap (λ z. z.green) g) (ap (λ z. z.yellow) v))) ((U t (omega arith)).fifo s _ (in_memory y.up))
  acting_fifo {s} y (S.makes_valid o r k b g v) =
      let u = memory_at n q l t s in
      let c = standing_in u Trans_prim k (standing n q l s t).memory in
      let w : Within n q l t s c.configuration = configured_within A y.up c.there in
      let z = P.primaries.in_primary_lem t s c.configuration w (inr k) in
      subst (λ z. Fifo z)
      (sym (ap (λ z. plus (ids_in z.green) (valid_yellow y.after)) g ∙ ap (λ z. plus (greens u) (pick (z.yellow.status =? 1) z.yellow.ids [])) v
      ∙ ap (plus (greens u)) (all_valid u.votes.yellow.ids)))
      (P.primaries.leaves_in_order t z.0 s c.configuration o z.2 z.1 (takes_of y r) w k
      ((U t (omega arith)).base_fifo z.0 s c.configuration z.2 z.1))

  pub fifo_after : (s : ℕ) (u : Server) → Image n q l (suc t) s u → Fifo (known_list u)
  unfolding recovered valid_yellow
  fifo_after s u y = go (image_step A y)
    where
      stored : Fifo (known_list (store_at n q l t s))
      stored = let z : Image n q l t s (store_at n q l t s) = in_store in (U t (omega arith)).fifo s _ z

      go : ImageStep n q l t s u → Fifo (known_list u)
      go (kept z f) = (U t (omega arith)).fifo s u z
      go (fallen f g) = subst (λ z. Fifo (known_list z)) (sym g) stored
      go (restored f k g) =
          subst (λ z. Fifo (known_list z)) (sym g)
          (subst (λ z. Fifo (plus z (valid_yellow (store_at n q l t s)))) (sym (recovered_greens A (store_at n q l t s))) stored)
      go (acted z g) = subst (λ z. Fifo (known_list z)) (sym g) (acting_fifo z (green_step (memory_at n q l t s) z.moves))
