-- Valid yellow ids are of entered actions, one place further.
use Prim.Native.Nat.{ℕ, suc, ◌≤◌}
use mathlib.Core.Path.{◌≡◌, refl, sym, ap, subst, subst₂, ◌∙◌}
use mathlib.Core.Bool.{true}
use mathlib.Core.List.Memᴰ
use mathlib.Core.List.{List, []}
use native.Mathlib.Omega.{arith}
use Rattle.base.specs.Lists.{Each, all}
use Rattle.base.proofs.ListLaws.{each_implied, each_filter}
use Rattle.base.specs.Tests.{◌=?◌, pick}
use Rattle.format.specs.Types.{Id}
use Rattle.format.specs.Range.{has_id}
use Rattle.replication.specs.Machine.Types.{Configuration, Server, Log}
use Rattle.replication.specs.Machine.Colours.{cut}
use Rattle.replication.specs.Machine.Exchange.{common_yellow}
use Rattle.replication.specs.Machine.Requests.{recovered}
use Rattle.replication.specs.Machine.Step.{collected, unmarked, yellow_valid}
use Rattle.replication.proofs.WellFormed.Clauses.{YellowEntered, YellowRed}
use Rattle.replication.specs.Laws.Order.{in_exchange}
use Rattle.replication.specs.Laws.Transitions as L
use Rattle.replication.specs.Runs.Run.{Run}
use Rattle.replication.proofs.Runs.Roomy.{Roomy as Allowed}
use Rattle.replication.proofs.Step.Growth.{transition_grows}
use Rattle.replication.proofs.Runs.AllowedTurns.{memory_at, store_at, Acts}
use Rattle.replication.proofs.Runs.Numbers.{invariant_at}
use Rattle.replication.proofs.Runs.Places.{of_event}
use Rattle.replication.proofs.Agreement.Votes.Turns.{ends_at}
use Rattle.replication.proofs.Agreement.Terms.{Image, in_memory, in_store, EndsAt, ExchangeFacts}
use Rattle.replication.proofs.Agreement.Greens.Terms.{valid_yellow}
use Rattle.replication.proofs.Agreement.Greens.Parts.{Parts}
use Rattle.replication.proofs.Agreement.Greens.Invariant.{UpTo}
use Rattle.replication.proofs.Agreement.Greens.Steps as S
use Rattle.replication.proofs.Agreement.Greens.Steps.{GreenStep, green_step}
use Rattle.replication.proofs.Agreement.Greens.Images.{ImageStep, kept, fallen, restored, acted, image_step}
use Rattle.replication.proofs.Agreement.Greens.Earlier.{ending_agreeable}
use Rattle.replication.proofs.Agreement.Greens.Silence.{no_yellow_after}
use Rattle.replication.proofs.Agreement.Greens.Answering.{all_valid}
use Rattle.replication.proofs.Agreement.Greens.Gathered.{YellowTaken, invalid, valid, yellow_taken, valid_sender, sender_yellow}
use Rattle.replication.proofs.Agreement.Greens.Ordering.{no_valid_yellow}

-- The ids are of actions that the log m has entered.
abbrev Entered : Log → List Id → Type 0
Entered m ids = Each (λ d. d.index ≤ cut m d.creator) ids

entered_more : (m o : Log) (ids : List Id) → ((c : ℕ) → cut m c ≤ cut o c) → Entered m ids → Entered o ids
entered_more m o ids f h = each_implied (λ d. d.index ≤ cut m d.creator) (λ d. d.index ≤ cut o d.creator) (λ d k. omega (arith, f d.creator)) ids h

none_entered : (m : Log) (ids : List Id) → ids ≡ [] → Entered m ids
none_entered m ids e = subst (λ z. Entered m z) (sym e) tt

module _ {n q : ℕ} {l : Run} (A : Allowed n q l) (X : ExchangeFacts n q l) (P : Parts A) {t : ℕ} (U : UpTo A t) where
  before : {s : ℕ} (y : Acts n q l t s) → Entered (memory_at n q l t s).log (valid_yellow (memory_at n q l t s))
  before {s} y = (U t (omega arith)).yellow_entered s _ (in_memory y.up)

  same_yellow : {s : ℕ} (y : Acts n q l t s) → y.after.votes.yellow ≡ (memory_at n q l t s).votes.yellow → Entered y.after.log (valid_yellow y.after)
  unfolding valid_yellow
  same_yellow {s} y v =
      subst (λ z. Entered y.after.log z) (ap (λ z. pick (z.status =? 1) z.ids []) (sym v))
      (entered_more (memory_at n q l t s).log y.after.log (valid_yellow (memory_at n q l t s)) (transition_grows y.moves).cuts (before y))

  ending : {s : ℕ} {c : Configuration} (y : EndsAt n q l t s c) → in_exchange (memory_at n q l t s).membership.mode ≡ true
      → YellowTaken A X P U (memory_at n q l (suc t) s) (collected y.judged)
      → Entered (memory_at n q l (suc t) s).log (valid_yellow (memory_at n q l (suc t) s))
  unfolding common_yellow
  ending {s} {c} y j (invalid h e) = none_entered (memory_at n q l (suc t) s).log _ (no_valid_yellow (memory_at n q l (suc t) s) h)
  ending {s} {c} y j (valid v vs e h f) =
      let a = valid_sender A X P U y j e (Memᴰ.head refl) in
      let z = a.1 in
      let m = (memory_at n q l (suc z.it.took_at) z.server).log in
      let o = (memory_at n q l (suc t) s).log in
      let b = (U (suc z.it.took_at) z.it.earlier).yellow_entered z.server _ z.image in
      let k = entered_more m o v.yellow.ids
      (P.contents.ends_cuts t s z.it.took_at z.server c (ending_agreeable A X P U (omega arith) y) y j z.it.took)
      (subst (λ w. Entered m w) (sender_yellow A X P U z a.0.status) b) in
      subst (λ w. Entered o w) (sym f)
      (each_filter (λ d. d.index ≤ cut o d.creator) (λ d. all (λ w. has_id d w.yellow.ids) vs) v.yellow.ids k)

  acting : {s : ℕ} (y : Acts n q l t s) → GreenStep (memory_at n q l t s) y.by.event y.after y.by.records y.stores
      → Entered y.after.log (valid_yellow y.after)
  unfolding unmarked yellow_valid valid_yellow pick
  acting y (S.steady g v k) = same_yellow y (ap (λ z. z.yellow) v)
  acting y (S.delivers k b v o) = none_entered y.after.log _ (no_valid_yellow y.after (no_yellow_after A y b))
  acting y (S.exchanges k b v) = same_yellow y (ap (λ z. z.yellow) v)
  acting {s} y (S.ends b j) =
      let z = ends_at A _ _ y b j in
      subst (λ u. Entered u.log (valid_yellow u)) y.memory_next (ending z.1 j.exchanging (yellow_taken A X P U z.1))
  acting y (S.installs k b o j) = none_entered y.after.log _ (no_valid_yellow y.after (no_yellow_after A y o))
  acting y (S.unmarks k b g v) = same_yellow y (ap (λ z. z.yellow) v)
  acting {s} y (S.makes_valid o r k b g v) =
      let u = memory_at n q l t s in
      let w = (invariant_at n q s A.allowed.sizes (A.allowed.servers t s (of_event y.here)) l t).memory.yellow in
      let e : YellowRed u = subst (λ m. YellowEntered m u) k w in
      subst₂ (λ m z. Entered m z) (sym g)
      (sym (ap (λ z. pick (z.yellow.status =? 1) z.yellow.ids []) v ∙ all_valid u.votes.yellow.ids)) e.within

  pub yellow_entered_after : (s : ℕ) (u : Server) → Image n q l (suc t) s u → Each (λ d. d.index ≤ cut u.log d.creator) (valid_yellow u)
  unfolding recovered valid_yellow
  yellow_entered_after s u y = go (image_step A y)
    where
      w : Server
      w = store_at n q l t s

      stored : Entered w.log (valid_yellow w)
      stored = let z : Image n q l t s w = in_store in (U t (omega arith)).yellow_entered s w z

      go : ImageStep n q l t s u → Entered u.log (valid_yellow u)
      go (kept z f) = (U t (omega arith)).yellow_entered s u z
      go (fallen f g) = subst (λ z. Entered z.log (valid_yellow z)) (sym g) stored
      go (restored f k g) =
          subst (λ z. Entered z.log (valid_yellow z)) (sym g)
          (entered_more w.log (recovered w).log (valid_yellow w) (transition_grows {s = w} L.recovers).cuts stored)
      go (acted z g) = subst (λ z. Entered z.log (valid_yellow z)) (sym g) (acting z (green_step (memory_at n q l t s) z.moves))
