-- The States that the end of an exchange judges, as images of their senders; the yellow list that it takes.
use Prim.Native.Nat.{ℕ, suc}
use mathlib.Core.Path.{◌≡◌, refl, sym, ap, subst, ◌∙◌}
use mathlib.Core.Bool.{true}
use mathlib.Core.List.{List, [], ◌∷◌, Memᴰ}
use native.Mathlib.Omega.{arith}
use lib.ListN.{length, take, length-map}
use Rattle.base.specs.Lists.{filter}
use Rattle.base.proofs.Members.{filter_from}
use Rattle.base.specs.Sets.{in_set}
use Rattle.base.specs.Tests.{pick}
use Rattle.base.proofs.TestLaws.{and_holds, eq_holds, eq_yes}
use Rattle.format.specs.Types.{Id, State}
use Rattle.replication.specs.Machine.Types.{Configuration, Server, no_yellow}
use Rattle.replication.specs.Machine.Exchange.{taken_primary, updated_group, same_pair, is_valid, common_yellow, taken_yellow}
use Rattle.replication.specs.Machine.Step.{collected, own_state}
use Rattle.replication.specs.Machine.WellFormed.{ids_in}
use Rattle.replication.specs.Laws.Order.{in_exchange}
use Rattle.replication.specs.Runs.Run.{Run}
use Rattle.replication.proofs.Runs.Roomy.{Roomy as Allowed}
use Rattle.replication.proofs.Runs.AllowedTurns.{memory_at}
use Rattle.replication.proofs.Agreement.Terms.{Image, EndsAt, ExchangeFacts}
use Rattle.replication.proofs.Agreement.Votes.Turns.{votes_at}
use Rattle.replication.proofs.Agreement.Votes.Collected.{StateOf, state_from_lem}
use Rattle.replication.proofs.Agreement.Contents.Installed.{ended_yellow}
use Rattle.replication.proofs.Agreement.Greens.Beginnings.{take_prefix, Prefix}
use Rattle.replication.proofs.Agreement.Greens.Terms.{greens, valid_yellow}
use Rattle.replication.proofs.Agreement.Greens.Parts.{Parts}
use Rattle.replication.proofs.Agreement.Greens.Invariant.{UpTo}
use Rattle.replication.proofs.Agreement.Greens.Earlier.{taker_image, ending_agreeable}

pub valid_yellow_lem : (u : Server) → u.votes.yellow.status ≡ 1 → valid_yellow u ≡ u.votes.yellow.ids
unfolding valid_yellow pick
valid_yellow_lem u h = rw (eq_yes _ _ h)

-- ---- the valid States of the updated group

pub record ValidState (xs : List State) (w : State) : Type 0 where
  pub among : Memᴰ w xs
  pub status : w.yellow.status ≡ 1
  pub index : w.last.index ≡ (taken_primary xs).index

pub valid_state : (xs : List State) (w : State) → Memᴰ w (filter is_valid (updated_group xs)) → ValidState xs w
unfolding is_valid updated_group same_pair
valid_state xs w m =
    let a = filter_from is_valid w (updated_group xs) m in
    let b = filter_from (same_pair (taken_primary xs)) w xs a.0 in
    record { among = b.0; status = eq_holds _ _ a.1; index = eq_holds _ _ (and_holds _ _ b.1).0 }

module _ {n q : ℕ} {l : Run} (A : Allowed n q l) where
  -- The State w is what its sender had when it took c; what was green there begins g, by its length.
  pub record Sender (p : ℕ) (c : Configuration) (g : List Id) (w : State) : Type 0 where
    pub server : ℕ
    pub member : in_set server c.set ≡ true
    pub it : StateOf n q l p server c w
    pub image : Image n q l (suc it.took_at) server (memory_at n q l (suc it.took_at) server)
    pub yellow : w.yellow ≡ (votes_at n q l (suc it.took_at) server).yellow
    pub cuts : w.cuts ≡ (memory_at n q l (suc it.took_at) server).log.cuts
    pub begins : Prefix (greens (memory_at n q l (suc it.took_at) server)) g
    pub by_length : take w.green_length g ≡ greens (memory_at n q l (suc it.took_at) server)

  module _ (X : ExchangeFacts n q l) (P : Parts A) {t : ℕ} (U : UpTo A t) where
    pub sender : {s : ℕ} {c : Configuration} (y : EndsAt n q l t s c) → in_exchange (memory_at n q l t s).membership.mode ≡ true → (w : State)
        → Memᴰ w (collected y.judged)
        → Sender t c (greens (memory_at n q l (suc t) s)) w
    unfolding own_state ids_in
    sender {s} {c} y o w m =
        let z = state_from_lem A X y w m in
        let u = memory_at n q l (suc z.2.took_at) z.0 in
        let b = P.contents.ends_longest t s z.2.took_at z.0 c (ending_agreeable A X P U (omega arith) y) y o z.2.took in
        let k : w.green_length ≡ length (greens u) = ap (λ v. v.green_length) z.2.says ∙ sym (length-map u.log.green (λ a. a.id)) in
        record {
          server = z.0;
          member = z.1;
          it = z.2;
          image = taker_image A z.2.took;
          yellow = ap (λ v. v.yellow) z.2.says;
          cuts = ap (λ v. v.cuts) z.2.says;
          begins = b;
          by_length = ap (λ v. take v (greens (memory_at n q l (suc t) s))) k ∙ take_prefix (greens u) (greens (memory_at n q l (suc t) s)) b;
        }

    -- ---- the yellow list that is taken

    pub data YellowTaken (u : Server) (xs : List State) : Type 0 where
      invalid : u.votes.yellow.status ≡ 0 → filter is_valid (updated_group xs) ≡ [] → YellowTaken u xs
      valid : (v : State) (vs : List State) → filter is_valid (updated_group xs) ≡ v ∷ vs → u.votes.yellow.status ≡ 1
          → valid_yellow u ≡ (common_yellow (v ∷ vs)).ids → YellowTaken u xs

    pub yellow_taken : {s : ℕ} {c : Configuration} (y : EndsAt n q l t s c) → YellowTaken (memory_at n q l (suc t) s) (collected y.judged)
    unfolding taken_yellow common_yellow no_yellow
    yellow_taken {s} {c} y = go (filter is_valid (updated_group (collected y.judged))) refl
      where
        u : Server
        u = memory_at n q l (suc t) s

        go : (ws : List State) → filter is_valid (updated_group (collected y.judged)) ≡ ws → YellowTaken u (collected y.judged)
        go [] e = invalid (ap (λ z. z.status) (ended_yellow A y ∙ ap common_yellow e)) e
        go (v ∷ vs) e =
            let f : u.votes.yellow ≡ common_yellow (v ∷ vs) = ended_yellow A y ∙ ap common_yellow e in
            let h : u.votes.yellow.status ≡ 1 = ap (λ z. z.status) f in
            valid v vs e h (valid_yellow_lem u h ∙ ap (λ z. z.ids) f)

    -- A valid State, with what its sender had green and yellow.
    pub valid_sender : {s : ℕ} {c : Configuration} (y : EndsAt n q l t s c) → in_exchange (memory_at n q l t s).membership.mode ≡ true
        → {v w : State} {vs : List State}
        → filter is_valid (updated_group (collected y.judged)) ≡ v ∷ vs → Memᴰ w (v ∷ vs)
        → ValidState (collected y.judged) w × Sender t c (greens (memory_at n q l (suc t) s)) w
    valid_sender y o {v} {w} {vs} e m =
        let a = valid_state (collected y.judged) w (subst (λ z. Memᴰ w z) (sym e) m) in
        (a, sender y o w a.among)

    pub sender_yellow : {c : Configuration} {g : List Id} {w : State} (z : Sender t c g w) → w.yellow.status ≡ 1
        → valid_yellow (memory_at n q l (suc z.it.took_at) z.server) ≡ w.yellow.ids
    sender_yellow z h =
        valid_yellow_lem (memory_at n q l (suc z.it.took_at) z.server) (ap (λ v. v.status) (sym z.yellow) ∙ h) ∙ ap (λ v. v.ids) (sym z.yellow)
