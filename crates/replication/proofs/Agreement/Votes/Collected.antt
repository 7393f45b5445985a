-- The States that a server judges at the end of an exchange: one of each member, as it was when it took the configuration.
use Prim.Native.Nat.{ℕ, suc, ◌<◌, ◌^◌}
use mathlib.Core.Path.{◌≡◌, sym, ap, subst, ◌∙◌}
use mathlib.Core.Bool.{true}
use mathlib.Core.List.{Memᴰ}
use mathlib.Core.Option.{none, some}
use lib.ListN.{get_or}
use Rattle.base.proofs.TestLaws.{lt_holds, and_holds, Known, holds, fails, known}
use Rattle.base.proofs.AtLaws.{none_some, some_same}
use Rattle.base.proofs.Members.{present_has, present_from}
use Rattle.base.specs.Sets.{in_set}
use Rattle.base.proofs.SetLaws.{member_below}
use Rattle.format.specs.Types.{State}
use Rattle.format.specs.Range.{record_ok, fields_ok, own_set_ok, set_ok}
use Rattle.format.proofs.Reading.{read_in_range}
use Rattle.replication.specs.Machine.Types.{Configuration}
use Rattle.replication.specs.Machine.Exchange.{own_mark, judged_mark}
use Rattle.replication.specs.Machine.Step.{own_state, collected}
use Rattle.replication.specs.Runs.Run.{Run, heard, heard_at}
use Rattle.replication.specs.Runs.Happenings.{Takes}
use Rattle.replication.proofs.Runs.Roomy.{Roomy as Allowed}
use Rattle.replication.proofs.Runs.Entries.{Had, had}
use Rattle.replication.proofs.Runs.Numbers.{numbers}
use Rattle.replication.proofs.Runs.Order.{taker_member}
use Rattle.replication.proofs.Runs.AllowedTurns.{memory_at}
use Rattle.replication.proofs.Agreement.Terms.{EndsAt, SentState, ExchangeFacts}
use Rattle.replication.proofs.Agreement.Votes.Turns.{votes_at, last_at}
use Rattle.replication.proofs.Agreement.Votes.Judging.{own_mark_lem}

-- A configuration that a server takes has servers below n only.
pub taken_below : {n q : ℕ} {l : Run} {p i : ℕ} {c : Configuration} → Takes n q l p i c → c.set < 2 ^ n
unfolding heard_at heard record_ok fields_ok own_set_ok set_ok
taken_below t = let r = and_holds _ _ (and_holds _ _ (read_in_range _ t.bytes _ t.heard)).1 in lt_holds _ _ (and_holds _ _ r.1).0

module _ (n q : ℕ) (l : Run) where
  -- The State s is what the server k had when it took c, before p.
  pub record StateOf (p k : ℕ) (c : Configuration) (s : State) : Type 0 where
    pub took_at : ℕ
    pub took : Takes n q l took_at k c
    pub earlier : took_at < p
    pub says : s ≡ own_state c (memory_at n q l (suc took_at) k)
    pub sender : s.sender ≡ k
    pub last : s.last ≡ last_at n q l (suc took_at) k
    pub attempt : s.attempt ≡ (votes_at n q l (suc took_at) k).attempt
    pub mark : s.mark ≡ (votes_at n q l (suc took_at) k).mark

  state_of_sent : (p k : ℕ) (c : Configuration) (s : State) (y : SentState n q l k c s) → y.at < p → StateOf p k c s
  unfolding own_state
  state_of_sent p k c s y h = record {
    took_at = y.at;
    took = y.took;
    earlier = h;
    says = y.says;
    sender = ap (λ x. x.sender) y.says ∙ (numbers n q k l (suc y.at)).memory.me;
    last = ap (λ x. x.last) y.says;
    attempt = ap (λ x. x.attempt) y.says;
    mark = ap (λ x. x.mark) y.says;
  }

module _ {n q : ℕ} {l : Run} (A : Allowed n q l) (X : ExchangeFacts n q l) {p i : ℕ} {c : Configuration} (x : EndsAt n q l p i c) where
  ender_took : Had n q l i p c
  ender_took = had n q l p i c (ap (λ z. z.regular) x.here)

  -- The State of each member is there.
  pub state_of_lem : (k : ℕ) → in_set k c.set ≡ true → (s : State) × Memᴰ s (collected x.judged) × StateOf n q l p k c s
  unfolding collected
  state_of_lem k h =
      let r = X.states_sent p i c x k (member_below n k c.set (taken_below ender_took.took) h) h in
      (r.0, present_has r.0 x.judged.membership.states k r.1, state_of_sent n q l p k c r.0 r.2 r.3)

  -- Each State is a member's.
  pub state_from_lem : (s : State) → Memᴰ s (collected x.judged) → (k : ℕ) × (in_set k c.set ≡ true) × StateOf n q l p k c s
  unfolding collected
  state_from_lem s m = let r = present_from s x.judged.membership.states m in go r.0 r.1 (known (in_set r.0 c.set))
    where
      go : (k : ℕ) → get_or x.judged.membership.states k none ≡ some s → Known (in_set k c.set) → (k : ℕ) × (in_set k c.set ≡ true) × StateOf n q l p k c s
      go k g (holds h) =
          let r = X.states_sent p i c x k (member_below n k c.set (taken_below ender_took.took) h) h in
          let e : r.0 ≡ s = some_same (sym r.1 ∙ g) in
          (k, h, subst (λ z. StateOf n q l p k c z) e (state_of_sent n q l p k c r.0 r.2 r.3))
      go k g (fails h) = none_some (sym (X.states_only p i c x k h) ∙ g)

  -- The own State.
  pub own_state_lem : (s : State) × Memᴰ s (collected x.judged) × StateOf n q l p i c s
  own_state_lem = state_of_lem i (taker_member ender_took.took)

  -- One State of each server.
  pub state_unique : (k : ℕ) (s t : State) → StateOf n q l p k c s → Memᴰ t (collected x.judged) → t.sender ≡ k → t ≡ s
  state_unique k s t y m e =
      let r = state_from_lem t m in
      let same : r.0 ≡ k = sym r.2.sender ∙ e in
      let z : StateOf n q l p k c t = subst (λ j. StateOf n q l p j c t) same r.2 in
      z.says ∙ ap (λ a. own_state c (memory_at n q l (suc a) k)) (A.allowed.once z.took_at y.took_at k c z.took y.took) ∙ sym y.says

  -- The own mark is judged on the own State.
  pub own_mark_judged : (s : State) → Memᴰ s (collected x.judged) → StateOf n q l p i c s
      → own_mark i (collected x.judged) (collected x.judged) ≡ judged_mark (collected x.judged) s
  own_mark_judged s m y = own_mark_lem i (collected x.judged) (collected x.judged) s m y.sender (λ t k e. state_unique i s t y k e)
