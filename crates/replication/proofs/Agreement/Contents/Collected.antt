-- The States that all have who have them all in one configuration: whose they are, and who resends.
use Prim.Native.Nat.{ℕ, suc, ◌≤◌, ◌<◌}
use mathlib.Core.Path.{◌≡◌, sym, ap, subst, ◌∙◌}
use mathlib.Core.Bool.{true}
use mathlib.Core.List.{List, Memᴰ}
use mathlib.Core.Option.{some}
use native.Mathlib.Omega.{arith}
use Rattle.base.specs.Lists.{present}
use Rattle.base.proofs.AtLaws.{some_same}
use Rattle.base.proofs.Members.{present_has, present_from}
use Rattle.base.specs.Sets.{in_set}
use Rattle.format.specs.Types.{State}
use Rattle.replication.specs.Machine.Types.{Configuration}
use Rattle.replication.specs.Machine.Plan.{highest, lowest, resender}
use Rattle.replication.specs.Machine.Step.{own_state}
use Rattle.replication.specs.Runs.Run.{Run}
use Rattle.replication.specs.Runs.Happenings.{Takes}
use Rattle.replication.proofs.Runs.Roomy.{Roomy as Allowed}
use Rattle.replication.proofs.Step.Taken.{highest_covers}
use Rattle.replication.proofs.Runs.Numbers.{numbers}
use Rattle.replication.proofs.Runs.Entries.{had}
use Rattle.replication.proofs.Runs.AllowedTurns.{memory_at}
use Rattle.replication.proofs.Runs.Memberships.{states_in_of, every_state_in}
use Rattle.replication.proofs.Runs.Stays.{membership_at}
use Rattle.replication.proofs.Runs.Progress.{stay_member}
use Rattle.replication.proofs.Agreement.Exchange.Stages.{InCom}
use Rattle.replication.proofs.Agreement.Exchange.Collected.{complete_in}
use Rattle.replication.proofs.Agreement.Exchange.SameStates.{collected_sent, complete_same}
use Rattle.replication.proofs.Agreement.Contents.Plan.{lowest_covered, resender_highest, someone_resends}

module _ {n q : ℕ} {l : Run} (A : Allowed n q l) where
  -- A server that has c took it.
  pub took_it : {p i : ℕ} {c : Configuration} → InCom n q l p i c → (e : ℕ) × Takes n q l e i c × (e < p)
  took_it {p} {i} {c} h = let x = had n q l p i c h in (x.took_at, x.took, x.earlier)

  -- At p0 the server i0 has every State of c.
  module _ (c : Configuration) (p0 i0 : ℕ) (here : InCom n q l p0 i0 c) (full : every_state_in (membership_at n q l p0 i0) ≡ true) where
    abbrev pub states_of : List State
    states_of = states_in_of (membership_at n q l p0 i0)

    -- All who have every State have these.
    pub states_same : (p i : ℕ) → InCom n q l p i c → every_state_in (membership_at n q l p i) ≡ true → states_in_of (membership_at n q l p i) ≡ states_of
    states_same p i h e = ap present (complete_same A p p0 i i0 c h here e full)

    -- The State x is its sender's, sent on taking c.
    pub record Sent (x : State) : Type 0 where
      pub at_place : ℕ
      pub took : Takes n q l at_place x.sender c
      pub earlier : suc at_place < p0
      pub says : x ≡ own_state c (memory_at n q l (suc at_place) x.sender)

    pub sent : (x : State) → Memᴰ x states_of → Sent x
    unfolding own_state
    sent x m =
        let h = present_from x (membership_at n q l p0 i0).states m in
        let y = collected_sent A p0 i0 c here h.0 x h.1 in
        let s = y.0 in
        let e : x.sender ≡ h.0 = ap (λ z. z.sender) s.says ∙ (numbers n q h.0 l (suc s.at)).memory.me in
        record {
          at_place = s.at;
          took = subst (λ k. Takes n q l s.at k c) (sym e) s.took;
          earlier = y.1;
          says = subst (λ k. x ≡ own_state c (memory_at n q l (suc s.at) k)) (sym e) s.says;
        }

    -- Whoever took c sent one of them.
    pub sent_one : {e k : ℕ} → Takes n q l e k c → (k < n) × (in_set k c.set ≡ true) → Memᴰ (own_state c (memory_at n q l (suc e) k)) states_of × (suc e < p0)
    sent_one {e} {k} t m =
        let s = complete_in A i0 c p0 here full k m.0 m.1 in
        let y = collected_sent A p0 i0 c here k s.0 s.1 in
        let z : y.0.at ≡ e = A.allowed.once y.0.at e k c y.0.took t in (
          subst (λ w. Memᴰ w states_of) (y.0.says ∙ ap (λ v. own_state c (memory_at n q l (suc v) k)) z)
              (present_has s.0 (membership_at n q l p0 i0).states k s.1),
          omega (arith, y.1),
        )

    -- ---- who resends

    -- The resender by f, and when it took c.
    pub record Resender (f : State → ℕ) : Type 0 where
      pub server : ℕ
      pub at_place : ℕ
      pub took : Takes n q l at_place server c
      pub earlier : suc at_place < p0
      pub named : resender f states_of ≡ some server
      pub has : f (own_state c (memory_at n q l (suc at_place) server)) ≡ highest f states_of

    pub resends : (f : State → ℕ) (k : ℕ) → resender f states_of ≡ some k → Resender f
    resends f k e =
        let x = resender_highest f states_of k e in
        let s = sent x.0 x.1 in
        record {
          server = x.0.sender;
          at_place = s.at_place;
          took = s.took;
          earlier = s.earlier;
          named = e ∙ ap some (sym x.2);
          has = ap f (sym s.says) ∙ x.3;
        }

    -- It is one server, and took c once.
    pub resender_same : {f : State → ℕ} {e k : ℕ} (r : Resender f) → resender f states_of ≡ some k → Takes n q l e k c → (r.server ≡ k) × (r.at_place ≡ e)
    resender_same {f} {e} {k} r h t =
        let s : r.server ≡ k = some_same (sym r.named ∙ h) in
        (s, A.allowed.once r.at_place e k c (subst (λ j. Takes n q l r.at_place j c) s r.took) t)

    pub resender_has : (f : State → ℕ) {e k : ℕ} → resender f states_of ≡ some k → Takes n q l e k c → f (own_state c (memory_at n q l (suc e) k)) ≡ highest f states_of
    resender_has f {e} {k} h t =
        let r = resends f k h in
        let s = resender_same r h t in
        sym (λ j. f (own_state c (memory_at n q l (suc (s.1 j)) (s.0 j)))) ∙ r.has

    own_state_lem : Memᴰ (own_state c (memory_at n q l (suc (took_it here).0) i0)) states_of
    own_state_lem = (sent_one (took_it here).1 (stay_member A i0 p0 c here)).0

    pub resender_by : (f : State → ℕ) → Resender f
    resender_by f = let x = someone_resends f _ states_of own_state_lem in resends f x.0 x.1

    -- What a server's State says is between the lowest and the highest.
    pub sent_between : (f : State → ℕ) {e k : ℕ} → Takes n q l e k c → (k < n) × (in_set k c.set ≡ true)
        → (lowest f states_of ≤ f (own_state c (memory_at n q l (suc e) k))) × (f (own_state c (memory_at n q l (suc e) k)) ≤ highest f states_of)
    sent_between f t m = let x = (sent_one t m).0 in (lowest_covered f _ states_of x, highest_covers f _ states_of x)
