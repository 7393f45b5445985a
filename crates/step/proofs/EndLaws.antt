-- The end of an exchange in place: what the States decide, then an attempt, or what waits is sent.
use Prim.Native.Nat.{ℕ, ◌*◌, ◌≤◌}
use mathlib.Core.Path.{◌≡◌, refl, sym, ap, ◌∙◌}
use mathlib.Core.Bool.{Bool, true, false}
use mathlib.Core.List.{List, [], ◌∷◌}
use mathlib.Core.Logic.{inl, inr}
use mathlib.Core.Option.{Option, none, some}
use native.Mathlib.Nat.{mul-le-mul}
use native.Mathlib.Omega.{arith}
use lib.ListN.{length, take, length-take}
use Rattle.base.proofs.Prefixes.{begins_refl}
use Rattle.base.proofs.TestLaws.{pick_yes, pick_no}
use Rattle.base.specs.Bytes.{over}
use Rattle.format.specs.Types.{cpc}
use Rattle.format.specs.Write.{write, ids_bytes, length_of, record_bytes}
use Rattle.format.proofs.Lengths.{write_length}
use Rattle.record.specs.declared.State.{State}
use Rattle.std.specs.Prelude.{Option as Maybe, Some, None}
use Rattle.std.specs.Option.{unwrap_or}
use Rattle.writer.specs.Written.{put, put_of}
use Rattle.replication.specs.Machine.Types.{Non_prim, Votes, Configuration, Server, with_membership, with_mode, in_mode, context_of}
use Rattle.replication.specs.Machine.Exchange.{quorum, taken_votes, taken_yellow, attempted}
use Rattle.replication.specs.Machine.Requests.{send_waiting, waiting_records}
use Rattle.replication.specs.Machine.Step.{the_id, here_set, here_id, collected, decided, attempting, stored, end_exchange}
use Rattle.replication.specs.Machine.WellFormed.{queue, well_formed}
use Rattle.replication.specs.Machine.WellFormedFacts.{Configured}
use Rattle.image.specs.Layout.{out_length}
use Rattle.image.specs.Image.{image}
use Rattle.image.specs.Header.{id_of, header_of, header_in}
use Rattle.image.proofs.HeaderLaws.{header_loaded}
use Rattle.image.proofs.InRange.{in_range}
use Rattle.image.specs.Holding.{Holds, HoldsSuch, HoldsSome}
use Rattle.image.proofs.InPlace.{such_fact, holds_some}
use Rattle.updates.specs.declared.votes.VoteNumbers.{VoteNumbers}
use Rattle.updates.specs.Standing.{vote_numbers}
use Rattle.exchange.specs.declared.decided.TakenVotes.{TakenVotes}
use Rattle.exchange.specs.Decided.{votes_numbers}
use Rattle.exchange.specs.Table.{Listed}
use Rattle.step.specs.declared.Answer.{Answer}
use Rattle.outgoing.specs.Lent.{LentSuch}
use Rattle.step.specs.Answers.{answered, outcome_on, stored_first}
use Rattle.outgoing.proofs.LentFacts.{lent_fact, lent_room}
use Rattle.image.proofs.Chained.{Covers, chained, then_holds, numbers_then}
use Rattle.step.proofs.ExchangeStates.{decided_formed, attempting_formed, staying_formed}
use Rattle.outgoing.proofs.LentLaws.{holds_products, put_room, put_done, one_record}
use Rattle.step.proofs.OutcomeLaws.{stored_outcome, stored_after}

-- ---- what the States decide

abbrev pub Idle : Server → Type 0
Idle t = t.membership.mode ≡ Non_prim

-- The yellow ids that are taken are no more than there are ids.
taken_few : (t : Server) (b : List ℕ) → Holds t b → Idle t → length (taken_yellow (collected t)).ids ≤ t.servers * t.quota
unfolding decided taken_votes context_of
taken_few t b r e = (in_range (decided t) (decided_formed t r.formed e)).yellow.few

module _ (b o₁ : List ℕ) (count : ℕ) (m : HoldsSuch Idle b) (listed : (s : Server) → Holds s b → Listed count o₁ (taken_yellow (collected s)).ids) where
  idle : (t : Server) → Holds t b → Idle t
  idle t r = such_fact Idle b t m r

  pub taken_count : count ≤ 2048
  unfolding context_of
  taken_count =
      let t = m.state in
      let z = (in_range t m.holds.formed).context.sizes in
      let all : t.servers * t.quota ≤ 8 * 256 = mul-le-mul {n₁ = t.servers} {m₁ = t.quota} {n₂ = 8} {m₂ = 256} z.most z.highest in
      omega (arith, taken_few t b m.holds (idle t m.holds), (listed t m.holds).count)

  pub taken_room : HoldsSuch (λ s. length (take (3 * count) o₁) ≤ 3 * (s.servers * s.quota)) b
  taken_room =
      let t = m.state in
      let r = m.holds in
      let few : count ≤ t.servers * t.quota = omega (arith, taken_few t b r (idle t r), (listed t r).count) in
      record { state = t; holds = r; fact = omega (arith, length-take (3 * count) o₁) }

  pub all_decided : (c : List ℕ) (v : TakenVotes) (x : VoteNumbers) → ((t : Server) → Holds t b → v ≡ votes_numbers (taken_votes t.me (collected t)))
      → ((w : Votes) → v ≡ votes_numbers w → count ≡ length w.yellow.ids → x ≡ vote_numbers w)
      → ((t : Server) → Holds t b → x ≡ vote_numbers (taken_votes t.me (collected t)) → ids_bytes (taken_votes t.me (collected t)).yellow.ids ≡ take (3 * count) o₁
      → c ≡ image (decided t) b)
      → (t : Server) → Holds t b → c ≡ image (decided t) b
  unfolding taken_votes
  all_decided c v x g h k t r =
      let l = listed t r in
      k t r (h (taken_votes t.me (collected t)) (g t r) l.count) (sym l.bytes)

-- ---- the two ends

end_attempting : (s t : Server) → quorum (collected t) (here_set t) ≡ true
    → end_exchange s t ≡ stored s (attempting (decided t)) (cpc t.me (here_id t) ∷ [])
unfolding end_exchange
end_attempting s t q = sym (pick_yes _ _ _ _ q refl)

end_staying : (s t : Server) → quorum (collected t) (here_set t) ≡ false
    → end_exchange s t ≡ stored s (send_waiting (in_mode Non_prim (decided t))) (waiting_records (in_mode Non_prim (decided t)))
unfolding end_exchange
end_staying s t q = sym (pick_no _ _ _ _ q refl)

abbrev pub Decided : List ℕ → List ℕ → Type 0
Decided b c = (t : Server) → Holds t b → c ≡ image (decided t) b

decided_holds : (t : Server) (b c : List ℕ) → Holds t b → Idle t → Decided b c → Holds (decided t) c
unfolding decided
decided_holds t b c r e f = then_holds t (decided t) b c r (f t r) refl refl (decided_formed t r.formed e) r.blank

-- ---- "attempt + 1, mark .., store, send CPC, Construct"

abbrev pub Attempts : Server → Type 0
Attempts t = Configured t × (t.membership.mode ≡ Non_prim) × (quorum (collected t) (here_set t) ≡ true)

attempt_covers : (t : Server) → Covers t (decided t) (attempting (decided t))
unfolding attempting attempted decided
attempt_covers t = numbers_then t (decided t) (attempting (decided t)) (refl, refl) (refl, refl) refl refl refl refl

id_here : (d : Option Configuration) → id_of d ≡ the_id d
unfolding id_of the_id
id_here none = refl
id_here (some c) = refl

module _ (b o : List ℕ) (m : LentSuch Attempts b o) where
  pub attempt_some : (c : List ℕ) → Decided b c → HoldsSome c
  attempt_some c f = holds_some (decided m.state) c (decided_holds m.state b c m.holds m.fact.1 f)

  module _ (h : State) (e : h ≡ header_in b) (w : Maybe ℕ) (o₁ : List ℕ) (p : put_of w o₁ ≡ put (write (cpc h.me h.configuration_id)) o) where
    own_cpc : (t : Server) → Holds t b → cpc h.me h.configuration_id ≡ cpc t.me (here_id t)
    unfolding header_of here_id
    own_cpc t r =
        let f : h ≡ header_of t = e ∙ header_loaded t b r in
        (λ i. cpc (f i).me (f i).configuration_id) ∙ ap (cpc t.me) (id_here t.membership.configuration)

    attempt_full : {A : Type 0} → w ≡ None → A
    unfolding out_length length_of
    attempt_full f =
        let t : Server = m.state in
        put_room (write (cpc h.me h.configuration_id)) o o₁ w p
        (omega (arith, write_length (cpc h.me h.configuration_id), (holds_products t b m.holds).two, lent_room Attempts b o t m m.holds)) f

    -- The CPC is written.
    attempt_there : (n : ℕ) → n ≡ unwrap_or w 0 → w ≡ Some n
    attempt_there n is-n = go w refl
      where
        go : (x : Maybe ℕ) → w ≡ x → w ≡ Some n
        go None f = attempt_full f
        go (Some k) f =
            let same : k ≡ n = sym (is-n ∙ ap (λ (x : Maybe ℕ). unwrap_or x 0) f) in
            f ∙ ap (λ (j : ℕ). Some j) same

    pub attempt_short : (n : ℕ) → n ≡ unwrap_or w 0 → n ≡ 9
    unfolding length_of
    attempt_short n is-n =
        omega (
          arith,
          write_length (cpc h.me h.configuration_id),
          (put_done (write (cpc h.me h.configuration_id)) o o₁ w p n (attempt_there n is-n)).sized,
        )

    pub attempt_made : (n : ℕ) → n ≡ unwrap_or w 0 → (c d : List ℕ) → Decided b c → ((t : Server) → Holds t c → d ≡ image (attempting t) c) → (r : Answer)
        → r ≡ stored_first n
        → (s t : Server) → Holds t b → answered r d o₁ ≡ outcome_on (end_exchange s t) b o
    attempt_made n is-n c d g k r a s t y =
        let z : Attempts t = lent_fact Attempts b o t m y in
        let x : List ℕ = write (cpc h.me h.configuration_id) in
        let done = put_done x o o₁ w p n (attempt_there n is-n) in
        let bytes : x ≡ record_bytes (cpc t.me (here_id t) ∷ []) = ap write (own_cpc t y) ∙ sym (one_record (cpc t.me (here_id t))) in
        stored_outcome s (attempting (decided t)) (cpc t.me (here_id t) ∷ []) b o d o₁ n r a (over_decided t y z c d g k)
        (omega (arith, done.sized, ap length bytes))
        (done.filled ∙ ap (λ (l : List ℕ). over l o) bytes)
        ∙ ap (λ v. outcome_on v b o) (sym (end_attempting s t z.2))
      where
        over_decided : (t : Server) → Holds t b → Attempts t → (c d : List ℕ) → Decided b c → ((t : Server) → Holds t c → d ≡ image (attempting t) c)
            → d ≡ image (attempting (decided t)) b
        over_decided t y z c d g k =
            chained t (decided t) (attempting (decided t)) b y (decided_formed t y.formed z.1) (attempting_formed t y.formed z.0 z.2)
            (attempt_covers t) c d (g t y) (k (decided t) (decided_holds t b c y z.1 g))

-- ---- "else store, Non_prim."

abbrev pub Stays : Server → Type 0
Stays t = Configured t × (t.membership.mode ≡ Non_prim) × (quorum (collected t) (here_set t) ≡ false)

stay_covers : (t : Server) → Covers t (decided t) (send_waiting (decided t))
unfolding decided send_waiting queue
stay_covers t = record {
  servers = (refl, refl);
  quota = (refl, refl);
  states = inl refl;
  ids = inl (omega arith);
  own = inr (begins_refl _);
  actions = inl (omega arith);
}

-- It is Non_prim already.
idle_same : (t : Server) → Idle t → decided t ≡ in_mode Non_prim (decided t)
unfolding decided
idle_same t e = λ i. with_membership (with_mode (e i) t.membership) (decided t)

module _ (b o : List ℕ) (m : LentSuch Stays b o) where
  pub stay_lent : (c : List ℕ) → Decided b c → LentSuch (λ s. 0 ≤ 0) c o
  unfolding decided
  stay_lent c f =
      record { state = decided m.state; holds = decided_holds m.state b c m.holds m.fact.1 f; fact = omega arith; room = m.room }

  pub stay_sent : (c : List ℕ) → Decided b c → (a : Answer) (d u : List ℕ)
      → ((s t : Server) → Holds t c → answered a d u ≡ outcome_on (stored s (send_waiting t) (waiting_records t)) c o)
      → (s t : Server) → Holds t b → answered a d u ≡ outcome_on (end_exchange s t) b o
  stay_sent c f a d u g s t r =
      let z : Stays t = lent_fact Stays b o t m r in
      let v : Server = decided t in
      let held : Holds v c = decided_holds t b c r z.1 f in
      let formed : well_formed (send_waiting v) ≡ true = rw (idle_same t z.1) (staying_formed t r.formed) in
      g s v held
      ∙ stored_after t v (send_waiting v) b c o r held.formed formed (stay_covers t) (f t r) s (waiting_records v)
      ∙ (λ i. outcome_on (stored s (send_waiting (idle_same t z.1 i)) (waiting_records (idle_same t z.1 i))) b o)
      ∙ ap (λ w. outcome_on w b o) (sym (end_staying s t z.2))

-- ---- which of both

abbrev pub Ends : Server → Type 0
Ends t = Configured t × (t.membership.mode ≡ Non_prim)

module _ (b o : List ℕ) (m : LentSuch Ends b o) (q : Bool) (f : (s : Server) → Holds s b → q ≡ quorum (collected s) (here_set s)) where
  pub end_attempts : q ≡ true → LentSuch Attempts b o
  end_attempts e =
      record { state = m.state; holds = m.holds; fact = (m.fact.0, m.fact.1, sym (f m.state m.holds) ∙ e); room = m.room }

  pub end_stays : q ≡ false → LentSuch Stays b o
  end_stays e =
      record { state = m.state; holds = m.holds; fact = (m.fact.0, m.fact.1, sym (f m.state m.holds) ∙ e); room = m.room }
