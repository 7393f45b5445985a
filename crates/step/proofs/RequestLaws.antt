-- A request: numbered, and sent with what waits.
use Prim.Native.Nat.{ℕ, ◌≤◌}
use mathlib.Core.Path.{◌≡◌, refl, sym, ap, ◌∙◌}
use mathlib.Core.Bool.{Bool, true, false, not}
use mathlib.Core.List.{List, []}
use mathlib.Core.Logic.{inl}
use native.Mathlib.Omega.{arith}
use borrow.Author.Tests.{not-true, not-false}
use lib.ListN.{length}
use Rattle.base.specs.Bytes.{joined, over}
use Rattle.base.proofs.TestLaws.{pick_yes, pick_no}
use Rattle.format.specs.Write.{record_bytes}
use Rattle.record.specs.declared.State.{State}
use Rattle.replication.specs.Machine.Types.{Server}
use Rattle.replication.specs.Machine.Requests.{sends_now, quota_left, numbered, send_waiting, waiting_records}
use Rattle.replication.specs.Machine.Step.{stored, in_bytes, requested}
use Rattle.replication.specs.Machine.WellFormed.{queue, well_formed}
use Rattle.replication.specs.Machine.WellFormedRanges.{PayloadFits}
use Rattle.replication.proofs.WellFormed.Facts.{well_formed_facts}
use Rattle.replication.proofs.WellFormed.Changes.{body}
use Rattle.replication.proofs.WellFormed.Effects.{number_body, send_waiting_body}
use Rattle.image.specs.Header.{header_of}
use Rattle.image.specs.Image.{image}
use Rattle.image.specs.Layout.{header_size}
use Rattle.image.specs.Outcome.{word, result_of}
use Rattle.image.specs.Holding.{Holds}
use Rattle.image.proofs.Chained.{Covers, then_holds}
use Rattle.updates.specs.Lists.{PayloadRoom}
use Rattle.step.specs.declared.Answer.{Answer}
use Rattle.outgoing.specs.Lent.{LentSuch}
use Rattle.step.specs.Answers.{answered, outcome_on, stored_first}
use Rattle.step.specs.Events.{Asked}
use Rattle.outgoing.proofs.LentFacts.{lent_fact}
use Rattle.outgoing.proofs.LentLaws.{lent_header}
use Rattle.step.proofs.ColoursLaws.{formed_alike}
use Rattle.step.proofs.OutcomeLaws.{stored_outcome, stored_after}

-- ---- what waits is sent

pub waiting_ready : (P : Server → Type 0) (b o : List ℕ) → LentSuch P b o → header_size ≤ length b
waiting_ready = lent_header

pub waiting_put : (b d o u : List ℕ) (n : ℕ) (a : Answer) → a ≡ stored_first n
    → ((s : Server) → Holds s b → (n ≡ length (record_bytes (waiting_records s))) × (u ≡ over (record_bytes (waiting_records s)) o))
    → ((s : Server) → Holds s b → d ≡ image (send_waiting s) b)
    → (s t : Server) → Holds t b → answered a d u ≡ outcome_on (stored s (send_waiting t) (waiting_records t)) b o
unfolding answered outcome_on result_of in_bytes stored record_bytes word
waiting_put b d o u n a e f g s t r =
    λ i. record { number = (e i).number; store = (e i).store; sent = (ap (λ (x : Answer). x.sent) e ∙ (f t r).0) i; state = g t r i; out = (f t r).1 i }

-- ---- a request

module _ (p : List ℕ) (s : Server) (ok : well_formed s ≡ true) (fits : PayloadFits p) (left : quota_left s ≡ true) where
  numbered_formed : well_formed (numbered p s) ≡ true
  unfolding numbered
  numbered_formed = formed_alike s (numbered p s).log s.votes s.noted ok refl (number_body s (body s (well_formed_facts s ok)) p refl fits left)

  sent_formed : well_formed (send_waiting (numbered p s)) ≡ true
  unfolding numbered send_waiting
  sent_formed =
      formed_alike s (send_waiting (numbered p s)).log s.votes s.noted ok refl
      (send_waiting_body (numbered p s) (number_body s (body s (well_formed_facts s ok)) p refl fits left))

  request_covers : Covers s (numbered p s) (send_waiting (numbered p s))
  unfolding numbered send_waiting queue
  request_covers =
      record { servers = (refl, refl); quota = (refl, refl); states = inl refl; ids = inl (omega arith); own = inl (omega arith); actions = inl (omega arith) }

module _ (p b o : List ℕ) (h : State) (l : LentSuch (λ s. Asked p h s) b o) where
  pub asked_payload : PayloadRoom p b
  asked_payload = record { holds = record { state = l.state; holds = l.holds; fact = l.fact.1 }; short = l.fact.0.most }

  asked : (s : Server) → Holds s b → Asked p h s
  asked s k = lent_fact (λ s. Asked p h s) b o s l k

  module _ (c : List ℕ) (f : (s : Server) → Holds s b → quota_left s ≡ true → c ≡ image (numbered p s) b) (t : Bool)
      (g : (s : Server) → h ≡ header_of s → t ≡ sends_now s.membership) where
    numbered_holds : (s : Server) → Holds s b → Holds (numbered p s) c
    unfolding numbered
    numbered_holds s k =
        let a = asked s k in
        then_holds s (numbered p s) b c k (f s k a.1) refl refl (numbered_formed p s k.formed a.0 a.1) k.blank

    pub request_waits_lem : not t ≡ true → (r : Answer) → r ≡ stored_first 0 → (s : Server) → Holds s b → answered r c o ≡ outcome_on (requested p s) b o
    unfolding requested record_bytes joined over
    request_waits_lem n r e s k =
        let a = asked s k in
        let no : sends_now s.membership ≡ false = sym (g s a.2) ∙ not-true t n in
        stored_outcome s (numbered p s) [] b o c o 0 r e (f s k a.1) refl refl
        ∙ ap (λ z. outcome_on z b o) (pick_no (sends_now s.membership) (stored s (numbered p s) []) _ _ no refl)

    pub request_lent : LentSuch (λ s. 0 ≤ 0) c o
    unfolding numbered
    request_lent = record { state = numbered p l.state; holds = numbered_holds l.state l.holds; fact = omega arith; room = l.room }

    pub request_sent : not t ≡ false → (r : Answer) (d u : List ℕ)
        → ((s t : Server) → Holds t c → answered r d u ≡ outcome_on (stored s (send_waiting t) (waiting_records t)) c o)
        → (s : Server) → Holds s b → answered r d u ≡ outcome_on (requested p s) b o
    unfolding requested
    request_sent n r d u w s k =
        let a = asked s k in
        let v : Server = numbered p s in
        let y : Holds v c = numbered_holds s k in
        let yes : sends_now s.membership ≡ true = sym (g s a.2) ∙ not-false t n in
        w s v y
        ∙ stored_after s v (send_waiting v) b c o k y.formed (sent_formed p s k.formed a.0 a.1) (request_covers p s k.formed a.0 a.1)
        (f s k a.1) s (waiting_records v)
        ∙ ap (λ z. outcome_on z b o) (pick_yes (sends_now s.membership) (stored s (send_waiting v) (waiting_records v)) _ _ yes refl)
