-- The four ways in which a taken event treats the votes: they stay but for yellow, a configuration is taken, an exchange ends, a primary component is installed.
use Prim.Native.Nat.{ℕ, ◌+◌}
use mathlib.Core.Path.{◌≡◌, refl, sym, ap, ◌∙◌}
use mathlib.Core.Bool.{Bool, true, false}
use mathlib.Core.List.{List}
use mathlib.Core.Logic.{◌⊎◌, inl, inr}
use mathlib.Core.Option.{some}
use Rattle.base.proofs.TestLaws.{not_both}
use Rattle.format.specs.Types.{Action, component, Record, action, retransmission, state, cpc, regular, transitional, request, recovery}
use Rattle.replication.specs.Machine.Types.{Mode, Non_prim, Reg_prim, Trans_prim, Exchange_states, Exchange_actions, Construct, No, Un, Votes, Configuration, Server, cleared_mark, with_white}
use Rattle.replication.specs.Machine.Colours.{yellow}
use Rattle.replication.specs.Machine.Install.{install, install_votes}
use Rattle.replication.specs.Machine.Requests.{numbered, send_waiting, recovered}
use Rattle.replication.specs.Machine.Rules.{on_action, on_retransmission, on_state, on_cpc, on_regular, on_transitional, rule_for}
use Rattle.replication.specs.Machine.Step.{entering, unmarked, yellow_valid, here_set, with_state, all_states_in, resending, one_more, exchanged, with_cpc, leave, green_and_note, installs_by}
use Rattle.replication.specs.Laws.Transitions as L
use Rattle.replication.specs.Laws.Transitions.{Ends, Leads, Transition}
use Rattle.replication.specs.Laws.Order.{in_exchange}
use Rattle.replication.specs.Laws.Modes.{attempting}
use Rattle.replication.proofs.Step.Control.{control_yellow, yellow_membership}

-- Last primary, attempt and mark are the same.
pub record SameVotes (v w : Votes) : Type 0 where
  pub last : w.last ≡ v.last
  pub attempt : w.attempt ≡ v.attempt
  pub mark : w.mark ≡ v.mark

pub same_votes_refl : (v : Votes) → SameVotes v v
same_votes_refl v = record { last = refl; attempt = refl; mark = refl }

pub same_votes_trans : {u v w : Votes} → SameVotes u v → SameVotes v w → SameVotes u w
same_votes_trans h k = record { last = k.last ∙ h.last; attempt = k.attempt ∙ h.attempt; mark = k.mark ∙ h.mark }

-- An exchange or an attempt that t is in is the one that s is in.
pub record Stays (s t : Server) : Type 0 where
  pub exchange : in_exchange t.membership.mode ≡ true → (in_exchange s.membership.mode ≡ true) × (t.membership.configuration ≡ s.membership.configuration)
  pub attempt : attempting t.membership.mode ≡ true → (attempting s.membership.mode ≡ true) × (t.membership.configuration ≡ s.membership.configuration)

unfoldable pub is_regular : Record → Bool
is_regular (action a) = false
is_regular (retransmission k p a) = false
is_regular (state x) = false
is_regular (cpc k i) = false
is_regular (regular i c) = true
is_regular (transitional c) = false
is_regular (request p) = false
is_regular recovery = false

-- What taking a configuration does to the mark.
pub data MarkJoins (s t : Server) : Type 0 where
  mark_kept : t.votes.mark ≡ s.votes.mark → MarkJoins s t
  mark_cleared : (s.membership.mode ≡ No) ⊎ (s.membership.mode ≡ Trans_prim) → t.votes.mark ≡ cleared_mark → MarkJoins s t

pub record Joins (s : Server) (c : Configuration) (t : Server) : Type 0 where
  pub mode : t.membership.mode ≡ Exchange_states
  pub configuration : t.membership.configuration ≡ some c
  pub last : t.votes.last ≡ s.votes.last
  pub attempt : t.votes.attempt ≡ s.votes.attempt
  pub mark : MarkJoins s t

mark_raised : {s t : Server} (w : ℕ) → MarkJoins s t → MarkJoins s (with_white w t)
mark_raised w (mark_kept e) = mark_kept e
mark_raised w (mark_cleared h e) = mark_cleared h e

pub joins_raised : {s : Server} {c : Configuration} {t : Server} (w : ℕ) → Joins s c t → Joins s c (with_white w t)
joins_raised w j = record { mode = j.mode; configuration = j.configuration; last = j.last; attempt = j.attempt; mark = mark_raised w j.mark }

-- The exchange ends; `judged` is the state whose collected States are judged.
pub record Ending (s : Server) (t : Server) (rs : List Record) : Type 0 where
  pub judged : Server
  pub ends : Ends judged t rs
  pub exchanging : in_exchange s.membership.mode ≡ true
  pub me : judged.me ≡ s.me
  pub votes : judged.votes ≡ s.votes
  pub configuration : judged.membership.configuration ≡ s.membership.configuration
  pub complete : (s.membership.mode ≡ Exchange_actions → all_states_in s ≡ true) → all_states_in judged ≡ true

pub record Installing (s t : Server) : Type 0 where
  pub from : (s.membership.mode ≡ Construct) ⊎ (s.membership.mode ≡ Un)
  pub to : (t.membership.mode ≡ Reg_prim) ⊎ (t.membership.mode ≡ Trans_prim)
  pub index : t.votes.last.index ≡ s.votes.last.index + 1
  pub attempt : t.votes.last.attempt ≡ s.votes.attempt
  pub set : t.votes.last.set ≡ s.votes.mark.set
  pub last : t.votes.last ≡ component (s.votes.last.index + 1) s.votes.attempt s.votes.mark.set
  pub mark : t.votes.mark ≡ s.votes.mark

-- Whether the record r, if s takes it, installs a primary component.
abbrev pub installing : Server → Record → Bool
installing s r = installs_by (rule_for s.membership.mode r) s

pub data VotesStep (s : Server) (r : Record) (t : Server) (rs : List Record) (b : Bool) : Type 0 where
  keeps : is_regular r ≡ false → installing s r ≡ false → SameVotes s.votes t.votes → Stays s t → VotesStep s r t rs b
  joins : (c : Configuration) → r ≡ regular c.id c.set → installing s r ≡ false → Joins s c t → VotesStep s r t rs b
  ends : is_regular r ≡ false → installing s r ≡ false → b ≡ true → Ending s t rs → VotesStep s r t rs b
  installs : is_regular r ≡ false → installing s r ≡ true → Installing s t → VotesStep s r t rs b

-- ---- what stays

module _ (s t : Server) where
  pub same_membership : t.membership ≡ s.membership → Stays s t
  same_membership e = record {
    exchange = λ h. (ap (λ m. in_exchange m.mode) (sym e) ∙ h, ap (λ m. m.configuration) e);
    attempt = λ h. (ap (λ m. attempting m.mode) (sym e) ∙ h, ap (λ m. m.configuration) e);
  }

  same_phase : t.membership.configuration ≡ s.membership.configuration → in_exchange t.membership.mode ≡ in_exchange s.membership.mode
      → attempting t.membership.mode ≡ attempting s.membership.mode → Stays s t
  same_phase c e a = record { exchange = λ h. (sym e ∙ h, c); attempt = λ h. (sym a ∙ h, c) }

  pub outside : in_exchange t.membership.mode ≡ false → attempting t.membership.mode ≡ false → Stays s t
  outside e a = record { exchange = λ h. not_both (sym e ∙ h); attempt = λ h. not_both (sym a ∙ h) }

same_yellow : (a : Action) (s : Server) → SameVotes s.votes (yellow a s).votes
same_yellow a s = let y = control_yellow a s in record { last = y.last; attempt = y.attempt; mark = y.mark }

module _ (s : Server) where
  in_state : (m : Mode) (r : Record) (b : Bool) → s.membership.mode ≡ m → installs_by (rule_for m r) s ≡ b → installing s r ≡ b
  in_state m r b e h = ap (λ x. installs_by (rule_for x r) s) e ∙ h

  leaving : (m n : Mode) (x : ℕ) → s.membership.mode ≡ m → Leads m n → Stays s (leave n x s)
  unfolding leave in_exchange attempting
  leaving m n x e L.stays = outside s _ refl refl
  leaving m n x e L.parts = outside s _ refl refl
  leaving m n x e L.interrupts_states = outside s _ refl refl
  leaving m n x e L.interrupts_actions = outside s _ refl refl
  leaving m n x e L.interrupts_construct = same_phase s _ refl (ap in_exchange (sym e)) (ap attempting (sym e))

  leads_nowhere : (m n : Mode) (x : ℕ) → Leads m n → installs_by (rule_for m (transitional x)) s ≡ false
  unfolding installs_by rule_for on_transitional
  leads_nowhere m n x L.stays = refl
  leads_nowhere m n x L.parts = refl
  leads_nowhere m n x L.interrupts_states = refl
  leads_nowhere m n x L.interrupts_actions = refl
  leads_nowhere m n x L.interrupts_construct = refl

  -- ---- the ways

  pub votes_step : {r : Record} {t : Server} {rs : List Record} {b : Bool} → Transition s r t rs b → VotesStep s r t rs b
  unfolding is_regular installs_by rule_for on_action on_retransmission on_state on_cpc on_regular on_transitional green_and_note install install_votes exchanged one_more with_state resending with_cpc send_waiting numbered entering unmarked yellow_valid leave recovered here_set all_states_in in_exchange attempting
  votes_step {r} (L.ignores_state x e) = keeps refl (in_state Non_prim r _ e refl) (same_votes_refl _) (same_membership s _ refl)
  votes_step {r} (L.ignores_cpc k i e) = keeps refl (in_state Non_prim r _ e refl) (same_votes_refl _) (same_membership s _ refl)
  votes_step {r} (L.reddens a e) = keeps refl (in_state Non_prim r _ e refl) (same_votes_refl _) (same_membership s _ refl)
  votes_step {r} (L.reddens_resent k p a e) = keeps refl (in_state Non_prim r _ e refl) (same_votes_refl _) (same_membership s _ refl)
  votes_step {r} (L.reddens_in_exchange a e) = keeps refl (in_state Exchange_states r _ e refl) (same_votes_refl _) (same_membership s _ refl)
  votes_step {r} (L.greens a e) = keeps refl (in_state Reg_prim r _ e refl) (same_votes_refl _) (same_membership s _ refl)
  votes_step {r} (L.yellows a e) = keeps refl (in_state Trans_prim r _ e refl) (same_yellow a s) (same_membership s _ (yellow_membership a s))
  votes_step {r} (L.installs_late a e) =
      let y = control_yellow a (install s) in
      installs refl (in_state Un r _ e refl)
      (record {
        from = inr e;
        to = inr refl;
        index = ap (λ p. p.index) y.last;
        attempt = ap (λ p. p.attempt) y.last;
        set = ap (λ p. p.set) y.last;
        last = y.last;
        mark = y.mark;
      })
  votes_step {r} (L.exchanges k p a e c) = keeps refl (in_state Exchange_actions r _ e refl) (same_votes_refl _) (same_phase s _ refl refl refl)
  votes_step {r} (L.exchanges_last k p a u us e c x) =
      ends refl (in_state Exchange_actions r _ e refl) refl
      (record { judged = exchanged p a s; ends = x; exchanging = ap in_exchange e; me = refl; votes = refl; configuration = refl; complete = λ f. f e })
  votes_step {r} (L.collects x e c) = keeps refl (in_state Exchange_states r _ e refl) (same_votes_refl _) (same_phase s _ refl refl refl)
  votes_step {r} (L.collects_last x e c d) =
      keeps refl (in_state Exchange_states r _ e refl) (same_votes_refl _) (same_phase s _ refl (ap in_exchange (sym e)) (ap attempting (sym e)))
  votes_step {r} (L.collects_whole x u us e c d y) =
      ends refl (in_state Exchange_states r _ e refl) refl
      (record { judged = with_state x s; ends = y; exchanging = ap in_exchange e; me = refl; votes = refl; configuration = refl; complete = λ f. c })
  votes_step {r} (L.counts k i e c) = keeps refl (in_state Construct r _ e c) (same_votes_refl _) (same_phase s _ refl refl refl)
  votes_step {r} (L.installs k i e c) =
      installs refl (in_state Construct r _ e c) (record { from = inl e; to = inl refl; index = refl; attempt = refl; set = refl; last = refl; mark = refl })
  votes_step {r} (L.counts_late k i e c) = keeps refl (in_state No r _ e refl) (same_votes_refl _) (same_phase s _ refl refl refl)
  votes_step {r} (L.counts_all_late k i e c) =
      keeps refl (in_state No r _ e refl) (same_votes_refl _) (same_phase s _ refl (ap in_exchange (sym e)) (ap attempting (sym e)))
  votes_step {r} (L.joins c e) =
      joins c refl (in_state Non_prim r _ e refl) (record { mode = refl; configuration = refl; last = refl; attempt = refl; mark = mark_kept refl })
  votes_step {r} (L.joins_marked c e) =
      joins c refl (in_state Un r _ e refl) (record { mode = refl; configuration = refl; last = refl; attempt = refl; mark = mark_kept refl })
  votes_step {r} (L.joins_unmarked c e) =
      joins c refl (in_state No r _ e refl) (record { mode = refl; configuration = refl; last = refl; attempt = refl; mark = mark_cleared (inl e) refl })
  votes_step {r} (L.joins_yellow c e) =
      joins c refl (in_state Trans_prim r _ e refl) (record { mode = refl; configuration = refl; last = refl; attempt = refl; mark = mark_cleared (inr e) refl })
  votes_step {r} (L.leaves m n x e q) = keeps refl (in_state m r _ e (leads_nowhere m n x q)) (same_votes_refl _) (leaving m n x e q)
  votes_step (L.sends p c) = keeps refl refl (same_votes_refl _) (same_phase s _ refl refl refl)
  votes_step (L.numbers p c) = keeps refl refl (same_votes_refl _) (same_phase s _ refl refl refl)
  votes_step L.recovers = keeps refl refl (same_votes_refl _) (outside s _ refl refl)
