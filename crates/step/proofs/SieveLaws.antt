-- What the sieve lets through, and the buffer in which its white length was taken.
use Prim.Native.Nat.{ℕ, ◌≤◌, ◌<◌}
use mathlib.Core.Path.{◌≡◌, refl, sym, ap, subst, ◌∙◌}
use mathlib.Core.Bool.{Bool, true, false, not}
use mathlib.Core.List.{List}
use native.Mathlib.Omega.{arith}
use lib.ListN.{length}
use borrow.Author.Tests.{not-true, not-false}
use Rattle.base.specs.Tests.{◌and◌, ◌≤?◌, pick}
use Rattle.base.proofs.TestLaws.{both_yes, and_yes, and_no, le_yes, le_no}
use Rattle.format.specs.Types.{Action}
use Rattle.record.specs.declared.ActionHead.{ActionHead}
use Rattle.record.specs.Values.{id_of, action_of}
use Rattle.replication.specs.Machine.Types.{Server, with_white}
use Rattle.replication.specs.Machine.Colours.{unwhite, places_of}
use Rattle.replication.specs.Machine.Rules.{Rule, reddening, exchanging}
use Rattle.replication.specs.Machine.White.{entrant, met_log, taken_from, is_recovering, took_white, no_place, full, beyond, sifted, sieved}
use Rattle.replication.specs.Machine.WellFormed.{queue, well_formed}
use Rattle.replication.specs.Laws.RuleFits.{Delivered}
use Rattle.replication.proofs.Step.Logs.{next_index_lem}
use Rattle.replication.proofs.WellFormed.Facts.{well_formed_facts}
use Rattle.replication.proofs.WellFormed.Logs.{HasPlace}
use Rattle.replication.proofs.WellFormed.Places.{sifted_place, rule_place, took_rises, took_low}
use Rattle.replication.proofs.WellFormed.RuleFacts.{sieved_fits}
use Rattle.image.specs.Image.{image}
use Rattle.image.specs.Holding.{Holds, Computes, blanked}
use Rattle.image.proofs.Blanks.{blanked_length}
use Rattle.queue.specs.Queue.{Placed}
use Rattle.queue.proofs.ShiftLaws.{raised_holds, placed_blanked}
use Rattle.updates.specs.White.{Takes}
use Rattle.step.specs.Events.{PlacedAt}
use Rattle.step.specs.Stages.{Sifts}

-- ---- as the code makes it

module _ (h : ActionHead) (b c : List ℕ) (t : Bool) (g : Takes h t b c) where
  took : (p : List ℕ) (s : Server) → Holds s b → c ≡ image (with_white (took_white (reddening (action_of h p)) s) s) b
  unfolding took_white entrant met_log is_recovering pick
  took p s r = (g p).0 s r

  told : (p : List ℕ) (s : Server) → Holds s b → t ≡ full (reddening (action_of h p)) s
  unfolding full took_white entrant met_log is_recovering pick
  told p s r = (g p).1 s r

  pub sift_kept : not t ≡ true → Sifts reddening h h b c
  unfolding sifted pick
  sift_kept n p = (took p, λ s r. ap (λ (x : Bool). sifted x (action_of h p)) (sym (sym (told p s r) ∙ not-true t n)))

  pub sift_beyond : not t ≡ false → (x : ActionHead)
      → x ≡ record { creator = h.creator; index = 0; green_length = h.green_length; white_length = h.white_length } → Sifts reddening h x b c
  unfolding sifted pick beyond action_of id_of
  sift_beyond n x e p =
      (took p, λ s r. ap (λ (y : ActionHead). action_of y p) e ∙ ap (λ (y : Bool). sifted y (action_of h p)) (sym (sym (told p s r) ∙ not-false t n)))

-- ---- of a retransmission

module _ (h : ActionHead) (k : ℕ) (b : List ℕ) where
  module _ (s : Server) (p : List ℕ) (e : (1 ≤? k and k ≤? length s.log.green) ≡ false) where
    entered_same : took_white (exchanging k (action_of h p)) s ≡ took_white (reddening (action_of h p)) s
    unfolding took_white entrant met_log is_recovering pick
    entered_same = rw e refl

    full_same : full (exchanging k (action_of h p)) s ≡ full (reddening (action_of h p)) s
    unfolding full took_white entrant met_log is_recovering pick
    full_same = rw e refl

  -- Where it comes for no green position.
  at_other : (x : ActionHead) (c : List ℕ) → ((s : Server) → Holds s b → (1 ≤? k and k ≤? length s.log.green) ≡ false) → Sifts reddening h x b c
      → Sifts (exchanging k) h x b c
  at_other x c e f p = (
    λ s r. (f p).0 s r ∙ ap (λ (w : ℕ). image (with_white w s) b) (sym (entered_same s p (e s r))),
    λ s r. (f p).1 s r ∙ ap (λ (y : Bool). sifted y (action_of h p)) (sym (full_same s p (e s r))),
  )

  pub sift_at_zero : k ≡ 0 → (x : ActionHead) (c : List ℕ) → Sifts reddening h x b c → Sifts (exchanging k) h x b c
  sift_at_zero e x c f = at_other x c (λ s r. sym (and_no _ _ (le_no 1 k (omega (arith, e))))) f

  pub sift_at_above : (k ≡ 0 → ⊥) → (g : ℕ) → Computes (λ s. length s.log.green) b g → g < k → (x : ActionHead) (c : List ℕ) → Sifts reddening h x b c
      → Sifts (exchanging k) h x b c
  sift_at_above z g e l x c f =
      at_other x c (λ s r. sym (and_yes _ _ _ (le_yes 1 k (omega (arith, z))) (sym (le_no k _ (omega (arith, e s r)))))) f

  module _ (z : k ≡ 0 → ⊥) (g : ℕ) (e : Computes (λ s. length s.log.green) b g) (l : k ≤ g) where
    green : (s : Server) → Holds s b → (1 ≤? k and k ≤? length s.log.green) ≡ true
    green s r = both_yes _ _ (le_yes 1 k (omega (arith, z))) (le_yes k _ (omega (arith, e s r, l)))

    none : (p : List ℕ) (s : Server) → Holds s b → took_white (exchanging k (action_of h p)) s ≡ s.white
    unfolding took_white entrant met_log is_recovering taken_from pick
    none p s r = rw (green s r) refl

    open_to : (p : List ℕ) (s : Server) → Holds s b → sifted (full (exchanging k (action_of h p)) s) (action_of h p) ≡ action_of h p
    unfolding full no_place took_white entrant met_log is_recovering taken_from sifted pick
    open_to p s r = rw (green s r) refl

    -- It is not entered: nothing is taken.
    pub sift_at_green : Sifts (exchanging k) h h b b
    sift_at_green p = (λ s r. sym (ap (λ (w : ℕ). image (with_white w s) b) (none p s r) ∙ r.written), λ s r. sym (open_to p s r))

-- ---- what is known of it then

pub placed_of : (s : Server) (a : Action) → Delivered s a → HasPlace s.quota s.white a s.log → Placed s a
unfolding unwhite places_of queue
placed_of s a d f = record { delivered = d; room = λ e. f (next_index_lem s.log a e) }

pub sifted_delivered : (x : Bool) (s : Server) (a : Action) → Delivered s a → Delivered s (sifted x a)
unfolding sieved
sifted_delivered x s a d = sieved_fits x (reddening a) s d

-- The buffer in which the white length of the rule k was taken.
module _ (k : Rule) (s : Server) (b c : List ℕ) (r : Holds s b) (met : met_log k s ≡ s.log) (e : c ≡ image (with_white (took_white k s) s) b) where
  pub took_low_here : took_white k s ≤ length s.log.green
  took_low_here = omega (arith, took_low k s (well_formed_facts s r.formed).white, ap (λ l. length l.green) met)

  pub took_holds : Holds (blanked (with_white (took_white k s) s)) c
  took_holds = raised_holds s b c (took_white k s) r (took_rises k s) took_low_here e

-- An action that the sieve lets through at s has a place in the buffer's state.
pub sifted_placed : (s : Server) (a : Action) → Delivered s a
    → Placed (blanked (with_white (took_white (reddening a) s) s)) (sifted (full (reddening a) s) a)
unfolding full entrant met_log
sifted_placed s a d =
    let w : ℕ = took_white (reddening a) s in
    let x : Bool = full (reddening a) s in
    let y : Delivered s (sifted x a) = sifted_delivered x s a d in
    placed_blanked (with_white w s) (sifted x a)
    (placed_of (with_white w s) (sifted x a) (record { fits = y.fits; own = y.own }) (sifted_place s.quota w a s.log))

-- .. also for a position.
pub sifted_placed_at : (k : ℕ) (s : Server) (a : Action) → well_formed s ≡ true → Delivered s a
    → PlacedAt k (sifted (full (exchanging k a) s) a) (blanked (with_white (took_white (exchanging k a) s) s))
unfolding blanked sieved met_log
sifted_placed_at k s a ok d =
    let w : ℕ = took_white (exchanging k a) s in
    let x : Bool = full (exchanging k a) s in
    let y : Delivered s (sifted x a) = sifted_delivered x s a d in
    let low : w ≤ length s.log.green = took_low (exchanging k a) s (well_formed_facts s ok).white in
    record {
      delivered = record { fits = y.fits; own = y.own };
      room = λ h.
          placed_blanked (with_white w s) (sifted x a)
          (placed_of (with_white w s) (sifted x a) (record { fits = y.fits; own = y.own })
          (rule_place (exchanging k a) s (subst (λ (n : ℕ). (1 ≤? k and k ≤? n) ≡ false) (blanked_length (with_white w s) low) h)));
    }
