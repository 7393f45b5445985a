-- The start is well-formed, and so are both images of a server after any events: in a run no event returns 8.
use Prim.Native.Nat.{ℕ, zero, suc, ◌<◌}
use mathlib.Core.Path.{◌≡◌, refl, sym, ap, subst}
use mathlib.Core.Bool.{true}
use mathlib.Core.List.{List, map}
use mathlib.Core.Option.{Option, none, none-ne-some}
use native.Mathlib.Omega.{arith}
use lib.ListN.{replicate, length-replicate}
use Rattle.base.proofs.TestLaws.{both_yes, lt_yes}
use Rattle.base.proofs.ListLaws.{replicate_at}
use Rattle.base.specs.Lists.{after, above, sum}
use Rattle.base.specs.Counts.{count}
use Rattle.base.proofs.SetLaws.{everyone_below}
use Rattle.format.specs.Range.{sizes_ok, context_ok}
use Rattle.replication.specs.Machine.Types.{start, no_states}
use Rattle.replication.specs.Machine.Colours.{cut, of_creator}
use Rattle.replication.specs.Machine.WellFormed.{ids_in, queue, well_formed}
use Rattle.replication.proofs.WellFormed.Clauses.{SizesFit, WellFormed, Whole, Invariant}
use Rattle.replication.specs.Images.{started, lived}
use Rattle.replication.specs.Laws.Images.{OfBoth}
use Rattle.replication.specs.Laws.Modes.{ColourFactsOf}
use Rattle.replication.proofs.Step.Inversion.{taken_by}
use Rattle.replication.proofs.Step.Moves.{moved}
use Rattle.replication.proofs.Step.Lifts.{lived_each}
use Rattle.replication.proofs.Step.ModeColours.{colour_facts_kept}
use Rattle.replication.proofs.WellFormed.Ranges.{component_fits, sizes_facts}
use Rattle.replication.proofs.WellFormed.Facts.{facts_well_formed}
use Rattle.replication.proofs.WellFormed.Decisions.{empty_below, cleared_mark_fits, no_yellow_fits}
use Rattle.replication.proofs.WellFormed.Changes.{no_states_lem}
use Rattle.replication.proofs.WellFormed.Steps.{step_invariant, yellow_rooms}

sum_zeros : (n : ℕ) → sum (replicate n 0) ≡ 0
unfolding sum
sum_zeros zero = refl
sum_zeros (suc n) = omega (arith, sum_zeros n)

module _ (n q i : ℕ) (sizes : sizes_ok n q ≡ true) (own : i < n) where
  start_sizes : SizesFit n q i
  unfolding context_ok
  start_sizes = sizes_facts (record { servers = n; quota = q; self = i; last = none }) (both_yes _ _ sizes (lt_yes i n own))

  start_facts : WellFormed (start n q i)
  unfolding start cut count ids_in queue no_states above after of_creator
  start_facts = record {
    sizes = start_sizes;
    log = record {
      green = tt;
      red = tt;
      cuts_length = length-replicate n 0;
      cuts = λ c. omega (arith, replicate_at {A = ℕ} 0 n c);
      own = tt;
      numbered = omega arith;
      sent = omega arith;
    };
    votes = record {
      last = component_fits n 0 0 _ (omega arith) (omega arith) (everyone_below n);
      attempt = omega arith;
      mark = cleared_mark_fits n;
      yellow = no_yellow_fits n q;
    };
    membership = record {
      configuration = λ d e. absurd (none-ne-some d e);
      transitional = λ t e. absurd (none-ne-some t e);
      states_length = length-replicate n none;
      states = λ k x e. no_states_lem n k x e;
      cpcs = empty_below n;
      come = omega arith;
    };
    noted_length = length-replicate n 0;
    noted = λ c. omega (arith, replicate_at {A = ℕ} 0 n c);
    white = omega arith;
    once = λ d. omega arith;
    within = λ d h. absurd (omega arith);
    places = record { counted = sym (sum_zeros n); unwhites = λ c h. omega arith; own_room = omega arith };
    own_list = record { numbered = omega (arith, replicate_at {A = ℕ} 0 n i); ids = ap (λ k. map (λ j. record { creator = i; index = j }) (above k 0)) (sym (replicate_at {A = ℕ} 0 n i)) };
    mode = tt;
  }

  pub start_well_formed : well_formed (start n q i) ≡ true
  start_well_formed = facts_well_formed (start n q i) start_facts

  start_whole : Whole (start n q i).log
  unfolding start cut count ids_in queue
  start_whole = record {
    least = λ d h. absurd (omega arith);
    once = λ d. omega arith;
    held_to_cuts = record { within = λ d h. absurd (omega arith); entered = λ d low high. absurd (omega (arith, replicate_at {A = ℕ} 0 n d.creator)) };
  }

  pub start_invariant : Invariant (start n q i)
  unfolding start
  start_invariant = record { well_formed_lem = start_facts; whole = start_whole; yellow = tt }

  -- ---- after any events

  pub lived_invariant : (es : List (Option (List ℕ))) → OfBoth Invariant (lived (started (start n q i)) es)
  unfolding started
  lived_invariant es =
      lived_each Invariant (λ s e t bs b g h v. step_invariant s e t bs b g v h) (started (start n q i)) es
      (record { memory = start_invariant; store = start_invariant })

  pub lived_well_formed : (es : List (Option (List ℕ))) → OfBoth (λ s. well_formed s ≡ true) (lived (started (start n q i)) es)
  lived_well_formed es =
      let v = lived_invariant es in
      record { memory = facts_well_formed _ v.memory.well_formed_lem; store = facts_well_formed _ v.store.well_formed_lem }

  pub colour_facts : (es : List (Option (List ℕ))) → OfBoth ColourFactsOf (lived (started (start n q i)) es)
  unfolding start started
  colour_facts es =
      let both = lived_each (λ s. Invariant s × ColourFactsOf s)
      (λ s e t bs b g h p. (
        step_invariant s e t bs b g p.0 h,
        let x = taken_by s e t bs b g h in
            subst ColourFactsOf (sym x.raise) (colour_facts_kept s (facts_well_formed s p.0.well_formed_lem) (moved x).0 (yellow_rooms s e t bs b g p.0 x) p.1),
      ))
      (started (start n q i)) es (record { memory = (start_invariant, tt); store = (start_invariant, tt) }) in
      record { memory = both.memory.1; store = both.store.1 }
