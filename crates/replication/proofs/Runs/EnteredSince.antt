-- From a well-formed state on what is entered is within the cuts: of the ids held, those beside the ones that were white there.
use Prim.Native.Nat.{ℕ, ◌+◌, ◌≤◌}
use mathlib.Core.Path.{◌≡◌, sym, ap, subst, ◌∙◌}
use mathlib.Core.Bool.{Bool, true}
use mathlib.Core.List.{List, ◌++◌, map-append, append_assoc, Memᴰ}
use native.Mathlib.Omega.{arith}
use lib.ListN.{length, take, drop, take-append-drop}
use lib.Seq.{length-take-le}
use Rattle.base.specs.Lists.{Begins}
use Rattle.base.proofs.Comparable.{begins_take, begins_is_take}
use Rattle.base.proofs.Prefixes.{begins_trans}
use Rattle.base.proofs.CountLaws.{count_append}
use Rattle.format.specs.Types.{Id, Action}
use Rattle.format.specs.Range.{same_id}
use Rattle.replication.specs.Machine.Types.{Log, Server, taken}
use Rattle.replication.specs.Machine.Colours.{cut, places_of}
use Rattle.replication.specs.Machine.Step.{step}
use Rattle.replication.specs.Machine.WellFormed.{ids_in, queue, well_formed}
use Rattle.replication.specs.Machine.WellFormedRanges.{id_count}
use Rattle.replication.proofs.Step.Inversion.{taken_by}
use Rattle.replication.proofs.Step.Growth.{taken_grows}
use Rattle.replication.proofs.Step.Identity.{taken_identity}
use Rattle.replication.proofs.WellFormed.Clauses.{held_count}
use Rattle.replication.proofs.WellFormed.Facts.{well_formed_facts}
use Rattle.replication.proofs.WellFormed.Ids.{each_counted}
use Rattle.replication.proofs.WellFormed.Steps.{step_well_formed, step_log_kept}
use Rattle.replication.proofs.WellFormed.Whole.{WithinBeside, enter_beside, held_beside}
use Rattle.replication.proofs.Runs.LogActions.{each_in}

-- What is held is among the first w green actions or has a place.
held_placed : (w : ℕ) (d : Id) (l : Log) → held_count d l ≡ id_count d (ids_in (take w l.green)) + id_count d (ids_in (places_of w l))
unfolding queue ids_in places_of
held_placed w d l =
    ap (λ x. id_count d (ids_in (x ++ l.red))) (sym (take-append-drop w l.green))
    ∙ ap (λ x. id_count d (ids_in x)) (append_assoc (take w l.green) (drop w l.green) l.red)
    ∙ ap (id_count d) (map-append (λ (a : Action). a.id) (take w l.green) (drop w l.green ++ l.red))
    ∙ count_append (same_id d) (ids_in (take w l.green)) (ids_in (drop w l.green ++ l.red))

module _ (s : Server) where
  -- What was white in s.
  abbrev whites : List Action
  whites = take s.white s.log.green

  pub record Since (u : Server) : Type 0 where
    pub formed : well_formed u ≡ true
    pub beside : WithinBeside u.servers (ids_in whites) u.log
    pub first : Begins whites u.log.green

  pub since_itself : well_formed s ≡ true → Since s
  unfolding queue places_of
  since_itself h =
      let f = well_formed_facts s h in
      record {
        formed = h;
        beside = record {
          long = f.log.cuts_length;
          within = λ d k. f.within d (omega (arith, held_placed s.white d s.log));
        };
        first = begins_take s.white s.log.green;
      }

  pub since_kept : (u : Server) (e : List ℕ) (t : Server) (bs : List (List ℕ)) (b : Bool) (g : List Action) → step u e ≡ taken t bs b g → Since u → Since t
  since_kept u e t bs b g h x = record {
    formed = step_well_formed u e t bs b g x.formed h;
    beside =
        subst (λ n. WithinBeside n (ids_in whites) t.log) (sym (taken_identity u e t bs b g h).servers)
        (step_log_kept u e t bs b g (WithinBeside u.servers (ids_in whites)) (enter_beside u.servers (ids_in whites)) (held_beside u.servers (ids_in whites))
        (well_formed_facts u x.formed) (taken_by u e t bs b g h) x.beside);
    first = begins_trans _ _ _ x.first (taken_grows u e t bs b g h).greens;
  }

  pub entered_within : well_formed s ≡ true → (u : Server) → Since u → (d : Id) → Memᴰ d (ids_in (places_of s.white u.log)) → d.index ≤ cut u.log d.creator
  entered_within h u x d m =
      let ids = ids_in (places_of s.white u.log) in
      let w : length whites ≡ s.white = length-take-le s.white s.log.green (well_formed_facts s h).white in
      let same : whites ≡ take s.white u.log.green = begins_is_take whites u.log.green x.first ∙ ap (λ k. take k u.log.green) w in
      x.beside.within d
      (omega (arith, held_placed s.white d u.log, ap (λ l. id_count d (ids_in l)) same, each_in (λ y. 1 ≤ id_count y ids) ids (each_counted ids) d m))
