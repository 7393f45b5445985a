-- Buffers that hold the fold of a green list.
use Prim.Native.Nat.{ℕ, ◌≤◌}
use mathlib.Core.Path.{◌≡◌, refl, sym, ap, subst, ◌∙◌}
use mathlib.Core.Bool.{Bool, true}
use mathlib.Core.List.{List, [], ◌++◌, append_assoc}
use mathlib.Core.Option.{some}
use lib.ListN.{length, drop}
use lib.Seq.{drop-append-le}
use Rattle.base.specs.Lists.{Each, Begins}
use Rattle.base.specs.Bytes.{Bytes}
use Rattle.base.proofs.TestLaws.{pick_ge}
use Rattle.base.proofs.ListLaws.{each_append, each_second, each_implied, each_map}
use Rattle.base.proofs.Prefixes.{drop_beginning}
use Rattle.format.specs.Types.{Action}
use Rattle.replication.specs.Laws.Transitions.{TakenBy}
use Rattle.replication.specs.Machine.Types.{Server, taken, with_log, with_white}
use Rattle.replication.specs.Machine.White.{met_log, took_white}
use Rattle.replication.specs.Machine.Step.{step}
use Rattle.replication.specs.Machine.WellFormed.{well_formed}
use Rattle.replication.specs.Machine.WellFormedRanges.{ActionFits}
use Rattle.replication.proofs.Step.Growth.{green_gained}
use Rattle.replication.proofs.Step.Whites.{met_kept}
use Rattle.replication.proofs.WellFormed.Facts.{well_formed_facts}
use Rattle.replication.proofs.WellFormed.Places.{met_begins, took_low}
use Rattle.replication.proofs.WellFormed.Stages.{met_formed, core_formed}
use Rattle.image.proofs.Taken.{by}
use Rattle.pegs.specs.Operations.{Peg}
use Rattle.pegs.specs.Register.{advance, register_of}
use Rattle.pegs.specs.Image.{register_length, register_bytes, register_image, pegs_in, read_register, used_in}
use Rattle.pegs.specs.Outcome.{register_short, register_number, Changed, changed, empty_on}
use Rattle.pegs.proofs.ImageLaws.{pegs_image, image_number_lem, number_zero, used_is}
use Rattle.pegs.proofs.Advance.{formed_empty, applied_all_lem}
use Rattle.register_runs.specs.Joint.{payloads, carried}
use Rattle.register_runs.proofs.Folds.{fold_append}

-- The buffer r holds the register that is the fold of the green list l.
pub record HoldsFold (l : List Action) (r : List ℕ) : Type 0 where
  pub number : register_number r ≡ 0
  pub pegs : pegs_in r ≡ register_of (payloads l)

module _ (l : List Action) (r : List ℕ) (h : HoldsFold l r) where
  pub fold_read : read_register r ≡ some (register_of (payloads l))
  fold_read = (number_zero r h.number).read ∙ ap (λ (x : List Peg). some x) h.pegs

  pub fold_used : used_in r ≡ register_bytes (register_of (payloads l))
  fold_used = used_is r (number_zero r h.number) ∙ ap register_bytes h.pegs

  pub fold_carried : (g : List Action) → Each Bytes (payloads g) → HoldsFold (l ++ g) (carried g r)
  unfolding carried
  fold_carried g b =
      let a = applied_all_lem (payloads g) r h.number b in
      record { number = a.number; pegs = a.pegs ∙ ap (λ (x : List Peg). advance x (payloads g)) h.pegs ∙ sym (fold_append l g) }

empty_is : (r : List ℕ) → register_length ≤ length r → (empty_on r).register ≡ register_image [] r
unfolding empty_on register_short changed
empty_is r h = ap (λ (x : Changed). x.register) (sym (pick_ge (length r) register_length (changed 0 (register_image [] r)) _ _ h refl))

pub fold_empty : (r : List ℕ) → register_length ≤ length r → HoldsFold [] (empty_on r).register
unfolding register_of payloads advance
fold_empty r h =
    subst (HoldsFold []) (sym (empty_is r h)) (record { number = image_number_lem [] r formed_empty h; pegs = pegs_image [] r formed_empty h })

-- ---- payloads are bytes

abbrev BytesIn : List Action → Type 0
BytesIn l = Each (λ a. Bytes a.payload) l

-- Those behind the white ones.
green_bytes : (s : Server) → well_formed s ≡ true → BytesIn (drop s.white s.log.green)
green_bytes s ok =
    each_implied (ActionFits s.servers s.quota) (λ a. Bytes a.payload) (λ a f. f.payload.bytes) (drop s.white s.log.green)
    (well_formed_facts s ok).log.green

-- What a list gained behind w.
bytes_gained : (w : ℕ) (x g : List Action) → w ≤ length x → BytesIn (drop w (x ++ g)) → BytesIn g
bytes_gained w x g h b =
    each_second (λ a. Bytes a.payload) (drop w x) g (subst BytesIn (drop-append-le w x g h) b)

module _ (s : Server) (e : List ℕ) (t : Server) (rs : List (List ℕ)) (w : Bool) (g : List Action) (h : step s e ≡ taken t rs w g) where
  -- Some may be white by the end of the event: those that turned green before its action came are none of these in the state that it meets, the
  -- others none in the state after the rule.
  pub gained_bytes : well_formed s ≡ true → Each Bytes (payloads g)
  unfolding payloads Begins
  gained_bytes ok = each_map Bytes (λ (a : Action). a.payload) g (subst BytesIn (sym split) (each_append (λ a. Bytes a.payload) met.0 core.0 first second))
    where
      d : TakenBy s e t rs w g
      d = by s e t rs w g h

      m : Server
      m = with_log (met_log d.rule s) s

      low : s.white ≤ length s.log.green
      low = (well_formed_facts s ok).white

      met : Begins s.log.green m.log.green
      met = met_begins s d.rule

      core : Begins m.log.green t.log.green
      core = subst (λ (u : Server). Begins m.log.green u.log.green) (sym d.raise) (met_kept d)

      split : g ≡ met.0 ++ core.0
      split =
          let x : List Action = s.log.green in
          sym (drop_beginning x g)
          ∙ ap (drop (length x)) (sym (green_gained s e t rs w g h) ∙ core.1 ∙ ap (λ (l : List Action). l ++ core.0) met.1 ∙ append_assoc x met.0 core.0)
          ∙ drop_beginning x (met.0 ++ core.0)

      first : BytesIn met.0
      first = bytes_gained s.white s.log.green met.0 low (subst (λ (l : List Action). BytesIn (drop s.white l)) met.1 (green_bytes m (met_formed s ok d.rule)))

      second : BytesIn core.0
      second =
          bytes_gained (took_white d.rule s) m.log.green core.0 (took_low d.rule s low)
          (subst (λ (l : List Action). BytesIn (drop (took_white d.rule s) l)) core.1 (green_bytes (with_white (took_white d.rule s) t) (core_formed s e t rs w g ok d)))

  -- The register of the state that an event comes to, carried on by what the event turns green, is that of the state that it leaves.
  pub holds_taken : well_formed s ≡ true → (r : List ℕ) → HoldsFold s.log.green r → HoldsFold t.log.green (carried g r)
  holds_taken ok r k =
      subst (λ (l : List Action). HoldsFold l (carried g r)) (sym (green_gained s e t rs w g h))
      (fold_carried s.log.green r k g (gained_bytes ok))
