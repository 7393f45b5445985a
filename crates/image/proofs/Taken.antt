-- What a taken event leaves in the buffers: the new state's image, its white actions blank, and records that fit.
use Prim.Native.Nat.{ℕ, ◌≤◌}
use mathlib.Core.Path.{◌≡◌, sym, ap, subst, ◌∙◌}
use mathlib.Core.Bool.{Bool, true}
use mathlib.Core.List.{List}
use mathlib.Core.Option.{Option}
use native.Mathlib.Omega.{arith}
use lib.ListN.{length}
use Rattle.base.specs.Bytes.{joined, over}
use Rattle.base.proofs.Over.{over_length}
use Rattle.format.specs.Types.{Action, Record, Reading}
use Rattle.replication.specs.Laws.Order.{SameServer}
use Rattle.replication.specs.Laws.Transitions.{TakenBy}
use Rattle.replication.specs.Machine.Types.{Server, taken, with_log, with_white}
use Rattle.replication.specs.Machine.Rules.{Rule}
use Rattle.replication.specs.Machine.White.{met_log, took_white}
use Rattle.replication.specs.Machine.Step.{step}
use Rattle.replication.specs.Machine.WellFormed.{well_formed}
use Rattle.replication.proofs.Step.Identity.{taken_identity}
use Rattle.replication.proofs.Step.Inversion.{taken_by}
use Rattle.replication.proofs.WellFormed.Reads.{step_byte_count}
use Rattle.replication.proofs.WellFormed.Stages.{met_formed, took_formed, core_formed}
use Rattle.replication.proofs.WellFormed.Steps.{step_well_formed}
use Rattle.image.specs.Layout.{state_length, out_length}
use Rattle.image.specs.Image.{image}
use Rattle.image.specs.Decode.{read_image}
use Rattle.image.specs.Outcome.{images_by, images_on, image_after}
use Rattle.image.proofs.ImageLaws.{image_length, image_again, read_image_lem}
use Rattle.image.proofs.Blanks.{blanked_blank, blanked_formed, image_blanked}
use Rattle.image.specs.Holding.{Holds, blanked}
use Rattle.image.proofs.Refusals.{Ready}

-- The image of t over any bytes that are long enough is held, its white actions blank.
pub image_held : (t : Server) (b : List ℕ) → well_formed t ≡ true → state_length t.servers t.quota ≤ length b → Holds (blanked t) (image t b)
unfolding blanked
image_held t b ok room = record {
  formed = blanked_formed t ok;
  written = image_blanked t (image t b) ∙ image_again t b ok room;
  long = omega (arith, image_length t b ok room);
  blank = blanked_blank t;
}

module _ (s : Server) (e : List ℕ) (t : Server) (rs : List (List ℕ)) (w : Bool) (g : List Action) (h : step s e ≡ taken t rs w g) where
  pub by : TakenBy s e t rs w g
  by = taken_by s e t rs w g h

  sizes_kept : SameServer s t
  sizes_kept = taken_identity s e t rs w g h

  state_room_lem : (m : ℕ) → state_length s.servers s.quota ≤ m → state_length t.servers t.quota ≤ m
  state_room_lem m l = subst (λ (k : ℕ). k ≤ m) (λ i. state_length (sym sizes_kept.servers i) (sym sizes_kept.quota i)) l

  out_room_lem : (m : ℕ) → out_length s.servers s.quota ≤ m → out_length t.servers t.quota ≤ m
  out_room_lem m l = subst (λ (k : ℕ). k ≤ m) (λ i. out_length (sym sizes_kept.servers i) (sym sizes_kept.quota i)) l

  -- All records of the event.
  pub out_fits : well_formed s ≡ true → length (joined rs) ≤ out_length s.servers s.quota
  unfolding out_length
  out_fits ok = omega (arith, step_byte_count s e t rs w g ok h)

  -- The images by the rule that took the event.
  pub after_by : (b : List ℕ) → image_after s e t b
      ≡ image t (image (with_white (took_white by.rule s) t) (image (with_white (took_white by.rule s) (with_log (met_log by.rule s) s)) (image (with_log (met_log by.rule s) s) b)))
  unfolding image_after images_on images_by
  after_by b = ap (λ (r : Reading Record). images_on s r t b) by.reads ∙ ap (λ (k : Option Rule). images_by k s t b) by.ruled

  module _ (ok : well_formed s ≡ true) (b : List ℕ) (room : state_length s.servers s.quota ≤ length b) where
    -- The bytes that the last image is put over are as many.
    pub under : List ℕ
    under = image (with_white (took_white by.rule s) t) (image (with_white (took_white by.rule s) (with_log (met_log by.rule s) s)) (image (with_log (met_log by.rule s) s) b))

    under_length : length under ≡ length b
    unfolding under
    under_length =
        let m : Server = with_log (met_log by.rule s) s in
        let k : ℕ = took_white by.rule s in
        let one = image_length m b (met_formed s ok by.rule) room in
        let two = image_length (with_white k m) (image m b) (took_formed s ok by.rule) (omega arith) in
        image_length (with_white k t) (image (with_white k m) (image m b)) (core_formed s e t rs w g ok by) (omega (arith, state_room_lem (length b) room)) ∙ two ∙ one

    pub after_length : length (image_after s e t b) ≡ length b
    unfolding under
    after_length =
        ap length (after_by b) ∙ image_length t under (step_well_formed s e t rs w g ok h) (omega (arith, under_length, state_room_lem (length b) room)) ∙ under_length

    pub after_holds : Holds (blanked t) (image_after s e t b)
    unfolding under
    after_holds =
        subst (Holds (blanked t)) (sym (after_by b)) (image_held t under (step_well_formed s e t rs w g ok h) (omega (arith, under_length, state_room_lem (length b) room)))

  -- The buffer holds the new state.
  pub taken_holds : (b : List ℕ) → Holds s b → Holds (blanked t) (image_after s e t b)
  taken_holds b r = after_holds r.formed b r.long

  -- Both buffers are ready for the next event: it gets neither 7 nor 8.
  pub taken_ready : (b o : List ℕ) → Ready s b o → Ready (blanked t) (image_after s e t b) (over (joined rs) o)
  unfolding blanked under
  taken_ready b o r =
      let short : length (joined rs) ≤ out_length s.servers s.quota = out_fits r.image.formed in
      let kept : length (over (joined rs) o) ≡ length o = over_length (joined rs) o (omega (arith, r.room)) in
      let ok : well_formed t ≡ true = step_well_formed s e t rs w g r.image.formed h in
      record {
        read =
            ap read_image (after_by b)
            ∙ read_image_lem t (under r.image.formed b r.image.long) ok
            (omega (arith, under_length r.image.formed b r.image.long, state_room_lem (length b) r.image.long));
        image = taken_holds b r.image;
        room = omega (arith, out_room_lem (length o) r.room);
      }
