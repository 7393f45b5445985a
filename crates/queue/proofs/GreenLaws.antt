-- Entered and then green: one image over another.
use Prim.Native.Nat.{ℕ, suc, ◌*◌, ◌≤◌}
use mathlib.Core.Path.{◌≡◌, refl, sym, ap, subst, ◌∙◌}
use mathlib.Core.Bool.{true}
use mathlib.Core.List.{List, [], ◌∷◌, ◌++◌}
use mathlib.Core.Logic.{inr}
use mathlib.Core.Option.{some, none-ne-some}
use native.Mathlib.Omega.{arith}
use lib.ListN.{length, drop, length-append}
use Rattle.base.proofs.AtLaws.{some_same}
use Rattle.base.specs.Tests.{◌≤?◌}
use Rattle.base.proofs.TestLaws.{Known, holds, fails, known, le_holds, le_fails}
use Rattle.format.specs.Types.{Id, Action}
use Rattle.format.specs.Write.{cuts_bytes}
use Rattle.replication.specs.Machine.Types.{Log, Server, with_log}
use Rattle.replication.specs.Machine.Colours.{find, remove, red, promote, green_id, green, shown}
use Rattle.replication.specs.Machine.WellFormed.{queue, well_formed}
use Rattle.replication.proofs.WellFormed.Held.{Greened, unmoved, moved, greened?}
use Rattle.replication.proofs.WellFormed.Logs.{red_fits}
use Rattle.replication.proofs.WellFormed.Colours.{green_id_fits}
use Rattle.image.specs.Layout.{slot_size, state_length}
use Rattle.image.specs.Image.{action_slots, image}
use Rattle.image.proofs.Used.{action_slots_length}
use Rattle.image.proofs.Fit.{well_formed_fits}
use Rattle.image.proofs.Again.{covering_over, image_twice}
use Rattle.image.specs.Decode.{blanks}
use Rattle.image.specs.Holding.{Blank, Holds, HoldsSuch}
use Rattle.replication.proofs.Step.Greens.{red_green}
use Rattle.image.proofs.InPlace.{image_holds}
use Rattle.record.specs.declared.ActionHead.{ActionHead}
use Rattle.record.specs.declared.ActionId.{ActionId}
use Rattle.record.specs.Values.{id_of, the_id, id_in_head, action_of}
use Rattle.queue.specs.Queue.{position, Placed, RoomIfNext}
use Rattle.queue.proofs.Positions.{position_found, position_none}
use Rattle.queue.proofs.Holding.{log_formed, log_fits}
use Rattle.queue.proofs.Entered.{has_place}
use Rattle.queue.proofs.RedLaws.{room_if_next}
use Rattle.queue.proofs.Promoted.{shown_promote}
use Rattle.replication.proofs.WellFormed.Facts.{well_formed_facts}
use Rattle.image.specs.Counts.{CountsIn}
use Rattle.image.proofs.Counts.{holds_counts}

-- The image of a state with longer lists over that of another.
pub log_image_over : (s : Server) (l m : Log) (b : List ℕ) → well_formed (with_log l s) ≡ true → state_length s.servers s.quota ≤ length b
    → length (cuts_bytes l.cuts) ≤ length (cuts_bytes m.cuts) → length (action_slots l.own) ≤ length (action_slots m.own)
    → length (action_slots (queue (shown s.white l))) ≤ length (action_slots (queue (shown s.white m))) → image (with_log m s) (image (with_log l s) b) ≡ image (with_log m s) b
log_image_over s l m b ok h cuts own actions =
    covering_over (with_log l s) (well_formed_fits (with_log l s) ok) b h (with_log m s)
    (record { cuts = inr cuts; noted = inr (omega arith); states = inr refl; ids = inr (omega arith); own = inr own; actions = inr actions })

promote_over : (s : Server) (x : Action) (l : Log) (b : List ℕ) → well_formed (with_log l s) ≡ true → state_length s.servers s.quota ≤ length b
    → length (action_slots (queue (shown s.white l))) ≤ length (action_slots (queue (shown s.white (promote x l)))) → image (with_log (promote x l) s) (image (with_log l s) b) ≡ image (with_log (promote x l) s) b
unfolding promote
promote_over s x l b ok h e = log_image_over s l (promote x l) b ok h (omega arith) (omega arith) e

-- ---- turning green keeps the lists' lengths

removed_count : (d : Id) (l : List Action) (x : Action) → find d l ≡ some x → suc (length (remove x.id l)) ≡ length l
removed_count d l x e = go (known (length l ≤? position d l))
  where
    go : Known (length l ≤? position d l) → suc (length (remove x.id l)) ≡ length l
    go (holds h) = absurd (none-ne-some x (sym (position_none d l (le_holds _ _ h)) ∙ e))
    go (fails h) =
        let k = position_found d l (le_fails _ _ h) in
        let same : k.it ≡ x = some_same (sym k.found ∙ e) in
        let left : remove x.id l ≡ k.before ++ k.behind = ap (λ (y : Action). remove y.id l) (sym same) ∙ ap (λ (i : Id). remove i l) (sym k.named) ∙ k.left in
        omega (arith, ap length left, length-append k.before k.behind, ap length k.whole, length-append k.before (k.it ∷ k.behind))

promoted_count : (d : Id) (l : Log) (x : Action) → find d l.red ≡ some x → length (queue (promote x l)) ≡ length (queue l)
unfolding queue promote
promoted_count d l x e =
    length-append (l.green ++ (x ∷ [])) (remove x.id l.red)
    ∙ omega (arith, length-append l.green (x ∷ []), removed_count d l.red x e, length-append l.green l.red)

pub green_over : (s : Server) (d : Id) (l : Log) (b : List ℕ) → well_formed (with_log l s) ≡ true → well_formed (with_log (green_id d l) s) ≡ true
    → state_length s.servers s.quota ≤ length b → image (with_log (green_id d l) s) (image (with_log l s) b) ≡ image (with_log (green_id d l) s) b
green_over s d l b ok ok₂ h = go (greened? d l)
  where
    go : Greened d l → image (with_log (green_id d l) s) (image (with_log l s) b) ≡ image (with_log (green_id d l) s) b
    go (unmoved e) =
        ap (λ (m : Log). image (with_log m s) (image (with_log l s) b)) e
        ∙ image_twice (with_log l s) (well_formed_fits (with_log l s) ok) b h
        ∙ ap (λ (m : Log). image (with_log m s) b) (sym e)
    go (moved x found e kept) =
        let f = well_formed_fits (with_log l s) ok in
        let g = well_formed_fits (with_log (promote x l) s) (ap (λ (m : Log). well_formed (with_log m s)) (sym e) ∙ ok₂) in
        let v : Log = shown s.white l in
        let t : Log = shown s.white (promote x l) in
        let count : length (queue v) ≡ length (queue t) =
        sym (promoted_count d v x found) ∙ ap (λ (m : Log). length (queue m)) (shown_promote s.white x l (well_formed_facts (with_log l s) ok).white) in
        let same : length (action_slots (queue v)) ≡ length (action_slots (queue t)) =
        action_slots_length (queue v) f.actions ∙ ap (λ (k : ℕ). slot_size * k) count ∙ sym (action_slots_length (queue t) g.actions) in
        ap (λ (m : Log). image (with_log m s) (image (with_log l s) b)) e
        ∙ promote_over s x l b ok h (omega arith)
        ∙ ap (λ (m : Log). image (with_log m s) b) (sym e)

-- ---- as the code makes it

reddened : (s : Server) (a : Action) (b : List ℕ) → Holds s b → Placed s a → well_formed (with_log (red a s.log) s) ≡ true
reddened s a b r d =
    log_formed s (red a s.log) r.formed (red_fits s.servers s.quota s.me s.white a s.log (log_fits s r.formed) d.delivered.fits d.delivered.own (has_place s a d))

red_blank : (s : Server) (a : Action) → Blank s → Blank (with_log (red a s.log) s)
red_blank s a k = subst (λ (g : List Action). g ≡ blanks s.white ++ drop s.white g) (sym (red_green a s.log)) k

red_holds : (s : Server) (a : Action) (b c : List ℕ) → Holds s b → Placed s a → c ≡ image (with_log (red a s.log) s) b → Holds (with_log (red a s.log) s) c
red_holds s a b c r d e =
    subst (Holds (with_log (red a s.log) s)) (sym e) (image_holds s (with_log (red a s.log) s) b r refl refl (reddened s a b r d) (red_blank s a r.blank))

module _ (h : ActionHead) (p b : List ℕ) where
  pub ready_room : HoldsSuch (λ s. Placed s (action_of h p)) b → RoomIfNext h.creator h.index (length p) b
  unfolding action_of id_of
  ready_room r = room_if_next r.state (action_of h p) b r.holds r.fact

  pub ready_counts : (c : List ℕ) → HoldsSuch (λ s. Placed s (action_of h p)) b
      → ((s : Server) → Holds s b → Placed s (action_of h p) → c ≡ image (with_log (red (action_of h p) s.log) s) b) → CountsIn c
  ready_counts c r f =
      holds_counts (with_log (red (action_of h p) r.state.log) r.state) c
      (red_holds r.state (action_of h p) b c r.holds r.fact (f r.state r.holds r.fact))

  pub green_made : (c e : List ℕ) → ((s : Server) → Holds s b → Placed s (action_of h p) → c ≡ image (with_log (red (action_of h p) s.log) s) b)
      → (d : ActionId) → d ≡ id_in_head h → ((t : Server) → Holds t c → e ≡ image (with_log (green_id (the_id d) t.log) t) c)
      → (s : Server) → Holds s b → Placed s (action_of h p) → e ≡ image (with_log (green (action_of h p) s.log) s) b
  unfolding green action_of
  green_made c e f i j g s r d =
      let a : Action = action_of h p in
      let l : Log = red a s.log in
      let t : Server = with_log l s in
      let held : Holds t c = red_holds s a b c r d (f s r d) in
      let ok₂ : well_formed (with_log (green_id a.id l) s) ≡ true =
      log_formed t (green_id a.id l) held.formed (green_id_fits s.servers s.quota s.me s.white a.id l (log_fits t held.formed)) in
      subst (λ (x : ActionId). (t : Server) → Holds t c → e ≡ image (with_log (green_id (the_id x) t.log) t) c) j g t held
      ∙ ap (image (with_log (green_id a.id l) s)) (f s r d)
      ∙ green_over s a.id l b held.formed ok₂ r.long
