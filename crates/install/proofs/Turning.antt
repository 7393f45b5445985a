-- Actions turned green one after the other, in a buffer.
use Prim.Native.Nat.{ℕ, ◌*◌}
use mathlib.Core.Path.{◌≡◌, refl, sym, ap, subst, ◌∙◌}
use mathlib.Core.Bool.{true}
use mathlib.Core.List.{List, [], ◌++◌}
use native.Mathlib.Omega.{arith}
use lib.ListN.{length, drop}
use Rattle.format.specs.Limits.{most_ids}
use Rattle.format.specs.Types.{Id, Action}
use Rattle.format.specs.Write.{cuts_bytes}
use Rattle.replication.specs.Machine.Types.{Log, Server, with_log}
use Rattle.replication.specs.Machine.Colours.{shown}
use Rattle.replication.specs.Machine.WellFormed.{queue, well_formed}
use Rattle.replication.proofs.WellFormed.Facts.{well_formed_facts}
use Rattle.image.specs.Layout.{slot_size}
use Rattle.image.specs.Image.{action_slots, image}
use Rattle.image.specs.Header.{shown_log}
use Rattle.image.specs.Decode.{blanks, decoded}
use Rattle.image.proofs.Blanks.{grown_blank}
use Rattle.image.proofs.Used.{action_slots_length}
use Rattle.image.proofs.Fit.{well_formed_fits}
use Rattle.image.specs.Holding.{Blank, Holds, HoldsSome}
use Rattle.image.proofs.InPlace.{such_decoded, holds_decoded, image_holds, holds_some}
use Rattle.queue.proofs.Holding.{log_formed, log_fits}
use Rattle.queue.proofs.GreenLaws.{log_image_over}
use Rattle.install.specs.Swaps.{green_swaps}
use Rattle.install.specs.Table.{log_in, Hinted, Indexed, Turned}
use Rattle.install.proofs.SwapFits.{swaps_kept, shown_count, swaps_fits, swaps_append}
use Rattle.image.proofs.Counts.{holds_counts}

-- ---- the state that is left

pub swaps_formed : (s : Server) (ds : List Id) → well_formed s ≡ true → well_formed (with_log (green_swaps ds s.log) s) ≡ true
swaps_formed s ds ok =
    log_formed s (green_swaps ds s.log) ok (swaps_fits s.servers s.quota s.me s.white ds s.log (log_fits s ok))

swaps_blank : (s : Server) (ds : List Id) → well_formed s ≡ true → Blank s → Blank (with_log (green_swaps ds s.log) s)
swaps_blank s ds ok blank =
    let k = swaps_kept ds s.log in
    subst (λ (g : List Action). g ≡ blanks s.white ++ drop s.white g) (sym k.green)
    (grown_blank s.white s.log.green k.more (well_formed_facts s ok).white blank)

module _ (s : Server) (b c : List ℕ) (r : Holds s b) (ds : List Id) (e : c ≡ image (with_log (green_swaps ds s.log) s) b) where
  pub swaps_hold : Holds (with_log (green_swaps ds s.log) s) c
  swaps_hold =
      let t : Server = with_log (green_swaps ds s.log) s in
      subst (Holds t) (sym e) (image_holds s t b r refl refl (swaps_formed s ds r.formed) (swaps_blank s ds r.formed r.blank))

  pub swaps_decoded : decoded c ≡ with_log (green_swaps ds s.log) s
  swaps_decoded = holds_decoded (with_log (green_swaps ds s.log) s) c swaps_hold

-- What the buffer says after that.
pub turned_decoded : (ds : List Id) (b u c : List ℕ) → HoldsSome b → Turned ds b u c → decoded c ≡ with_log (green_swaps ds (decoded b).log) (decoded b)
turned_decoded ds b u c s e = swaps_decoded (decoded b) b c (such_decoded _ b s) ds e.written

-- ---- one after the other

-- One image over another.
swaps_over : (s : Server) (ds es : List Id) (b : List ℕ) → Holds s b
    → image (with_log (green_swaps es (green_swaps ds s.log)) s) (image (with_log (green_swaps ds s.log) s) b) ≡ image (with_log (green_swaps es (green_swaps ds s.log)) s) b
swaps_over s ds es b r =
    let l : Log = green_swaps ds s.log in
    let m : Log = green_swaps es l in
    let ok : well_formed (with_log l s) ≡ true = swaps_formed s ds r.formed in
    let f = well_formed_fits (with_log l s) ok in
    let g = well_formed_fits (with_log m s) (swaps_formed (with_log l s) es ok) in
    let k = swaps_kept es l in
    let v : Log = shown s.white l in
    let w : Log = shown s.white m in
    let count : length (queue w) ≡ length (queue v) = shown_count s.white l m k (well_formed_facts (with_log l s) ok).white in
    let actions : length (action_slots (queue w)) ≡ length (action_slots (queue v)) =
    action_slots_length (queue w) g.actions ∙ ap (λ (i : ℕ). slot_size * i) count ∙ sym (action_slots_length (queue v) f.actions) in
    let cuts : length (cuts_bytes m.cuts) ≡ length (cuts_bytes l.cuts) = ap (λ (x : List ℕ). length (cuts_bytes x)) k.cuts in
    let own : length (action_slots m.own) ≡ length (action_slots l.own) = ap (λ (x : List Action). length (action_slots x)) k.own in
    log_image_over s l m b ok r.long (omega arith) (omega arith) (omega arith)

pub turned_append : (ds es : List Id) (b t₁ b₁ t₂ b₂ : List ℕ) → HoldsSome b → Turned ds b t₁ b₁ → Turned es b₁ t₂ b₂ → Turned (ds ++ es) b t₂ b₂
turned_append ds es b t₁ b₁ t₂ b₂ s e f =
    let v : Server = decoded b in
    let l : Log = green_swaps ds v.log in
    let d : decoded b₁ ≡ with_log l v = turned_decoded ds b t₁ b₁ s e in
    record {
      written =
          f.written
          ∙ (λ i. image (with_log (green_swaps es (d i).log) (d i)) (e.written i))
          ∙ swaps_over v ds es b (such_decoded _ b s)
          ∙ ap (λ (m : Log). image (with_log m v) b) (sym (swaps_append ds es v.log));
      indexed = f.indexed;
    }

pub turned_none : (b t : List ℕ) → Indexed t b → Turned [] b t b
unfolding green_swaps
turned_none b t r = record { written = sym (such_decoded _ b r.holds).written; indexed = r }

-- ---- a table by the state

pub indexed_by : (s : Server) (b t : List ℕ) → Holds s b → length t ≡ most_ids → Hinted t (queue (shown_log s)) → Indexed t b
unfolding log_in
indexed_by s b t r size left = record {
  holds = holds_some s b r;
  counts = holds_counts s b r;
  size = size;
  low = (holds_counts s b r).green;
  hinted = subst (λ (v : Server). Hinted t (queue (shown_log v))) (sym (holds_decoded s b r)) left;
}
