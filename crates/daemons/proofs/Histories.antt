-- Whole green histories beside the buffers that show all of them but the white part.
use Prim.Native.Nat.{ℕ, ◌-◌, ◌≤◌}
use mathlib.Core.Path.{◌≡◌, sym, ap, subst, subst₂, ◌∙◌}
use mathlib.Core.Bool.{true}
use mathlib.Core.List.{List}
use native.Mathlib.Omega.{arith}
use lib.ListN.{length, drop, length-drop}
use lib.Seq.{drop-append-le}
use Rattle.base.specs.Lists.{Begins}
use Rattle.base.proofs.ListLaws.{drop_same}
use Rattle.format.specs.Types.{Action}
use Rattle.replication.specs.Machine.Types.{Server}
use Rattle.replication.specs.Machine.WellFormed.{well_formed}
use Rattle.replication.specs.Runs.Claim.{ListsAgree}
use Rattle.replication.proofs.WellFormed.Facts.{well_formed_facts}
use Rattle.image.specs.Decode.{decoded, greens_in, white_in}
use Rattle.image.specs.Holding.{Holds, blanked}
use Rattle.image.proofs.InPlace.{holds_decoded}
use Rattle.image.proofs.Blanks.{behind_blanks, blanked_length}
use Rattle.daemons.specs.Claim.{HistoryIn}

-- The history of a server, of the buffer that holds its state.
pub history_held : (s : Server) (b : List ℕ) → Holds (blanked s) b → well_formed s ≡ true → HistoryIn b s.log.green
unfolding greens_in white_in blanked
history_held s b h ok =
    let held : decoded b ≡ blanked s = holds_decoded (blanked s) b h in
    record {
      size = sym (ap (λ (t : Server). length t.log.green) held ∙ blanked_length s (well_formed_facts s ok).white);
      behind =
          subst (λ (t : Server). drop t.white s.log.green ≡ drop t.white t.log.green) (sym held)
          (sym (behind_blanks s.white (drop s.white s.log.green)));
    }

-- ---- behind the white ones

begins_behind : (x y : List Action) (w : ℕ) → w ≤ length x → Begins x y → Begins (drop w x) (drop w y)
unfolding Begins
begins_behind x y w h (t, e) = (t, ap (drop w) e ∙ drop-append-le w x t h)

agree_behind : (x y : List Action) (w : ℕ) → w ≤ length x → w ≤ length y → ListsAgree x y → ListsAgree (drop w x) (drop w y)
agree_behind x y w h k a =
    let long : (length (drop w x) ≡ length x - w) × (length (drop w y) ≡ length y - w) = (length-drop w x, length-drop w y) in
    record {
      equal = (ap length, λ e. ap (drop w) (a.equal.1 (omega (arith, long.0, long.1))));
      shorter = λ l. begins_behind x y w h (a.shorter (omega (arith, long.0, long.1)));
      longer = λ l. begins_behind y x w k (a.longer (omega (arith, long.0, long.1)));
    }

history_behind : (b : List ℕ) (g : List Action) (w : ℕ) → HistoryIn b g → white_in b ≤ w → drop w g ≡ drop w (greens_in b)
history_behind b g w h l = drop_same (white_in b) w g (greens_in b) l h.behind

-- What two buffers show of histories that agree, from a place on that is white in neither.
pub shown_agree : (b c : List ℕ) (x y : List Action) (w : ℕ) → HistoryIn b x → HistoryIn c y → white_in b ≤ w → white_in c ≤ w
    → w ≤ length (greens_in b) → w ≤ length (greens_in c) → ListsAgree x y → ListsAgree (drop w (greens_in b)) (drop w (greens_in c))
shown_agree b c x y w h k l m u v a =
    subst₂ (λ z t. ListsAgree z t) (history_behind b x w h l) (history_behind c y w k m)
    (agree_behind x y w (omega (arith, h.size)) (omega (arith, k.size)) a)
