-- States whose white actions are blank: what their images and tests say is what they say with any other white actions.
use Prim.Native.Nat.{ℕ, ◌≤◌}
use mathlib.Core.Path.{◌≡◌, refl, sym, ap, ◌∙◌}
use mathlib.Core.Bool.{true}
use mathlib.Core.List.{List, ◌++◌, append_assoc}
use native.Mathlib.Omega.{arith}
use lib.ListN.{length, take, drop, length-append, length-replicate, length-drop}
use lib.Seq.{drop_at, drop-append-le}
use Rattle.format.specs.Types.{Action}
use Rattle.replication.specs.Machine.Types.{Mode, Non_prim, Reg_prim, Trans_prim, Exchange_states, Exchange_actions, Construct, No, Un, Server, context_of, with_white, with_green}
use Rattle.replication.specs.Machine.Colours.{cut}
use Rattle.replication.specs.Machine.WellFormed.{ranges, own_list_fits, mode_fits, well_formed}
use Rattle.replication.specs.Machine.Step.{here_set, collected, all_states_in, planned_now, all_come_of}
use Rattle.replication.proofs.WellFormed.Facts.{well_formed_facts}
use Rattle.image.specs.Layout.{the_queue, offset}
use Rattle.image.specs.Header.{header_of, header_in}
use Rattle.image.specs.Image.{header_bytes, parts, image}
use Rattle.image.specs.Decode.{blank, blanks, white_at, actions_at, decoded_as, decoded, servers_in, quota_in}
use Rattle.image.specs.Holding.{Blank, blanked}

-- Behind the blank ones.
pub behind_blanks : (w : ℕ) (l : List Action) → drop w (blanks w ++ l) ≡ l
unfolding blanks
behind_blanks w l = drop_at (blanks w) l w (length-replicate w blank)

pub blanked_blank : (s : Server) → Blank (blanked s)
unfolding blanked
blanked_blank s = ap (λ (l : List Action). blanks s.white ++ l) (sym (behind_blanks s.white (drop s.white s.log.green)))

-- A state that is blank already.
pub blank_same : (s : Server) → Blank s → blanked s ≡ s
unfolding blanked
blank_same s k = ap (λ (g : List Action). with_green g s) (sym k)

pub decoded_blank : (b : List ℕ) → Blank (decoded b)
unfolding decoded decoded_as
decoded_blank b =
    let w : ℕ = white_at (servers_in b) (quota_in b) (header_in b) b in
    ap (λ (l : List Action). blanks w ++ l) (sym (behind_blanks w (take (header_in b).green_count (actions_at (header_in b).queue_length b (offset (servers_in b) (quota_in b) the_queue)))))

-- The image does not say which actions are white, only how many.
pub image_shown : (s : Server) (g : List Action) → drop s.white g ≡ drop s.white s.log.green → (b : List ℕ) → image (with_green g s) b ≡ image s b
unfolding image parts header_bytes header_of
image_shown s g h b = ap (λ (l : List Action). image (with_white 0 (with_green l s)) b) h

pub image_blanked : (s : Server) (b : List ℕ) → image (blanked s) b ≡ image s b
unfolding blanked
image_blanked s b = image_shown s _ (behind_blanks s.white (drop s.white s.log.green)) b

pub blanked_length : (s : Server) → s.white ≤ length s.log.green → length (blanked s).log.green ≡ length s.log.green
unfolding blanked blanks
blanked_length s h =
    length-append (blanks s.white) (drop s.white s.log.green) ∙ omega (arith, length-replicate s.white blank, length-drop s.white s.log.green)

mode_same : (m : Mode) (g : List Action) (s : Server) → mode_fits m (with_green g s) ≡ mode_fits m s
unfolding mode_fits all_states_in all_come_of planned_now collected here_set
mode_same Non_prim g s = refl
mode_same Reg_prim g s = refl
mode_same Trans_prim g s = refl
mode_same Exchange_states g s = refl
mode_same Exchange_actions g s = refl
mode_same Construct g s = refl
mode_same No g s = refl
mode_same Un g s = refl

pub blanked_formed : (s : Server) → well_formed s ≡ true → well_formed (blanked s) ≡ true
unfolding well_formed ranges context_of own_list_fits cut blanked
blanked_formed s ok =
    let low = (well_formed_facts s ok).white in
    rw (behind_blanks s.white (drop s.white s.log.green), blanked_length s low, mode_same s.membership.mode (blanks s.white ++ drop s.white s.log.green) s) ok

-- What turns green behind the white ones leaves them blank.
pub grown_blank : (w : ℕ) (g more : List Action) → w ≤ length g → g ≡ blanks w ++ drop w g → g ++ more ≡ blanks w ++ drop w (g ++ more)
grown_blank w g more h k = ap (λ (l : List Action). l ++ more) k ∙ append_assoc (blanks w) (drop w g) more ∙ ap (λ (l : List Action). blanks w ++ l) (sym (drop-append-le w g more h))
