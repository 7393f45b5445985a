-- Install by swaps.
use Prim.Native.Nat.{ℕ, ◌≤◌}
use mathlib.Core.Path.{◌≡◌, refl, sym, ap, ap₂, subst, ◌∙◌}
use mathlib.Core.Bool.{true}
use mathlib.Core.List.{List, [], ◌∷◌, ◌++◌}
use mathlib.Core.Logic.{inl}
use native.Mathlib.Omega.{arith}
use lib.ListN.{length, get_or}
use Rattle.base.specs.Bytes.{joined, over}
use Rattle.base.proofs.Prefixes.{begins_refl, begins_append}
use Rattle.format.specs.Limits.{most_index_limit}
use Rattle.format.specs.Types.{Id}
use Rattle.replication.specs.Machine.Types.{Log, Server, with_log, with_votes, no_yellow}
use Rattle.replication.specs.Machine.Install.{ids_up_to, install_log, install_votes, install}
use Rattle.replication.specs.Machine.WellFormed.{well_formed}
use Rattle.replication.proofs.Step.Formed.{reds_differ}
use Rattle.replication.proofs.Step.ModeColours.{install_no_red}
use Rattle.record.specs.declared.State.{State}
use Rattle.format.specs.Write.{ids_bytes}
use Rattle.image.specs.Layout.{the_cuts, the_noted, the_states, the_yellow, the_own, the_queue, state_length}
use Rattle.image.specs.Image.{header_bytes, section, parts, image}
use Rattle.image.specs.Header.{header_of, header_in}
use Rattle.record.specs.Values.{last_of}
use Rattle.image.proofs.InRange.{in_range}
use Rattle.image.proofs.HeaderLaws.{header_loaded}
use Rattle.image.specs.Decode.{decoded}
use Rattle.image.proofs.Fit.{well_formed_fits, image_section, image_rest}
use Rattle.image.proofs.Again.{parts_again}
use Rattle.image.specs.Holding.{Holds, HoldsSome}
use Rattle.image.proofs.InPlace.{holds_section, such_decoded, holds_decoded, holds_some}
use Rattle.install.specs.Swaps.{green_swaps}
use Rattle.install.specs.Table.{log_in, yellows_in, Turned}
use Rattle.install.proofs.SwapFits.{swaps_append}
use Rattle.install.proofs.Turning.{swaps_hold, turned_append}
use Rattle.install.proofs.PassLaws.{cuts_kept}
use Rattle.install.proofs.SwapLaws.{alike_greens, alike_itself, alike_same}

-- "yellow list green in order, ids not held passed over" .. "all other reds green by creator, then index"
pub install_swaps : (s : Server) → well_formed s ≡ true
    → green_swaps (ids_up_to 0 s.log.cuts) (green_swaps s.votes.yellow.ids s.log) ≡ install_log s.votes.yellow.ids s.log
unfolding install_log
install_swaps s ok =
    alike_same _ _
    (alike_greens (ids_up_to 0 s.log.cuts) _ _ (alike_greens s.votes.yellow.ids s.log s.log (alike_itself s.log (reds_differ s ok))))
    (install_no_red s ok)

log_holds : (b b₁ : List ℕ) (s : Server) → Holds s b → b₁ ≡ image (with_log (install_log s.votes.yellow.ids s.log) s) b
    → Holds (with_log (install_log s.votes.yellow.ids s.log) s) b₁
log_holds b b₁ s r e =
    let ys : List Id = s.votes.yellow.ids in
    let ds : List Id = ys ++ ids_up_to 0 s.log.cuts in
    let same : green_swaps ds s.log ≡ install_log ys s.log = swaps_append ys (ids_up_to 0 s.log.cuts) s.log ∙ install_swaps s r.formed in
    subst (λ (l : Log). Holds (with_log l s) b₁) same (swaps_hold s b b₁ r ds (e ∙ ap (λ (l : Log). image (with_log l s) b) (sym same)))

-- ---- as the code makes it

pub log_installed : (b t₁ b₁ t₂ b₂ : List ℕ) → HoldsSome b → Turned (yellows_in b) b t₁ b₁ → Turned (ids_up_to 0 (log_in b₁).cuts) b₁ t₂ b₂
    → (s : Server) → Holds s b → b₂ ≡ image (with_log (install_log s.votes.yellow.ids s.log) s) b
unfolding log_in yellows_in
log_installed b t₁ b₁ t₂ b₂ w e f s r =
    let v : Server = decoded b in
    let ys : List Id = v.votes.yellow.ids in
    let rest : Turned (ids_up_to 0 v.log.cuts) b₁ t₂ b₂ = subst (λ (x : List ℕ). Turned (ids_up_to 0 x) b₁ t₂ b₂) (cuts_kept b w ys t₁ b₁ e) f in
    (turned_append ys (ids_up_to 0 v.log.cuts) b t₁ b₁ t₂ b₂ w e rest).written
    ∙ ap (λ (l : Log). image (with_log l v) b) (swaps_append ys (ids_up_to 0 v.log.cuts) v.log ∙ install_swaps v (such_decoded _ b w).formed)
    ∙ ap (λ (x : Server). image (with_log (install_log x.votes.yellow.ids x.log) x) b) (holds_decoded s b r)

-- ---- the votes

-- The state is there after the log's part.
pub log_some : (b b₁ : List ℕ) → HoldsSome b → ((s : Server) → Holds s b → b₁ ≡ image (with_log (install_log s.votes.yellow.ids s.log) s) b)
    → HoldsSome b₁
log_some b b₁ w f =
    let v : Server = decoded b in
    holds_some (with_log (install_log v.votes.yellow.ids v.log) v) b₁ (log_holds b b₁ v (such_decoded _ b w) (f v (such_decoded _ b w)))

pub votes_low : (b : List ℕ) (h : State) → HoldsSome b → h ≡ header_in b → h.last.index.0 ≤ most_index_limit
unfolding header_of last_of
votes_low b h w e =
    let v : Server = decoded b in
    let same : h.last.index.0 ≡ v.votes.last.index = ap (λ (x : State). x.last.index.0) (e ∙ header_loaded v b (such_decoded _ b w)) in
    omega (arith, (in_range v (such_decoded _ b w).formed).last.index)

-- ---- both

-- The numbers and an empty yellow list over the image of t, where the buffer held the yellow list of t already.
votes_over : (t : Server) (b : List ℕ) → well_formed t ≡ true → state_length t.servers t.quota ≤ length b
    → section t.servers t.quota the_yellow b ≡ over (ids_bytes t.votes.yellow.ids) (section t.servers t.quota the_yellow b)
    → image (with_votes (install_votes t.votes) t) (image t b) ≡ image (with_votes (install_votes t.votes) t) b
unfolding image parts install_votes no_yellow ids_bytes over
votes_over t b ok h e =
    let f = well_formed_fits t ok in
    let same = parts_again t f b h in
    let yellow : section t.servers t.quota the_yellow (image t b) ≡ section t.servers t.quota the_yellow b =
    image_section t f b h the_yellow (omega arith) ∙ sym e in
    ap₂ {A = List (List ℕ)} {B = List ℕ} {C = List ℕ} (λ ps r. joined ps ++ r)
    (λ i.
    header_bytes (with_votes (install_votes t.votes) t)
    ∷ get_or (same i) the_cuts []
    ∷ get_or (same i) the_noted []
    ∷ get_or (same i) the_states []
    ∷ yellow i
    ∷ get_or (same i) the_own []
    ∷ get_or (same i) the_queue []
    ∷ [])
    (image_rest t f b h)

pub installed : (b b₁ b₂ : List ℕ) → ((s : Server) → Holds s b → b₁ ≡ image (with_log (install_log s.votes.yellow.ids s.log) s) b)
    → ((s : Server) → Holds s b₁ → b₂ ≡ image (with_votes (install_votes s.votes) s) b₁) → (s : Server) → Holds s b → b₂ ≡ image (install s) b
unfolding install parts
installed b b₁ b₂ f g s r =
    let t : Server = with_log (install_log s.votes.yellow.ids s.log) s in
    let held : Holds t b₁ = log_holds b b₁ s r (f s r) in
    g t held
    ∙ ap (image (with_votes (install_votes s.votes) t)) (f s r)
    ∙ votes_over t b held.formed r.long (holds_section s b r the_yellow (omega arith))
