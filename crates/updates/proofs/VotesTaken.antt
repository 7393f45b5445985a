-- Other votes in place.
use Prim.Native.Nat.{ℕ, ◌+◌, ◌*◌, ◌≤◌}
use mathlib.Core.Path.{◌≡◌, refl, sym, ap, ap₂, ◌∙◌}
use mathlib.Core.List.{List}
use native.Mathlib.Nat.{add-zero}
use native.Mathlib.Omega.{arith}
use lib.ListN.{length, set}
use Rattle.base.specs.Lists.{sum}
use Rattle.base.specs.Patched.{patched}
use Rattle.base.proofs.PatchedLaws.{patched_whole}
use Rattle.base.proofs.Sections.{begin}
use Rattle.base.specs.Bytes.{over}
use Rattle.format.specs.Write.{ids_bytes}
use Rattle.record.specs.declared.State.{State}
use Rattle.replication.specs.Machine.Types.{Votes, Server, with_votes}
use Rattle.image.specs.Layout.{the_header, the_yellow, sections, offset, state_length}
use Rattle.image.specs.Image.{header_bytes, section, parts, image}
use Rattle.image.specs.Decode.{servers_in, quota_in}
use Rattle.image.specs.Header.{header_of, header_in, header_written}
use Rattle.image.proofs.HeaderLaws.{header_loaded, header_written_lem}
use Rattle.image.proofs.Used.{header_length, written_length}
use Rattle.image.specs.Holding.{Holds}
use Rattle.image.proofs.InPlace.{holds_section}
use Rattle.queue.proofs.Holding.{holds_changed}
use Rattle.base.proofs.Over.{over_front}
use Rattle.queue.proofs.Inside.{changed_at}
use Rattle.updates.specs.declared.votes.VoteNumbers.{VoteNumbers}
use Rattle.updates.specs.Lists.{YellowRoom}
use Rattle.updates.specs.Standing.{vote_numbers}
use Rattle.updates.proofs.Changes.{changed_image}
use Rattle.image.specs.Counts.{place}
use Rattle.image.proofs.Counts.{numbers, holds_place}

pub votes_taken : (e b b₁ b₂ : List ℕ) (at : ℕ) (h t : State) (x : VoteNumbers) → YellowRoom e b → h ≡ header_in b
    → ((s : Server) (w : Votes) → h ≡ header_of s → x ≡ vote_numbers w → t ≡ header_of (with_votes w s)) → at ≡ place the_yellow b → b₁ ≡ patched at e b
    → b₂ ≡ patched 0 (header_written t) b₁
    → (s : Server) (w : Votes) → Holds s b → x ≡ vote_numbers w → ids_bytes w.yellow.ids ≡ e → b₂ ≡ image (with_votes w s) b
unfolding sections parts sum offset
votes_taken e b b₁ b₂ at h t x room e₁ f e₂ e₃ e₄ s w r g ids =
    let n : ℕ = s.servers in
    let q : ℕ = s.quota in
    let u : Server = with_votes w s in
    let sec : List ℕ = section n q the_yellow b in
    let old : List ℕ = over (ids_bytes s.votes.yellow.ids) sec in
    let there : at ≡ begin (sections n q) the_yellow + 0 = e₂ ∙ holds_place s b r the_yellow ∙ sym (add-zero (offset n q the_yellow)) in
    let most : servers_in b * quota_in b ≡ n * q = λ i. (numbers s b r).servers i * (numbers s b r).quota i in
    let one = changed_at (sections n q) (parts n q s b) b b (holds_changed s b r) the_yellow 0 at e there (omega arith) (omega (arith, room.short)) in
    let two = changed_at (sections n q) _ b _ one the_header 0 0 (header_written t) refl (omega arith) (omega (arith, written_length t)) in
    let list : patched 0 e old ≡ over (ids_bytes w.yellow.ids) sec =
    ap (patched 0 e) (sym (holds_section s b r the_yellow (omega arith))) ∙ over_front e sec ∙ ap (λ (y : List ℕ). over y sec) (sym ids) in
    let header : patched 0 (header_written t) (header_bytes s) ≡ header_bytes u =
    patched_whole (header_written t) (header_bytes s) (written_length t ∙ sym (header_length s)) ∙ ap header_written (f s w (e₁ ∙ header_loaded s b r) g) ∙ header_written_lem u in
    e₄ ∙ ap (patched 0 (header_written t)) e₃
    ∙ changed_image u _ b _ two (ap₂ {A = List ℕ} {B = List ℕ} {C = List (List ℕ)} (λ z y. set (set (parts n q s b) the_yellow y) the_header z) header list)

pub list_room : (e b : List ℕ) (at : ℕ) → YellowRoom e b → at ≡ place the_yellow b → at + length e ≤ length b
unfolding place offset state_length sections sum
list_room e b at h f = omega (arith, h.counts.long, h.short)
