-- Exchanges in place.
use Prim.Native.Nat.{ℕ, ◌*◌, ◌≤◌}
use mathlib.Core.Path.{◌≡◌, refl, ap, ◌∙◌}
use mathlib.Core.List.{List}
use mathlib.Core.Logic.{inl, inr}
use mathlib.Core.Option.{Option, none, some}
use native.Mathlib.Omega.{arith}
use lib.ListN.{length}
use Rattle.base.proofs.Prefixes.{begins_refl}
use Rattle.format.specs.Limits.{most_index_limit, most_servers_limit, most_planned}
use Rattle.format.specs.Write.{ids_bytes}
use Rattle.record.specs.declared.State.{State}
use Rattle.replication.specs.Machine.Types.{Votes, Configuration, Server, with_votes, with_noted, context_of}
use Rattle.replication.specs.Machine.Exchange.{note_all, taken_votes, attempted}
use Rattle.replication.specs.Machine.Step.{one_more, resending, attempting, collected, decided, the_set}
use Rattle.image.specs.Image.{image}
use Rattle.image.specs.Decode.{servers_in, quota_in}
use Rattle.image.specs.Header.{header_of, header_in, set_of}
use Rattle.image.proofs.HeaderLaws.{header_loaded}
use Rattle.image.proofs.InRange.{in_range}
use Rattle.image.specs.Holding.{Holds, HoldsSome, HoldsSuch}
use Rattle.updates.specs.declared.votes.VoteNumbers.{VoteNumbers}
use Rattle.updates.specs.Lists.{YellowRoom}
use Rattle.updates.specs.Standing.{vote_numbers, dropped}
use Rattle.image.proofs.Chained.{then_holds, Covers, numbers_first, lists_chained}
use Rattle.updates.proofs.NoteAllLaws.{all_formed}
use Rattle.image.proofs.Counts.{numbers, holds_counts}
use Rattle.format.specs.Places.{id_size}

-- ---- numbers only

pub set_here : (d : Option Configuration) → set_of d ≡ the_set d
unfolding set_of the_set
set_here none = refl
set_here (some c) = refl

-- ---- the numbers' ranges

pub come_low : (b : List ℕ) (h : State) → HoldsSome b → h ≡ header_in b → h.come ≤ most_planned most_servers_limit
unfolding header_of context_of
come_low b h w e =
    let s : Server = w.state in
    let g = in_range s w.holds.formed in
    let f : h.come ≡ s.membership.come = ap (λ (x : State). x.come) (e ∙ header_loaded s b w.holds) in
    omega (arith, g.come, g.context.sizes.most)

pub attempt_low : (b : List ℕ) (h : State) → HoldsSome b → h ≡ header_in b → h.attempt.0 ≤ most_index_limit
unfolding header_of
attempt_low b h w e =
    let s : Server = w.state in
    let f : h.attempt.0 ≡ s.votes.attempt = ap (λ (x : State). x.attempt.0) (e ∙ header_loaded s b w.holds) in
    omega (arith, (in_range s w.holds.formed).attempt)

-- ---- decided

noted_then_votes : (s : Server) (l : List ℕ) (v : Votes) → Covers s (with_noted l s) (with_votes v (with_noted l s))
noted_then_votes s l v = numbers_first s (with_noted l s) (with_votes v (with_noted l s)) (refl, refl) (refl, refl) refl refl refl refl

abbrev AllNoted : List ℕ → List ℕ → Type 0
AllNoted b c = (s : Server) → Holds s b → c ≡ image (with_noted (note_all (collected s) s.noted) s) b

noted_holds : (b c : List ℕ) → AllNoted b c → (s : Server) → Holds s b → Holds (with_noted (note_all (collected s) s.noted) s) c
noted_holds b c f s r = then_holds s (with_noted (note_all (collected s) s.noted) s) b c r (f s r) refl refl (all_formed s r.formed) r.blank

pub decided_room : (e b c : List ℕ) → HoldsSuch (λ s. length e ≤ id_size * (s.servers * s.quota)) b → AllNoted b c → YellowRoom e c
decided_room e b c h f =
    let s : Server = h.state in
    let r : Holds s b = h.holds in
    let t : Server = with_noted (note_all (collected s) s.noted) s in
    let q = noted_holds b c f s r in
    let same : servers_in c * quota_in c ≡ s.servers * s.quota = λ i. (numbers t c q).servers i * (numbers t c q).quota i in
    record { counts = holds_counts t c q; short = omega (arith, h.fact) }

pub decided_made : (e b c d : List ℕ) (x : VoteNumbers) → AllNoted b c
    → ((t : Server) (v : Votes) → Holds t c → x ≡ vote_numbers v → ids_bytes v.yellow.ids ≡ e → d ≡ image (with_votes v t) c)
    → (s : Server) → Holds s b → x ≡ vote_numbers (taken_votes s.me (collected s)) → ids_bytes (taken_votes s.me (collected s)).yellow.ids ≡ e → d ≡ image (decided s) b
unfolding decided
decided_made e b c d x f g s r h i =
    let l : List ℕ = note_all (collected s) s.noted in
    let v : Votes = taken_votes s.me (collected s) in
    let t : Server = with_noted l s in
    lists_chained s t (with_votes v t) b r (all_formed s r.formed) (noted_then_votes s l v) (omega arith) (omega arith) c d (f s r) (g t v (noted_holds b c f s r) h i)
