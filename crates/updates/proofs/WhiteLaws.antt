-- White lengths taken and raised in place.
use Prim.Native.Nat.{ℕ, ◌+◌, ◌*◌, ◌≤◌, ◌<◌, max, min}
use mathlib.Core.Path.{◌≡◌, refl, sym, ap, ◌∙◌}
use mathlib.Core.Bool.{Bool, true, false, not}
use mathlib.Core.List.{List, ◌++◌}
use native.Mathlib.Omega.{arith}
use lib.Dec.{eqb, ltb}
use lib.ListN.{length, drop}
use borrow.Author.Tests.{not-true, not-false}
use Rattle.base.specs.Bytes.{number_at}
use Rattle.base.specs.Tests.{◌=?◌, ◌<?◌}
use Rattle.base.proofs.TestLaws.{pick_yes, pick_no, and_yes, and_no}
use Rattle.format.specs.Types.{Action}
use Rattle.record.specs.declared.ActionHead.{ActionHead}
use Rattle.record.specs.Values.{id_of, action_of}
use Rattle.replication.specs.Machine.Types.{Server, with_white}
use Rattle.replication.specs.Machine.Colours.{next_index, is_next, of_creator, places_of, unwhite}
use Rattle.replication.specs.Machine.White.{least, taken_from, no_place}
use Rattle.image.specs.Layout.{header_size, at_quota}
use Rattle.image.specs.Image.{image}
use Rattle.image.specs.Decode.{quota_in}
use Rattle.image.specs.Holding.{Holds, HoldsSome, HoldsSuch, Becomes, Computes, blanked}
use Rattle.image.proofs.Blanks.{behind_blanks}
use Rattle.image.proofs.Counts.{numbers, holds_counts}
use Rattle.image.proofs.InPlace.{such_fact, holds_some}
use Rattle.queue.proofs.RedLaws.{cut_read}
use Rattle.queue.proofs.ShiftLaws.{raise_holds}
use Rattle.updates.specs.White.{whitened, taken_white, without_place}

-- ---- all that is green everywhere

pub made_white : (b c : List ℕ) (to : ℕ) → Computes (λ s. least s.noted) b to
    → Becomes (λ s. with_white (max s.white (min (length s.log.green) to)) s) b c → (s : Server) → Holds s b → c ≡ image (whitened s) b
unfolding whitened
made_white b c to e f s r = f s r ∙ ap (λ (k : ℕ). image (with_white (max s.white (min (length s.log.green) k)) s) b) (e s r)

-- ---- an action's white length

pub cut_inside : (b : List ℕ) (c : ℕ) → HoldsSuch (λ s. c < s.servers) b → header_size + 2 * c + 2 ≤ length b
cut_inside b c h = omega (arith, h.fact, (numbers h.state b h.holds).servers, (holds_counts h.state b h.holds).cuts)

pub next_told : (b : List ℕ) (h : ActionHead) (k : ℕ) → HoldsSuch (λ s. h.creator < s.servers) b → k ≡ number_at 2 b (header_size + 2 * h.creator)
    → (p : List ℕ) (s : Server) → Holds s b → eqb h.index (k + 1) ≡ is_next s.log (action_of h p)
unfolding is_next next_index action_of id_of ◌=?◌
next_told b h k g e p s r =
    ap (λ (m : ℕ). eqb h.index (m + 1)) (e ∙ cut_read s b h.creator r (such_fact (λ t. h.creator < t.servers) b s g r))

pub full_told : (b : List ℕ) (c q m : ℕ) → q ≡ number_at 2 b at_quota → Computes (λ s. unwhite c s.white s.log) b m
    → (s : Server) → Holds s b → not (ltb m q) ≡ not (unwhite c s.white s.log <? s.quota)
unfolding ◌<?◌ quota_in
full_told b c q m e f s r = λ i. not (ltb (f s r i) ((e ∙ (numbers s b r).quota) i))

-- It is not its creator's next: nothing is taken.
pub not_taken : (b : List ℕ) (h : ActionHead) (x : Bool) → ((p : List ℕ) → Computes (λ s. is_next s.log (action_of h p)) b x) → not x ≡ true
    → (p : List ℕ) → Becomes (λ s. with_white (taken_white (action_of h p) s) s) b b × Computes (without_place (action_of h p)) b false
unfolding taken_from no_place action_of id_of
not_taken b h x e other p =
    let next : (s : Server) → Holds s b → is_next s.log (action_of h p) ≡ false = λ s r. sym (e p s r) ∙ not-true x other in (
      λ s r. sym r.written
          ∙ ap (λ (w : ℕ). image (with_white w s) b)
          (pick_no (is_next s.log (action_of h p)) s.white (max s.white (min (length s.log.green) h.white_length)) s.white (next s r) refl),
      λ s r. and_no (is_next s.log (action_of h p)) _ (next s r),
    )

-- More turn white, up to the green length.
abbrev raised_to : ℕ → Server → Server
raised_to to s = with_white (max s.white (min (length s.log.green) to)) s

abbrev Raises : ℕ → List ℕ → List ℕ → Type 0
Raises to b c = Becomes (raised_to to) b c

pub raised_some : (P : Server → Type 0) (b c : List ℕ) (to : ℕ) → HoldsSuch P b → Raises to b c → HoldsSome c
raised_some P b c to h f = holds_some _ c (raise_holds h.state b c to h.holds (f h.state h.holds))

-- White actions are counted in no state.
unwhite_blanked : (c : ℕ) (s : Server) → unwhite c (blanked s).white (blanked s).log ≡ unwhite c s.white s.log
unfolding unwhite places_of blanked
unwhite_blanked c s = ap (λ (g : List Action). of_creator c (g ++ s.log.red)) (behind_blanks s.white (drop s.white s.log.green))

-- It is: its white length is taken, and what is then left has its places.
pub length_taken : (b c : List ℕ) (h : ActionHead) (x y : Bool) → ((p : List ℕ) → Computes (λ s. is_next s.log (action_of h p)) b x) → not x ≡ false
    → Raises h.white_length b c → Computes (λ s. not (unwhite h.creator s.white s.log <? s.quota)) c y
    → (p : List ℕ) → Becomes (λ s. with_white (taken_white (action_of h p) s) s) b c × Computes (without_place (action_of h p)) b y
unfolding taken_from no_place action_of id_of blanked
length_taken b c h x y e same f g p =
    let to : ℕ = h.white_length in
    let next : (s : Server) → Holds s b → is_next s.log (action_of h p) ≡ true = λ s r. sym (e p s r) ∙ not-false x same in
    let taken : (s : Server) → Holds s b → (raised_to to s).white ≡ taken_white (action_of h p) s =
    λ s r. pick_yes (is_next s.log (action_of h p)) (raised_to to s).white (raised_to to s).white s.white (next s r) refl in (
      λ s r. f s r ∙ ap (λ (w : ℕ). image (with_white w s) b) (taken s r),
      λ s r. and_yes y (is_next s.log (action_of h p)) _ (next s r)
          (g (blanked (raised_to to s)) (raise_holds s b c to r (f s r))
          ∙ ap (λ (m : ℕ). not (m <? s.quota)) (unwhite_blanked h.creator (raised_to to s) ∙ ap (λ (w : ℕ). unwhite h.creator w s.log) (taken s r))),
    )
