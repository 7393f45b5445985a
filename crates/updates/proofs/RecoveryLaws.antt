-- Recovery: the own list is entered red by one copy, and its highest white length.
use Prim.Native.Nat.{ℕ, zero, suc, ◌+◌, ◌*◌, ◌-◌, ◌≤◌, ◌<◌, max}
use mathlib.Core.Path.{◌≡◌, refl, sym, ap, ap₂, subst, ◌∙◌}
use mathlib.Core.Bool.{true}
use mathlib.Core.List.{List, [], ◌∷◌, ◌++◌, append_assoc, append-nil}
use native.Mathlib.Omega.{arith}
use lib.ListN.{length, get_or, set, length-set}
use lib.Seq.{set-get_or, get_or-set_same}
use Rattle.base.proofs.TestLaws.{pick_yes, eq_yes}
use Rattle.base.specs.Bytes.{number_at}
use Rattle.format.specs.Places.{action_white_at}
use Rattle.format.specs.Read.{action_at}
use Rattle.format.specs.Types.{Id, Action}
use Rattle.replication.specs.Machine.Types.{Log, Server}
use Rattle.replication.specs.Machine.White.{highest_white}
use Rattle.image.specs.Layout.{slot_size, the_own, at_own_count}
use Rattle.image.specs.Decode.{actions_at, decoded, decoded_as}
use Rattle.image.specs.Holding.{Holds, HoldsSome}
use Rattle.image.specs.Counts.{place}
use Rattle.image.proofs.Counts.{holds_counts}
use Rattle.image.proofs.InPlace.{holds_decoded}
use Rattle.replication.specs.Machine.Colours.{cut, next_index, is_next, enter, red, reds}
use Rattle.queue.proofs.EnterLaws.{first_leaves}

-- The actions of one creator, with the indexes from c + 1 on.
abbrev pub Following : ℕ → ℕ → List Action → Type 0
Following me c [] = Unit {0}
Following me c (a ∷ more) = (a.id ≡ record { creator = me; index = c + 1 }) × Following me (c + 1) more

set_twice : (l : List ℕ) (k u v : ℕ) → set (set l k u) k v ≡ set l k v
set_twice [] k u v = refl
set_twice (x ∷ l) zero u v = refl
set_twice (x ∷ l) (suc k) u v = ap (λ (m : List ℕ). x ∷ m) (set_twice l k u v)

-- One more of them, from the log with these parts.
module _ (me : ℕ) (green : List Action) (numbered sent : ℕ) where
  abbrev pub log : List Action → List ℕ → List Action → Log
  log r c o = record { green = green; red = r; cuts = c; own = o; numbered = numbered; sent = sent }

  first_entered : (a : Action) (more r : List Action) (c : List ℕ) → me < length c → a.id ≡ record { creator = me; index = get_or c me 0 + 1 }
      → red a (log r c (a ∷ more)) ≡ log (r ++ (a ∷ [])) (set c me (get_or c me 0 + 1)) more
  unfolding red is_next next_index enter cut
  first_entered a more r c h e =
      let creator : a.id.creator ≡ me = ap (λ (d : Id). d.creator) e in
      let index : a.id.index ≡ get_or c me 0 + 1 = ap (λ (d : Id). d.index) e in
      let next : is_next (log r c (a ∷ more)) a ≡ true = eq_yes a.id.index (get_or c a.id.creator 0 + 1) (index ∙ ap (λ (k : ℕ). get_or c k 0 + 1) (sym creator)) in
      sym (pick_yes (is_next (log r c (a ∷ more)) a) (enter a (log r c (a ∷ more))) (enter a (log r c (a ∷ more))) (log r c (a ∷ more)) next refl)
      ∙ (λ i. log (r ++ (a ∷ [])) (set c (creator i) (index i)) (first_leaves a.id a more refl i))

  pub all_entered : (own r : List Action) (c : List ℕ) → me < length c → Following me (get_or c me 0) own
      → reds own (log r c own) ≡ log (r ++ own) (set c me (get_or c me 0 + length own)) []
  unfolding reds
  all_entered [] r c h f =
      let more : get_or c me 0 ≡ get_or c me 0 + 0 = omega arith in
      let same : c ≡ set c me (get_or c me 0 + 0) = sym (set-get_or c me 0) ∙ ap (set c me) more in
      λ i. log (sym (append-nil r) i) (same i) []
  all_entered (a ∷ more) r c h f =
      let x : ℕ = get_or c me 0 in
      let c₁ : List ℕ = set c me (x + 1) in
      let now : get_or c₁ me 0 ≡ x + 1 = get_or-set_same c me (x + 1) 0 h in
      let sum : x + 1 + length more ≡ x + length (a ∷ more) = omega arith in
      let cuts : set c₁ me (get_or c₁ me 0 + length more) ≡ set c me (x + length (a ∷ more)) =
      ap (λ (k : ℕ). set c₁ me (k + length more)) now ∙ set_twice c me (x + 1) (x + 1 + length more) ∙ ap (set c me) sum in
      ap (reds more) (first_entered a more r c h f.0)
      ∙ all_entered more (r ++ (a ∷ [])) c₁ (omega (arith, length-set c me (x + 1))) (subst (λ (k : ℕ). Following me k more) (sym now) f.1)
      ∙ (λ i. log (append_assoc r (a ∷ []) more i) (cuts i) [])

-- ---- the highest white length on the own list

highest_more : (b : List ℕ) (at k m : ℕ) → k < m
    → highest_white (actions_at (m - k) b (at + slot_size * k))
    ≡ max (number_at 4 b (at + slot_size * k + action_white_at)) (highest_white (actions_at (m - (k + 1)) b (at + slot_size * (k + 1))))
unfolding actions_at highest_white action_at
highest_more b at k m h =
    let e : m - k ≡ suc (m - (k + 1)) = omega arith in
    let f : at + slot_size * (k + 1) ≡ at + slot_size * k + slot_size = omega arith in
    ap (λ (i : ℕ). highest_white (actions_at i b (at + slot_size * k))) e ∙ rw f

pub own_inside : (b : List ℕ) (at m : ℕ) → HoldsSome b → at ≡ place the_own b → m ≡ number_at 2 b at_own_count → at + slot_size * m ≤ length b
own_inside b at m h e f =
    let c = holds_counts h.state b h.holds in
    omega (arith, c.own_end, c.queue_end, c.own)

pub highest_start : (b : List ℕ) (at m : ℕ) → highest_white (actions_at m b at) ≡ max 0 (highest_white (actions_at (m - 0) b (at + slot_size * 0)))
highest_start b at m =
    let e : m - 0 ≡ m = omega arith in
    let f : at + slot_size * 0 ≡ at = omega arith in
    rw (e, f) (omega arith)

pub highest_again : (b : List ℕ) (at m k h x y w : ℕ) → k < m → x ≡ number_at 4 b (at + slot_size * k + action_white_at) → y ≡ max h x
    → w ≡ max h (highest_white (actions_at (m - k) b (at + slot_size * k)))
    → w ≡ max y (highest_white (actions_at (m - (k + 1)) b (at + slot_size * (k + 1))))
highest_again b at m k h x y w l e f g = omega (arith, highest_more b at k m l)

pub highest_end : (b : List ℕ) (at m k h : ℕ) → m ≤ k → at ≡ place the_own b → m ≡ number_at 2 b at_own_count
    → highest_white (actions_at m b at) ≡ max h (highest_white (actions_at (m - k) b (at + slot_size * k)))
    → (s : Server) → Holds s b → h ≡ highest_white s.log.own
unfolding highest_white actions_at decoded decoded_as place
highest_end b at m k h l e f g s r =
    let none : m - k ≡ 0 = omega arith in
    let rest : highest_white (actions_at (m - k) b (at + slot_size * k)) ≡ 0 = ap (λ (i : ℕ). highest_white (actions_at i b (at + slot_size * k))) none in
    let all : highest_white (actions_at m b at) ≡ h = omega (arith, g, rest) in
    sym all
    ∙ ap₂ {A = ℕ} {B = ℕ} {C = ℕ} (λ i j. highest_white (actions_at i b j)) f e
    ∙ ap (λ (t : Server). highest_white t.log.own) (holds_decoded s b r)
