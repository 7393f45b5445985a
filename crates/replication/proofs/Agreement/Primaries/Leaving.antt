-- How far the members of a primary component's configuration get: they agree; who leaves from Trans_prim has it all, green or yellow; and if anyone leaves
-- otherwise, without going down, nobody gets further than the Install.
use Prim.Native.Nat.{ℕ, suc, ◌≤◌, ◌<◌}
use mathlib.Core.Path.{◌≡◌, refl, sym, ap, subst, ◌∙◌}
use mathlib.Core.List.{List, [], ◌++◌}
use mathlib.Core.Logic.{◌⊎◌, inl, inr}
use native.Mathlib.Omega.{arith}
use native.Mathlib.Decide.{dec_lt}
use lib.ListN.{length}
use Rattle.base.proofs.Comparable.{Comparable, begins_behind, begins_map}
use Rattle.base.specs.Lists.{Begins}
use Rattle.base.proofs.TestLaws.{not_both}
use Rattle.format.specs.Types.{Action, action, regular}
use Rattle.replication.specs.Machine.Types.{Mode, Trans_prim, Un, Configuration, Membership}
use Rattle.replication.specs.Machine.WellFormed.{ids_in}
use Rattle.replication.specs.Laws.Folds.{cuts_after, entered}
use Rattle.replication.specs.Runs.Run.{Run, place_at}
use Rattle.replication.specs.Runs.Happenings.{is_message, Comes, Falls, Takes, Left}
use Rattle.replication.proofs.Runs.Roomy.{Roomy as Allowed}
use Rattle.replication.proofs.Runs.DeliveryFacts.{within, within_regular}
use Rattle.replication.proofs.Step.Folds.{entered_append}
use Rattle.replication.proofs.Runs.AllowedTurns.{memory_at}
use Rattle.replication.proofs.Runs.Shifts.{changes, unchanging}
use Rattle.replication.proofs.Runs.DeliveryLists.{within_holds}
use Rattle.replication.proofs.Runs.Entries.{had}
use Rattle.replication.proofs.Runs.Memberships as M
use Rattle.replication.proofs.Runs.Memberships.{Joinable, MembershipStep}
use Rattle.replication.proofs.Runs.Progress.{stay_member}
use Rattle.replication.proofs.Runs.Sending.{regular_acts}
use Rattle.replication.proofs.Runs.Stays.{membership_at, placed_up, acts_membership}
use Rattle.replication.proofs.Agreement.Terms.{InstallsAt}
use Rattle.replication.proofs.Agreement.Exchange.Leaving.{none_leaves_late}
use Rattle.replication.proofs.Step.Apart.{mode_number, other_mode}
use Rattle.replication.proofs.Agreement.Exchange.Stages.{InCom}
use Rattle.replication.proofs.Agreement.Primaries.Acted.{acted_grows, acted_still, acted_whole, acted_agreement, acted_left}
use Rattle.replication.proofs.Agreement.Primaries.Installed.{AfterInstall, in_regular_lem, in_transitional, after_install, none_settled, MemberPhase, not_yet, installed, member_phase}
use Rattle.replication.proofs.Agreement.Primaries.Terms.{begins_nothing, base, cuts_of, regularly, in_com}

-- More delivered actions, more entered ones.
pub entered_begins : (g : List Action) (cuts : List ℕ) (x y : List Action) → Begins x y → Begins (g ++ entered cuts x) (g ++ entered cuts y)
unfolding Begins
entered_begins g cuts x y h = begins_behind g (entered cuts x) (entered cuts y) (entered (cuts_after cuts x) h.0, ap (entered cuts) h.1 ∙ entered_append cuts x h.0)

-- Who takes a regular configuration was in one of four states.
regular_joins : {n : ℕ} {m o : Membership} {i s : ℕ} → MembershipStep n m (regular i s) o → (x : Mode) × (m.mode ≡ x) × Joinable x
unfolding is_message
regular_joins {n = n} {m = m} {i = i} {s = s} (M.attempts _ o x5 _) = elim x5 [ ]
regular_joins {n = n} {m = m} {i = i} {s = s} (M.settles _ o x6 _) = elim x6 [ ]
regular_joins (M.ignores r e f) = not_both e
regular_joins (M.joins c x e j) = (x, e, j)

module _ {n q : ℕ} {l : Run} (A : Allowed n q l) where
  -- What the member d has by p, of an Install with these green list and cuts.
  abbrev pub reached : Configuration → List Action → List ℕ → ℕ → ℕ → List Action
  reached c g cuts d p = g ++ entered cuts (regularly A c d p)

  -- Any two members agree, at any two moments.
  pub reached_comparable : (c : Configuration) (g : List Action) (cuts : List ℕ) (d e p r : ℕ) → Comparable (reached c g cuts d p) (reached c g cuts e r)
  unfolding Comparable
  reached_comparable c g cuts d e p r = go (acted_agreement A c d e p r)
    where
      go : Comparable (regularly A c d p) (regularly A c e r) → Comparable (reached c g cuts d p) (reached c g cuts e r)
      go (inl h) = inl (entered_begins g cuts _ _ h)
      go (inr h) = inr (entered_begins g cuts _ _ h)

  -- ---- leaving

  left_by_lem : {r j : ℕ} {c d : Configuration} → InCom n q l r j c → Takes n q l r j d → (x : Left n q l j c) × (x.r ≤ r)
  left_by_lem {r} {j} {c} {d} here t =
      let h = had n q l r j c here in
      (record { p = h.took_at; r = r; next = d; took = h.took; took_next = t; order = h.earlier; steady = h.steady }, omega arith)

  -- Who leaves has delivered in com(c) all actions that anyone delivers in regular c.
  pub leaves_with : {r j : ℕ} {c d : Configuration} → InCom n q l r j c → Takes n q l r j d → (k p : ℕ) → Begins (regularly A c k p) (in_com A c j r)
  leaves_with {r} {j} {c} here t k p = let x = left_by_lem here t in acted_left A c k j p r x.0 x.1

  -- Who leaves from Trans_prim has all that any member has reached, green or yellow.
  pub leaves_with_all : {u s i j r : ℕ} {c d : Configuration} (x : InstallsAt n q l u i c) (y : InstallsAt n q l s j c) → base A x ≡ base A y → cuts_of A x ≡ cuts_of A y
      → s < r → InCom n q l r j c → Takes n q l r j d → (membership_at n q l r j).mode ≡ Trans_prim → (k p : ℕ)
      → Begins (ids_in (reached c (base A x) (cuts_of A x) k p)) (ids_in (memory_at n q l r j).log.green ++ (memory_at n q l r j).votes.yellow.ids)
  unfolding mode_number ids_in
  leaves_with_all {u} {s} {i} {j} {r} {c} {d} x y e f h here t m k p = go (after_install A y r h here)
    where
      all : Begins (ids_in (reached c (base A x) (cuts_of A x) k p)) (ids_in (base A y ++ entered (cuts_of A y) (in_com A c j r)))
      all = subst (λ g. Begins (ids_in (reached c (base A x) (cuts_of A x) k p)) (ids_in (g ++ entered (cuts_of A y) (in_com A c j r)))) e
          (subst (λ z. Begins (ids_in (reached c (base A x) (cuts_of A x) k p)) (ids_in (base A x ++ entered z (in_com A c j r)))) f
          (begins_map (λ a. a.id) _ _ (entered_begins (base A x) (cuts_of A x) _ _ (leaves_with here t k p))))

      go : AfterInstall A y r → Begins (ids_in (reached c (base A x) (cuts_of A x) k p)) (ids_in (memory_at n q l r j).log.green ++ (memory_at n q l r j).votes.yellow.ids)
      go (in_regular_lem z) = other_mode z.mode m (λ w. omega arith)
      go (in_transitional z) = subst (λ w. Begins (ids_in (reached c (base A x) (cuts_of A x) k p)) w) (sym z.ids) all

  -- Who leaves otherwise leaves from Un, and has delivered no action in com(c); so nobody has in regular c.
  pub leaves_from_un : {u i j r : ℕ} {c d : Configuration} (x : InstallsAt n q l u i c) → InCom n q l r j c → Takes n q l r j d
      → ((membership_at n q l r j).mode ≡ Trans_prim → ⊥) → ((membership_at n q l r j).mode ≡ Un) × (in_com A c j r ≡ [])
  unfolding mode_number
  leaves_from_un {u} {i} {j} {r} {c} {d} x here t f = (un, none_delivered (member_phase A x r j here))
    where
      joinable : (m : Mode) × ((membership_at n q l r j).mode ≡ m) × Joinable m
      joinable =
          let a = regular_acts A r j d t in
          regular_joins (subst (λ e. MembershipStep n (membership_at n q l r j) e (membership_at n q l (suc r) j)) a.1 (acts_membership A r j a.0))

      from : (m : Mode) → (membership_at n q l r j).mode ≡ m → Joinable m → (membership_at n q l r j).mode ≡ Un
      from m e M.from_non_prim = absurd (none_settled A x r j here e)
      from m e M.from_trans_prim = absurd (f e)
      from m e M.from_no =
          absurd (none_leaves_late A u r i j c d x (stay_member A j r c here).1 (record { up = placed_up A r j c here; here = here }) t e)
      from m e M.from_un = e

      un : (membership_at n q l r j).mode ≡ Un
      un = from joinable.0 joinable.1 joinable.2

      none_delivered : MemberPhase A r j c → in_com A c j r ≡ []
      none_delivered (not_yet e k) = k
      none_delivered (installed v b y (in_regular_lem z)) = other_mode z.mode un (λ w. omega arith)
      none_delivered (installed v b y (in_transitional z)) = absurd (f z.mode)

  pub leaves_with_none : {u i j r : ℕ} {c d : Configuration} (x : InstallsAt n q l u i c) → InCom n q l r j c → Takes n q l r j d
      → ((membership_at n q l r j).mode ≡ Trans_prim → ⊥) → (k p : ℕ) → regularly A c k p ≡ []
  leaves_with_none {u} {i} {j} {r} {c} x here t f k p =
      begins_nothing _ (subst (λ z. Begins (regularly A c k p) z) (leaves_from_un x here t f).1 (leaves_with here t k p))

  -- ---- falling

  -- Nothing comes to a server in com(c) after a fall there.
  pub still_after_fall : (p d : ℕ) (c : Configuration) → InCom n q l p d c → Falls n q l p d → (r : ℕ) → p ≤ r → in_com A c d r ≡ in_com A c d p
  unfolding changes
  still_after_fall p d c here f r h = acted_still A (within c) d p r h (λ z a b e y k. none_at z b y (within_holds c (place_at n q l d z) k) (dec_lt p z))
    where
      none_at : (z : ℕ) {a : Action} → p ≤ z → Comes n q l z d (action a) → InCom n q l z d c → Dec (p < z) → ⊥
      none_at z b y k (yes e) =
          let v = had n q l z d c k in
          let w = had n q l p d c here in
          v.steady p (omega (arith, w.earlier, A.allowed.once v.took_at w.took_at d c v.took w.took)) e f
      none_at z b y k (no e) = let s : p ≡ z = omega arith in unchanging refl y (subst (λ w. Falls n q l w d) s f)

  -- Who falls in com(c) had installed there, or never delivers an action there.
  pub falls_after : {u i : ℕ} {c : Configuration} (x : InstallsAt n q l u i c) (p d : ℕ) → InCom n q l p d c → Falls n q l p d
      → ((s : ℕ) × (s < p) × InstallsAt n q l s d c) ⊎ ((r : ℕ) → in_com A c d r ≡ [])
  falls_after {u} {i} {c} x p d here f = go (member_phase A x p d here)
    where
      never : in_com A c d p ≡ [] → (r : ℕ) → Dec (r < p) → in_com A c d r ≡ []
      never k r (yes h) = begins_nothing _ (subst (λ z. Begins (in_com A c d r) z) k (acted_grows A (within c) d r p (omega arith)))
      never k r (no h) = still_after_fall p d c here f r (omega arith) ∙ k

      go : MemberPhase A p d c → ((s : ℕ) × (s < p) × InstallsAt n q l s d c) ⊎ ((r : ℕ) → in_com A c d r ≡ [])
      go (not_yet e k) = inr (λ r. never k r (dec_lt r p))
      go (installed s b y h) = inl (s, b, y)

  -- ---- green lists in the primary component

  module _ {u i : ℕ} {c : Configuration} (x : InstallsAt n q l u i c) (p : ℕ) (h : u < p) (here : InCom n q l p i c) where
    pub green_reached : (memory_at n q l p i).log.green ≡ reached c (base A x) (cuts_of A x) i p
    green_reached = go (after_install A x p h here)
      where
        go : AfterInstall A x p → (memory_at n q l p i).log.green ≡ reached c (base A x) (cuts_of A x) i p
        go (in_regular_lem z) = z.green
        go (in_transitional z) = z.green

    -- They begin what the server reaches in the whole run.
    pub green_whole : Begins (memory_at n q l p i).log.green (reached c (base A x) (cuts_of A x) i (length l))
    green_whole =
        subst (λ g. Begins g (reached c (base A x) (cuts_of A x) i (length l))) (sym green_reached)
        (entered_begins (base A x) (cuts_of A x) _ _ (acted_whole A (within_regular c) i p))
    -- ---- stores
