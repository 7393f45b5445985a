-- Retransmissions taken in, in place.
use Prim.Native.Nat.{ℕ, ◌+◌, ◌≤◌, ◌<◌}
use mathlib.Core.Path.{◌≡◌, refl, sym, ap, ◌∙◌}
use mathlib.Core.Bool.{false}
use mathlib.Core.List.{List}
use native.Mathlib.Omega.{arith}
use lib.ListN.{length}
use Rattle.base.specs.Tests.{◌and◌, ◌≤?◌}
use Rattle.base.proofs.TestLaws.{Known, holds, fails, known, pick_no, and_yes, and_no, eq_no, le_yes, le_no, le_holds}
use Rattle.format.specs.Types.{Action}
use Rattle.record.specs.declared.ActionHead.{ActionHead}
use Rattle.record.specs.Values.{id_of, action_of}
use Rattle.replication.specs.Machine.Types.{Mode, Non_prim, Exchange_actions, Log, Server, with_log, in_mode}
use Rattle.replication.specs.Machine.Colours.{red, green}
use Rattle.replication.specs.Machine.Step.{placed, exchanged, one_more, all_come_of}
use Rattle.replication.proofs.Agreement.Lists.Placed.{placed_next, placed_below, placed_red}
use Rattle.image.specs.Image.{image}
use Rattle.image.specs.Header.{mode_number}
use Rattle.image.specs.Holding.{Holds, HoldsSuch, HoldsSome, Computes}
use Rattle.image.proofs.InPlace.{such_fact, holds_some}
use Rattle.queue.specs.Queue.{Placed, RoomIfNext}
use Rattle.queue.proofs.RedLaws.{room_if_next}
use Rattle.image.proofs.Chained.{chained, then_holds, numbers_then}
use Rattle.step.proofs.ExchangeStates.{placed_formed, non_prim_formed, more_formed, closed_formed, last_formed}
use Rattle.step.proofs.BlankLaws.{placed_begins, grown_holds}
use Rattle.step.specs.Events.{PlacedAt}

-- ---- one action, by its position

-- "any other is red"
placed_above : (k : ℕ) (a : Action) (l : Log) → (k ≡ length l.green + 1 → ⊥) → length l.green < k → placed k a l ≡ red a l
unfolding placed
placed_above k a l other high =
    sym
    (pick_no _ _ _ _ (eq_no k (length l.green + 1) other)
    (pick_no _ _ _ _ (sym (and_yes _ _ _ (le_yes 1 k (omega arith)) (sym (le_no k (length l.green) high)))) refl))

module _ (h : ActionHead) (p b : List ℕ) (k : ℕ) (m : HoldsSuch (PlacedAt k (action_of h p)) b) where
  held : (s : Server) → Holds s b → PlacedAt k (action_of h p) s
  held s r = such_fact (PlacedAt k (action_of h p)) b s m r

  module _ (x : ℕ) (e : Computes (λ s. length s.log.green) b x) where
    -- A position that is not green.
    other : (s : Server) → Holds s b → (1 ≤ k → x < k) → (1 ≤? k and k ≤? length s.log.green) ≡ false
    other s r f = go (known (1 ≤? k))
      where
        go : Known (1 ≤? k) → (1 ≤? k and k ≤? length s.log.green) ≡ false
        go (holds y) = sym (and_yes _ _ _ y (sym (le_no _ _ (omega (arith, f (le_holds 1 k y), e s r)))))
        go (fails y) = sym (and_no _ _ y)

    placed_there : (1 ≤ k → x < k) → (s : Server) → Holds s b → Placed s (action_of h p)
    placed_there f s r = (held s r).room (other s r f)

    pub next_such : k ≡ x + 1 → HoldsSuch (λ s. Placed s (action_of h p)) b
    next_such f = record { state = m.state; holds = m.holds; fact = placed_there (λ y. omega (arith, f)) m.state m.holds }

    room : (1 ≤ k → x < k) → RoomIfNext h.creator h.index (length p) b
    unfolding action_of id_of
    room f = room_if_next m.state (action_of h p) b m.holds (placed_there f m.state m.holds)

    pub zero_room : k ≡ 0 → RoomIfNext h.creator h.index (length p) b
    zero_room f = room (λ y. omega (arith, f))

    pub above_room : x < k → RoomIfNext h.creator h.index (length p) b
    above_room f = room (λ y. f)

    made : (s : Server) (l : Log) (c : List ℕ) → c ≡ image (with_log l s) b → placed k (action_of h p) s.log ≡ l
        → c ≡ image (with_log (placed k (action_of h p) s.log) s) b
    made s l c f g = f ∙ ap (λ (y : Log). image (with_log y s) b) (sym g)

    pub place_next : (c : List ℕ) → k ≡ x + 1
        → ((s : Server) → Holds s b → Placed s (action_of h p) → c ≡ image (with_log (green (action_of h p) s.log) s) b)
        → (s : Server) → Holds s b → c ≡ image (with_log (placed k (action_of h p) s.log) s) b
    place_next c f g s r =
        made s (green (action_of h p) s.log) c (g s r (placed_there (λ y. omega (arith, f)) s r))
        (placed_next k (action_of h p) s.log (omega (arith, f, e s r)))

    pub place_zero : (c : List ℕ) → k ≡ 0
        → ((s : Server) → Holds s b → Placed s (action_of h p) → c ≡ image (with_log (red (action_of h p) s.log) s) b)
        → (s : Server) → Holds s b → c ≡ image (with_log (placed k (action_of h p) s.log) s) b
    place_zero c f g s r =
        made s (red (action_of h p) s.log) c (g s r (placed_there (λ y. omega (arith, f)) s r)) (placed_red k (action_of h p) s.log f)

    pub place_above : (c : List ℕ) → (k ≡ x + 1 → ⊥) → x < k
        → ((s : Server) → Holds s b → Placed s (action_of h p) → c ≡ image (with_log (red (action_of h p) s.log) s) b)
        → (s : Server) → Holds s b → c ≡ image (with_log (placed k (action_of h p) s.log) s) b
    place_above c n f g s r =
        made s (red (action_of h p) s.log) c (g s r (placed_there (λ y. f) s r))
        (placed_above k (action_of h p) s.log (λ z. n (omega (arith, z, e s r))) (omega (arith, f, e s r)))

    pub place_below : (k ≡ 0 → ⊥) → k ≤ x → (s : Server) → Holds s b → b ≡ image (with_log (placed k (action_of h p) s.log) s) b
    place_below n f s r =
        made s s.log b (sym r.written) (placed_below k (action_of h p) s.log (omega (arith, n)) (omega (arith, f, e s r)))

-- ---- one more has come

module _ (h : ActionHead) (p b c : List ℕ) (k : ℕ)
    (f : (s : Server) → Holds s b → c ≡ image (with_log (placed k (action_of h p) s.log) s) b) where
  abbrev after : Server → Server
  after s = with_log (placed k (action_of h p) s.log) s

  placed_holds : (s : Server) → Holds s b → PlacedAt k (action_of h p) s → Holds (after s) c
  placed_holds s r d =
      grown_holds s (placed k (action_of h p) s.log) b c r (f s r) (placed_formed s r.formed k (action_of h p) d)
      (placed_begins k (action_of h p) s.log)

  abbrev pub More : Server → Type 0
  More s = PlacedAt k (action_of h p) s × (s.membership.mode ≡ Exchange_actions) × (all_come_of (one_more s) ≡ false)

  pub more_some : HoldsSuch More b → HoldsSome c
  more_some m = holds_some (after m.state) c (placed_holds m.state m.holds m.fact.0)

  pub more_taken : (d : List ℕ) → HoldsSuch More b → ((t : Server) → Holds t c → d ≡ image (one_more t) c) → (s : Server) → Holds s b
      → d ≡ image (exchanged k (action_of h p) s) b
  unfolding exchanged one_more
  more_taken d m g s r =
      let a : Action = action_of h p in
      let y : More s = such_fact More b s m r in
      chained s (after s) (exchanged k a s) b r (placed_formed s r.formed k a y.0) (more_formed s r.formed y.1 k a y.0 y.2)
      (numbers_then s (after s) (exchanged k a s) (refl, refl) (refl, refl) refl refl refl refl) c d (f s r)
      (g (after s) (placed_holds s r y.0))

  abbrev pub Last : Server → Type 0
  Last s = PlacedAt k (action_of h p) s × (s.membership.mode ≡ Exchange_actions)

  pub last_such : HoldsSuch Last b → HoldsSuch (λ s. s.membership.mode ≡ Exchange_actions) c
  last_such m = record { state = after m.state; holds = placed_holds m.state m.holds m.fact.0; fact = m.fact.1 }

  pub last_taken : (d : List ℕ) → HoldsSuch Last b → ((t : Server) → Holds t c → d ≡ image (one_more (in_mode Non_prim t)) c) → (s : Server) → Holds s b
      → d ≡ image (in_mode Non_prim (exchanged k (action_of h p) s)) b
  unfolding exchanged one_more
  last_taken d m g s r =
      let a : Action = action_of h p in
      let y : Last s = such_fact Last b s m r in
      chained s (after s) (in_mode Non_prim (exchanged k a s)) b r (placed_formed s r.formed k a y.0)
      (last_formed s r.formed y.1 k a y.0)
      (numbers_then s (after s) (in_mode Non_prim (exchanged k a s)) (refl, refl) (refl, refl) refl refl refl refl) c d (f s r)
      (g (after s) (placed_holds s r y.0))

-- ---- to Non_prim, then one more

module _ (b c : List ℕ) (f : (s : Server) (o : Mode) → Holds s b → 0 ≡ mode_number o → c ≡ image (in_mode o s) b) where
  pub left : (s : Server) → Holds s b → c ≡ image (in_mode Non_prim s) b
  unfolding mode_number
  left s r = f s Non_prim r refl

  pub left_holds : (s : Server) → Holds s b → Holds (in_mode Non_prim s) c
  left_holds s r = then_holds s (in_mode Non_prim s) b c r (left s r) refl refl (non_prim_formed s r.formed) r.blank

  module _ (m : HoldsSuch (λ s. s.membership.mode ≡ Exchange_actions) b) where
    pub left_some : HoldsSome c
    left_some = holds_some (in_mode Non_prim m.state) c (left_holds m.state m.holds)

    pub closed : (d : List ℕ) → ((t : Server) → Holds t c → d ≡ image (one_more t) c) → (s : Server) → Holds s b
        → d ≡ image (one_more (in_mode Non_prim s)) b
    unfolding one_more
    closed d g s r =
        chained s (in_mode Non_prim s) (one_more (in_mode Non_prim s)) b r (non_prim_formed s r.formed)
        (closed_formed s r.formed (such_fact (λ x. x.membership.mode ≡ Exchange_actions) b s m r))
        (numbers_then s (in_mode Non_prim s) (one_more (in_mode Non_prim s)) (refl, refl) (refl, refl) refl refl refl refl) c d (left s r)
        (g (in_mode Non_prim s) (left_holds s r))
