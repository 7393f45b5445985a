-- No white length and no noted one is above the green length that a server has stored.
use Prim.Native.Nat.{ℕ, zero, suc, ◌≤◌, ◌<◌}
use mathlib.Core.Path.{◌≡◌, sym, ap, subst}
use mathlib.Core.List.{List, Memᴰ}
use native.Mathlib.Omega.{arith}
use lib.ListN.{length, get_or}
use Rattle.base.proofs.TestLaws.{pick_either}
use Rattle.base.proofs.Prefixes.{begins_length}
use Rattle.base.proofs.Chains.{strong}
use Rattle.format.specs.Types.{Action}
use Rattle.replication.specs.Machine.Types.{Server, start, with_white}
use Rattle.replication.specs.Images.{started}
use Rattle.replication.specs.Laws.Images.{OfBoth}
use Rattle.replication.specs.Runs.Run.{Run, beginning, world_at}
use Rattle.replication.proofs.Runs.Roomy.{Roomy as Allowed}
use Rattle.replication.proofs.Runs.Places.{world_at_start}
use Rattle.replication.proofs.Runs.AllowedTurns.{memory_at, store_at, AllowedTurn, rests, crashes, saves, refuses, recovers, acts, allowed_turn}
use Rattle.replication.proofs.Runs.ControlPart.{store_grows_between}
use Rattle.replication.proofs.Runs.LogActions.{carried, each_in}
use Rattle.replication.proofs.Runs.Made.{Made, made_by, carried_made, all_made}
use Rattle.replication.proofs.Agreement.Greens.Taking.{takes_stored}
use Rattle.replication.proofs.Agreement.Whites.Times.{Sources, WhiteFrom, kept, by_body, by_noted, NotedFrom, as_before, by_action, by_end}

module _ {n q : ℕ} {l : Run} (A : Allowed n q l) (L : Sources A) where
  -- The green length that k has stored at p.
  abbrev pub stored_length : ℕ → ℕ → ℕ
  stored_length k p = length (store_at n q l p k).log.green

  pub stored_rises : (k p r : ℕ) → p ≤ r → stored_length k p ≤ stored_length k r
  stored_rises k p r h = begins_length _ _ (store_grows_between n q l k p r h).greens

  pub record Within (p : ℕ) (s : Server) : Type 0 where
    pub white : (k : ℕ) → k < n → s.white ≤ stored_length k p
    pub noted : (k : ℕ) → k < n → get_or s.noted k 0 ≤ stored_length k p

  within_later : (p r : ℕ) (s : Server) → p ≤ r → Within p s → Within r s
  within_later p r s h x =
      record { white = λ k j. omega (arith, x.white k j, stored_rises k p r h); noted = λ k j. omega (arith, x.noted k j, stored_rises k p r h) }

  abbrev AllWithin : ℕ → Type 0
  AllWithin p = (i : ℕ) → OfBoth (Within p) ((world_at n q l p).images i)

  -- What a made body says.
  pub record Says (p : ℕ) (a : Action) : Type 0 where
    pub white : (k : ℕ) → k < n → a.white_length ≤ stored_length k p
    pub green : a.green_length ≤ stored_length a.id.creator p

  says : {p : ℕ} {a : Action} → ((x : ℕ) → x < p → AllWithin x) → Made A p a → Says p a
  says {p} {a} h x =
      record {
        white = λ k j. omega (arith, L.made_white x, (h x.place x.earlier x.server).memory.white k j, stored_rises k x.place p (omega (arith, x.earlier)));
        green =
            omega (arith, L.made_green x, ap (λ k. stored_length k (suc x.place)) (made_by A x), stored_rises a.id.creator (suc x.place) p x.earlier);
      }

  within_next : (p i : ℕ) → ((x : ℕ) → x ≤ p → AllWithin x) → AllowedTurn n q l p i → OfBoth (Within (suc p)) ((world_at n q l (suc p)).images i)
  within_next p i h t = go t
    where
      before : OfBoth (Within (suc p)) ((world_at n q l p).images i)
      before =
          let b = h p (omega arith) i in
          record { memory = within_later p (suc p) _ (omega arith) b.memory; store = within_later p (suc p) _ (omega arith) b.store }

      same : (world_at n q l (suc p)).images i ≡ (world_at n q l p).images i → OfBoth (Within (suc p)) ((world_at n q l (suc p)).images i)
      same m = subst (OfBoth (Within (suc p))) (sym m) before

      said : (a : Action) → Made A p a → Says p a
      said a x = says (λ y j. h y (omega arith)) x

      noted : (s t : Server) (bs : List Action) (k : ℕ) → k < n → Within (suc p) s → ((b : Action) → Memᴰ b bs → Made A p b) → NotedFrom A p i k s t bs
          → get_or t.noted k 0 ≤ stored_length k (suc p)
      noted s t bs k j o f (as_before e) = omega (arith, o.noted k j)
      noted s t bs k j o f (by_action b m e g) =
          omega (arith, o.noted k j, (said b (f b m)).green, ap (λ z. stored_length z p) e, stored_rises k p (suc p) (omega arith))
      noted s t bs k j o f (by_end c y e u v g) =
          omega (arith, o.noted k j, ap (λ z. length z.log.green) (takes_stored A u), stored_rises k (suc y) (suc p) (omega arith))

      white : (s t : Server) (bs : List Action) → Within (suc p) s → ((k : ℕ) → k < n → get_or t.noted k 0 ≤ stored_length k (suc p))
          → ((b : Action) → Memᴰ b bs → Made A p b) → WhiteFrom A s t bs → (k : ℕ) → k < n → t.white ≤ stored_length k (suc p)
      white s t bs o v f (kept e) k j = omega (arith, o.white k j)
      white s t bs o v f (by_body b m e) k j = omega (arith, (said b (f b m)).white k j, stored_rises k p (suc p) (omega arith))
      white s t bs o v f (by_noted e) k j = omega (arith, e k j, v k j)

      go : AllowedTurn n q l p i → OfBoth (Within (suc p)) ((world_at n q l (suc p)).images i)
      go (rests o m c d) = same m
      go (crashes x m c d) = same m
      go (saves x m c d u) = subst (OfBoth (Within (suc p))) (sym m) (record { memory = before.memory; store = before.memory })
      go (refuses x) = same x.images_next
      go (recovers x) =
          let v : (k : ℕ) → k < n → get_or (memory_at n q l (suc p) i).noted k 0 ≤ stored_length k (suc p) =
          λ k j. omega (arith, L.recovers_noted p i k x, before.store.noted k j) in
          let r : Within (suc p) (memory_at n q l (suc p) i) =
          record {
            white = white _ _ _ before.store v (λ b m. each_in (Made A p) (store_at n q l p i).log.own (all_made A p i).store.own b m) (L.recovers_white p i x);
            noted = v;
          } in
          record { memory = r; store = subst (Within (suc p)) (sym (L.recovers_stores p i x)) r }
      go (acts x) =
          let f : (b : Action) → Memᴰ b (carried x.by.event) → Made A p b =
          λ b m. each_in (Made A p) (carried x.by.event)
          (carried_made A p i (λ y j. all_made A y) x.by.event (record { bytes = x.bytes; sent = x.sent; here = x.here; heard = x.heard })) b m in
          let v : (k : ℕ) → k < n → get_or (memory_at n q l (suc p) i).noted k 0 ≤ stored_length k (suc p) =
          λ k j. noted _ _ _ k j before.memory f (L.acts_noted p i k x j) in
          let r : Within (suc p) (memory_at n q l (suc p) i) = record { white = white _ _ _ before.memory v f (L.acts_white p i x); noted = v } in
          record {
            memory = r;
            store =
                subst (Within (suc p)) (sym x.store_next)
                (pick_either (Within (suc p)) x.stores (with_white x.white x.after) (store_at n q l p i) (subst (Within (suc p)) x.memory_next r) before.store);
          }

  -- W1 and W2, for both images of every server.
  pub within : (p i : ℕ) → OfBoth (Within p) ((world_at n q l p).images i)
  unfolding beginning started
  within = strong AllWithin (λ p h. go p h)
    where
      first : (i : ℕ) → Within 0 (start n q i)
      first i = record { white = λ k j. omega (arith, L.start_white i); noted = λ k j. omega (arith, L.start_noted i k) }

      go : (p : ℕ) → ((x : ℕ) → x < p → AllWithin x) → AllWithin p
      go zero h i = subst (λ z. OfBoth (Within 0) (z.images i)) (sym (world_at_start n q l)) (record { memory = first i; store = first i })
      go (suc p) h i = within_next p i (λ x j. h x (omega arith)) (allowed_turn A p i)

  -- B1.
  pub made_says : {p : ℕ} {a : Action} → Made A p a → Says p a
  made_says {p} {a} x = says (λ y j. within y) x

  -- What is white behind an entry of the run was green in every store before it.
  module _ (p i k : ℕ) (j : k < n) where
    noted_before : (s t : Server) (bs : List Action) → get_or s.noted k 0 ≤ stored_length k p → ((b : Action) → Memᴰ b bs → Made A p b)
        → NotedFrom A p i k s t bs → get_or t.noted k 0 ≤ stored_length k p
    noted_before s t bs o f (as_before e) = omega arith
    noted_before s t bs o f (by_action b m e g) = omega (arith, (made_says (f b m)).green, ap (λ z. stored_length z p) e)
    noted_before s t bs o f (by_end c y e u v g) =
        omega (arith, ap (λ z. length z.log.green) (takes_stored A u), stored_rises k (suc y) p (omega arith))

    white_from : (s t : Server) (bs : List Action) → s.white ≤ stored_length k p → get_or t.noted k 0 ≤ stored_length k p
        → ((b : Action) → Memᴰ b bs → Made A p b) → WhiteFrom A s t bs → t.white ≤ stored_length k p
    white_from s t bs o v f (kept e) = omega arith
    white_from s t bs o v f (by_body b m e) = omega (arith, (made_says (f b m)).white k j)
    white_from s t bs o v f (by_noted e) = omega (arith, e k j)

    pub white_before : AllowedTurn n q l p i → (memory_at n q l (suc p) i).white ≤ stored_length k p
    white_before = go
      where
        now : OfBoth (Within p) ((world_at n q l p).images i)
        now = within p i

        same : (world_at n q l (suc p)).images i ≡ (world_at n q l p).images i → (memory_at n q l (suc p) i).white ≤ stored_length k p
        same m = omega (arith, ap (λ z. z.memory.white) m, now.memory.white k j)

        go : AllowedTurn n q l p i → (memory_at n q l (suc p) i).white ≤ stored_length k p
        go (rests o m c d) = same m
        go (crashes x m c d) = same m
        go (saves x m c d u) = omega (arith, ap (λ z. z.memory.white) m, now.memory.white k j)
        go (refuses x) = same x.images_next
        go (recovers x) =
            white_from _ _ _ (now.store.white k j) (omega (arith, L.recovers_noted p i k x, now.store.noted k j))
            (λ b m. each_in (Made A p) (store_at n q l p i).log.own (all_made A p i).store.own b m) (L.recovers_white p i x)
        go (acts x) =
            let f : (b : Action) → Memᴰ b (carried x.by.event) → Made A p b =
            λ b m. each_in (Made A p) (carried x.by.event)
            (carried_made A p i (λ y z. all_made A y) x.by.event (record { bytes = x.bytes; sent = x.sent; here = x.here; heard = x.heard })) b m in
            white_from _ _ _ (now.memory.white k j) (noted_before _ _ _ (now.memory.noted k j) f (L.acts_noted p i k x j)) f (L.acts_white p i x)
