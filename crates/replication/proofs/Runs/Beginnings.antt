-- A beginning of a run: what stands at its places is what stands there in the whole run.
use Prim.Native.Nat.{ℕ, suc, ◌≤◌, ◌<◌}
use mathlib.Core.Path.{◌≡◌, refl, sym, ap, subst, ◌∙◌}
use mathlib.Core.List.{List}
use mathlib.Core.Option.{Option, none, some}
use native.Mathlib.Omega.{arith}
use native.Mathlib.Decide.{dec_lt}
use lib.ListN.{length, take}
use lib.Seq.{take-take}
use Rattle.base.specs.Lists.{at}
use Rattle.base.proofs.AtLaws.{at_take, at_in_take, at_past_take}
use Rattle.format.specs.Types.{Record}
use Rattle.replication.specs.Machine.Types.{Configuration}
use Rattle.replication.specs.Images.{arrive}
use Rattle.replication.specs.Runs.Run.{Entry, event, crash, store, Run, beginning, world_through, nowhere, heard, place_through, records_of, world_at, place_at, heard_at, put_out_by, put_out, sent_by, sent_at}
use Rattle.replication.specs.Runs.Happenings.{Message, Configured, Happening, Of, Crashes, Comes, Falls, by_crash, by_recovery, Left, Sends, Delivers, Configures, to_regular, to_transitional, Passes, Causes, in_turn_lem, sends, in_order, before_next, carries, through, Precedes, causes, after_all, before_all, along}
use Rattle.replication.proofs.Runs.Places.{sent_past}

module _ (n q : ℕ) (l : Run) (k : ℕ) where
  pub world_in : (p : ℕ) → p ≤ k → world_at n q (take k l) p ≡ world_at n q l p
  unfolding world_at
  world_in p h = ap (world_through (beginning n q)) (take-take p k l h)

  pub place_in_lem : (i p : ℕ) → p ≤ k → place_at n q (take k l) i p ≡ place_at n q l i p
  unfolding place_at
  place_in_lem i p h = ap (place_through n q i nowhere) (take-take p k l h)

  pub heard_in : (p i : ℕ) (e : List ℕ) → p ≤ k → heard_at n q (take k l) p i e ≡ heard_at n q l p i e
  unfolding heard_at
  heard_in p i e h = ap (λ c. heard n q i c e) (place_in_lem i p h)

  put_out_by_in : (p : ℕ) (x : Option Entry) → p ≤ k → put_out_by n q (take k l) p x ≡ put_out_by n q l p x
  unfolding put_out_by
  put_out_by_in p none h = refl
  put_out_by_in p (some (crash i)) h = refl
  put_out_by_in p (some (store i)) h = refl
  put_out_by_in p (some (event i e m)) h = ap (λ w. records_of (arrive (w.images i) e)) (world_in p h)

  pub put_out_in : (p : ℕ) → p < k → put_out n q (take k l) p ≡ put_out n q l p
  unfolding put_out
  put_out_in p h = put_out_by_in p (at (take k l) p) (omega arith) ∙ ap (put_out_by n q l p) (at_take k l p h)

  sent_by_in : (p : ℕ) (x : Option Entry) → p < k → sent_by n q (take k l) p x ≡ sent_by n q l p x
  unfolding sent_by
  sent_by_in p none h = refl
  sent_by_in p (some (crash i)) h = refl
  sent_by_in p (some (store i)) h = refl
  sent_by_in p (some (event i e m)) h = ap (take m) (put_out_in p h)

  pub sent_in_lem : (p : ℕ) → p < k → sent_at n q (take k l) p ≡ sent_at n q l p
  unfolding sent_at
  sent_in_lem p h = sent_by_in p (at (take k l) p) h ∙ ap (sent_by n q l p) (at_take k l p h)

  pub sent_whole : (p x : ℕ) → x < length (sent_at n q (take k l) p) → x < length (sent_at n q l p)
  sent_whole p x h = go (dec_lt p k)
    where
      go : Dec (p < k) → x < length (sent_at n q l p)
      go (yes a) = subst (λ s. x < length s) (sent_in_lem p a) h
      go (no a) = absurd (omega (arith, ap length (sent_past n q (take k l) p (at_past_take k l p (omega arith)))))

  -- ---- from the beginning to the whole: what happens in it happens, at a place below k

  pub of_whole : {p i : ℕ} → Of (take k l) p i → Of l p i
  of_whole {p} x = record { entry = x.entry; here = (at_in_take k l p _ x.here).1; its = x.its }

  pub of_low : {p i : ℕ} → Of (take k l) p i → p < k
  of_low {p} x = (at_in_take k l p _ x.here).0

  pub comes_low : {p i : ℕ} {r : Record} → Comes n q (take k l) p i r → p < k
  comes_low {p} x = (at_in_take k l p _ x.here).0

  pub comes_whole : {p i : ℕ} {r : Record} → Comes n q (take k l) p i r → Comes n q l p i r
  comes_whole {p} {i} x =
      let h = at_in_take k l p _ x.here in
      record { bytes = x.bytes; sent = x.sent; here = h.1; heard = sym (heard_in p i x.bytes (omega (arith, h.0))) ∙ x.heard }

  -- ---- from the whole to the beginning

  pub of_in : {p i : ℕ} → p < k → Of l p i → Of (take k l) p i
  of_in {p} h x = record { entry = x.entry; here = at_take k l p h ∙ x.here; its = x.its }

  pub crash_in : (p i : ℕ) → p < k → Crashes l p i → Crashes (take k l) p i
  crash_in p i h x = at_take k l p h ∙ x

  pub comes_in : {p i : ℕ} {r : Record} → p < k → Comes n q l p i r → Comes n q (take k l) p i r
  comes_in {p} {i} h x = record { bytes = x.bytes; sent = x.sent; here = at_take k l p h ∙ x.here; heard = heard_in p i x.bytes (omega arith) ∙ x.heard }

  pub falls_in_lem : {p i : ℕ} → p < k → Falls n q l p i → Falls n q (take k l) p i
  falls_in_lem {p} {i} h (by_crash x) = by_crash (crash_in p i h x)
  falls_in_lem h (by_recovery x) = by_recovery (comes_in h x)

  -- ---- longer pieces

  pub left_whole : {i : ℕ} {c : Configuration} → Left n q (take k l) i c → Left n q l i c
  left_whole x =
      record {
        p = x.p;
        r = x.r;
        next = x.next;
        took = comes_whole x.took;
        took_next = comes_whole x.took_next;
        order = x.order;
        steady = λ z a b f. x.steady z a b (falls_in_lem (omega (arith, comes_low x.took_next)) f);
      }

  pub left_low : {i : ℕ} {c : Configuration} (x : Left n q (take k l) i c) → (left_whole x).r < k
  unfolding left_whole
  left_low x = comes_low x.took_next

  pub sends_whole : {i : ℕ} {m : Message} {c : Configuration} → Sends n q (take k l) i m c → Sends n q l i m c
  sends_whole {i} {m} x =
      let h = of_low x.mine in
      record {
        mine = of_whole x.mine;
        out = subst (λ s. m.number < length s) (sent_in_lem m.sending h) x.out;
        under = sym (ap (λ c. c.regular) (place_in_lem i (suc m.sending) h)) ∙ x.under;
      }

  pub sends_in_lem : {i : ℕ} {m : Message} {c : Configuration} → m.sending < k → Sends n q l i m c → Sends n q (take k l) i m c
  sends_in_lem {i} {m} h x =
      record {
        mine = of_in h x.mine;
        out = subst (λ s. m.number < length s) (sym (sent_in_lem m.sending h)) x.out;
        under = ap (λ c. c.regular) (place_in_lem i (suc m.sending) h) ∙ x.under;
      }

  module _ (source : ℕ → Message) (name : ℕ → ℕ) where
    pub delivers_low : {p i : ℕ} {m : Message} → Delivers n q (take k l) source name p i m → p < k
    delivers_low x = comes_low x.comes

    pub delivers_whole : {p i : ℕ} {m : Message} → Delivers n q (take k l) source name p i m → Delivers n q l source name p i m
    delivers_whole x = record { what = x.what; comes = comes_whole x.comes; message = x.message; which = x.which }

    pub delivers_in : {p i : ℕ} {m : Message} → p < k → Delivers n q l source name p i m → Delivers n q (take k l) source name p i m
    delivers_in h x = record { what = x.what; comes = comes_in h x.comes; message = x.message; which = x.which }

    pub configures_low : {p i : ℕ} {c : Configured} → Configures n q (take k l) source name p i c → p < k
    configures_low (to_regular c x) = comes_low x
    configures_low (to_transitional s x) = comes_low x

    pub configures_whole : {p i : ℕ} {c : Configured} → Configures n q (take k l) source name p i c → Configures n q l source name p i c
    configures_whole (to_regular c x) = to_regular c (comes_whole x)
    configures_whole (to_transitional s x) = to_transitional s (comes_whole x)

    pub configures_in : {p i : ℕ} {c : Configured} → p < k → Configures n q l source name p i c → Configures n q (take k l) source name p i c
    configures_in h (to_regular c x) = to_regular c (comes_in h x)
    configures_in h (to_transitional s x) = to_transitional s (comes_in h x)

    pub passes_whole : {i : ℕ} {c d : Configured} {p r : ℕ} → Passes n q (take k l) source name i c d p r → Passes n q l source name i c d p r
    passes_whole x =
        let h = configures_low x.to in
        record {
          from = configures_whole x.from;
          to = configures_whole x.to;
          order = x.order;
          steady = λ z a b f. x.steady z a b (falls_in_lem (omega arith) f);
          direct = λ z e a b f. x.direct z e a b (configures_in (omega arith) f);
        }

    pub causes_whole : {a b : Happening} → Causes n q (take k l) source name a b → Causes n q l source name a b
    causes_whole (in_turn_lem i x y h) = in_turn_lem i (of_whole x) (of_whole y) h
    causes_whole (sends m h) = sends m (sent_whole m.sending m.number h)
    causes_whole (in_order m m' e h g) = in_order m m' e h (sent_whole m'.sending m'.number g)
    causes_whole (before_next i m b x y h) = before_next i m (sent_whole m.sending m.number b) (of_whole x) (of_whole y) h
    causes_whole (carries i m d) = carries i m (delivers_whole d)
    causes_whole (through x y) = through (causes_whole x) (causes_whole y)

    pub precedes_whole : {a b : Happening} → Precedes n q (take k l) source name a b → Precedes n q l source name a b
    precedes_whole (causes x) = causes (causes_whole x)
    precedes_whole (after_all i j c x y z) = after_all i j c (configures_whole x) (configures_whole y) (precedes_whole z)
    precedes_whole (before_all i j c x y z) = before_all i j c (configures_whole x) (configures_whole y) (precedes_whole z)
    precedes_whole (along x y) = along (precedes_whole x) (precedes_whole y)
