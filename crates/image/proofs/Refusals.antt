-- Document 01, 'Returned numbers', rows 7 and 8: what the step over the buffers gives where a buffer is short or no image reads.
use Prim.Native.Nat.{ℕ, ◌≤◌}
use mathlib.Core.Path.{◌≡◌, refl, sym, ap, subst, ◌∙◌}
use mathlib.Core.Bool.{Bool, true, false}
use mathlib.Core.List.{List}
use mathlib.Core.Option.{Option, none, some}
use native.Mathlib.Omega.{arith}
use lib.ListN.{length}
use Rattle.base.specs.Tests.{◌=?◌, pick}
use Rattle.base.proofs.TestLaws.{pick_yes, pick_no, and_holds, or_fails, eq_holds, eq_fails, lt_no, lt_fails, Known, holds, fails, known}
use Rattle.format.specs.Range.{sizes_ok, context_ok}
use Rattle.replication.specs.Machine.Types.{Server, context_of}
use Rattle.replication.specs.Machine.Step.{step}
use Rattle.replication.specs.Machine.WellFormed.{ranges, well_formed}
use Rattle.image.specs.Layout.{state_length, out_length}
use Rattle.image.specs.Decode.{decoded_as, decoded, servers_in, quota_in, reads, read_image}
use Rattle.image.specs.Outcome.{refusal, state_short, out_short, too_short, image_after, result_of, step_from, step_on, state_number, image_number}
use Rattle.image.proofs.ImageLaws.{image_read, image_reads}
use Rattle.image.specs.Holding.{Holds}
use Rattle.image.proofs.InPlace.{read_holds}
use Rattle.image.proofs.Counts.{numbers}

-- Both buffers are as before.
pub short_refused : (b e o : List ℕ) → too_short b o ≡ true → step_on b e o ≡ refusal 7 b o
unfolding step_on
short_refused b e o h = sym (pick_yes (too_short b o) (refusal 7 b o) _ _ h refl)

unread : (b : List ℕ) → reads b ≡ false → read_image b ≡ none
unfolding read_image
unread b h = sym (pick_no (reads b) none _ _ h refl)

pub unread_refused : (b e o : List ℕ) → too_short b o ≡ false → reads b ≡ false → step_on b e o ≡ refusal 8 b o
unfolding step_on step_from
unread_refused b e o h k =
    sym (pick_no (too_short b o) (refusal 8 b o) _ _ h (sym (ap (λ (x : Option Server). step_from x b e o) (unread b k))))

-- The step of the state that is read.
pub step_read : (b e o : List ℕ) (s : Server) → too_short b o ≡ false → read_image b ≡ some s → step_on b e o ≡ result_of (image_after s e) (step s e) b o
unfolding step_on step_from
step_read b e o s h k =
    sym (pick_no (too_short b o) (result_of (image_after s e) (step s e) b o) _ _ h (sym (ap (λ (x : Option Server). step_from x b e o) k)))

-- ---- the number of a pair of buffers, and of the state's alone

-- 7 where t, else 8 where not u, else 0.
module _ (t u : Bool) where
  abbrev chosen : ℕ
  chosen = pick t 7 (pick u 0 8)

  seven : t ≡ true → chosen ≡ 7
  seven h = sym (pick_yes t 7 _ _ h refl)

  eight : t ≡ false → u ≡ false → chosen ≡ 8
  eight h k = sym (pick_no t 8 _ _ h (pick_no u 8 _ _ k refl))

  neither : t ≡ false → u ≡ true → chosen ≡ 0
  neither h k = sym (pick_no t 0 _ _ h (pick_yes u 0 _ _ k refl))

  -- 0 exactly where neither applies.
  neither_holds : chosen ≡ 0 → (t ≡ false) × (u ≡ true)
  neither_holds z = go (known t) (known u)
    where
      go : Known t → Known u → (t ≡ false) × (u ≡ true)
      go (holds h) k = absurd (omega (arith, seven h))
      go (fails h) (holds k) = (h, k)
      go (fails h) (fails k) = absurd (omega (arith, eight h k))

pub number_short : (b o : List ℕ) → too_short b o ≡ true → state_number b o ≡ 7
unfolding state_number
number_short b o h = seven (too_short b o) (reads b) h

pub number_unread : (b o : List ℕ) → too_short b o ≡ false → reads b ≡ false → state_number b o ≡ 8
unfolding state_number
number_unread b o h k = eight (too_short b o) (reads b) h k

pub number_read : (b o : List ℕ) → too_short b o ≡ false → reads b ≡ true → state_number b o ≡ 0
unfolding state_number
number_read b o h k = neither (too_short b o) (reads b) h k

pub zero_read : (b o : List ℕ) → state_number b o ≡ 0 → (too_short b o ≡ false) × (reads b ≡ true)
unfolding state_number
zero_read b o z = neither_holds (too_short b o) (reads b) z

pub image_short : (b : List ℕ) → state_short b ≡ true → image_number b ≡ 7
unfolding image_number
image_short b h = seven (state_short b) (reads b) h

pub image_unread : (b : List ℕ) → state_short b ≡ false → reads b ≡ false → image_number b ≡ 8
unfolding image_number
image_unread b h k = eight (state_short b) (reads b) h k

pub image_whole : (b : List ℕ) → state_short b ≡ false → reads b ≡ true → image_number b ≡ 0
unfolding image_number
image_whole b h k = neither (state_short b) (reads b) h k

pub whole_read : (b : List ℕ) → image_number b ≡ 0 → (state_short b ≡ false) × (reads b ≡ true)
unfolding image_number
whole_read b z = neither_holds (state_short b) (reads b) z

-- The step of buffers whose number is not 0 is their refusal.
pub step_refused : (b e o : List ℕ) → (state_number b o ≡ 0 → ⊥) → step_on b e o ≡ refusal (state_number b o) b o
step_refused b e o z = go (known (too_short b o)) (known (reads b))
  where
    go : Known (too_short b o) → Known (reads b) → step_on b e o ≡ refusal (state_number b o) b o
    go (holds h) k = short_refused b e o h ∙ ap (λ (m : ℕ). refusal m b o) (sym (number_short b o h))
    go (fails h) (holds k) = absurd (z (number_read b o h k))
    go (fails h) (fails k) = unread_refused b e o h k ∙ ap (λ (m : ℕ). refusal m b o) (sym (number_unread b o h k))

-- ---- buffers whose number is 0

pub formed_sizes : (s : Server) → well_formed s ≡ true → sizes_ok s.servers s.quota ≡ true
unfolding well_formed ranges context_ok context_of
formed_sizes s ok = (and_holds _ _ (and_holds _ _ (and_holds _ _ ok).0).0).0

-- Sizes in range: the formulas for them decide.
module _ (b : List ℕ) (sizes : sizes_ok (servers_in b) (quota_in b) ≡ true) where
  pub state_long : state_short b ≡ false → state_length (servers_in b) (quota_in b) ≤ length b
  unfolding state_short
  state_long h = lt_fails (length b) (state_length (servers_in b) (quota_in b)) (pick_yes (sizes_ok (servers_in b) (quota_in b)) _ _ _ sizes refl ∙ h)

  out_long : (o : List ℕ) → out_short b o ≡ false → out_length (servers_in b) (quota_in b) ≤ length o
  unfolding out_short
  out_long o h = lt_fails (length o) (out_length (servers_in b) (quota_in b)) (pick_yes (sizes_ok (servers_in b) (quota_in b)) _ _ _ sizes refl ∙ h)

module _ (b : List ℕ) (z : reads b ≡ true) where
  reads_some : read_image b ≡ some (decoded b)
  unfolding read_image
  reads_some = sym (pick_yes (reads b) (some (decoded b)) _ _ z refl)

  reads_sizes : sizes_ok (servers_in b) (quota_in b) ≡ true
  unfolding decoded decoded_as
  reads_sizes = formed_sizes (decoded b) (image_read b (decoded b) reads_some).1

  -- A buffer that is long enough and reads holds what it says.
  pub reads_holds : state_short b ≡ false → Holds (decoded b) b
  unfolding decoded decoded_as
  reads_holds h = read_holds (decoded b) b reads_some (state_long b reads_sizes h)

pub whole_holds : (b : List ℕ) → image_number b ≡ 0 → Holds (decoded b) b
whole_holds b z = let r = whole_read b z in reads_holds b r.1 r.0

-- The other way round: a buffer that holds a state is long enough and reads.
module _ (s : Server) (b : List ℕ) (h : Holds s b) where
  held_sizes : sizes_ok (servers_in b) (quota_in b) ≡ true
  held_sizes = (λ i. sizes_ok ((numbers s b h).servers i) ((numbers s b h).quota i)) ∙ formed_sizes s h.formed

  pub holds_long : state_short b ≡ false
  unfolding state_short
  holds_long =
      let formula : state_length (servers_in b) (quota_in b) ≡ state_length s.servers s.quota =
      λ i. state_length ((numbers s b h).servers i) ((numbers s b h).quota i) in
      sym (pick_yes (sizes_ok (servers_in b) (quota_in b)) false _ _ held_sizes (sym (lt_no (length b) (state_length (servers_in b) (quota_in b)) (omega (arith, h.long)))))

  pub holds_out_long : (o : List ℕ) → out_length s.servers s.quota ≤ length o → out_short b o ≡ false
  unfolding out_short
  holds_out_long o room =
      let formula : out_length (servers_in b) (quota_in b) ≡ out_length s.servers s.quota =
      λ i. out_length ((numbers s b h).servers i) ((numbers s b h).quota i) in
      sym (pick_yes (sizes_ok (servers_in b) (quota_in b)) false _ _ held_sizes (sym (lt_no (length o) (out_length (servers_in b) (quota_in b)) (omega arith))))

  pub holds_whole : image_number b ≡ 0
  holds_whole = image_whole b holds_long (subst (λ (x : List ℕ). reads x ≡ true) h.written (image_reads s b h.formed h.long))

-- Both buffers are long enough for the state, and the first holds its image.
pub record Ready (s : Server) (b o : List ℕ) : Type 0 where
  pub read : read_image b ≡ some s
  pub image : Holds s b
  pub room : out_length s.servers s.quota ≤ length o

pub zero_ready : (b o : List ℕ) → state_number b o ≡ 0 → Ready (decoded b) b o
unfolding too_short decoded decoded_as
zero_ready b o z =
    let r = zero_read b o z in
    let long = or_fails (state_short b) (out_short b o) r.0 in
    record { read = reads_some b r.1; image = reads_holds b r.1 long.0; room = out_long b (reads_sizes b r.1) o long.1 }

-- The state's own number is 0 too.
pub zero_whole : (b o : List ℕ) → state_number b o ≡ 0 → image_number b ≡ 0
unfolding too_short
zero_whole b o z = let r = zero_read b o z in image_whole b (or_fails (state_short b) (out_short b o) r.0).0 r.1

-- The step's answer by the number of its buffers: the machine's step of the state that they hold where it is 0, and else the refusal with it.
pub step_by_number : (b e o : List ℕ) → step_on b e o ≡ pick (state_number b o =? 0) (result_of (image_after (decoded b) e) (step (decoded b) e) b o) (refusal (state_number b o) b o)
step_by_number b e o = go (known (state_number b o =? 0))
  where
    go : Known (state_number b o =? 0) → step_on b e o ≡ pick (state_number b o =? 0) (result_of (image_after (decoded b) e) (step (decoded b) e) b o) (refusal (state_number b o) b o)
    go (holds h) =
        let z : state_number b o ≡ 0 = eq_holds (state_number b o) 0 h in
        pick_yes (state_number b o =? 0) (step_on b e o) _ _ h (step_read b e o (decoded b) (zero_read b o z).0 (zero_ready b o z).read)
    go (fails h) = pick_no (state_number b o =? 0) (step_on b e o) _ _ h (step_refused b e o (eq_fails (state_number b o) 0 h))
