-- Whether buffers are long enough, whether the state's buffer reads, and the number of both.
use Prim.Native.Nat.{ℕ, ◌≤◌, ◌<◌}
use mathlib.Core.Path.{◌≡◌, refl, sym, ap, subst, ◌∙◌}
use mathlib.Core.Bool.{Bool, true, false, not}
use mathlib.Core.List.{List}
use native.Mathlib.Omega.{arith}
use lib.Dec.{ltb}
use lib.ListN.{length}
use borrow.Author.Tests.{not-true, not-false}
use Rattle.base.specs.Tests.{◌<?◌, pick}
use Rattle.base.proofs.TestLaws.{pick_yes, pick_no, and_no, lt_fails, Known, holds, fails, known}
use Rattle.base.proofs.Branches.{told_lt, or_yes, or_no}
use Rattle.base.specs.Bytes.{Bytes, number_at}
use Rattle.base.specs.Lists.{sum}
use Rattle.format.specs.Limits.{fewest_servers_limit, least_quota_limit}
use Rattle.format.specs.Range.{sizes_ok, context_ok}
use Rattle.record.specs.Context.{context_of, reading_context}
use Rattle.record.specs.declared.Context.{Context}
use Rattle.record.specs.declared.State.{State}
use Rattle.replication.specs.Machine.Types.{context_of as context_of_state}
use Rattle.replication.specs.Machine.WellFormed.{ranges, well_formed}
use Rattle.format.proofs.Ranges.{sizes_range}
use Rattle.image.specs.Layout.{SizesIn, sections, state_length, out_length, least_state_length, least_out_length, header_size, at_servers, at_quota}
use Rattle.image.specs.Header.{header_in}
use Rattle.image.specs.Decode.{servers_in, quota_in, decoded_as, decoded, reads}
use Rattle.image.specs.Outcome.{state_short, out_short, too_short, state_number, image_number}
use Rattle.image.proofs.Refusals.{image_short, image_unread, image_whole, number_short, number_unread, number_read}
use Rattle.state_check.specs.Checks.{sizes_in_range, context_in, checks_of, checks}
use Rattle.state_check.proofs.ReadsLaw.{reads_are_checks}

-- ---- a buffer without a header

long_state : (n q : ℕ) → header_size ≤ state_length n q
unfolding state_length sections sum
long_state n q = omega arith

-- A buffer that is long enough has a header.
pub header_long : (b : List ℕ) → state_short b ≡ false → header_size ≤ length b
unfolding state_short least_state_length
header_long b h = go (known (sizes_ok (servers_in b) (quota_in b)))
  where
    go : Known (sizes_ok (servers_in b) (quota_in b)) → header_size ≤ length b
    go (holds e) =
        let l = lt_fails (length b) (state_length (servers_in b) (quota_in b)) (pick_yes (sizes_ok (servers_in b) (quota_in b)) _ _ _ e refl ∙ h) in
        omega (arith, long_state (servers_in b) (quota_in b))
    go (fails e) =
        let l = lt_fails (length b) (state_length fewest_servers_limit least_quota_limit) (pick_no (sizes_ok (servers_in b) (quota_in b)) _ _ _ e refl ∙ h) in
        omega (arith, long_state fewest_servers_limit least_quota_limit)

pub brief_short : (b : List ℕ) → length b < header_size → true ≡ state_short b
brief_short b h = go (known (state_short b))
  where
    go : Known (state_short b) → true ≡ state_short b
    go (holds e) = sym e
    go (fails e) = absurd (omega (arith, header_long b e))

-- ---- measured by the sizes in the state, or by the least ones

module _ (b : List ℕ) (n q : ℕ) (e : n ≡ number_at 1 b at_servers) (f : q ≡ number_at 2 b at_quota) (t : Bool) (g : t ≡ sizes_ok n q) where
  same_sizes : sizes_in_range b ≡ t
  unfolding servers_in quota_in
  same_sizes = sym (g ∙ (λ i. sizes_ok (e i) (f i)))

  pub own_servers : t ≡ true → n ≡ pick (sizes_in_range b) (servers_in b) 2
  unfolding servers_in
  own_servers h = pick_yes (sizes_in_range b) n _ _ (same_sizes ∙ h) e

  pub own_quota : t ≡ true → q ≡ pick (sizes_in_range b) (quota_in b) 1
  unfolding quota_in
  own_quota h = pick_yes (sizes_in_range b) q _ _ (same_sizes ∙ h) f

  pub own_sizes : t ≡ true → SizesIn n q
  own_sizes h = let r = sizes_range n q (sym g ∙ h) in record { servers = r.most; quota = r.highest }

  pub least_servers : t ≡ false → 2 ≡ pick (sizes_in_range b) (servers_in b) 2
  least_servers h = pick_no (sizes_in_range b) 2 _ _ (same_sizes ∙ h) refl

  pub least_quota : t ≡ false → 1 ≡ pick (sizes_in_range b) (quota_in b) 1
  least_quota h = pick_no (sizes_in_range b) 1 _ _ (same_sizes ∙ h) refl

of_both : (F : ℕ → ℕ → Bool) (t : Bool) (m n p q : ℕ) → F (pick t m n) (pick t p q) ≡ pick t (F m p) (F n q)
unfolding pick
of_both F true m n p q = refl
of_both F false m n p q = refl

module _ (b : List ℕ) (n q : ℕ) (e : n ≡ pick (sizes_in_range b) (servers_in b) 2) (f : q ≡ pick (sizes_in_range b) (quota_in b) 1) (x : ℕ) where
  pub state_measured : x ≡ state_length n q → ltb (length b) x ≡ state_short b
  unfolding state_short least_state_length
  state_measured k =
      told_lt (length b) x
      ∙ ap (λ (m : ℕ). length b <? m) k
      ∙ (λ i. length b <? state_length (e i) (f i))
      ∙ of_both (λ m p. length b <? state_length m p) (sizes_in_range b) (servers_in b) 2 (quota_in b) 1

  pub out_measured : (o : List ℕ) → x ≡ out_length n q → ltb (length o) x ≡ out_short b o
  unfolding out_short least_out_length
  out_measured o k =
      told_lt (length o) x
      ∙ ap (λ (m : ℕ). length o <? m) k
      ∙ (λ i. length o <? out_length (e i) (f i))
      ∙ of_both (λ m p. length o <? out_length m p) (sizes_in_range b) (servers_in b) 2 (quota_in b) 1

-- ---- whether it reads

no_context : (b : List ℕ) → sizes_in_range b ≡ false → false ≡ reads b
unfolding reads well_formed ranges context_of_state context_ok decoded decoded_as
no_context b g = and_no _ _ (sym (and_no _ _ (sym (and_no _ _ (sym (and_no _ _ g))))))

module _ (b : List ℕ) (s : state_short b ≡ false) (h : State) (e : h ≡ header_in b) (t : Bool) (f : t ≡ sizes_ok h.servers h.quota) where
  sizes_told : sizes_in_range b ≡ t
  unfolding servers_in quota_in header_in
  sizes_told = sym (f ∙ ap (λ (x : State). sizes_ok x.servers x.quota) e)

  pub sizes_unread : t ≡ false → false ≡ reads b
  sizes_unread g = no_context b (sizes_told ∙ g)

  module _ (g : t ≡ true) where
    long_enough : state_length (servers_in b) (quota_in b) ≤ length b
    unfolding state_short
    long_enough = lt_fails (length b) (state_length (servers_in b) (quota_in b)) (pick_yes (sizes_in_range b) _ _ _ (sizes_told ∙ g) refl ∙ s)

    pub context_long : (c : Context) → c ≡ reading_context h → state_length c.servers c.quota ≤ length b
    unfolding reading_context servers_in quota_in header_in
    context_long c p =
        subst (λ (y : Context). state_length y.servers y.quota ≤ length b) (sym p)
        (subst (λ (y : State). state_length y.servers y.quota ≤ length b) (sym e) long_enough)

    pub read_told : Bytes b → (v : Bool) (c : Context) → c ≡ reading_context h → v ≡ checks_of (context_of c) h b → v ≡ reads b
    unfolding checks context_in
    read_told y v c p w =
        w
        ∙ (λ i. checks_of (context_of (p i)) h b)
        ∙ ap (λ (x : State). checks_of (context_of (reading_context x)) x b) e
        ∙ sym (reads_are_checks b y long_enough)

-- ---- the numbers

module _ (b : List ℕ) (t : Bool) (e : t ≡ state_short b) where
  pub header_told : t ≡ false → header_size ≤ length b
  header_told h = header_long b (sym e ∙ h)

  pub image_brief : t ≡ true → 7 ≡ image_number b
  image_brief h = sym (image_short b (sym e ∙ h))

  module _ (h : t ≡ false) (v : Bool) (r : v ≡ reads b) where
    pub image_bad : not v ≡ true → 8 ≡ image_number b
    image_bad k = sym (image_unread b (sym e ∙ h) (sym r ∙ not-true v k))

    pub image_good : not v ≡ false → 0 ≡ image_number b
    image_good k = sym (image_whole b (sym e ∙ h) (sym r ∙ not-false v k))

-- Of both buffers.
module _ (b o : List ℕ) (t : Bool) (e : t ≡ state_short b) where
  pub state_brief : t ≡ true → 7 ≡ state_number b o
  unfolding too_short
  state_brief h = sym (number_short b o (sym (or_yes (state_short b) (out_short b o) (sym e ∙ h))))

  module _ (h : t ≡ false) (u : Bool) (f : u ≡ out_short b o) where
    by_out : too_short b o ≡ u
    unfolding too_short
    by_out = sym (or_no u (state_short b) (out_short b o) (sym e ∙ h) f)

    pub out_brief : u ≡ true → 7 ≡ state_number b o
    out_brief k = sym (number_short b o (by_out ∙ k))

    module _ (k : u ≡ false) (v : Bool) (r : v ≡ reads b) where
      pub both_bad : v ≡ false → 8 ≡ state_number b o
      both_bad g = sym (number_unread b o (by_out ∙ k) (sym r ∙ g))

      pub both_good : v ≡ true → 0 ≡ state_number b o
      both_good g = sym (number_read b o (by_out ∙ k) (sym r ∙ g))
