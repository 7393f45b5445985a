-- What it says that bytes are read as a record, or refused.
use Prim.Native.Nat.{ℕ}
use mathlib.Core.Path.{◌≡◌, refl, sym, ap, ◌∙◌}
use mathlib.Core.Bool.{Bool, true, false}
use mathlib.Core.List.{List}
use mathlib.Core.Logic.{◌⊎◌, inl, inr}
use mathlib.Core.Option.{Option, none, some}
use native.Mathlib.Omega.{arith}
use Rattle.base.specs.Tests.{◌=?◌, pick}
use Rattle.base.proofs.TestLaws.{pick_yes, eq_holds}
use Rattle.base.specs.Bytes.{number_at}
use Rattle.format.specs.Places.{at_kind}
use Rattle.format.specs.Types.{Record, Kind, of_action, of_retransmission, of_state, of_cpc, of_regular, of_transitional, of_request, of_recovery, kind_number, kind_of, Context, Reading, says, refused}
use Rattle.format.specs.Range.{record_ok}
use Rattle.format.specs.Read.{kind_named, frame_ok, record_in, read_as, read}

-- ---- a reading under a test

pub says_refused : {A X : Type 0} (a : A) (k : ℕ) → says a ≡ refused k → X
says_refused a k h = let z : ◌≡◌ {A = ℕ} 0 1 = cc in absurd (omega arith)

pub says_same : {A : Type 0} (a b : A) → says a ≡ says b → a ≡ b
says_same a b h = cc

pub says_checked : {A : Type 0} (t : Bool) (x : Reading A) (k : ℕ) (a : A) → pick t x (refused k) ≡ says a → (t ≡ true) × (x ≡ says a)
unfolding pick
says_checked true x k a h = (refl, h)
says_checked false x k a h = says_refused a k (sym h)

pub refused_checked : {A X : Type 0} (t : Bool) (x : Reading A) (k m : ℕ) → pick t x (refused k) ≡ refused m → (x ≡ refused m → X) → (m ≡ k → X) → X
unfolding pick
refused_checked true x k m h f g = f h
refused_checked false x k m h f g = let e : m ≡ k = cc in g e

-- ---- kinds

pub kind_named_lem : (k : Kind) → kind_named (kind_number k) ≡ some k
unfolding kind_named kind_number pick ◌=?◌
kind_named_lem of_action = refl
kind_named_lem of_retransmission = refl
kind_named_lem of_state = refl
kind_named_lem of_cpc = refl
kind_named_lem of_regular = refl
kind_named_lem of_transitional = refl
kind_named_lem of_request = refl
kind_named_lem of_recovery = refl

one_kind : (m : ℕ) (j k : Kind) (rest : Option Kind) → (rest ≡ some k → kind_number k ≡ m) → pick (m =? kind_number j) (some j) rest ≡ some k → kind_number k ≡ m
unfolding pick
one_kind m j k rest f = go (m =? kind_number j) (eq_holds m (kind_number j))
  where
    go : (t : Bool) → (t ≡ true → m ≡ kind_number j) → pick t (some j) rest ≡ some k → kind_number k ≡ m
    go true e h = let same : k ≡ j = cc in ap kind_number same ∙ sym (e refl)
    go false e h = f h

no_kind : (m : ℕ) (k : Kind) → none ≡ some k → kind_number k ≡ m
no_kind m k h = let z : ◌≡◌ {A = ℕ} 0 1 = cc in absurd (omega arith)

pub kind_number_lem : (m : ℕ) (k : Kind) → kind_named m ≡ some k → kind_number k ≡ m
unfolding kind_named
kind_number_lem m k =
    one_kind m of_action k _
    (one_kind m of_retransmission k _
    (one_kind m of_state k _
    (one_kind m of_cpc k _
    (one_kind m of_regular k _
    (one_kind m of_transitional k _
    (one_kind m of_request k _
    (one_kind m of_recovery k _ (no_kind m k))))))))

pub record-kind : (k : Kind) (n : ℕ) (e : List ℕ) → kind_of (record_in k n e) ≡ k
unfolding kind_of record_in
record-kind of_action n e = refl
record-kind of_retransmission n e = refl
record-kind of_state n e = refl
record-kind of_cpc n e = refl
record-kind of_regular n e = refl
record-kind of_transitional n e = refl
record-kind of_request n e = refl
record-kind of_recovery n e = refl

-- ---- a good reading, and a refusal

-- What it says that e is read as r.
pub record Read (c : Context) (e : List ℕ) (r : Record) : Type 0 where
  pub kind : Kind
  pub named : kind_named (number_at 1 e at_kind) ≡ some kind
  pub frame : frame_ok kind c.servers e ≡ true
  pub same : record_in kind c.servers e ≡ r
  pub range : record_ok c r ≡ true

pub read_says : (c : Context) (e : List ℕ) (r : Record) → Read c e r → read c e ≡ says r
unfolding read read_as
read_says c e r x =
    ap (λ (k : Option Kind). read_as k c e) x.named
    ∙ sym
    (pick_yes _ (says r) _ _ x.frame
    (pick_yes _ (says r) _ _ (ap (record_ok c) x.same ∙ x.range) (ap says (sym x.same))))

pub says_read : (c : Context) (e : List ℕ) (r : Record) → read c e ≡ says r → Read c e r
unfolding read read_as
says_read c e r h = go (kind_named (number_at 1 e at_kind)) refl h
  where
    go : (k : Option Kind) → kind_named (number_at 1 e at_kind) ≡ k → read_as k c e ≡ says r → Read c e r
    go none p h = says_refused r 1 (sym h)
    go (some k) p h =
        let framed = says_checked (frame_ok k c.servers e) _ 1 r h in
        let ranged = says_checked (record_ok c (record_in k c.servers e)) _ 2 r framed.1 in
        let same : record_in k c.servers e ≡ r = says_same _ _ ranged.1 in
        record { kind = k; named = p; frame = framed.0; same = same; range = ap (record_ok c) (sym same) ∙ ranged.0 }

pub read_in_range : (c : Context) (e : List ℕ) (r : Record) → read c e ≡ says r → record_ok c r ≡ true
read_in_range c e r h = (says_read c e r h).range

pub refusal_number : (c : Context) (e : List ℕ) (k : ℕ) → read c e ≡ refused k → (k ≡ 1) ⊎ (k ≡ 2)
unfolding read read_as
refusal_number c e m h = go (kind_named (number_at 1 e at_kind)) h
  where
    go : (k : Option Kind) → read_as k c e ≡ refused m → (m ≡ 1) ⊎ (m ≡ 2)
    go none h = let one : m ≡ 1 = cc in inl one
    go (some k) h =
        refused_checked (frame_ok k c.servers e) _ 1 m h
        (λ g. refused_checked (record_ok c (record_in k c.servers e)) _ 2 m g (λ f. says_refused _ m f) (λ two. inr two))
        (λ one. inl one)
