-- An outcome of the machine over both buffers, of its parts.
use Prim.Native.Nat.{ℕ}
use mathlib.Core.Path.{◌≡◌, ap, ◌∙◌}
use mathlib.Core.Bool.{true}
use mathlib.Core.List.{List, map}
use lib.ListN.{length}
use Rattle.format.specs.Types.{Record}
use Rattle.format.specs.Write.{write, record_bytes}
use Rattle.base.specs.Bytes.{joined, over}
use Rattle.replication.specs.Machine.Types.{Server}
use Rattle.replication.specs.Machine.Step.{quiet, stored, sent, in_bytes}
use Rattle.replication.specs.Machine.WellFormed.{well_formed}
use Rattle.image.specs.Image.{image}
use Rattle.image.specs.Outcome.{result_of, word}
use Rattle.image.specs.Holding.{Holds}
use Rattle.image.proofs.Chained.{Covers, image_over}
use Rattle.step.specs.declared.Answer.{Answer}
use Rattle.step.specs.Answers.{answered, outcome_on, quietly, stored_first, sent_only}

module _ (s t : Server) (rs : List Record) (b o b₁ o₁ : List ℕ) (m : ℕ) (r : Answer) where
  pub stored_outcome : r ≡ stored_first m → b₁ ≡ image t b → m ≡ length (record_bytes rs) → o₁ ≡ over (record_bytes rs) o
      → answered r b₁ o₁ ≡ outcome_on (stored s t rs) b o
  unfolding answered outcome_on stored in_bytes result_of word record_bytes
  stored_outcome e f g h =
      ap (λ (a : Answer). answered a b₁ o₁) e ∙ (λ i. record { number = 0; store = 1; sent = g i; state = f i; out = h i })

  pub sent_outcome : r ≡ sent_only m → b₁ ≡ image t b → m ≡ length (record_bytes rs) → o₁ ≡ over (record_bytes rs) o
      → answered r b₁ o₁ ≡ outcome_on (sent s t rs) b o
  unfolding answered outcome_on sent in_bytes result_of word record_bytes
  sent_outcome e f g h =
      ap (λ (a : Answer). answered a b₁ o₁) e ∙ (λ i. record { number = 0; store = 0; sent = g i; state = f i; out = h i })

pub quiet_outcome : (s t : Server) (b o b₁ : List ℕ) (r : Answer) → r ≡ quietly → b₁ ≡ image t b → answered r b₁ o ≡ outcome_on (quiet s t) b o
unfolding answered outcome_on quiet in_bytes result_of word joined over
quiet_outcome s t b o b₁ r e f =
    ap (λ (a : Answer). answered a b₁ o) e ∙ (λ i. record { number = 0; store = 0; sent = 0; state = f i; out = o })

-- ---- over other bytes

module _ (s u : Server) (rs : List Record) (b c o : List ℕ) (e : image u c ≡ image u b) where
  stored_over : outcome_on (stored s u rs) c o ≡ outcome_on (stored s u rs) b o
  unfolding outcome_on stored in_bytes result_of word
  stored_over = ap (λ (x : List ℕ). record { number = 0; store = 1; sent = length (joined (map write rs)); state = x; out = over (joined (map write rs)) o }) e

  sent_over : outcome_on (sent s u rs) c o ≡ outcome_on (sent s u rs) b o
  unfolding outcome_on sent in_bytes result_of word
  sent_over = ap (λ (x : List ℕ). record { number = 0; store = 0; sent = length (joined (map write rs)); state = x; out = over (joined (map write rs)) o }) e

-- The bytes c, left by a change from r to t: the outcome that then leads to u, over the bytes at the beginning.
module _ (r t u : Server) (b c o : List ℕ) (h : Holds r b) (ok : well_formed t ≡ true) (fine : well_formed u ≡ true) (covers : Covers r t u) (e : c ≡ image t b)
    (s : Server) (rs : List Record) where
  pub stored_after : outcome_on (stored s u rs) c o ≡ outcome_on (stored s u rs) b o
  stored_after = stored_over s u rs b c o (ap (image u) e ∙ image_over r t u b h ok fine covers)

  pub sent_after : outcome_on (sent s u rs) c o ≡ outcome_on (sent s u rs) b o
  sent_after = sent_over s u rs b c o (ap (image u) e ∙ image_over r t u b h ok fine covers)
