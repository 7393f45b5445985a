-- Requests are taken and stored below both bounds, and refused 3 else.
use Prim.Native.Nat.{ℕ, ◌≤◌, ◌<◌}
use mathlib.Core.Path.{◌≡◌, refl, ap, ◌∙◌}
use mathlib.Core.Bool.{Bool, true, false}
use mathlib.Core.List.{List, [], map}
use mathlib.Core.Logic.{◌⊎◌, inl, inr}
use Rattle.base.specs.Tests.{◌and◌, ◌or◌, ◌<?◌, pick}
use Rattle.base.proofs.TestLaws.{Known, holds, fails, known, both_yes, lt_yes, lt_no}
use Rattle.format.specs.Limits.{most_number_limit}
use Rattle.format.specs.Types.{Action, request, says}
use Rattle.format.specs.Read.{read}
use Rattle.format.specs.Write.{write}
use Rattle.replication.specs.Machine.Types.{Server, Outcome, taken, with_white, context_of}
use Rattle.replication.specs.Machine.Requests.{sends_now, unwhite_own, quota_left, numbered, send_waiting, waiting_records}
use Rattle.replication.specs.Machine.Rules.{requesting, rule_for, possible, from_member, is_ignored, within_quota}
use Rattle.replication.specs.Machine.Step.{step, in_bytes, on_reading, answer, apply_rule, apply, requested, stored, greened}
use Rattle.replication.specs.Machine.White.{sieved, raised, white_after}
use Rattle.replication.specs.Runs.Requests.{TakenUntilQuota}

-- In every state a request can come.
comes : (s : Server) (p : List ℕ) → possible s (request p) ≡ true
unfolding possible
comes s p = refl

left : (s : Server) → unwhite_own s < s.quota → s.log.numbered < most_number_limit → quota_left s ≡ true
unfolding quota_left
left s y z = both_yes _ _ (lt_yes _ _ y) (lt_yes _ _ z)

none_left : (s : Server) → (s.quota ≤ unwhite_own s) ⊎ (most_number_limit ≤ s.log.numbered) → quota_left s ≡ false
unfolding quota_left ◌and◌
none_left s (inl y) = ap (λ t. t and s.log.numbered <? most_number_limit) (lt_no _ _ y)
none_left s (inr z) = ap (λ t. unwhite_own s <? s.quota and t) (lt_no _ _ z) ∙ never (unwhite_own s <? s.quota)
  where
    never : (t : Bool) → (t and false) ≡ false
    never true = refl
    never false = refl

-- What a taken request leaves, its white actions raised.
after : List ℕ → Server → Server → Server
after p s t = with_white (white_after (requesting p) s t) t

below : (s : Server) (e p : List ℕ) → read (context_of s) e ≡ says (request p) → unwhite_own s < s.quota → s.log.numbered < most_number_limit
    → (t : Server) × (rs : List (List ℕ)) × (g : List Action) × (step s e ≡ taken t rs true g)
unfolding step in_bytes on_reading answer apply_rule rule_for is_ignored from_member within_quota sieved raised apply requested stored ◌or◌ pick after
below s e p h y z = go (known (sends_now s.membership))
  where
    go : Known (sends_now s.membership) → (t : Server) × (rs : List (List ℕ)) × (g : List Action) × (step s e ≡ taken t rs true g)
    go (holds k) = (
      after p s (send_waiting (numbered p s)),
      map write (waiting_records (numbered p s)),
      greened s (send_waiting (numbered p s)),
      rw (h, comes s p, left s y z, k),
    )
    go (fails k) = (after p s (numbered p s), [], greened s (numbered p s), rw (h, comes s p, left s y z, k))

used : (s : Server) (e p : List ℕ) → read (context_of s) e ≡ says (request p) → (s.quota ≤ unwhite_own s) ⊎ (most_number_limit ≤ s.log.numbered)
    → step s e ≡ Outcome.refused 3
unfolding step in_bytes on_reading answer apply_rule rule_for is_ignored from_member within_quota ◌or◌ pick
used s e p h z = rw (h, comes s p, none_left s z)

pub until_quota : TakenUntilQuota
until_quota = record { below = below; used = used }
