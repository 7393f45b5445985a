-- What a run shows: the state of each entry's server after it, the primary components installed, and how marks are judged.
use Prim.Native.Nat.{ℕ}
use Prim.Native.String.{String}
use mathlib.Core.Path.{◌≡◌, refl, subst}
use mathlib.Core.Bool.{Bool, false}
use mathlib.Core.List.{List, [], ◌∷◌}
use mathlib.Core.Option.{Option, none, some}
use lib.ListN.{length, get_or}
use Rattle.base.specs.Tests.{pick}
use Rattle.base.proofs.TestLaws.{Known, holds, fails, known}
use Rattle.base.proofs.AtLaws.{none_some, some_same}
use Rattle.base.specs.Lists.{at_front, at}
use Rattle.format.specs.Types.{Primary, Mark, State}
use Rattle.replication.specs.Machine.Types.{Mode, Server, Outcome, taken, refused}
use Rattle.replication.specs.Machine.Exchange.{taken_primary, is_marked, rule_a, rule_b, rule_c, own_mark}
use Rattle.replication.specs.Machine.Step.{collected, installs_by, installs_on, installs}
use Rattle.replication.specs.Images.{arrive, source_of}
use Rattle.replication.specs.Runs.Run.{Entry, event, crash, store, Run, server_of, World, beginning, world_after, world_at}
use Rattle.replication.specs.Runs.Claim.{IsPrimary, of_install}
use Rattle.replication.specs.Audit.Witness.{Witness}
use Rattle.replication.specs.Audit.Verdict.{audit, report}
use Rattle.replication.specs.Audit.Opened.{opened as opened_audit}

-- An entry's server, and after it that server's state, green length and last primary's index.
pub record Shown : Type 0 where
  pub server : ℕ
  pub mode : Mode
  pub green : ℕ
  pub primary : ℕ

abbrev pub shows : (server : ℕ) → Mode → (green primary : ℕ) → Shown
shows i m g p = record { server = i; mode = m; green = g; primary = p }

unfoldable pub shown_by : ℕ → Server → Shown
shown_by i s = shows i s.membership.mode (length s.log.green) s.votes.last.index

unfoldable pub shown_from : World → Run → List Shown
shown_from w [] = []
shown_from w (x ∷ l) = shown_by (server_of x) ((world_after w x).images (server_of x)).memory ∷ shown_from (world_after w x) l

-- By place.
unfoldable pub shown : (n q : ℕ) → Run → List Shown
shown n q l = shown_from (beginning n q) l

-- "each Install's (index, attempt, set)", in the order of the run
unfoldable pub last_of_outcome : Outcome (List ℕ) → Option Primary
last_of_outcome (refused k) = none
last_of_outcome (taken t r b g) = some t.votes.last

unfoldable pub installed_by : World → Entry → Option Primary
installed_by w (event i e k) = pick (installs (source_of (w.images i) e) e) (last_of_outcome (arrive (w.images i) e)) none
installed_by w (crash i) = none
installed_by w (store i) = none

unfoldable pub installed_from : World → Run → List Primary
installed_from w [] = []
installed_from w (x ∷ l) = at_front (installed_by w x) (installed_from (world_after w x) l)

unfoldable pub installed : (n q : ℕ) → Run → List Primary
installed n q l = installed_from (beginning n q) l

-- What is installed at a place is a primary component of the run.
pub installed_primary : (n q : ℕ) (l : Run) (p : ℕ) (y : Entry) (a : Primary) → at l p ≡ some y → installed_by (world_at n q l p) y ≡ some a → IsPrimary n q l a
unfolding installed_by last_of_outcome pick
installed_primary n q l p (crash i) a h f = none_some f
installed_primary n q l p (store i) a h f = none_some f
installed_primary n q l p (event i e k) a h f = go (known (installs (source_of ((world_at n q l p).images i) e) e)) (arrive ((world_at n q l p).images i) e) refl
  where
    go : Known (installs (source_of ((world_at n q l p).images i) e) e) → (o : Outcome (List ℕ)) → arrive ((world_at n q l p).images i) e ≡ o → IsPrimary n q l a
    go (fails t) o g = none_some (rw t at f)
    go (holds t) (refused j) g = none_some (rw (t, g) at f)
    go (holds t) (taken s r b c) g = subst (IsPrimary n q l) (some_same (rw (t, g) at f)) (of_install p i k e s r b c h g t)

-- Of the State that a server has collected of itself: marked; to be cleared by (a), by (b), by (c).
unfoldable pub rules_on : List State → Option State → List Bool
rules_on xs none = []
rules_on xs (some v) = is_marked v ∷ rule_a (taken_primary xs) v ∷ rule_b xs v ∷ rule_c xs v ∷ []

unfoldable pub own_rules : Server → List Bool
own_rules s = rules_on (collected s) (get_or s.membership.states s.me none)

-- The own mark as judged.
unfoldable pub judged : Server → Mark
judged s = own_mark s.me (collected s) (collected s)

-- The audit refuses the run, and these tests fail.
abbrev pub Refused : (n q : ℕ) → Run → Witness → List String → Type 0
Refused n q l w names = (audit n q l w ≡ false) × (report n q l w ≡ names)

unfoldable pub opened : ℕ
unfolding opened_audit shown_by shown_from shown last_of_outcome installed_by installed_from installed rules_on own_rules judged installs_by installs_on installs
opened = 0
