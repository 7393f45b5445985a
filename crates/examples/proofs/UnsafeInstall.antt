-- A run that Specification 7.1 forbids, and in which one index is installed twice. Server 0 delivers both CPCs in the configuration of 0 and 1 and installs;
-- server 1 leaves that configuration without 0's CPC, clears its mark, and makes another primary component with 2.
use Prim.Native.Nat.{ℕ}
use mathlib.Core.Path.{◌≡◌, refl, sym, ap, subst, ◌∙◌}
use mathlib.Core.Bool.{Bool, true, not}
use mathlib.Core.List.{[], ◌∷◌}
use mathlib.Core.Option.{some}
use native.Mathlib.Omega.{arith}
use Rattle.base.specs.Tests.{◌=?◌, ◌and◌}
use Rattle.base.proofs.TestLaws.{not_both, not_holds, both_yes}
use Rattle.base.specs.Lists.{all, same, at}
use Rattle.base.proofs.AtLaws.{some_same}
use Rattle.base.proofs.QuantifierLaws.{all_at}
use Rattle.base.proofs.Deciding.{decided, numbers_decided, lists_decided}
use Rattle.format.specs.Types.{Primary, state, cpc, regular, transitional, recovery}
use Rattle.format.specs.Write.{write}
use Rattle.replication.specs.Machine.Types.{Configuration}
use Rattle.replication.specs.Runs.Run.{Entry, event, crash, store, Run, heard_at, sent_at}
use Rattle.replication.specs.Runs.Happenings.{Message, is_message, Falls, by_crash, by_recovery, Comes, Takes, Left, Delivers}
use Rattle.replication.specs.Runs.Allowed.{Allowed}
use Rattle.replication.specs.Runs.Claim.{IsPrimary, Agreement}
use Rattle.replication.specs.Audit.Witness.{Witness}
use Rattle.replication.specs.Audit.Table.{role_in, Row, row_of, table}
use Rattle.replication.specs.Audit.Rules.{brings_back}
use Rattle.replication.proofs.Verdicts.Rows.{row_at, table_holds, role_of}
use Rattle.examples.proofs.Records.{sent, primary, unmarked, no_yellow_lem, told}
use Rattle.examples.proofs.Shown.{Refused, installed, installed_primary, opened}

unfoldable pub run : Run
run =
    event 0 (write (regular 1 3)) 1
    ∷ event 1 (write (regular 1 3)) 1
    ∷ event 0 (write (state (told 0 1 (0 ∷ 0 ∷ 0 ∷ []) 0 0 (primary 0 0 7) unmarked no_yellow_lem))) 0
    ∷ event 1 (write (state (told 0 1 (0 ∷ 0 ∷ 0 ∷ []) 0 0 (primary 0 0 7) unmarked no_yellow_lem))) 0
    ∷ event 0 (write (state (told 1 1 (0 ∷ 0 ∷ 0 ∷ []) 0 0 (primary 0 0 7) unmarked no_yellow_lem))) 1
    ∷ event 1 (write (state (told 1 1 (0 ∷ 0 ∷ 0 ∷ []) 0 0 (primary 0 0 7) unmarked no_yellow_lem))) 1
    ∷ event 0 (write (cpc 0 1)) 0
    ∷ event 0 (write (cpc 1 1)) 0
    ∷ event 1 (write (transitional 2)) 0
    ∷ event 1 (write (cpc 1 1)) 0
    ∷ event 1 (write (regular 2 6)) 1
    ∷ event 2 (write (regular 2 6)) 1
    ∷ event 1 (write (state (told 1 2 (0 ∷ 0 ∷ 0 ∷ []) 0 1 (primary 0 0 7) unmarked no_yellow_lem))) 0
    ∷ event 2 (write (state (told 1 2 (0 ∷ 0 ∷ 0 ∷ []) 0 1 (primary 0 0 7) unmarked no_yellow_lem))) 0
    ∷ event 1 (write (state (told 2 2 (0 ∷ 0 ∷ 0 ∷ []) 0 0 (primary 0 0 7) unmarked no_yellow_lem))) 1
    ∷ event 2 (write (state (told 2 2 (0 ∷ 0 ∷ 0 ∷ []) 0 0 (primary 0 0 7) unmarked no_yellow_lem))) 1
    ∷ event 1 (write (cpc 1 2)) 0
    ∷ event 2 (write (cpc 1 2)) 0
    ∷ event 1 (write (cpc 2 2)) 0
    ∷ event 2 (write (cpc 2 2)) 0
    ∷ []

unfoldable pub witness : Witness
witness = record {
  sources =
      sent 0 0 ∷ sent 0 0 ∷ sent 0 0 ∷ sent 0 0 ∷ sent 1 0 ∷ sent 1 0 ∷ sent 4 0 ∷ sent 5 0 ∷ sent 0 0 ∷ sent 5 0
      ∷ sent 0 0 ∷ sent 0 0 ∷ sent 10 0 ∷ sent 10 0 ∷ sent 11 0 ∷ sent 11 0 ∷ sent 14 0 ∷ sent 14 0 ∷ sent 15 0 ∷ sent 15 0
      ∷ [];
  names =
      0 ∷ 0 ∷ 0 ∷ 0 ∷ 0 ∷ 0 ∷ 0 ∷ 0 ∷ 1 ∷ 0
      ∷ 0 ∷ 0 ∷ 0 ∷ 0 ∷ 0 ∷ 0 ∷ 0 ∷ 0 ∷ 0 ∷ 0
      ∷ [];
  ords =
      0 ∷ 0 ∷ 3 ∷ 3 ∷ 4 ∷ 4 ∷ 7 ∷ 9 ∷ 8 ∷ 9
      ∷ 10 ∷ 10 ∷ 13 ∷ 13 ∷ 14 ∷ 14 ∷ 17 ∷ 17 ∷ 18 ∷ 18
      ∷ [];
  sending_ords =
      (1 ∷ []) ∷ (2 ∷ []) ∷ [] ∷ [] ∷ (5 ∷ []) ∷ (6 ∷ []) ∷ [] ∷ [] ∷ [] ∷ []
      ∷ (11 ∷ []) ∷ (12 ∷ []) ∷ [] ∷ [] ∷ (15 ∷ []) ∷ (16 ∷ []) ∷ [] ∷ [] ∷ [] ∷ []
      ∷ [];
}

refused : Refused 3 4 run witness ("safe" ∷ [])
unfolding opened run witness
refused = (refl, refl)

-- Two primary components of index 1.
installs : installed 3 4 run ≡ primary 1 1 3 ∷ primary 1 2 6 ∷ primary 1 2 6 ∷ []
unfolding opened run
installs = refl

one : IsPrimary 3 4 run (primary 1 1 3)
unfolding opened run
one = installed_primary 3 4 run 7 (event 0 (write (cpc 1 1)) 0) (primary 1 1 3) refl refl

another : IsPrimary 3 4 run (primary 1 2 6)
unfolding opened run
another = installed_primary 3 4 run 18 (event 1 (write (cpc 2 2)) 0) (primary 1 2 6) refl refl

-- So the claim of demand 3 fails of it.
pub disagree : Agreement 3 4 run → ⊥
disagree a = omega (arith, ap (λ (x : Primary). x.attempt) ((a.primary (primary 1 1 3) (primary 1 2 6) one another).1 refl))

-- ---- with no other witness is it allowed: server 1 never delivers 0's CPC

abbrev first : Configuration
first = record { id = 1; set = 3 }

took : Takes 3 4 run 1 1 first
unfolding opened run heard_at
took = record { bytes = write (regular 1 3); sent = 1; here = refl; heard = refl }

took_next : Takes 3 4 run 10 1 (record { id = 2; set = 6 })
unfolding opened run heard_at
took_next = record { bytes = write (regular 2 6); sent = 1; here = refl; heard = refl }

comes : Comes 3 4 run 6 0 (cpc 0 1)
unfolding opened run heard_at
comes = record { bytes = write (cpc 0 1); sent = 0; here = refl; heard = refl }

-- No server goes down or recovers.
all_up : all (λ (r : Row). not (brings_back r.role)) (table 3 4 run witness) ≡ true
unfolding opened run witness
all_up = refl

steady : (p i : ℕ) → Falls 3 4 run p i → ⊥
unfolding row_at row_of role_in brings_back
steady p i (by_crash e) = not_both (all_at (λ (r : Row). not (brings_back r.role)) (table 3 4 run witness) all_up p _ (table_holds 3 4 run witness p (crash i) e))
steady p i (by_recovery c) =
    let y : Entry = event i c.bytes c.sent in
    let up = all_at (λ (r : Row). not (brings_back r.role)) (table 3 4 run witness) all_up p (row_at 3 4 run witness p y) (table_holds 3 4 run witness p y c.here) in
    not_both (subst (λ o. not (brings_back o) ≡ true) (role_of 3 4 run witness p i recovery c) up)

left : Left 3 4 run 1 first
left = record { p = 1; r = 10; next = record { id = 2; set = 6 }; took = took; took_next = took_next; order = omega arith; steady = λ x low high. steady x 1 }

-- Server 1 gets no such bytes as 0's CPC.
is_other : Entry → Bool
is_other (event i e k) = not (i =? 1 and same e (write (cpc 0 1)))
is_other (crash i) = true
is_other (store i) = true

all_other : all is_other run ≡ true
unfolding opened run is_other
all_other = refl

module _ (a : Allowed 3 4 run) where
  sent_here : at (sent_at 3 4 run (a.source 6).sending) (a.source 6).number ≡ some (write (cpc 0 1))
  unfolding opened run is_message
  sent_here = (a.genuine 6 0 0 (write (cpc 0 1)) (cpc 0 1) refl comes refl).1

  never : (v : ℕ) → Delivers 3 4 run a.source a.name v 1 (a.source 6) → ⊥
  unfolding is_other
  never v d =
      let g = (a.genuine v 1 d.comes.sent d.comes.bytes d.what d.comes.here d.comes d.message).1 in
      let there : at (sent_at 3 4 run (a.source 6).sending) (a.source 6).number ≡ some d.comes.bytes =
      ap (λ (m : Message). at (sent_at 3 4 run m.sending) m.number) (sym d.which) ∙ g in
      let bytes : d.comes.bytes ≡ write (cpc 0 1) = some_same (sym there ∙ sent_here) in
      let other = not_holds _ (all_at is_other run all_other v (event 1 d.comes.bytes d.comes.sent) d.comes.here) in
      not_both (sym other ∙ both_yes (1 =? 1) (same d.comes.bytes (write (cpc 0 1))) (numbers_decided.itself 1) (decided lists_decided bytes))

  delivers : Delivers 3 4 run a.source a.name 6 0 (a.source 6)
  unfolding is_message
  delivers = record { what = cpc 0 1; comes = comes; message = refl; which = refl }

pub not_allowed : Allowed 3 4 run → ⊥
unfolding opened run
not_allowed a = let d = a.safe 6 0 1 (a.source 6) first (delivers a) refl refl left in never a d.place d.it
