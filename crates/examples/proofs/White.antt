-- Document 02, K6 (WhiteRun, samples/sources/white.story): two depots with the quota 1. What is green at both becomes white, and its place is used again: an
-- index above the quota, a server that joins late and takes the white length that an action brings; and, in no allowed run, actions that are passed over.
-- samples/white.bin is its input, samples/white.txt its output.
use Prim.Native.Nat.{ℕ}
use mathlib.Core.Path.{◌≡◌, refl}
use mathlib.Core.Bool.{true, false}
use mathlib.Core.List.{List, [], ◌∷◌, map}
use mathlib.Core.Option.{none, some}
use lib.ListN.{replicate}
use Rattle.format.specs.Types.{Action, State, action}
use Rattle.format.specs.Write.{write}
use Rattle.replication.specs.Machine.Types.{Reg_prim, Log, Server, Outcome, taken, with_log, with_noted, with_white}
use Rattle.replication.specs.Machine.Step.{step}
use Rattle.replication.specs.Replay.{replay}
use Rattle.replication.specs.Runs.Run.{Run, world_at}
use Rattle.replication.specs.Runs.Allowed.{Allowed}
use Rattle.replication.specs.Audit.Opened.{opened}
use Rattle.replication.specs.Audit.Verdict.{audit}
use Rattle.replication.proofs.Verdicts.Sound.{audit_sound}
use Rattle.examples.proofs.Records.{made, made_with, primary, unmarked, marked, no_yellow_lem, told}
use Rattle.examples.proofs.Rows.{digit, pairs_of, hex, events_in, lines_in, input_of, output_of, run_of}
use Rattle.examples.proofs.WhiteRun.{servers, quota, rows, witness}

white : replay 4 16 (input_of (record { servers = servers; quota = quota }) rows) ≡ output_of rows
unfolding opened rows digit pairs_of hex events_in lines_in input_of output_of
white = refl

unfoldable pub run : Run
run = run_of rows

passes : audit servers quota run witness ≡ true
unfolding opened rows digit pairs_of hex run_of run witness
passes = refl

pub allowed : Allowed servers quota run
allowed = audit_sound servers quota run witness passes

-- The server i before the place p.
unfoldable pub server : (p i : ℕ) → Server
server p i = ((world_at servers quota run p).images i).memory

-- ---- what becomes white

abbrev A : Action
A = made 0 1 0 (65 ∷ [])

abbrev B : Action
B = made 1 1 1 (66 ∷ [])

-- The second action of 0, with the quota 1: A and B were white.
abbrev C : Action
C = made_with 0 2 2 2 (67 ∷ [])

abbrev D : Action
D = made_with 1 2 3 2 (68 ∷ [])

abbrev E : Action
E = made_with 0 3 4 3 (69 ∷ [])

-- Both have A and B green, but no delivered record says so of 0: none is white, and a request of 0 is refused 3.
not_yet : (server 16 0).noted ≡ 0 ∷ 1 ∷ []
unfolding opened rows digit pairs_of hex run_of run server
not_yet = refl

none_white : map (λ i. (server 16 i).white) (0 ∷ 1 ∷ []) ≡ 0 ∷ 0 ∷ []
unfolding opened rows digit pairs_of hex run_of run server
none_white = refl

-- With both States they are white at 0, and there is a place for C. 1, which went down, knows of none.
two_white : map (λ i. (server 29 i).white) (0 ∷ 1 ∷ []) ≡ 2 ∷ 0 ∷ []
unfolding opened rows digit pairs_of hex run_of run server
two_white = refl

above_quota : (server 33 0).log.green ≡ A ∷ B ∷ C ∷ []
unfolding opened rows digit pairs_of hex run_of run server
above_quota = refl

-- At 1 A has the one place for an action of 0. C says that two are white: they are, and it has the place.
waits : (server 43 1).white ≡ 0
unfolding opened rows digit pairs_of hex run_of run server
waits = refl

taken_in_lem : (server 44 1).white ≡ 2
unfolding opened rows digit pairs_of hex run_of run server
taken_in_lem = refl

joined_late : (server 44 1).log.green ≡ A ∷ B ∷ C ∷ []
unfolding opened rows digit pairs_of hex run_of run server
joined_late = refl

-- In the end three are white at both, and all of them in the green lists.
three_white : map (λ i. (server 55 i).white) (0 ∷ 1 ∷ []) ≡ 3 ∷ 3 ∷ []
unfolding opened rows digit pairs_of hex run_of run server
three_white = refl

greens : map (λ i. (server 55 i).log.green) (0 ∷ 1 ∷ []) ≡ replicate 2 (A ∷ B ∷ C ∷ D ∷ E ∷ [])
unfolding opened rows digit pairs_of hex run_of run server
greens = refl

-- ---- passed over: no allowed run meets this

-- The server 0 with A and B green, and none white.
abbrev told_first : ℕ → State
told_first k = told k 1 (0 ∷ 0 ∷ []) 0 0 (primary 0 0 3) unmarked no_yellow_lem

abbrev before : Server
before = record {
  servers = servers;
  quota = quota;
  me = 0;
  log = record { green = A ∷ B ∷ []; red = []; cuts = 1 ∷ 1 ∷ []; own = []; numbered = 1; sent = 1 };
  votes = record { last = primary 1 1 3; attempt = 0; mark = marked 0 1 3 0; yellow = no_yellow_lem };
  membership = record {
    mode = Reg_prim;
    configuration = some (record { id = 1; set = 3 });
    transitional = none;
    states = some (told_first 0) ∷ some (told_first 1) ∷ [];
    cpcs = 3;
    come = 0;
  };
  noted = 0 ∷ 1 ∷ [];
  white = 0;
}

of_the_run : server 16 0 ≡ before
unfolding opened rows digit pairs_of hex run_of run server
of_the_run = refl

-- A second action of 1 comes. It says that w are white; 1 itself would have numbered it only with two.
abbrev second : (w : ℕ) → Action
second w = made_with 1 2 2 w (88 ∷ [])

abbrev comes : (w : ℕ) → Outcome (List ℕ)
comes w = step before (write (action (second w)))

-- The green length that it brings is noted, as of any action in Reg_prim.
abbrev noted : Server
noted = with_noted (0 ∷ 2 ∷ []) before

-- B has the place: it is not entered, and the white length that it brings stays taken.
passed_over : comes 0 ≡ taken noted [] false []
unfolding opened
passed_over = refl

passed_over_taken : comes 1 ≡ taken (with_white 1 noted) [] false []
unfolding opened
passed_over_taken = refl

-- With two it has the place.
abbrev after : Log
after = record { green = A ∷ B ∷ second 2 ∷ []; red = []; cuts = 1 ∷ 2 ∷ []; own = []; numbered = 1; sent = 1 }

not_passed_over : comes 2 ≡ taken (with_white 2 (with_log after noted)) [] false (second 2 ∷ [])
unfolding opened
not_passed_over = refl
