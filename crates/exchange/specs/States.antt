-- The collected States as the code holds them.
use Rattle.std.specs.Prelude.{ℕ, ◌<◌, Bool, List, Option}
use Rattle.format.specs.Types.{State}
use Rattle.exchange.specs.declared.states.States.{States}
use Rattle.exchange.specs.Slots.{Room, state_in, states_of}
use Rattle.exchange.specs.Folds as folds
use Rattle.exchange.specs.Passing as passing
use Rattle.exchange.specs.Table.{ListsFit}

-- Those that are meant, in the order of their senders; and that in the slot k.
abbrev pub sent : States → List State
sent x = states_of x.slots x.bytes.now

abbrev pub sent_by : States → ℕ → State
sent_by x k = state_in x.slots x.bytes.now k

-- k is a server.
abbrev pub IsSlot : States → ℕ → Type 0
IsSlot x k = k < x.slots.servers

abbrev pub AtEach : States → (ℕ → Type 0) → Type 0
AtEach x P = folds.AtEach x.slots P

abbrev pub Tells : {A : Type 0} → States → (ℕ → A → Type 0) → (State → A) → Type 0
Tells {A} x R t = folds.Tells {A = A} R t x.slots x.bytes.now

abbrev pub Steps : {A : Type 0} → States → (A → ℕ → A → Type 0) → (A → State → A) → Type 0
Steps {A} x R step = folds.Steps {A = A} R step x.slots x.bytes.now

abbrev pub Found : States → (State → Bool) → Option ℕ → Type 0
Found x t r = folds.Found t x.slots x.bytes.now r

abbrev pub Within : States → Option ℕ → Type 0
Within x r = folds.Within x.slots r

abbrev pub First : States → Option ℕ → Type 0
First x r = folds.First x.slots x.bytes.now r

-- y are those of x whose State passes the test.
abbrev pub Those : States → (State → Bool) → States → Type 0
Those x t y = folds.Those t x.slots x.bytes.now y.slots y.bytes.now

abbrev pub Voters : States → States → Type 0
Voters x y = passing.Voters x.slots x.bytes.now y.slots y.bytes.now

-- Their yellow lists lie in their bytes and have room in o each.
abbrev pub Fits : States → List ℕ → Type 0
Fits x o = ListsFit x.slots x.bytes.now o

-- Each State that is meant is its server's.
abbrev pub SentByOwn : States → Type 0
SentByOwn x = Room x.slots x.bytes.now
