-- Document 01, 'What `replay` prints': the worked example, byte for byte. samples/worked.bin is its input, samples/worked.txt its output.
use Prim.Native.Nat.{ℕ}
use mathlib.Core.Path.{◌≡◌, refl}
use mathlib.Core.List.{List, [], ◌∷◌}
use Rattle.base.specs.Bytes.{joined}
use Rattle.base.specs.Text.{ascii}
use Rattle.format.specs.Types.{action, state, regular, request}
use Rattle.format.specs.Setup.{write_setup}
use Rattle.format.specs.Write.{write}
use Rattle.replication.specs.Machine.Types.{start}
use Rattle.replication.specs.Machine.Step.{own_state}
use Rattle.replication.specs.Replay.{replay}
use Rattle.replication.specs.Opened.{opened}
use Rattle.examples.proofs.Rows.{digit, pairs_of, hex}

-- "Input n=2, q=1, server 1: regular id 1 set {1}; its State; request "A"; that action; request "B"."
unfoldable pub input : List ℕ
input =
    joined
    (write_setup (record { servers = 2; quota = 1 })
    ∷ (1 ∷ write (regular 1 2))
    ∷ (1 ∷ write (state (own_state (record { id = 1; set = 2 }) (start 2 1 1))))
    ∷ (1 ∷ write (request (ascii "A")))
    ∷ (1 ∷ write (action (record { id = record { creator = 1; index = 1 }; green_length = 0; white_length = 0; payload = ascii "A" })))
    ∷ (1 ∷ write (request (ascii "B")))
    ∷ [])

pub worked_input : input ≡ hex "000502090200010100070205000000010201002a0203010000000100000000000000000000000000000000000000000300000000000000000000000000000100040207014101000f02010100010000000000000000014101000402070142"
unfolding opened input digit pairs_of hex
worked_input = refl

pub worked :
    replay 4 16 input
    ≡ joined
    (ascii "event server returned state red green prim sent\n"
    ∷ ascii "1 1 0 Exchange_states 0 0 0 1\n"
    ∷ ascii "2 1 0 Non_prim 0 0 0 0\n"
    ∷ ascii "3 1 0 Non_prim 0 0 0 1\n"
    ∷ ascii "4 1 0 Non_prim 1 0 0 0\n"
    ∷ ascii "5 1 3 Non_prim 1 0 0 0\n"
    ∷ [])
unfolding opened input
worked = refl
