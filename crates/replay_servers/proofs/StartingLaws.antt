-- The start in an entry.
use Prim.Native.Nat.{ℕ, zero, suc, ◌≤◌, ◌<◌}
use mathlib.Core.Path.{◌≡◌, refl, ap, ◌∙◌}
use mathlib.Core.Bool.{true}
use mathlib.Core.List.{List, [], ◌∷◌}
use native.Mathlib.Omega.{arith}
use lib.ListN.{length}
use Rattle.base.specs.Lists.{sum}
use Rattle.base.specs.Bytes.{zeros}
use Rattle.base.proofs.Over.{zeros_length}
use Rattle.format.specs.Range.{sizes_ok}
use Rattle.replication.specs.Machine.Types.{start}
use Rattle.replication.specs.Images.{started}
use Rattle.image.specs.Layout.{state_size, sections, state_length, out_length}
use Rattle.image.specs.Outcome as outcome
use Rattle.image.specs.Outcome.{start_on}
use Rattle.daemons.specs.Buffers.{saved, begun}
use Rattle.daemons.proofs.Keeping.{begun_keeps}
use Rattle.replay_servers.specs.declared.Server.{Server}
use Rattle.replay_servers.specs.Starting.{alike, fresh_of, fresh_table}
use Rattle.replay_servers.proofs.Keeping.{Keeps}
use Rattle.replay_servers.specs.Core.{table_servers, table_quota, state_room, out_room, buffers_of}

-- ---- as the code makes it

pub fresh_made : (n q k m p r : ℕ) (b z : List ℕ) → m ≡ n → p ≡ q → z ≡ zeros state_room → outcome.started r b ≡ start_on m p k z
    → record { state = b; store = b } ≡ fresh_of n q k
unfolding fresh_of alike outcome.started
fresh_made n q k m p r b z f g e h = ap (λ (x : outcome.Started). alike x.state) (h ∙ (λ i. start_on (f i) (g i) k (e i)))

pub table_made : (n q : ℕ) (a b c d : Server) → a ≡ fresh_of n q 0 → b ≡ fresh_of n q 1 → c ≡ fresh_of n q 2 → d ≡ fresh_of n q 3
    → a ∷ b ∷ c ∷ d ∷ [] ≡ fresh_table n q
unfolding fresh_table
table_made n q a b c d e f g h = λ i. e i ∷ f i ∷ g i ∷ h i ∷ []

-- ---- there is room

state_room_lem : (n q : ℕ) → n ≤ table_servers → q ≤ table_quota → state_length n q ≤ state_room
unfolding state_length sections state_size sum
state_room_lem zero q h k = omega arith
state_room_lem (suc zero) q h k = omega arith
state_room_lem (suc (suc zero)) q h k = omega arith
state_room_lem (suc (suc (suc zero))) q h k = omega arith
state_room_lem (suc (suc (suc (suc zero)))) q h k = omega arith
state_room_lem (suc (suc (suc (suc (suc n))))) q h k = absurd (omega arith)

out_room_lem : (n q : ℕ) → n ≤ table_servers → q ≤ table_quota → out_length n q ≤ out_room
unfolding out_length
out_room_lem zero q h k = omega arith
out_room_lem (suc zero) q h k = omega arith
out_room_lem (suc (suc zero)) q h k = omega arith
out_room_lem (suc (suc (suc zero))) q h k = omega arith
out_room_lem (suc (suc (suc (suc zero)))) q h k = omega arith
out_room_lem (suc (suc (suc (suc (suc n))))) q h k = absurd (omega arith)

-- ---- the entry keeps the start

module _ (n q k : ℕ) (sizes : sizes_ok n q ≡ true) (few : n ≤ table_servers) (small : q ≤ table_quota) (own : k < n) where
  long : state_length n q ≤ length (zeros state_room)
  long = omega (arith, state_room_lem n q few small, zeros_length state_room)

  pub fresh_keeps : Keeps (started (start n q k)) (fresh_of n q k)
  unfolding started fresh_of alike begun saved start
  fresh_keeps = record {
    kept = begun_keeps n q k sizes own (buffers_of (alike (zeros state_room))) (record { long = long; alike = refl });
    room = out_room_lem n q few small;
  }
