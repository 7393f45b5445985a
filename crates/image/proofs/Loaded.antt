-- The state's numbers as the code reads them.
use Prim.Native.Nat.{ℕ}
use mathlib.Core.Path.{◌≡◌}
use mathlib.Core.List.{List}
use Rattle.base.specs.Bytes.{number_at}
use Rattle.record.specs.declared.LastPrimary.{LastPrimary}
use Rattle.record.specs.declared.Mark.{Mark}
use Rattle.record.specs.declared.State.{State}
use Rattle.record.specs.Events.{last_in, mark_in}
use Rattle.image.specs.Header.{header_in}
use Rattle.image.specs.Layout.{at_layout, at_servers, at_quota, at_me, at_mode, at_configuration, at_configuration_id, at_configuration_set, at_transitional, at_transitional_set, at_states, at_cpcs, at_come, at_queue_length, at_green_count, at_numbered, at_own_count, at_sent, at_attempt, at_last, at_mark, at_yellow, at_yellow_count}

abbrev pub made : (x0 : ℕ) → (x1 : ℕ) → (x2 : ℕ) → (x3 : ℕ) → (x4 : ℕ) → (x5 : ℕ) → (x6 : ℕ) → (x7 : ℕ) → (x8 : ℕ) → (x9 : ℕ) → (x10 : ℕ) → (x11 : ℕ) → (x12 : ℕ) → (x13 : ℕ) → (x14 : ℕ) → (x15 : ℕ) → (x16 : ℕ) → (x17 : ℕ) → (x18 : ℕ) → (x19 : LastPrimary) → (x20 : Mark) → (x21 : ℕ) → (x22 : ℕ) → State
made x0 x1 x2 x3 x4 x5 x6 x7 x8 x9 x10 x11 x12 x13 x14 x15 x16 x17 x18 x19 x20 x21 x22 = record { layout = x0; servers = x1; quota = x2; me = x3; mode = x4; configuration_status = x5; configuration_id = x6; configuration_set = x7; transitional_status = x8; transitional_set = x9; states = x10; cpcs = x11; come = x12; queue_length = x13; green_count = x14; numbered = x15; own_count = x16; sent = x17; attempt = record { 0 = x18 }; last = x19; mark = x20; yellow_status = x21; yellow_count = x22 }

pub state_loaded : (b : List ℕ) → (x0 : ℕ) → (x1 : ℕ) → (x2 : ℕ) → (x3 : ℕ) → (x4 : ℕ) → (x5 : ℕ) → (x6 : ℕ) → (x7 : ℕ) → (x8 : ℕ) → (x9 : ℕ) → (x10 : ℕ) → (x11 : ℕ) → (x12 : ℕ) → (x13 : ℕ) → (x14 : ℕ) → (x15 : ℕ) → (x16 : ℕ) → (x17 : ℕ) → (x18 : ℕ) → (x19 : LastPrimary) → (x20 : Mark) → (x21 : ℕ) → (x22 : ℕ)
    → x0 ≡ number_at 1 b at_layout → x1 ≡ number_at 1 b at_servers → x2 ≡ number_at 2 b at_quota → x3 ≡ number_at 1 b at_me → x4 ≡ number_at 1 b at_mode → x5 ≡ number_at 1 b at_configuration → x6 ≡ number_at 4 b at_configuration_id → x7 ≡ number_at 1 b at_configuration_set → x8 ≡ number_at 1 b at_transitional → x9 ≡ number_at 1 b at_transitional_set → x10 ≡ number_at 1 b at_states → x11 ≡ number_at 1 b at_cpcs → x12 ≡ number_at 4 b at_come → x13 ≡ number_at 4 b at_queue_length → x14 ≡ number_at 4 b at_green_count → x15 ≡ number_at 2 b at_numbered → x16 ≡ number_at 2 b at_own_count → x17 ≡ number_at 2 b at_sent → x18 ≡ number_at 4 b at_attempt → x19 ≡ last_in b at_last → x20 ≡ mark_in b at_mark → x21 ≡ number_at 1 b at_yellow → x22 ≡ number_at 2 b at_yellow_count
    → made x0 x1 x2 x3 x4 x5 x6 x7 x8 x9 x10 x11 x12 x13 x14 x15 x16 x17 x18 x19 x20 x21 x22 ≡ header_in b
unfolding header_in
state_loaded b x0 x1 x2 x3 x4 x5 x6 x7 x8 x9 x10 x11 x12 x13 x14 x15 x16 x17 x18 x19 x20 x21 x22 e0 e1 e2 e3 e4 e5 e6 e7 e8 e9 e10 e11 e12 e13 e14 e15 e16 e17 e18 e19 e20 e21 e22 =
    λ i. made (e0 i) (e1 i) (e2 i) (e3 i) (e4 i) (e5 i) (e6 i) (e7 i) (e8 i) (e9 i) (e10 i) (e11 i) (e12 i) (e13 i) (e14 i) (e15 i) (e16 i) (e17 i) (e18 i) (e19 i) (e20 i) (e21 i) (e22 i)
