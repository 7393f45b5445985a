use Rattle.std.proofs.Common.{arith, ◌≡◌, ℕ, ◌+◌, ◌-◌, take, drop, ap}
use Rattle.base.specs.Bytes.{part_at}
use Rattle.outgoing.proofs.payload.Goals as goal

pub returns : goal.returns
unfolding part_at
returns c =
    let n : c.args.a.payload_at + c.args.a.payload_length - c.args.a.payload_at ≡ c.args.a.payload_length = omega arith in
    ap (λ (k : ℕ). take k (drop c.args.a.payload_at c.args.state.now)) n
