use native.Mathlib.Omega.{arith}
use Rattle.exchange.proofs.ReadLaws.{place_made}
use Rattle.exchange.proofs.SlotLaws.{slot_inside}
use Rattle.exchange.proofs.states.States.place.Goals as goal

pub overflow_mul-result : goal.overflow_mul-result
overflow_mul-result c = let z = slot_inside c.args.self.now.slots c.args.self.now.bytes.now c.args.k c.args.self.now.space c.requires in omega arith

pub overflow_add-result : goal.overflow_add-result
overflow_add-result c = let z = slot_inside c.args.self.now.slots c.args.self.now.bytes.now c.args.k c.args.self.now.space c.requires in omega arith

pub returns : goal.returns
returns c = place_made c.args.self.now.slots c.args.self.now.bytes.now c.args.k c.args.self.now.space c.requires
