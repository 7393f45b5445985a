use Rattle.std.specs.Prelude.{Some}
use Rattle.exchange.proofs.PlaceLaws.{among_stands, hint_stands}
use Rattle.exchange.proofs.first_list.FirstList.place_among.Goals as goal

pub returns-then-is_there : goal.returns-then-is_there
returns-then-is_there c =
    among_stands c.args.self.now.count c.args.self.now.bytes.now c.args.e.now c.args.at c.id_at.result (Some c.args.j) c.id_at.ensures
    (hint_stands c.args.self.now.count c.args.self.now.bytes.now c.args.j _ _ c.args.self.now.sought c.is_there.ensures c.if-is_there.true)
