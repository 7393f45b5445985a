use Rattle.state_check.proofs.ModeCode.{mode_unnamed, mode_free, mode_plain, exchange_on, exchange_off, ends_on, ends_off}
use Rattle.state_check.proofs.mode_ok.Goals as goal

pub returns-in_default : goal.returns-in_default
returns-in_default c = mode_unnamed c.args.image.now.context c.args.image.now.numbers c.args.image.now.bytes.now _ c.try_from.ensures _ c.in_default.is

pub returns-in-NonPrim : goal.returns-in-NonPrim
returns-in-NonPrim c = mode_free c.args.image.now.context c.args.image.now.numbers c.args.image.now.bytes.now _ c.try_from.ensures _ c.in-Ok.is c.in-NonPrim.is

pub returns-in-RegPrim : goal.returns-in-RegPrim
returns-in-RegPrim c = mode_plain c.args.image.now.context c.args.image.now.numbers c.args.image.now.bytes.now _ c.try_from.ensures _ c.in-Ok.is c.in-RegPrim.is

pub returns-then-configured : goal.returns-then-configured
returns-then-configured c = exchange_on c.args.image.now.context c.args.image.now.numbers c.args.image.now.bytes.now _ c.try_from.ensures _ c.in-Ok.is c.if-configured.true _ c.in-ExchangeActions.is c.exchange_ok.ensures

pub returns-else-configured : goal.returns-else-configured
returns-else-configured c = exchange_off c.args.image.now.context c.args.image.now.numbers c.args.image.now.bytes.now _ c.try_from.ensures _ c.in-Ok.is c.if-configured.false c.in-ExchangeActions.is

pub returns-then-configured-2 : goal.returns-then-configured-2
returns-then-configured-2 c = ends_on c.args.image.now.context c.args.image.now.numbers c.args.image.now.bytes.now _ c.try_from.ensures _ c.in-Ok.is c.if-configured-2.true c.in-Construct.is

pub returns-else-configured-2 : goal.returns-else-configured-2
returns-else-configured-2 c = ends_off c.args.image.now.context c.args.image.now.numbers c.args.image.now.bytes.now _ c.try_from.ensures _ c.in-Ok.is c.if-configured-2.false c.in-Construct.is
