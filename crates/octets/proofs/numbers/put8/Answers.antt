use Rattle.octets.proofs.Cuts.{byte_patched}
use Rattle.octets.proofs.numbers.put8.Goals as goal

pub returns : goal.returns
returns c = byte_patched c.args.at c.args.v c.args.out.now c.requires c.ranges.v.fits
