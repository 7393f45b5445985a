use Rattle.format.specs.RoundTrip.{RoundTrip}
use Rattle.format.proofs.Reading.{read_in_range}
use Rattle.format.proofs.RoundTrip.{read_written, written_read}
use Rattle.format.proofs.SetupLaws.{setup_read_written, setup_written_read, setup_in_range}
use Rattle.format.proofs.round_trip.Goals as goal

round_trip : RoundTrip
round_trip = record {
  read_written = read_written;
  written_read = written_read;
  read_in_range = read_in_range;
  setup_read_written = setup_read_written;
  setup_written_read = setup_written_read;
  setup_in_range = setup_in_range;
}

pub returns : goal.returns
returns c = round_trip
