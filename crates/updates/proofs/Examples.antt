-- The premises of the operations can be met: a start of two servers with the quota 1, in any buffer that is long enough.
use Prim.Native.Nat.{ℕ, ◌≤◌, ◌<◌}
use mathlib.Core.Path.{◌≡◌, refl}
use mathlib.Core.Bool.{true}
use mathlib.Core.List.{List, []}
use native.Mathlib.Omega.{arith}
use lib.ListN.{length}
use Rattle.base.specs.Tests.{◌and◌, ◌≤?◌, ◌<?◌}
use Rattle.format.specs.Range.{sizes_ok}
use Rattle.replication.specs.Machine.Types.{Server, start}
use Rattle.replication.specs.Machine.Colours.{of_creator, places_of, unwhite}
use Rattle.replication.specs.Machine.Requests.{quota_left}
use Rattle.replication.specs.Machine.WellFormed.{well_formed}
use Rattle.replication.proofs.WellFormed.Runs.{start_well_formed}
use Rattle.image.specs.Layout.{state_length}
use Rattle.image.specs.Image.{image}
use Rattle.image.proofs.ImageLaws.{image_again, image_length}
use Rattle.image.specs.Decode.{blanks}
use Rattle.image.specs.Holding.{Holds, HoldsSuch}
use Rattle.image.specs.Counts.{CountsIn}
use Rattle.image.proofs.Counts.{holds_counts}
use Rattle.updates.specs.Lists.{PayloadRoom}

abbrev first : Server
first = start 2 1 0

module _ (b : List ℕ) (long : state_length 2 1 ≤ length b) where
  formed : well_formed first ≡ true
  unfolding sizes_ok ◌and◌ ◌≤?◌ ◌<?◌
  formed = start_well_formed 2 1 0 refl (omega arith)

  holds : Holds first (image first b)
  unfolding start blanks
  holds = record { formed = formed; written = image_again first b formed long; long = omega (arith, long, image_length first b formed long); blank = refl }

  counts : CountsIn (image first b)
  counts = holds_counts first (image first b) holds

  -- A request may be numbered.
  quota : quota_left first ≡ true
  unfolding quota_left unwhite places_of of_creator start ◌<?◌ ◌and◌
  quota = refl

  room : PayloadRoom [] (image first b)
  room = record { holds = record { state = first; holds = holds; fact = quota }; short = omega arith }

  -- A white length may be taken from an action of either server.
  creator : HoldsSuch (λ s. 1 < s.servers) (image first b)
  unfolding start
  creator = record { state = first; holds = holds; fact = omega arith }
