-- Tests whether two messages, configurations or places are the same.
use Rattle.std.specs.Prelude.{Bool, false}
use Rattle.std.proofs.Math.Option.{Option}
use Rattle.base.specs.Tests.{◌and◌, ◌=?◌}
use Rattle.base.specs.Quantifiers.{same_option}
use Rattle.replication.specs.Machine.Types.{Configuration}
use Rattle.replication.specs.Runs.Run.{Place}
use Rattle.replication.specs.Runs.Happenings.{Message, Configured, regularly, transitionally}

unfoldable pub same_message : Message → Message → Bool
same_message x y = x.sending =? y.sending and x.number =? y.number

unfoldable pub same_configuration : Configuration → Configuration → Bool
same_configuration x y = x.id =? y.id and x.set =? y.set

unfoldable pub same_regular : Option Configuration → Option Configuration → Bool
same_regular x y = same_option same_configuration x y

unfoldable pub same_place : Place → Place → Bool
same_place x y = same_regular x.regular y.regular and same_option ◌=?◌ x.transitional y.transitional

unfoldable pub same_configured : Configured → Configured → Bool
same_configured (regularly c) (regularly d) = same_configuration c d
same_configured (regularly c) (transitionally y) = false
same_configured (transitionally x) (regularly d) = false
same_configured (transitionally x) (transitionally y) = x =? y
