-- The audit's tests whether two things are the same decide it.
use mathlib.Core.Path.{◌≡◌, ap}
use mathlib.Core.Bool.{true}
use Rattle.base.proofs.TestLaws.{not_both}
use Rattle.base.proofs.Deciding.{Decides, numbers_decided, options_decided, parts_decided}
use Rattle.replication.specs.Machine.Types.{Configuration}
use Rattle.replication.specs.Runs.Run.{Place}
use Rattle.replication.specs.Runs.Happenings.{Message, Configured, regularly, transitionally}
use Rattle.replication.specs.Audit.Same.{same_message, same_configuration, same_regular, same_place, same_configured}

pub messages_decided : Decides same_message
unfolding same_message
messages_decided =
    parts_decided (λ (m : Message). m.sending) (λ m. m.number) (λ x y e f. λ i. record { sending = e i; number = f i }) numbers_decided numbers_decided

pub configurations_decided : Decides same_configuration
unfolding same_configuration
configurations_decided =
    parts_decided (λ (c : Configuration). c.id) (λ c. c.set) (λ x y e f. λ i. record { id = e i; set = f i }) numbers_decided numbers_decided

pub regulars_decided : Decides same_regular
unfolding same_regular
regulars_decided = options_decided configurations_decided

pub places_decided : Decides same_place
unfolding same_place
places_decided =
    parts_decided (λ (c : Place). c.regular) (λ c. c.transitional) (λ x y e f. λ i. record { regular = e i; transitional = f i }) regulars_decided
    (options_decided numbers_decided)

configured_says : (x y : Configured) → same_configured x y ≡ true → x ≡ y
unfolding same_configured
configured_says (regularly c) (regularly d) h = ap regularly (configurations_decided.says c d h)
configured_says (regularly c) (transitionally y) h = not_both h
configured_says (transitionally x) (regularly d) h = not_both h
configured_says (transitionally x) (transitionally y) h = ap transitionally (numbers_decided.says x y h)

configured_itself : (x : Configured) → same_configured x x ≡ true
unfolding same_configured
configured_itself (regularly c) = configurations_decided.itself c
configured_itself (transitionally x) = numbers_decided.itself x

pub configured_decided : Decides same_configured
configured_decided = record { says = configured_says; itself = configured_itself }
