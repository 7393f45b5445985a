-- The numbers of the sections that the code names.
use Rattle.std.specs.Prelude.{ℕ}
use Rattle.image.specs.declared.places.Section.{Section}
use Rattle.image.specs.declared.places.Section.TheVariants.{Noted, States, Yellow, Own, Queue}
use Rattle.image.specs.Layout.{the_noted, the_states, the_yellow, the_own, the_queue}

abbrev pub section_number : Section → ℕ
section_number Noted = the_noted
section_number States = the_states
section_number Yellow = the_yellow
section_number Own = the_own
section_number Queue = the_queue
