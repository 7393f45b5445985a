-- The number of each refusal, and 0 where there is none.
use Rattle.std.specs.Prelude.{ℕ, ⊤, Result, Ok, Err}
use Rattle.refusals.specs.Numbers.{refusal_number}
use Rattle.pegs.specs.Register.{peg_there, peg_not_there, no_operation, register_full}
use Rattle.pegs.specs.Queries.{bad_rectangle}
use Rattle.register_check.specs.declared.refusing.RegisterRefusal.{RegisterRefusal}
use Rattle.register_check.specs.declared.refusing.RegisterRefusal.TheVariants.{Buffer, PegThere, PegNotThere, NoOperation, BadRectangle, RegisterFull}

abbrev pub refused_number : RegisterRefusal → ℕ
refused_number (Buffer r) = refusal_number r
refused_number PegThere = peg_there
refused_number PegNotThere = peg_not_there
refused_number NoOperation = no_operation
refused_number BadRectangle = bad_rectangle
refused_number RegisterFull = register_full

-- What a call returns that yields nothing.
abbrev pub answer_number : Result ⊤ RegisterRefusal → ℕ
answer_number (Ok _) = 0
answer_number (Err r) = refused_number r
