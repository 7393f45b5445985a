-- Document 01, 'Returned numbers': the number of each refusal, and 0 where there is none.
use Rattle.std.specs.Prelude.{ℕ, ⊤, Result, Ok, Err}
use Rattle.base.specs.Refusals.{bad_record, out_of_range_of, quota_used, not_now, not_from_here, short_buffer, bad_state}
use Rattle.refusals.specs.declared.Refusal.{Refusal}
use Rattle.refusals.specs.declared.Refusal.TheVariants.{BadRecord, OutOfRange, QuotaUsed, NotNow, NotFromHere, ShortBuffer, BadState}

abbrev pub refusal_number : Refusal → ℕ
refusal_number BadRecord = bad_record
refusal_number OutOfRange = out_of_range_of
refusal_number QuotaUsed = quota_used
refusal_number NotNow = not_now
refusal_number NotFromHere = not_from_here
refusal_number ShortBuffer = short_buffer
refusal_number BadState = bad_state

-- What a call returns that yields nothing.
abbrev pub outcome_number : Result ⊤ Refusal → ℕ
outcome_number (Ok _) = 0
outcome_number (Err r) = refusal_number r
