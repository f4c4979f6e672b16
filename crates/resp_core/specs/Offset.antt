-- Where a refusal stands, and its number.
use Rattle.std.specs.Prelude.{ℕ}
use Rattle.resp_core.specs.declared.error.Refusal.{Refusal}
use Rattle.resp_core.specs.declared.error.Refusal.TheVariants.{BadType, BadLength, BadNumber, BadLineEnd, TooLong, TooDeep}
use Rattle.resp_core.specs.declared.error.RespError.{RespError}
use Rattle.resp_core.specs.declared.error.RespError.TheVariants as errors

-- where a refusal says that it stands
abbrev pub offset_of : RespError → ℕ
offset_of errors.NoMemory = 0
offset_of (errors.BadType at) = at
offset_of (errors.BadLength at) = at
offset_of (errors.BadNumber at) = at
offset_of (errors.BadLineEnd at) = at
offset_of (errors.TooLong at) = at
offset_of (errors.TooDeep at) = at

-- the number by which a refusal is documented
abbrev pub number_of : RespError → ℕ
number_of errors.NoMemory = 101
number_of (errors.BadType at) = 102
number_of (errors.BadLength at) = 103
number_of (errors.BadNumber at) = 104
number_of (errors.BadLineEnd at) = 105
number_of (errors.TooLong at) = 106
number_of (errors.TooDeep at) = 107

-- the number of the refusal of a byte, before its offset is known
abbrev pub refusal_number : Refusal → ℕ
refusal_number BadType = 102
refusal_number BadLength = 103
refusal_number BadNumber = 104
refusal_number BadLineEnd = 105
refusal_number TooLong = 106
refusal_number TooDeep = 107
