-- Signed 64-bit numbers and their one spelling.
use Rattle.std.specs.Prelude.{◌^◌, ℕ, ◌+◌, ◌-◌, ◌==◌, ℤ, pos, negsuc, ◌+ℤ◌, ◌&&◌, if◌then◌else◌, List, Option, Some, None}
use Rattle.std.specs.Fmt.{signed_decimal}
use Rattle.std.specs.Str.{bytes_eq}
use Rattle.std.specs.Str.Parse.{signed_digits_value}
use Rattle.resp_core.specs.ValueLimits.{is_long}

-- the signed 64-bit number whose one spelling these bytes are: decimal, with `-` below zero, without a plus sign and
-- without leading zeros
abbrev pub number_in : List ℕ → Option ℤ
number_in bytes = let n = signed_digits_value 10 bytes in if is_long n && bytes_eq (signed_decimal n) bytes then Some n else None

-- one more than the number, unless it is the greatest
abbrev pub one_more : ℤ → Option ℤ
one_more (pos n) = if n == 2 ^ 63 - 1 then None else Some (pos (n + 1))
one_more (negsuc n) = Some (negsuc n +ℤ pos 1)
