-- The delay that an order to drain asks for.
use Rattle.std.specs.Prelude.{ℕ, ◌&&◌, if◌then◌else◌, nat_lt, not, Bool, List, Option, Some, None, codes, drop, take, length}
use Rattle.std.specs.Char.{is_digit}
use Rattle.std.specs.List.{list_all}
use Rattle.std.specs.Str.{bytes_eq}
use Rattle.std.specs.Str.Parse.{digits_value, without_leading_plus}
use Rattle.proxy_pages.specs.declared.delay.Delay.{Delay}
use Rattle.proxy_pages.specs.declared.delay.TheConstants.{MAX_DRAIN_AFTER_MS}

-- whether these bytes are one decimal digit or more, and nothing else
abbrev pub is_numeral : List ℕ → Bool
is_numeral digits = nat_lt 0 (length digits) && list_all (λ c. is_digit c 10) digits

-- the milliseconds that digits tell, as far as there are so many; a plus may stand before them
abbrev pub ms_in : List ℕ → Delay
ms_in text =
    let digits = without_leading_plus text in
    let ms = digits_value 10 digits in
    if is_numeral digits && not (nat_lt MAX_DRAIN_AFTER_MS ms) then Delay.Ms ms else Delay.Bad

-- what a query says: nothing without one, else `after=` with digits
abbrev pub delay_in : Option (List ℕ) → Delay
delay_in None = Delay.Unsaid
delay_in (Some query) = if bytes_eq (take 6 query) (codes "after=") then ms_in (drop 6 query) else Delay.Bad
