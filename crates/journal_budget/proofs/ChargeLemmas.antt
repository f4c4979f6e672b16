-- Charges hold room for the replies that they are for.
use Rattle.std.proofs.Common.{◌≤◌, ◌+◌, ◌*◌, ℕ, nat_lt, List, [], ◌∷◌, inl, inr, arith}
use Rattle.std.proofs.lemmas.Bool.{cond_both}
use Rattle.journal_budget.specs.Payload.{PayloadState, HasRoomForCommand, kept_bytes}
use Rattle.std.proofs.Math.Nat.{mul-le-mul_right}
use Rattle.journal_budget.specs.ReplySizes.{SizesState, charge_for, charge_of, large_among}
use Rattle.journal_budget.specs.declared.reply_sizes.TheConstants.{LARGE_REPLY, MAX_EXPECTED}
use Rattle.journal_budget.specs.ChargeLaws.{PayloadEvent, IsHeldBack, room, kept, charged, awaited, beyond}

-- the charges that are still awaited hold room, and none has ended
record Holds (es : List PayloadEvent) : Type 0 where
  pub fits : kept es + awaited es ≤ room + beyond es
  pub ends : awaited es ≤ charged es

holds : (es : List PayloadEvent) → IsHeldBack es → Holds es
holds [] h = record { fits = omega arith; ends = omega arith }
holds (PayloadEvent.taken c ∷ es) (fits, h) =
    let is = holds es h in record { fits = omega (arith, fits, is.ends); ends = omega (arith, is.ends) }
holds (PayloadEvent.came n c ∷ es) (fits, h) =
    let is = holds es h in record { fits = omega (arith, fits, is.fits); ends = omega (arith, is.ends) }
holds (PayloadEvent.handed n c ∷ es) (came, later, h) =
    let is = holds es h in record { fits = omega (arith, came, is.fits); ends = omega (arith, later) }
holds (PayloadEvent.lowered c ∷ es) (fits, h) =
    let is = holds es h in record { fits = omega (arith, fits, is.fits); ends = omega (arith, fits, is.ends) }
holds (PayloadEvent.other n ∷ es) h =
    let is = holds es h in record { fits = omega (arith, is.fits); ends = omega (arith, is.ends) }

pub charged_fits : (es : List PayloadEvent) → IsHeldBack es → kept es ≤ room + beyond es
charged_fits es h = let is = holds es h in omega (arith, is.fits)

pub room_holds_charges : (p : PayloadState) (owed unfinished : ℕ) → HasRoomForCommand p owed unfinished → 1 ≤ p.used
    → kept_bytes p + p.charged + 2 * unfinished ≤ room
room_holds_charges p owed unfinished (inl fits) some = omega (arith, fits)
room_holds_charges p owed unfinished (inr none) some = absurd (omega (arith, none.1, some))

charge_alone : (expected : ℕ) → charge_of expected ≤ 2 * expected
charge_alone expected =
    cond_both (nat_lt expected LARGE_REPLY) 0 (2 * expected) (λ v. v ≤ 2 * expected) (λ e. omega arith) (λ e. omega arith)

charge_of_one : (s : SizesState) → charge_for 1 s ≤ 2 * s.expected
charge_of_one s =
    let few : large_among 1 s ≤ 1 = omega arith in
    let less = mul-le-mul_right (charge_of s.expected) few in
    omega (arith, less, charge_alone s.expected)

pub alone_has_room : (p : PayloadState) (owed unfinished : ℕ) (s : SizesState) → s.expected ≤ MAX_EXPECTED
    → HasRoomForCommand (record p { charged = 0 }) owed unfinished
    → HasRoomForCommand (record p { charged = charge_for 1 s }) owed unfinished
alone_has_room p owed unfinished s few (inr none) = inr none
alone_has_room p owed unfinished s few (inl fits) = inl (omega (arith, few, fits, charge_of_one s))
