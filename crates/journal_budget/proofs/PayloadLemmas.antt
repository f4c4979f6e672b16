-- How the room of a journal shrinks.
use Rattle.std.proofs.Common.{◌≡◌, ◌≤◌, ◌<◌, ◌+◌, ◌*◌, ◌/◌, ℕ, max, inl, inr, refl, arith}
use Rattle.std.proofs.Math.Nat.{div-mul-le_self, le-div_iff_mul-le, mul-le-mul_left, mul-le-mul_right}
use Rattle.std.proofs.lemmas.Bool.{le-ltb}
use Rattle.journal_budget.specs.Budget.{capped}
use Rattle.journal_budget.specs.Payload.{PayloadState, IsFarFromFull, HasRoomForCommand, average_of, own_average, owed_bytes}
use Rattle.journal_budget.specs.declared.payload.TheConstants.{FAR_BYTES, FAR_STEPS, FIRST_STEPS}

-- fewer bytes over more steps
div_less : (a b m n : ℕ) → a ≤ b → n ≤ m → 0 < n → a / m ≤ b / n
div_less a b m n fewer more some =
    let less = mul-le-mul_left (a / m) more in
    let is = div-mul-le_self a m in
    (le-div_iff_mul-le some).1 (omega (arith, less, is))

-- the average of a journal that has enough steps
average_is : (p : PayloadState) → FIRST_STEPS ≤ p.steps → average_of p ≡ own_average p
average_is p enough = rw (le-ltb p.steps FIRST_STEPS enough) refl

average_less : (p q : PayloadState) → FIRST_STEPS ≤ p.steps → p.steps ≤ q.steps → q.due ≤ p.due → average_of q ≤ average_of p
average_less p q enough more fewer =
    let less = div_less q.due p.due (max q.steps FIRST_STEPS) (max p.steps FIRST_STEPS) fewer (omega (arith, more)) (omega arith) in
    let a = average_is p enough in
    let b = average_is q (omega arith) in
    omega (arith, less, a, b)

owed_less : (p q : PayloadState) (m n : ℕ) → average_of q ≤ average_of p → n ≤ m → q.charged ≤ p.charged
    → owed_bytes q n ≤ owed_bytes p m
owed_less p q m n less fewer charged =
    let a = mul-le-mul_left n less in
    let b = mul-le-mul_right (average_of p) fewer in
    omega (arith, a, b, charged)

-- a journal that would have room once it has grown by so much
pub far_from_full : (p grown : PayloadState) (owed owes : ℕ) → FIRST_STEPS ≤ p.steps → grown.steps ≡ p.steps
    → grown.charged ≡ p.charged → grown.came ≡ p.came → grown.handed ≡ p.handed → grown.used ≡ capped (p.used + 2 * FAR_BYTES)
    → grown.due ≡ capped (p.due + FAR_BYTES)
    → owes ≡ capped (owed + FAR_STEPS) → HasRoomForCommand grown owes FAR_BYTES → IsFarFromFull p owed
far_from_full p grown owed owes enough steps charged came handed used due owes_is (inr none) new n unfinished g few less = absurd (omega (arith, none.1))
far_from_full p grown owed owes enough steps charged came handed used due owes_is (inl room) new n unfinished g few less =
    let average = average_less grown new (omega arith) (omega (arith, g.steps)) (omega (arith, g.due)) in
    let bytes = owed_less grown new owes n average (omega arith) (omega (arith, charged, g.charged)) in
    (inl (omega (arith, g.used, g.came, room, bytes)), omega (arith, g.used, g.came, room))
