-- The bits of a worker's hosts, one after the other.
use Rattle.std.proofs.Common.{◌≡◌, ◌≢◌, ◌↔◌, ℕ, ◌+◌, ◌*◌, ◌%◌, ◌^◌, ◌<◌, ◌≤◌, bit_or, w64, ◌∙◌, inl, inr, arith}
use Rattle.std.specs.Int.{bit_at}
use Rattle.proxy_notices.specs.Places.{IsOf}
use Rattle.proxy_notices.specs.declared.place.Place.{Place}
use Rattle.std.proofs.lemmas.Bool.{cases_eq}
use Rattle.std.proofs.lemmas.Nat.Bits.{bit_at-zero, bit_at_set_same, bit_at_set_other}

-- the hosts below a number have their bits, and no others
pub record AreBelow (bits : ℕ) (place : Place) (next : ℕ) : Type 0 where
  pub below : (host : ℕ) → host < next → host < 64 → (bit_at bits host ≡ 1) ↔ IsOf place host
  pub above : (host : ℕ) → next ≤ host → bit_at bits host ≡ 0

pub none_below : (place : Place) → AreBelow 0 place 0
none_below place = record {
  below = λ host past. absurd (omega (arith, past));
  above = λ host _. bit_at-zero host;
}

module _ (bits : ℕ) (place : Place) (next : ℕ) (few : next < 64) (are : AreBelow bits place next) where
  pub with_host : IsOf place next → AreBelow (bit_or bits (1 * 2 ^ next % 2 ^ 64)) place (next + 1)
  with_host is =
      let same = bit_at_set_same w64 bits next few in
      record {
        below = λ host within small.
            elim (cases_eq host next) [
              | inl at ↦ rw at ((λ _. is), (λ _. same))
              | inr differs ↦
                  let kept = bit_at_set_other w64 bits next few host differs in
                  rw kept (are.below host (omega (arith, within, differs)) small)
            ];
        above = λ host past.
            bit_at_set_other w64 bits next few host (λ at. omega (arith, past, at)) ∙ are.above host (omega (arith, past));
      }

  pub without_host : (IsOf place next → ⊥) → AreBelow bits place (next + 1)
  without_host differs = record {
    below = λ host within small.
        elim (cases_eq host next) [
          | inl at ↦ rw at ((λ one. absurd (omega (arith, one, are.above next (omega arith)))), (λ is. absurd (differs is)))
          | inr apart ↦ are.below host (omega (arith, within, apart)) small
        ];
    above = λ host past. are.above host (omega (arith, past));
  }
