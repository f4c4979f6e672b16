-- A ring of some hosts has a point.
use Rattle.std.proofs.Common.{ℕ, suc, ◌<◌, ◌≤◌, List, [], ◌∷◌, length, get_or, All, Contains, inl, inr, refl, arith}
use Rattle.std.proofs.lemmas.Bool.{cases_lt}
use Rattle.std.proofs.lemmas.List.Elements.{All-cons, All-weaker}
use Rattle.std.proofs.lemmas.Option.{slice_get-get_or}
use Rattle.md5.specs.Md5.{md5}
use Rattle.ketama.specs.Point.{point_in}
use Rattle.ketama.specs.Continuum.{Continuum}
use Rattle.ketama.specs.Ketama.{AreWeights, IsKetamaRing, label_of}
use Rattle.ketama.proofs.ShareLemmas.{heaviest_has_forty}

-- a place of the greatest
abbrev pub IsHeaviest : List ℕ → ℕ → Type 0
IsHeaviest weights host = (host < length weights) × All (λ w. w ≤ get_or weights host 0) weights

heaviest : (weights : List ℕ) → 1 ≤ length weights → (host : ℕ) × IsHeaviest weights host
heaviest [] some = absurd (omega arith)
heaviest (w ∷ []) some = (0, (omega arith, All-cons (λ v. v ≤ w) w [] (omega arith) (λ k d within. absurd (omega arith))))
heaviest (w ∷ v ∷ weights) some =
    let (host, (within, most)) = heaviest (v ∷ weights) (omega arith) in
    let best = get_or (v ∷ weights) host 0 in
    elim (cases_lt w best) [
      | inl less ↦ (suc host, (omega (arith, within), All-cons (λ x. x ≤ best) w (v ∷ weights) (omega (arith, less)) most))
      | inr more ↦ (0, (omega arith, All-cons (λ x. x ≤ w) w (v ∷ weights) (omega arith) (All-weaker (λ x. x ≤ best) (λ x. x ≤ w) (λ x below. omega (arith, below, more)) (v ∷ weights) most)))
    ]

-- a point of the ring, and its host
pub record HasPoint (names : List (List ℕ)) (ring : Continuum) : Type 0 where
  pub pair : ℕ × ℕ
  pub some : Contains ring.pairs pair
  pub within : pair.1 < length names

pub ring_has_point : (names : List (List ℕ)) (weights : List ℕ) (ring : Continuum) → 1 ≤ length names → AreWeights (length names) weights → IsKetamaRing names weights ring → HasPoint names ring
ring_has_point names weights ring some are is =
    let e = are.each in
    let (host, (within, most)) = heaviest weights (omega (arith, e, some)) in
    let in_names : host < length names = omega (arith, e, within) in
    let forty = heaviest_has_forty weights host within (are.in_range host 0 within).0 most in
    let pair : ℕ × ℕ = (point_in (md5 (label_of (get_or names host []) 0)) 0, host) in
    record {
      pair = pair;
      some = (is.pairs pair).1 (record {
        name = get_or names host [];
        host = slice_get-get_or names host [] in_names;
        point = record { k = 0; j = 0; digest = omega (arith, forty); place = omega arith; value = refl };
      });
      within = in_names;
    }
