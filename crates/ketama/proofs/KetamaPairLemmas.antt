-- The pairs of libketama as lists, and what they have.
use Rattle.std.proofs.Common.{◌≡◌, ◌↔◌, ℕ, zero, suc, ◌+◌, ◌<◌, inl, inr, List, [], ◌++◌, length, get_or, refl, sym, ap, subst, Contains, All, add-one, lit<, arith}
use Rattle.std.proofs.lemmas.Bool.{cases_eq, cases_lt}
use Rattle.std.proofs.lemmas.Option.{slice_get-get_or, slice_get_within, get_or_from_slice_get}
use Rattle.std.proofs.lemmas.List.Elements.{Contains-get_or, Contains-append_left, Contains-append_right, Contains-append_cases}
use Rattle.md5.specs.Md5.{md5}
use Rattle.ketama.specs.Point.{point_in}
use Rattle.ketama.specs.GivenPoints.{HasBadPoint}
use Rattle.ketama.specs.Ketama.{label_of, IsPointOf, IsKetamaPair, digest_pairs, host_pairs, ring_pairs}

-- one more digest
pub host_pairs-more : (name : List ℕ) (host k : ℕ) → host_pairs name host (k + 1) ≡ host_pairs name host k ++ digest_pairs (md5 (label_of name k)) host
unfolding host_pairs
host_pairs-more name host k = rw (add-one k) refl

pub host_pairs-none : (name : List ℕ) (host : ℕ) → host_pairs name host 0 ≡ []
unfolding host_pairs
host_pairs-none name host = refl

-- one more host
pub ring_pairs-more : (names : List (List ℕ)) (counts : List ℕ) (n : ℕ) → ring_pairs names counts (n + 1) ≡ ring_pairs names counts n ++ host_pairs (get_or names n []) n (get_or counts n 0)
unfolding ring_pairs
ring_pairs-more names counts n = rw (add-one n) refl

pub ring_pairs-none : (names : List (List ℕ)) (counts : List ℕ) → ring_pairs names counts 0 ≡ []
unfolding ring_pairs
ring_pairs-none names counts = refl

-- ---- what the lists have

digest_pairs-has : (digest : List ℕ) (host j : ℕ) → j < 4 → Contains (digest_pairs digest host) (point_in digest j, host)
digest_pairs-has digest host zero below = (0, lit< tt, refl)
digest_pairs-has digest host (suc zero) below = (1, lit< tt, refl)
digest_pairs-has digest host (suc (suc zero)) below = (2, lit< tt, refl)
digest_pairs-has digest host (suc (suc (suc zero))) below = (3, lit< tt, refl)
digest_pairs-has digest host (suc (suc (suc (suc j)))) below = absurd (omega arith)

-- which point of a host's first n digests a pair is
record IsPairOf (name : List ℕ) (host n : ℕ) (pair : ℕ × ℕ) : Type 0 where
  k : ℕ
  j : ℕ
  digest : k < n
  place : j < 4
  point : pair.0 ≡ point_in (md5 (label_of name k)) j
  owner : pair.1 ≡ host

digest_pairs-cases : (digest : List ℕ) (host : ℕ) (pair : ℕ × ℕ) → Contains (digest_pairs digest host) pair → (j : ℕ) × (j < 4) × (pair.0 ≡ point_in digest j) × (pair.1 ≡ host)
digest_pairs-cases digest host pair (zero, within, e) = (0, lit< tt, ap (λ (p : ℕ × ℕ). p.0) (sym e), ap (λ (p : ℕ × ℕ). p.1) (sym e))
digest_pairs-cases digest host pair (suc zero, within, e) = (1, lit< tt, ap (λ (p : ℕ × ℕ). p.0) (sym e), ap (λ (p : ℕ × ℕ). p.1) (sym e))
digest_pairs-cases digest host pair (suc (suc zero), within, e) = (2, lit< tt, ap (λ (p : ℕ × ℕ). p.0) (sym e), ap (λ (p : ℕ × ℕ). p.1) (sym e))
digest_pairs-cases digest host pair (suc (suc (suc zero)), within, e) = (3, lit< tt, ap (λ (p : ℕ × ℕ). p.0) (sym e), ap (λ (p : ℕ × ℕ). p.1) (sym e))
digest_pairs-cases digest host pair (suc (suc (suc (suc k))), within, e) = absurd (omega arith)

host_pairs-has : (name : List ℕ) (host n k j : ℕ) → k < n → j < 4 → Contains (host_pairs name host n) (point_in (md5 (label_of name k)) j, host)
unfolding host_pairs
host_pairs-has name host zero k j below place = absurd (omega arith)
host_pairs-has name host (suc n) k j below place = elim (cases_eq k n) [
  | inl last ↦
      let pair = digest_pairs-has (md5 (label_of name n)) host j place in
      Contains-append_right (host_pairs name host n) (digest_pairs (md5 (label_of name n)) host) _
      (subst (λ i. Contains (digest_pairs (md5 (label_of name n)) host) (point_in (md5 (label_of name i)) j, host)) (sym last) pair)
  | inr earlier ↦
      Contains-append_left (host_pairs name host n) (digest_pairs (md5 (label_of name n)) host) _ (host_pairs-has name host n k j (omega arith) place)
]

host_pairs-cases : (name : List ℕ) (host n : ℕ) (pair : ℕ × ℕ) → Contains (host_pairs name host n) pair → IsPairOf name host n pair
unfolding host_pairs
host_pairs-cases name host zero pair (k, within, e) = absurd (omega arith)
host_pairs-cases name host (suc n) pair is = elim (Contains-append_cases (host_pairs name host n) (digest_pairs (md5 (label_of name n)) host) pair is) [
  | inl earlier ↦
      let p = host_pairs-cases name host n pair earlier in
      record { k = p.k; j = p.j; digest = omega arith; place = p.place; point = p.point; owner = p.owner }
  | inr last ↦
      let (j, place, point, owner) = digest_pairs-cases (md5 (label_of name n)) host pair last in
      record { k = n; j = j; digest = omega arith; place = place; point = point; owner = owner }
]

ring_pairs-has : (names : List (List ℕ)) (counts : List ℕ) (n point host : ℕ) → host < n → IsPointOf (get_or names host []) (get_or counts host 0) point → Contains (ring_pairs names counts n) (point, host)
unfolding ring_pairs
ring_pairs-has names counts zero point host below is = absurd (omega arith)
ring_pairs-has names counts (suc n) point host below is = elim (cases_eq host n) [
  | inl last ↦
      let here = host_pairs-has (get_or names host []) host (get_or counts host 0) is.k is.j is.digest is.place in
      let pair = subst (λ p. Contains (host_pairs (get_or names host []) host (get_or counts host 0)) (p, host)) (sym is.value) here in
      Contains-append_right (ring_pairs names counts n) (host_pairs (get_or names n []) n (get_or counts n 0)) (point, host)
      (subst (λ h. Contains (host_pairs (get_or names h []) h (get_or counts h 0)) (point, host)) last pair)
  | inr earlier ↦
      Contains-append_left (ring_pairs names counts n) (host_pairs (get_or names n []) n (get_or counts n 0)) (point, host) (ring_pairs-has names counts n point host (omega arith) is)
]

ring_pairs-cases : (names : List (List ℕ)) (counts : List ℕ) (n : ℕ) (pair : ℕ × ℕ) → Contains (ring_pairs names counts n) pair → (pair.1 < n) × IsPointOf (get_or names pair.1 []) (get_or counts pair.1 0) pair.0
unfolding ring_pairs
ring_pairs-cases names counts zero pair (k, within, e) = absurd (omega arith)
ring_pairs-cases names counts (suc n) pair is = elim (Contains-append_cases (ring_pairs names counts n) (host_pairs (get_or names n []) n (get_or counts n 0)) pair is) [
  | inl earlier ↦ let p = ring_pairs-cases names counts n pair earlier in (omega arith, p.1)
  | inr last ↦
      let p = host_pairs-cases (get_or names n []) n (get_or counts n 0) pair last in
      let of_last : IsPointOf (get_or names n []) (get_or counts n 0) pair.0 = record { k = p.k; j = p.j; digest = p.digest; place = p.place; value = p.point } in
      (omega arith, subst (λ h. IsPointOf (get_or names h []) (get_or counts h 0) pair.0) (sym p.owner) of_last)
]

-- ---- the ring

pub ring_pairs-IsKetamaPair : (names : List (List ℕ)) (counts : List ℕ) (pair : ℕ × ℕ) → Contains (ring_pairs names counts (length names)) pair ↔ IsKetamaPair names counts pair
ring_pairs-IsKetamaPair names counts pair = (
  (λ is. let p = ring_pairs-cases names counts (length names) pair is in
      record { name = get_or names pair.1 []; host = slice_get-get_or names pair.1 [] p.0; point = p.1 }),
  (λ is. ring_pairs-has names counts (length names) pair.0 pair.1 (slice_get_within names pair.1 is.name is.host)
      (subst (λ name. IsPointOf name (get_or counts pair.1 0) pair.0) (sym (get_or_from_slice_get names pair.1 is.name [] is.host)) is.point)),
)

-- each pair is of one of the hosts
pub IsKetamaPair-in_range : (names : List (List ℕ)) (counts : List ℕ) (pairs : List (ℕ × ℕ)) → ((pair : ℕ × ℕ) → Contains pairs pair ↔ IsKetamaPair names counts pair) → All (λ pair. pair.1 < length names) pairs
IsKetamaPair-in_range names counts pairs same = λ k d within.
    let pair = get_or pairs k d in
    let is = (same pair).0 (Contains-get_or pairs k d within) in
    slice_get_within names pair.1 is.name is.host

-- ---- points that are given

pub no_bad_point : (hosts : ℕ) (points pairs : List (ℕ × ℕ)) → ¬ HasBadPoint hosts points → ((pair : ℕ × ℕ) → Contains pairs pair → Contains points pair) → All (λ pair. pair.1 < hosts) pairs
no_bad_point hosts points pairs good of_them k d within = elim (cases_lt (get_or pairs k d).1 hosts) [
  | inl below ↦ below
  | inr above ↦ let (at, at_within, is) = of_them (get_or pairs k d) (Contains-get_or pairs k d within) in absurd (good (at, get_or pairs k d, at_within, is, above))
]
