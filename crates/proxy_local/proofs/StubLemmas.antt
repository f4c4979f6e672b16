-- The hosts in memory.
use Rattle.std.proofs.Common.{◌≡◌, ℕ, ◌+◌, List, [], ◌∷◌, ◌++◌, map, ap, sym, ◌∙◌, arith}
use Rattle.std.specs.List.{range_with_len}
use Rattle.std.proofs.lemmas.List.{map-append, map-id}
use Rattle.std.proofs.lemmas.List.FromFn.{map-range_with_len_more}

-- one number more
range_with_len-more : (n : ℕ) → range_with_len 0 (n + 1) ≡ range_with_len 0 n ++ n ∷ []
range_with_len-more n =
    let e : 0 + n ≡ n = omega arith in
    sym (map-id (range_with_len 0 (n + 1))) ∙ map-range_with_len_more (λ k. k) 0 n n e
    ∙ ap (λ ks. ks ++ n ∷ []) (map-id (range_with_len 0 n))

-- one thing more, with the next number
pub numbers-more : {X : Type 0} (number : X → ℕ) (xs : List X) (x : X) (n : ℕ) → map number xs ≡ range_with_len 0 n → number x ≡ n
    → map number (xs ++ x ∷ []) ≡ range_with_len 0 (n + 1)
numbers-more number xs x n so_far next = map-append number xs (x ∷ []) ∙ rw (so_far, next) (sym (range_with_len-more n))
