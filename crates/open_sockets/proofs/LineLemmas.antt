-- Counts of each line's sockets, with one socket more or less.
use Rattle.std.proofs.Common.{◌≡◌, ◌≤◌, ◌<◌, ◌+◌, ◌-◌, ◌==◌, ℕ, Bool, true, false, cond, List, [], ◌∷◌, ◌++◌, length, get_or, set, append-nil, refl, sym, ◌∙◌, ap, arith}
use Rattle.std.specs.List.{count_by}
use Rattle.std.proofs.lemmas.Bool.{eqb-true, eqb-false}
use Rattle.std.proofs.lemmas.List.{get_or-set_same, get_or-set_other, length-set}
use Rattle.std.proofs.lemmas.List.Sums.{sum_by-append, sum_by-cons, count_by-le-length}
use Rattle.open_sockets.specs.Lines.{AreCounted}

-- a socket of a line counts one in it
one_there : (l line : ℕ) (b : Bool) → (line == l) ≡ b → (before after : List ℕ)
    → count_by (λ k. k == l) (before ++ line ∷ after) ≡ count_by (λ k. k == l) (before ++ after) + cond b 1 0
one_there l line b is before after =
    let f : ℕ → ℕ = λ k. cond (k == l) 1 0 in
    let here : f line ≡ cond b 1 0 = ap (λ c. cond c 1 0) is in
    omega (arith, sum_by-append f before (line ∷ after), sum_by-append f before after, sum_by-cons f line after, here)

-- the count of a line whose number changed
at : (b : Bool) (l line m : ℕ) (counts : List ℕ) → (line == l) ≡ b → l < length counts
    → get_or (set counts line m) l 0 ≡ cond b m (get_or counts l 0)
at true l line m counts is within =
    let same : line ≡ l = eqb-true line l is in
    rw same (get_or-set_same counts l m 0 within)
at false l line m counts is within =
    get_or-set_other counts line l m 0 (λ same. eqb-false line l is (sym same))

added_at : (b : Bool) (l line m : ℕ) (counts sockets : List ℕ) → (line == l) ≡ b → l < length counts
    → get_or counts l 0 ≡ count_by (λ k. k == l) sockets → (line ≡ l → m ≡ get_or counts l 0 + 1)
    → get_or (set counts line m) l 0 ≡ count_by (λ k. k == l) (sockets ++ line ∷ [])
added_at true l line m counts sockets is within counted more =
    let one = one_there l line true is sockets [] in
    omega (arith, at true l line m counts is within, one, ap (λ s. count_by (λ k. k == l) s) (append-nil sockets), counted, more (eqb-true line l is))
added_at false l line m counts sockets is within counted more =
    let one = one_there l line false is sockets [] in
    omega (arith, at false l line m counts is within, one, ap (λ s. count_by (λ k. k == l) s) (append-nil sockets), counted)

-- one socket more is in a line
pub added : (line m : ℕ) (old counts sockets : List ℕ) → old ≡ counts → line < length counts
    → (get_or counts line 0 < 18446744073709551615 → m ≡ get_or counts line 0 + 1)
    → AreCounted old sockets → length sockets < 18446744073709551615
    → AreCounted (set counts line m) (sockets ++ line ∷ [])
added line m old counts sockets is within more counted_old few l below =
    let counted : AreCounted counts sockets = rw is at counted_old in
    let inside : l < length counts = omega (arith, below, length-set counts line m) in
    let little : get_or counts line 0 < 18446744073709551615 =
    omega (arith, counted line within, count_by-le-length (λ k. k == line) sockets, few) in
    added_at (line == l) l line m counts sockets refl inside (counted l inside)
    (λ same. more little ∙ ap (λ k. get_or counts k 0 + 1) same)

gone_at : (b : Bool) (l line m : ℕ) (counts before after : List ℕ) → (line == l) ≡ b → l < length counts
    → get_or counts l 0 ≡ count_by (λ k. k == l) (before ++ line ∷ after) → (line ≡ l → m ≡ get_or counts l 0 - 1)
    → get_or (set counts line m) l 0 ≡ count_by (λ k. k == l) (before ++ after)
gone_at true l line m counts before after is within counted less =
    omega (arith, at true l line m counts is within, one_there l line true is before after, counted, less (eqb-true line l is))
gone_at false l line m counts before after is within counted less =
    omega (arith, at false l line m counts is within, one_there l line false is before after, counted)

-- a socket of a line is gone
pub gone : (line m : ℕ) (old counts before after : List ℕ) → old ≡ counts → m ≡ get_or counts line 0 - 1
    → AreCounted old (before ++ line ∷ after) → AreCounted (set counts line m) (before ++ after)
gone line m old counts before after is less counted_old l below =
    let counted : AreCounted counts (before ++ line ∷ after) = rw is at counted_old in
    let inside : l < length counts = omega (arith, below, length-set counts line m) in
    gone_at (line == l) l line m counts before after refl inside (counted l inside)
    (λ same. less ∙ ap (λ k. get_or counts k 0 - 1) same)

-- a number past the lines is none of them
no_line : (b : Bool) (line l n : ℕ) → (line == l) ≡ b → n ≤ line → l < n → (line == l) ≡ false
no_line false line l n is outside below = is
no_line true line l n is outside below = absurd (omega (arith, eqb-true line l is, outside, below))

-- sockets of no such line count nowhere
pub added_outside : (line : ℕ) (counts sockets : List ℕ) → length counts ≤ line → AreCounted counts sockets
    → AreCounted counts (sockets ++ line ∷ [])
added_outside line counts sockets outside counted l below =
    let one = one_there l line false (no_line (line == l) line l _ refl outside below) sockets [] in
    omega (arith, one, ap (λ s. count_by (λ k. k == l) s) (append-nil sockets), counted l below)

pub gone_outside : (line : ℕ) (counts before after : List ℕ) → length counts ≤ line
    → AreCounted counts (before ++ line ∷ after) → AreCounted counts (before ++ after)
gone_outside line counts before after outside counted l below =
    omega (arith, one_there l line false (no_line (line == l) line l _ refl outside below) before after, counted l below)
