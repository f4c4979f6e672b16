-- How what a reply is expected to have falls.
use Rattle.std.proofs.Common.{◌≡◌, ◌≤◌, ◌<◌, ◌+◌, ◌-◌, ◌*◌, ◌/◌, ◌++◌, ℕ, zero, suc, nat_lt, List, [], ◌∷◌, length, subst, arith}
use Rattle.std.specs.Prelude.{All, max}
use Rattle.std.proofs.lemmas.List.Elements.{All-head, All-tail}
use Rattle.std.proofs.lemmas.Bool.{cond_both, le-ltb, ltb-false}
use Rattle.journal_budget.specs.Budget.{capped}
use Rattle.journal_budget.specs.ReplySizes.{SizesState, begun_anew, charge_of, count_of, counted_with, expected_after, expected_after_all, large_of, noted_all}
use Rattle.journal_budget.specs.declared.reply_sizes.TheConstants.{LARGE_REPLY, LATE, MAX_EXPECTED}
use Rattle.journal_budget.specs.declared.reply_sizes.HandedReplies.{HandedReplies}

pub large_is_charged : (n expected : ℕ) → LARGE_REPLY ≤ n → n ≤ expected → 2 * n ≤ charge_of expected
large_is_charged n expected large less =
    rw (le-ltb expected LARGE_REPLY (omega (arith, large, less))) (omega (arith, less))

-- what is left of so many bytes after so many falls
fall : ℕ → ℕ
fall n = n - n / 8

abbrev left : ℕ → ℕ → ℕ
left zero n = n
left (suc k) n = fall (left k n)

none_falls : (e : ℕ) → e ≤ MAX_EXPECTED → e ≤ max (LARGE_REPLY - 1) MAX_EXPECTED
none_falls e few = omega (arith, few)

one_falls : (n e b : ℕ) → n < LARGE_REPLY → e ≤ max (LARGE_REPLY - 1) b → expected_after n e ≤ max (LARGE_REPLY - 1) (fall b)
unfolding fall
one_falls n e b small less = omega (arith, small, less)

falls : (ns : List ℕ) (expected : ℕ) → expected ≤ MAX_EXPECTED → All (λ n. n < LARGE_REPLY) ns
    → expected_after_all ns expected ≤ max (LARGE_REPLY - 1) (left (length ns) MAX_EXPECTED)
falls [] expected few small = none_falls expected few
falls (n ∷ ns) expected few small =
    one_falls n (expected_after_all ns expected) (left (length ns) MAX_EXPECTED) (All-head (λ m. m < LARGE_REPLY) n ns small)
    (falls ns expected few (All-tail (λ m. m < LARGE_REPLY) n ns small))

same : (a : ℕ) → a ≤ a
same a = omega arith

one_less : (a b : ℕ) → a ≤ b → fall a ≤ b
unfolding fall
one_less a b less = omega (arith, less)

as_many : (k : ℕ) → k ≡ 0 + k
as_many k = omega arith

one_more : (j k : ℕ) → suc (j + k) ≡ suc j + k
one_more j k = omega arith

left_less : (j k n : ℕ) → left (j + k) n ≤ left k n
left_less zero k n = subst (λ i. left i n ≤ left k n) (as_many k) (same (left k n))
left_less (suc j) k n =
    subst (λ i. left i n ≤ left k n) (one_more j k) (one_less (left (j + k) n) (left k n) (left_less j k n))

falls_by : (a : ℕ) → 8 * fall a ≤ 7 * a + 7
unfolding fall
falls_by a = omega arith

six_falls : (a b : ℕ) → a ≤ b → fall (fall (fall (fall (fall (fall a))))) ≤ b * 9 / 20 + 4
six_falls a b less =
    let two = fall (fall a) in
    let four = fall (fall two) in
    omega (arith, less, falls_by a, falls_by (fall a), falls_by two, falls_by (fall two), falls_by four, falls_by (fall four))

left_6 : (n : ℕ) → n ≤ MAX_EXPECTED → left 6 n ≤ 7549751
left_6 n less = six_falls (left 0 n) MAX_EXPECTED less

left_12 : (n : ℕ) → n ≤ MAX_EXPECTED → left 12 n ≤ 3397391
left_12 n less = six_falls (left 6 n) 7549751 (left_6 n less)

left_18 : (n : ℕ) → n ≤ MAX_EXPECTED → left 18 n ≤ 1528829
left_18 n less = six_falls (left 12 n) 3397391 (left_12 n less)

left_24 : (n : ℕ) → n ≤ MAX_EXPECTED → left 24 n ≤ 687977
left_24 n less = six_falls (left 18 n) 1528829 (left_18 n less)

left_30 : (n : ℕ) → n ≤ MAX_EXPECTED → left 30 n ≤ 309593
left_30 n less = six_falls (left 24 n) 687977 (left_24 n less)

left_36 : (n : ℕ) → n ≤ MAX_EXPECTED → left 36 n ≤ 139320
left_36 n less = six_falls (left 30 n) 309593 (left_30 n less)

left_42 : (n : ℕ) → n ≤ MAX_EXPECTED → left 42 n ≤ 62698
left_42 n less = six_falls (left 36 n) 139320 (left_36 n less)

left_48 : (n : ℕ) → n ≤ MAX_EXPECTED → left 48 n ≤ 28218
left_48 n less = six_falls (left 42 n) 62698 (left_42 n less)

enough : (k : ℕ) → 48 ≤ k → left k MAX_EXPECTED ≤ left 48 MAX_EXPECTED
enough k many =
    let all : k - 48 + 48 ≡ k = omega (arith, many) in
    subst (λ j. left j MAX_EXPECTED ≤ left 48 MAX_EXPECTED) all (left_less (k - 48) 48 MAX_EXPECTED)

pub small_again : (ns : List ℕ) (expected : ℕ) → expected ≤ MAX_EXPECTED → All (λ n. n < LARGE_REPLY) ns → 48 ≤ length ns
    → expected_after_all ns expected < LARGE_REPLY
small_again ns expected few small many = omega (arith, falls ns expected few small, enough (length ns) many, left_48 MAX_EXPECTED (same MAX_EXPECTED))

-- where so many are counted since the count began, all large ones are
record Counts (new : List HandedReplies) (s : SizesState) : Type 0 where
  pub since : count_of new ≤ s.seen → large_of new ≤ s.large
  pub late : count_of new ≤ LATE → large_of new ≤ capped (s.large + s.before)

large_few : (new : List HandedReplies) → All (λ r. r.large ≤ r.count) new → large_of new ≤ count_of new
large_few [] each = omega arith
large_few (r ∷ rest) each =
    let head = All-head (λ q. q.large ≤ q.count) r rest each in
    let tail = large_few rest (All-tail (λ q. q.large ≤ q.count) r rest each) in
    omega (arith, head, tail)

counts_on : (r : HandedReplies) (rest : List HandedReplies) (s : SizesState) → r.large ≤ r.count
    → large_of rest ≤ count_of rest → Counts rest s → Counts (r ∷ rest) (begun_anew (counted_with r s))
counts_on r rest s few fewer before =
    cond_both (nat_lt (counted_with r s).seen LATE) (counted_with r s) (record (counted_with r s) { seen = 0; large = 0; before = (counted_with r s).large })
    (λ now. Counts (r ∷ rest) now)
    (λ e. record {
      since = λ less. omega (arith, less, before.since);
      late = λ less. omega (arith, less, before.late);
    })
    (λ e. record {
      since = λ less. omega (arith, less, few, fewer);
      late = λ less. omega (arith, less, ltb-false (counted_with r s).seen LATE e, before.since);
    })

counts_all : (new old : List HandedReplies) (s : SizesState) → All (λ r. r.large ≤ r.count) new → Counts new (noted_all (new ++ old) s)
counts_all [] old s each = record { since = λ less. omega arith; late = λ less. omega arith }
counts_all (r ∷ rest) old s each =
    let tail = All-tail (λ q. q.large ≤ q.count) r rest each in
    let now = counts_on r rest (noted_all (rest ++ old) s) (All-head (λ q. q.large ≤ q.count) r rest each) (large_few rest tail)
    (counts_all rest old s tail) in
    record { since = now.since; late = now.late }

pub late_are_counted : (new old : List HandedReplies) (s : SizesState) → All (λ r. r.large ≤ r.count) new → count_of new ≤ LATE
    → large_of new ≤ capped ((noted_all (new ++ old) s).large + (noted_all (new ++ old) s).before)
late_are_counted new old s each few = (counts_all new old s each).late few
