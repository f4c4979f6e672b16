-- Moments of unanswered commands, run by run.
use Rattle.std.proofs.Common.{◌≡◌, ◌≢◌, ℕ, zero, suc, ◌+◌, ◌-◌, ◌≤◌, ◌<◌, List, [], ◌∷◌, ◌++◌, Some, All, length, map, take, drop, replicate, flat_map, refl, sym, ap, ◌∙◌, append_assoc, append-nil, subst, rules, inl, inr, ◌⊎◌, Contains, get_or, min, ◌^◌, arith, Bool, true, false}
use Rattle.std.specs.Prelude.{slice_get, ◌&&◌}
use Rattle.std.specs.Bool.{OnTrue, OnFalse}
use Rattle.std.proofs.lemmas.List.{map-append, drop-drop, length-append, length-replicate, length-take, take_all, take_more, replicate_more, get_or-append-add}
use Rattle.std.proofs.lemmas.List.Elements.{All-append, All-contains, All-contains_itself, All-cons, All-weaker, Contains-append_left, Contains-append_right}
use Rattle.std.proofs.lemmas.Option.{slice_get-get_or}
use Rattle.std.proofs.Math.Seq.{take-add}
use Rattle.std.proofs.lemmas.Grind.{flat_map-append}
use Rattle.proxy_histogram.specs.Unanswered.{AnswersOldest, HasNoEmptyRun, JoinsLast, moments_of, moments_of_run}
use Rattle.proxy_histogram.specs.Values.{IsOf}
use Rattle.proxy_histogram.specs.declared.histogram.Histogram.{Histogram}
use Rattle.proxy_histogram.specs.declared.unanswered.Run.{Run}

replicate-add : (m n v : ℕ) → replicate (m + n) v ≡ replicate m v ++ replicate n v
replicate-add zero n v = let none : 0 + n ≡ n = omega arith in ap (λ k. replicate k v) none
replicate-add (suc m) n v =
    let one : suc m + n ≡ suc (m + n) = omega arith in
    ap (λ k. replicate k v) one ∙ ap (λ l. v ∷ l) (replicate-add m n v)

map-replicate : (f : ℕ → ℕ) (n v : ℕ) → map f (replicate n v) ≡ replicate n (f v)
map-replicate f zero v = refl
map-replicate f (suc n) v = ap (λ l. f v ∷ l) (map-replicate f n v)

take_run : (n v : ℕ) (rest : List ℕ) → take n (replicate n v ++ rest) ≡ replicate n v
take_run zero v rest = refl
take_run (suc n) v rest = ap (λ l. v ∷ l) (take_run n v rest)

drop_run : (n v : ℕ) (rest : List ℕ) → drop n (replicate n v ++ rest) ≡ rest
drop_run zero v rest = refl
drop_run (suc n) v rest = drop_run n v rest

-- before any answer
pub answers_none : (old : List ℕ) (now : ℕ) (h : Histogram) → AnswersOldest old old now 0 h h
answers_none old now h = record {
  left = refl;
  recorded = λ values is. rw (append-nil values) is;
}

-- and then those of one moment more
pub answers_more : (old mid new : List ℕ) (now k n since : ℕ) (h h' h'' : Histogram) → AnswersOldest old mid now k h h'
    → mid ≡ replicate n since ++ new
    → ((values : List ℕ) → IsOf values h' → IsOf (values ++ replicate n (now - since)) h'') → AnswersOldest old new now (k + n) h h''
answers_more old mid new now k n since h h' h'' done taken more =
    let rest : drop k old ≡ replicate n since ++ new = sym done.left ∙ taken in
    let f : ℕ → ℕ = λ moment. now - moment in
    let first : take (k + n) old ≡ take k old ++ replicate n since =
    take-add k n old ∙ ap (λ l. take k old ++ l) (ap (take n) rest ∙ take_run n since new) in
    record {
      left = sym (sym (drop-drop n k old) ∙ ap (drop n) rest ∙ drop_run n since new);
      recorded = λ values is.
          let same : map f (take (k + n) old) ≡ map f (take k old) ++ replicate n (now - since) =
          ap (map f) first ∙ map-append f (take k old) (replicate n since) ∙ ap (λ l. map f (take k old) ++ l) (map-replicate f n since) in
          let whole : values ++ map f (take (k + n) old) ≡ (values ++ map f (take k old)) ++ replicate n (now - since) =
          ap (λ l. values ++ l) same ∙ sym (append_assoc values (map f (take k old)) (replicate n (now - since))) in
          rw whole (more (values ++ map f (take k old)) (done.recorded values is));
    }

take_none : (n : ℕ) (xs : List ℕ) → xs ≡ [] → take n xs ≡ []
take_none zero [] none = refl
take_none (suc n) [] none = refl
take_none n (x ∷ xs) none = absurd cc

drop_none : (n : ℕ) (xs : List ℕ) → xs ≡ [] → drop n xs ≡ []
drop_none zero [] none = refl
drop_none (suc n) [] none = refl
drop_none n (x ∷ xs) none = absurd cc

-- where none is left, further ones are none
pub answers_all : (old mid : List ℕ) (now k m : ℕ) (h h' : Histogram) → AnswersOldest old mid now k h h' → mid ≡ [] → k ≤ m
    → AnswersOldest old mid now m h h'
answers_all old mid now k m h h' done none within =
    let rest : drop k old ≡ [] = sym done.left ∙ none in
    let sum : m ≡ k + (m - k) = omega arith in
    let first : take m old ≡ take k old =
    ap (λ n. take n old) sum ∙ take-add k (m - k) old ∙ ap (λ l. take k old ++ l) (take_none (m - k) (drop k old) rest)
    ∙ append-nil (take k old) in
    record {
      left = none ∙ sym (ap (λ n. drop n old) sum ∙ sym (drop-drop (m - k) k old) ∙ drop_none (m - k) (drop k old) rest);
      recorded = λ values is. rw first (done.recorded values is);
    }

-- one run more is taken
pub take_next : (old mid new : List ℕ) (k n since : ℕ) → mid ≡ drop k old → mid ≡ replicate n since ++ new
    → (new ≡ drop (k + n) old) × (take (k + n) old ≡ take k old ++ replicate n since)
take_next old mid new k n since done taken =
    let rest : drop k old ≡ replicate n since ++ new = sym done ∙ taken in (
      sym (sym (drop-drop n k old) ∙ ap (drop n) rest ∙ drop_run n since new),
      take-add k n old ∙ ap (λ l. take k old ++ l) (ap (take n) rest ∙ take_run n since new),
    )

-- once none more is taken
pub take_end : (old mid : List ℕ) (count left : ℕ) → mid ≡ drop (count - left) old → (left ≡ 0) ⊎ (mid ≡ []) → left ≤ count
    → take count old ≡ take (count - left) old
take_end old mid count left done (inl over) within = let all : count ≡ count - left = omega (arith, over) in ap (λ n. take n old) all
take_end old mid count left done (inr none) within =
    let sum : count ≡ (count - left) + left = omega (arith, within) in
    ap (λ n. take n old) sum ∙ take-add (count - left) left old
    ∙ ap (λ l. take (count - left) old ++ l) (take_none left (drop (count - left) old) (sym done ∙ none))
    ∙ append-nil (take (count - left) old)

-- no more than so many are taken
pub take_short : (n : ℕ) (xs : List ℕ) → length (take n xs) ≤ n
take_short n xs = omega (arith, length-take n xs)

-- further ones were added, each at its moment, or some with the last one before them
pub added_or_joined : (b : Bool) (old new : List ℕ) (n since : ℕ) → OnTrue b (new ≡ old ++ replicate n since) → OnFalse b (JoinsLast old new n)
    → length new ≡ length old + n
added_or_joined true old new n since added joined =
    ap length added ∙ length-append old (replicate n since) ∙ ap (λ k. length old + k) (length-replicate n since)
added_or_joined false old new n since added joined =
    ap length joined.added ∙ length-append old (replicate n joined.moment) ∙ ap (λ k. length old + k) (length-replicate n joined.moment)

-- all of them were added at their moments, in two calls
pub added_both : (a b : Bool) (xs ys zs : List ℕ) (x y z : List ℕ) → OnTrue a (ys ≡ xs ++ x) → OnTrue b (zs ≡ ys ++ y) → z ≡ x ++ y
    → OnTrue (a && b) (zs ≡ xs ++ z)
added_both true true xs ys zs x y z first next is = next ∙ ap (λ l. l ++ y) first ∙ append_assoc xs x y ∙ ap (λ l. xs ++ l) (sym is)
added_both true false xs ys zs x y z first next is = tt
added_both false b xs ys zs x y z first next is = tt

-- a run, a part of which is taken
pub taken_of_run : (run : Run) (later : List Run) (n : ℕ) → n ≤ run.count
    → moments_of run later ≡ replicate n run.since ++ moments_of (record { since = run.since; count = run.count - n }) later
taken_of_run run later n within =
    let sum : run.count ≡ n + (run.count - n) = omega arith in
    let rest = replicate (run.count - n) run.since in
    ap (λ k. replicate k run.since ++ flat_map moments_of_run later) sum
    ∙ ap (λ l. l ++ flat_map moments_of_run later) (replicate-add n (run.count - n) run.since)
    ∙ append_assoc (replicate n run.since) rest (flat_map moments_of_run later)

-- once none more is taken
pub answers_end : (old mid new : List ℕ) (now count left n since : ℕ) (h h' : Histogram) → AnswersOldest old mid now (count - left) h h'
    → mid ≡ replicate n since ++ new → n ≡ 0 → (left ≡ 0) ⊎ (mid ≡ []) → left ≤ count → AnswersOldest old new now count h h'
answers_end old mid new now count left n since h h' done taken none why within =
    let same : mid ≡ new = taken ∙ ap (λ k. replicate k since ++ new) none in
    let so_far : AnswersOldest old new now (count - left) h h' = rw (← same) done in
    elim why [
      | inl over ↦ let all : count - left ≡ count = omega (arith, over) in rw all at so_far
      | inr gone ↦ answers_all old new now (count - left) count h h' so_far (sym same ∙ gone) (omega arith)
    ]

-- the last moment
last_of : (xs : List ℕ) (v : ℕ) → slice_get (xs ++ v ∷ []) (length (xs ++ v ∷ []) - 1) ≡ Some v
last_of xs v =
    let long = length-append xs (v ∷ []) in
    let at : length (xs ++ v ∷ []) - 1 ≡ length xs + 0 = omega (arith, long) in
    ap (slice_get (xs ++ v ∷ [])) at ∙ slice_get-get_or (xs ++ v ∷ []) (length xs + 0) v (omega (arith, long))
    ∙ ap Some (get_or-append-add xs (v ∷ []) 0 v)

last_of_run : (xs : List ℕ) (n v : ℕ) → 0 < n → slice_get (xs ++ replicate n v) (length (xs ++ replicate n v) - 1) ≡ Some v
last_of_run xs n v some =
    let more : n - 1 + 1 ≡ n = omega (arith, some) in
    let split : xs ++ replicate n v ≡ (xs ++ replicate (n - 1) v) ++ v ∷ [] =
    ap (λ l. xs ++ l) (ap (λ k. replicate k v) (sym more) ∙ sym (replicate_more (n - 1) v)) ∙ sym (append_assoc xs (replicate (n - 1) v) (v ∷ [])) in
    rw split (last_of (xs ++ replicate (n - 1) v) v)

-- more commands in the last run
joins_run : (front : List ℕ) (since m n k : ℕ) → 0 < m → n ≡ m + k → JoinsLast (front ++ replicate m since) (front ++ replicate n since) k
joins_run front since m n k some sum = record {
  moment = since;
  last = last_of_run front m since some;
  added = ap (λ l. front ++ l) (ap (λ j. replicate j since) sum ∙ replicate-add m k since)
      ∙ sym (append_assoc front (replicate m since) (replicate k since));
}

-- a further run
pub moments_push : (first : Run) (runs : List Run) (run : Run) → moments_of first (runs ++ run ∷ []) ≡ moments_of first runs ++ replicate run.count run.since
moments_push first runs run =
    ap (λ l. moments_of_run first ++ l) (flat_map-append moments_of_run runs (run ∷ []))
    ∙ ap (λ l. moments_of_run first ++ (flat_map moments_of_run runs ++ l)) (append-nil (replicate run.count run.since))
    ∙ sym (append_assoc (moments_of_run first) (flat_map moments_of_run runs) (replicate run.count run.since))

cases_zero : (n : ℕ) → (n ≡ 0) ⊎ (0 < n)
cases_zero zero = inl refl
cases_zero (suc n) = inr (omega arith)

not_nil : (runs : List Run) (run : Run) → runs ++ run ∷ [] ≡ [] → ⊥
not_nil [] run none = absurd cc
not_nil (r ∷ runs) run none = absurd cc

all_of_none : All (λ (r : Run). 0 < r.count) []
all_of_none = search rules

-- the first run alone
moments_one : (first : Run) (runs : List Run) → runs ≡ [] → moments_of first runs ≡ replicate first.count first.since
moments_one first runs none = ap (λ l. replicate first.count first.since ++ flat_map moments_of_run l) none ∙ append-nil (replicate first.count first.since)

some_in_one : (first : Run) (runs : List Run) → runs ≡ [] → moments_of first runs ≢ [] → 0 < first.count
some_in_one first runs none some = elim (cases_zero first.count) [
  | inl zero_is ↦ absurd (some (moments_one first runs none ∙ ap (λ k. replicate k first.since) zero_is))
  | inr more ↦ more
]

some_in_last : (runs : List Run) (run : Run) → All (λ r. 0 < r.count) (runs ++ run ∷ []) → 0 < run.count
some_in_last runs run all =
    All-contains (λ r. 0 < r.count) (runs ++ run ∷ []) run all (Contains-append_right runs (run ∷ []) run (0, omega arith, refl))

pub joins_first : (first : Run) (later : List Run) (n k : ℕ) → later ≡ [] → moments_of first later ≢ [] → n ≡ min (first.count + k) (2 ^ 64 - 1)
    → length (moments_of first later) + k < 2 ^ 64 → JoinsLast (moments_of first later) (moments_of (record { since = first.since; count = n }) later) k
joins_first first later n k none some capped fits =
    let one = moments_one first later none in
    let other = moments_one (record { since = first.since; count = n }) later none in
    let long = ap length one in
    let long' = length-replicate first.count first.since in
    rw (one, other) (joins_run [] first.since first.count n k (some_in_one first later none some) (omega (arith, long, long', capped, fits)))

pub joins_later : (first run : Run) (runs : List Run) (n k : ℕ) → All (λ r. 0 < r.count) (runs ++ run ∷ []) → n ≡ min (run.count + k) (2 ^ 64 - 1)
    → length (moments_of first (runs ++ run ∷ [])) + k < 2 ^ 64
    → JoinsLast (moments_of first (runs ++ run ∷ [])) (moments_of first (runs ++ record { since = run.since; count = n } ∷ [])) k
joins_later first run runs n k all capped fits =
    let old = moments_push first runs run in
    let new = moments_push first runs (record { since = run.since; count = n }) in
    let long = ap length old in
    let long' = length-append (moments_of first runs) (replicate run.count run.since) in
    let long'' = length-replicate run.count run.since in
    rw (old, new) (joins_run (moments_of first runs) run.since run.count n k (some_in_last runs run all)
    (omega (arith, long, long', long'', capped, fits)))

-- no run is empty once the last one has more
pub still_none_empty : (first run : Run) (runs : List Run) (n k : ℕ) → HasNoEmptyRun first (runs ++ run ∷ []) → n ≡ min (run.count + k) (2 ^ 64 - 1)
    → HasNoEmptyRun first (runs ++ record { since = run.since; count = n } ∷ [])
still_none_empty first run runs n k was capped =
    let some = some_in_last runs run was.later in
    record {
      first = λ none. absurd (not_nil runs run (was.first none));
      later = All-append (λ r. 0 < r.count) runs (record { since = run.since; count = n } ∷ [])
          (All-weaker (Contains runs) (λ r. 0 < r.count)
          (λ r c. All-contains (λ x. 0 < x.count) (runs ++ run ∷ []) r was.later (Contains-append_left runs (run ∷ []) r c)) runs
          (All-contains_itself runs))
          (All-cons (λ r. 0 < r.count) (record { since = run.since; count = n }) [] (omega (arith, some, capped)) all_of_none);
    }

-- since when the last ones are unanswered
pub last_of_first : (first : Run) (later : List Run) → later ≡ [] → moments_of first later ≢ []
    → slice_get (moments_of first later) (length (moments_of first later) - 1) ≡ Some first.since
last_of_first first later none some =
    rw (moments_one first later none) (last_of_run [] first.count first.since (some_in_one first later none some))

pub last_of_later : (first run : Run) (later : List Run) → 0 < length later → run ≡ get_or later (length later - 1) run
    → All (λ r. 0 < r.count) later → slice_get (moments_of first later) (length (moments_of first later) - 1) ≡ Some run.since
last_of_later first run later some is all =
    let front = take (length later - 1) later in
    let whole : length later - 1 + 1 ≡ length later = omega (arith, some) in
    let split : later ≡ front ++ run ∷ [] =
    sym (take_all (length later) later (omega arith)) ∙ ap (λ k. take k later) (sym whole)
    ∙ take_more later (length later - 1) run (omega (arith, some)) ∙ ap (λ r. front ++ r ∷ []) (sym is) in
    let is_all : All (λ r. 0 < r.count) (front ++ run ∷ []) = subst (All (λ r. 0 < r.count)) split all in
    ap (λ l. slice_get (moments_of first l) (length (moments_of first l) - 1)) split
    ∙ rw (moments_push first front run) (last_of_run (moments_of first front) run.count run.since (some_in_last front run is_all))
