-- Looks at living generations, one after the other.
use Rattle.std.specs.Prelude.{IfSome, IfNone, IsTrue, ◌↔◌, filter}
use Rattle.std.specs.List.{list_any}
use Rattle.std.specs.Option.{option_or}
use Rattle.std.proofs.Common.{◌≡◌, ◌<◌, ◌+◌, ◌==◌, cond, ℕ, suc, Bool, true, false, Option, Some, None, List, [], ◌∷◌, ◌++◌, length, map, take, drop, get_or, sum_by, Contains, refl, sym, ap, ◌∙◌, inl, inr, append-nil, arith}
use Rattle.std.proofs.lemmas.Bool.{or_cases, eqb-true, eq-eqb, cases_Bool}
use Rattle.std.proofs.lemmas.List.{take_more, take-append-drop, map-append}
use Rattle.std.proofs.lemmas.List.Elements.{filter_more}
use Rattle.std.proofs.lemmas.List.Folds.{find-append, list_any_at}
use Rattle.std.proofs.lemmas.List.Sums.{sum_by-append}
use Rattle.proxy_pages.specs.declared.snapshot.Look.{Look}
use Rattle.proxy_stats.specs.Sums.{capped_sum}
use Rattle.proxy_server.specs.LookSums.{IsLookSum}
use Rattle.proxy_server.specs.Living.{look_at, is_number}
use Rattle.proxy_server.specs.declared.living.Living.{Living}

-- ---- one of them

-- with one look more
look_more : (number : Option ℕ) (living : List Living) (i : ℕ) (d : Living) → i < length living → look_at number (take i living) ≡ None
    → look_at number (take (i + 1) living) ≡ cond (is_number number (get_or living i d).number) (Some (get_or living i d)) None
look_more number living i d less none =
    let one : List Living = get_or living i d ∷ [] in
    ap (look_at number) (take_more living i d less)
    ∙ find-append (λ l. is_number number l.number) (take i living) one
    ∙ ap (λ o. option_or o (look_at number one)) none

-- none more
pub look_none : (number : Option ℕ) (living : List Living) (i : ℕ) (d : Living) → look_at number (take i living) ≡ None → i < length living
    → is_number number (get_or living i d).number ≡ false → look_at number (take (i + 1) living) ≡ None
look_none number living i d none less other =
    look_more number living i d less none ∙ ap (λ b. cond b (Some (get_or living i d)) None) other

-- the first is found among all
look_found : (number : Option ℕ) (living : List Living) (i : ℕ) (d : Living) → look_at number (take i living) ≡ None → i < length living
    → is_number number (get_or living i d).number ≡ true → look_at number living ≡ Some (get_or living i d)
look_found number living i d none less this =
    let some : look_at number (take (i + 1) living) ≡ Some (get_or living i d) =
    look_more number living i d less none ∙ ap (λ b. cond b (Some (get_or living i d)) None) this in
    ap (look_at number) (sym (take-append-drop (i + 1) living))
    ∙ find-append (λ l. is_number number l.number) (take (i + 1) living) (drop (i + 1) living)
    ∙ ap (λ o. option_or o (look_at number (drop (i + 1) living))) some

pub is_found : (number : Option ℕ) (living : List Living) (i : ℕ) (d : Living) → look_at number (take i living) ≡ None → i < length living
    → is_number number (get_or living i d).number ≡ true
    → IfSome (look_at number living) (λ l. (get_or living i d).look ≡ l.look)
is_found number living i d none less this = rw (look_found number living i d none less this) refl

pub isnt_none : (number : Option ℕ) (living : List Living) (i : ℕ) (d : Living) (P : Type 0) → look_at number (take i living) ≡ None
    → i < length living → is_number number (get_or living i d).number ≡ true → IfNone (look_at number living) P
isnt_none number living i d P none less this = rw (look_found number living i d none less this) tt

-- ---- those that drain

shifted : (m n : ℕ) (ns : List ℕ) → Contains ns n → Contains (m ∷ ns) n
shifted m n ns (k, less, e) = (suc k, omega arith, e)

contains_any : (ns : List ℕ) (n : ℕ) → list_any (λ m. m == n) ns ≡ true → Contains ns n
contains_any [] n e = absurd cc
contains_any (m ∷ ns) n e = elim (or_cases (m == n) (list_any (λ k. k == n) ns) e) [
  | inl is ↦ (0, omega arith, eqb-true m n is)
  | inr rest ↦ shifted m n ns (contains_any ns n rest)
]

any_contains : (ns : List ℕ) (n : ℕ) → Contains ns n → list_any (λ m. m == n) ns ≡ true
any_contains ns n (k, less, e) = list_any_at (λ m. m == n) ns k n less (eq-eqb (get_or ns k n) n e)

-- a test that decides whether a number is there
pub is_there : (b : Bool) (ns : List ℕ) (n : ℕ) → IsTrue b ↔ Contains ns n → b ≡ list_any (λ m. m == n) ns
is_there true ns n (there, back) = sym (any_contains ns n (there refl))
is_there false ns n (there, back) = elim (cases_Bool (list_any (λ m. m == n) ns)) [
  | inl any ↦ absurd (let is = back (contains_any ns n any) in cc)
  | inr none ↦ sym none
]

-- ---- sums over some

kept_more : (p : Living → Bool) (living : List Living) (i : ℕ) (d : Living) (b : Bool) → i < length living → p (get_or living i d) ≡ b
    → filter p (take (i + 1) living) ≡ filter p (take i living) ++ cond b (get_or living i d ∷ []) []
kept_more p living i d b less is =
    filter_more p living i d less ∙ ap (λ c. filter p (take i living) ++ cond c (get_or living i d ∷ []) []) is

pub look_added : (p : Living → Bool) (living : List Living) (i : ℕ) (d : Living) (y : Look) → i < length living → p (get_or living i d) ≡ true
    → IsLookSum (map (λ l. l.look) (filter p (take i living)) ++ (get_or living i d).look ∷ []) y
    → IsLookSum (map (λ l. l.look) (filter p (take (i + 1) living))) y
look_added p living i d y less is sum =
    rw (kept_more p living i d true less is, map-append (λ l. l.look) (filter p (take i living)) (get_or living i d ∷ [])) sum

pub look_left : (p : Living → Bool) (living : List Living) (i : ℕ) (d : Living) (y : Look) → i < length living → p (get_or living i d) ≡ false
    → IsLookSum (map (λ l. l.look) (filter p (take i living))) y → IsLookSum (map (λ l. l.look) (filter p (take (i + 1) living))) y
look_left p living i d y less is sum =
    rw (kept_more p living i d false less is, append-nil (filter p (take i living))) sum

pub steps_added : (p : Living → Bool) (living : List Living) (i : ℕ) (d : Living) (past x y : ℕ) → i < length living
    → p (get_or living i d) ≡ true → x ≡ capped_sum (past + sum_by (λ l. l.look.steps) (filter p (take i living)))
    → y ≡ capped_sum (x + (get_or living i d).look.steps)
    → y ≡ capped_sum (past + sum_by (λ l. l.look.steps) (filter p (take (i + 1) living)))
steps_added p living i d past x y less is before more =
    let steps : Living → ℕ = λ l. l.look.steps in
    let single : sum_by steps (get_or living i d ∷ []) ≡ (get_or living i d).look.steps = omega arith in
    let sum : sum_by steps (filter p (take (i + 1) living)) ≡ sum_by steps (filter p (take i living)) + (get_or living i d).look.steps =
    ap (sum_by steps) (kept_more p living i d true less is)
    ∙ sum_by-append steps (filter p (take i living)) (get_or living i d ∷ [])
    ∙ ap (λ n. sum_by steps (filter p (take i living)) + n) single in
    grind (arith, sum, before, more)

pub steps_left : (p : Living → Bool) (living : List Living) (i : ℕ) (d : Living) (past x : ℕ) → i < length living
    → p (get_or living i d) ≡ false → x ≡ capped_sum (past + sum_by (λ l. l.look.steps) (filter p (take i living)))
    → x ≡ capped_sum (past + sum_by (λ l. l.look.steps) (filter p (take (i + 1) living)))
steps_left p living i d past x less is before =
    rw (kept_more p living i d false less is, append-nil (filter p (take i living))) before
