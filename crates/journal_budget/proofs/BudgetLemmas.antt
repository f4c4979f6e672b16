-- What holds of the steps of a journal.
use Rattle.std.proofs.Common.{suc, zero, ◌∙◌, ap, replicate, ◌≡◌, ◌≤◌, ◌<◌, ◌+◌, ◌-◌, ℕ, List, [], ◌∷◌, ◌++◌, refl, arith}
use Rattle.std.specs.Prelude.{All, Contains, sum_by}
use Rattle.std.proofs.lemmas.List.Sums.{sum_by-append, sum_by-cons}
use Rattle.std.proofs.lemmas.Bool.{ne_eqb}
use Rattle.std.proofs.lemmas.List.Folds.{sum_by-replicate}
use Rattle.std.proofs.lemmas.List.Elements.{All-weaker, All-contains_itself, All-contains, All-append, All-cons, All-head, All-tail, All-replicate, Contains-append_left, Contains-append_right}
use Rattle.journal_budget.specs.declared.step_kind.StepKind.{StepKind}
use Rattle.journal_budget.specs.declared.step_kind.StepKind.TheVariants.{Opened, Accepted, Sent, Matched, Lost, Handed, Finished, Closed, Swept}
use Rattle.journal_budget.specs.declared.budget.TheConstants.{JOURNAL_STEPS}
use Rattle.journal_budget.specs.Steps.{IsOwed, made, owed, cost, freed, cost_of, freed_of, owed_by, done_by}
use Rattle.journal_budget.specs.Budget.{LoanState, BudgetState, no_loan, no_budget, free_steps, capped, borrowed, lent_more, loan_after, settled}
use Rattle.journal_budget.specs.BudgetLaws.{IsWithin, Pays}

lost_is_paid : (d o m f c price : ℕ) → 0 < d → price ≡ 0 → d ≤ o → m + o + f ≡ c → (1 + m) + (o + 0 - d) + (d - 1 + f) ≡ price + c
lost_is_paid d o m f c price some none may is = omega arith

-- a step that was owed, or cost itself and what it owes
step_is_paid : (k : StepKind) (o m f c : ℕ) → done_by k ≤ o → m + o + f ≡ c
    → (1 + m) + (o + owed_by k - done_by k) + (freed_of k + f) ≡ cost_of k + c
step_is_paid Opened o m f c may is = omega arith
step_is_paid (Accepted p) o m f c may is = omega arith
step_is_paid Sent o m f c may is = omega arith
step_is_paid Matched o m f c may is = omega arith
step_is_paid (Lost zero) o m f c may is = omega arith
step_is_paid (Lost (suc p)) o m f c may is =
    lost_is_paid (suc p) o m f c (cost_of (Lost (suc p))) (omega arith) (rw (ne_eqb (suc p) 0 (λ e. omega arith)) refl) may is
step_is_paid Handed o m f c may is = omega arith
step_is_paid Finished o m f c may is = omega arith
step_is_paid Closed o m f c may is = omega arith
step_is_paid Swept o m f c may is = omega arith

pub owed_is_paid : (ks : List StepKind) → IsOwed ks → made ks + owed ks + freed ks ≡ cost ks
owed_is_paid [] h = refl
owed_is_paid (k ∷ ks) (may, h) =
    let is = step_is_paid k (owed ks) (made ks) (freed ks) (cost ks) may (owed_is_paid ks h) in
    omega (arith, sum_by-cons freed_of k ks, sum_by-cons cost_of k ks, is)

-- the sum of loans of which one is this
sum_with : (f : LoanState → ℕ) (xs ys : List LoanState) (l : LoanState) → sum_by f (xs ++ l ∷ ys) ≡ sum_by f xs + (f l + sum_by f ys)
sum_with f xs ys l = sum_by-append f xs (l ∷ ys) ∙ ap (λ n. sum_by f xs + n) (sum_by-cons f l ys)

all_of : (P : LoanState → Type 0) (xs : List LoanState) → ((l : LoanState) → Contains xs l → P l) → All P xs
all_of P xs each = All-weaker (Contains xs) P each xs (All-contains_itself xs)

-- one loan in place of another
all_with : (P : LoanState → Type 0) (xs ys : List LoanState) (l m : LoanState) → P m → All P (xs ++ l ∷ ys) → All P (xs ++ m ∷ ys)
all_with P xs ys l m is all =
    All-append P xs (m ∷ ys)
    (all_of P xs (λ x c. All-contains P (xs ++ l ∷ ys) x all (Contains-append_left xs (l ∷ ys) x c)))
    (All-cons P m ys is (All-tail P l ys (all_of P (l ∷ ys) (λ x c. All-contains P (xs ++ l ∷ ys) x all (Contains-append_right xs (l ∷ ys) x c)))))

-- that one
of_all : (P : LoanState → Type 0) (xs ys : List LoanState) (l : LoanState) → All P (xs ++ l ∷ ys) → P l
of_all P xs ys l all = All-contains P (xs ++ l ∷ ys) l all (Contains-append_right xs (l ∷ ys) l (0, omega arith, refl))

within_borrowed : (l : LoanState) (steps : ℕ) → IsWithin l → IsWithin (borrowed steps l)
within_borrowed l steps is = omega arith

noted_within : (lent spent freed price more : ℕ) → spent ≤ capped (lent + freed) → price ≤ capped (lent + freed) - spent
    → capped (spent + capped price) ≤ capped (lent + capped (freed + more))
noted_within lent spent freed price more is has = omega arith

noted_spent : (lent spent freed price : ℕ) → spent ≤ capped (lent + freed) → price ≤ capped (lent + freed) - spent
    → capped (spent + capped price) ≡ spent + price
noted_spent lent spent freed price is has = omega arith

noted_freed : (freed more : ℕ) → capped (freed + more) ≤ freed + more
noted_freed freed more = omega arith

noted_sums : (costs freeds spent_before freed_l others_freed others_spent spent_l price more after_spent after_freed : ℕ)
    → costs + (others_freed + freed_l) ≤ freeds + spent_before + (others_spent + spent_l) → after_spent ≡ spent_l + price
    → after_freed ≤ freed_l + more
    → (price + costs) + (others_freed + after_freed) ≤ (more + freeds) + spent_before + (others_spent + after_spent)
noted_sums costs freeds spent_before freed_l others_freed others_spent spent_l price more after_spent after_freed is a b = omega arith

pub pays_at_first : (workers : ℕ) → Pays no_budget (replicate workers no_loan) []
pays_at_first workers = record {
  within = All-replicate IsWithin workers no_loan (omega arith);
  lent = omega (arith, sum_by-replicate (λ l. l.lent) workers no_loan);
  spent = omega (arith, sum_by-replicate (λ l. l.freed) workers no_loan, sum_by-replicate (λ l. l.spent) workers no_loan);
  fits = omega arith;
}

pub pays_once_lent : (b : BudgetState) (xs ys : List LoanState) (l : LoanState) (ks : List StepKind) (steps : ℕ)
    → b.spent + b.lent + steps ≤ JOURNAL_STEPS → Pays b (xs ++ l ∷ ys) ks → Pays (lent_more steps b) (xs ++ borrowed steps l ∷ ys) ks
pays_once_lent b xs ys l ks steps fits pays =
    let m = borrowed steps l in
    let lent = pays.lent in
    let spent = pays.spent in
    let was = of_all IsWithin xs ys l pays.within in record {
      within = all_with IsWithin xs ys l m (within_borrowed l steps was) pays.within;
      lent = omega (arith, sum_with (λ x. x.lent) xs ys l, sum_with (λ x. x.lent) xs ys m);
      spent = omega (arith, sum_with (λ x. x.freed) xs ys l, sum_with (λ x. x.freed) xs ys m, sum_with (λ x. x.spent) xs ys l, sum_with (λ x. x.spent) xs ys m);
      fits = omega arith;
    }

pub pays_once_noted : (b : BudgetState) (xs ys : List LoanState) (l : LoanState) (ks : List StepKind) (k : StepKind)
    → cost_of k ≤ free_steps l → Pays b (xs ++ l ∷ ys) ks → Pays b (xs ++ loan_after k l ∷ ys) (k ∷ ks)
pays_once_noted b xs ys l ks k free pays =
    let m = loan_after k l in
    let lent = pays.lent in
    let spent = pays.spent in
    let was = of_all IsWithin xs ys l pays.within in record {
      within = all_with IsWithin xs ys l m (noted_within l.lent l.spent l.freed (cost_of k) (freed_of k) was free) pays.within;
      lent = omega (arith, sum_with (λ x. x.lent) xs ys l, sum_with (λ x. x.lent) xs ys m);
      spent = omega (
        arith,
        sum_by-cons cost_of k ks,
        sum_by-cons freed_of k ks,
        sum_with (λ x. x.freed) xs ys l,
        sum_with (λ x. x.freed) xs ys m,
        sum_with (λ x. x.spent) xs ys l,
        sum_with (λ x. x.spent) xs ys m,
        noted_spent l.lent l.spent l.freed (cost_of k) was free,
        noted_freed l.freed (freed_of k),
      );
      fits = pays.fits;
    }

pub pays_once_settled : (b : BudgetState) (xs ys : List LoanState) (l : LoanState) (ks : List StepKind)
    → Pays b (xs ++ l ∷ ys) ks → Pays (settled JOURNAL_STEPS l b) (xs ++ no_loan ∷ ys) ks
pays_once_settled b xs ys l ks pays =
    let lent = pays.lent in
    let spent = pays.spent in
    let was = of_all IsWithin xs ys l pays.within in record {
      within = all_with IsWithin xs ys l no_loan (omega arith) pays.within;
      lent = omega (arith, sum_with (λ x. x.lent) xs ys l, sum_with (λ x. x.lent) xs ys no_loan);
      spent = omega (
        arith,
        sum_with (λ x. x.freed) xs ys l,
        sum_with (λ x. x.freed) xs ys no_loan,
        sum_with (λ x. x.lent) xs ys l,
        sum_with (λ x. x.spent) xs ys l,
        sum_with (λ x. x.spent) xs ys no_loan,
      );
      fits = omega (arith, pays.fits);
    }

pub spent_is_lent : (ls : List LoanState) → All IsWithin ls
    → sum_by (λ l. l.spent) ls ≤ sum_by (λ l. l.lent) ls + sum_by (λ l. l.freed) ls
spent_is_lent [] all = omega arith
spent_is_lent (l ∷ ls) all =
    let this = All-head IsWithin l ls all in
    let others = spent_is_lent ls (All-tail IsWithin l ls all) in
    omega (arith, sum_by-cons (λ l. l.spent) l ls, sum_by-cons (λ l. l.lent) l ls, sum_by-cons (λ l. l.freed) l ls)

pub owed_fits : (b : BudgetState) (ls : List LoanState) (ks : List StepKind) → Pays b ls ks → IsOwed ks → made ks + owed ks ≤ JOURNAL_STEPS
owed_fits b ls ks pays are =
    let paid = owed_is_paid ks are in
    let spent_is = spent_is_lent ls pays.within in
    let lent = pays.lent in
    let spent = pays.spent in
    let fits = pays.fits in omega arith
