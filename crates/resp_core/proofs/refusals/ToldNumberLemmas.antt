-- The number by which reading refuses a byte is the lowest that fits.
use Rattle.std.proofs.Common.{◌≡◌, ◌≢◌, ◌⊎◌, ⊎_elim, inl, inr, ℕ, ◌≤◌, List, [], ◌∷◌, ◌++◌, length, refl, sym, ◌∙◌, subst, arith}
use Rattle.resp_core.specs.declared.error.Refusal.{Refusal}
use Rattle.resp_core.specs.declared.error.Refusal.TheVariants.{BadType, BadLength, BadNumber, BadLineEnd, TooLong, TooDeep}
use Rattle.resp_core.specs.Offset.{refusal_number}
use Rattle.resp_core.specs.Tree.{Tree}
use Rattle.resp_core.specs.Grammar.{max_text, max_depth}
use Rattle.resp_core.specs.Refusals.{RefusedInValue, IsTold}
use Rattle.resp_core.specs.Reading.{Outcome, found, unfinished, refused, value_at}
use Rattle.resp_core.proofs.reading.WholeValueLemmas.{value-reads, InValue}
use Rattle.resp_core.proofs.refusals.LowestNumberLemmas.{Judged}
use Rattle.resp_core.proofs.refusals.LowestInValueLemmas.{value_judged}
use Rattle.resp_core.proofs.refusals.FittingNumberLemmas.{fits_value}

module _ (most : ℕ) (came : List ℕ) (c : ℕ) where
  -- reading refuses a byte where a number fits its place
  pub refused_there : (m : ℕ) → RefusedInValue most max_depth came c m → (w : Refusal) × (rest : List ℕ) × (value_at most max_depth (came ++ c ∷ []) ≡ refused w rest)
  refused_there m r = by (value_at most max_depth came) refl (value_judged most max_depth came c m r)
    where
      by : (o : Outcome Tree) → value_at most max_depth came ≡ o → Judged (value_at most max_depth) came c m o → (w : Refusal) × (rest : List ℕ) × (value_at most max_depth (came ++ c ∷ []) ≡ refused w rest)
      by (found t rest) e h = absurd h
      by unfinished e h = (h.0, c ∷ [], h.1)
      by (refused w rest) e h = (w, rest ++ c ∷ [], (value-reads most max_depth).stays came (c ∷ []) rest w e)

  -- and by no higher one
  at_most : (m : ℕ) (w : Refusal) → RefusedInValue most max_depth came c m → value_at most max_depth came ≡ unfinished → value_at most max_depth (came ++ c ∷ []) ≡ refused w (c ∷ []) → refusal_number w ≤ m
  at_most m w r e f =
      let (v, fails, least) = subst (λ (o : Outcome Tree). Judged (value_at most max_depth) came c m o) e (value_judged most max_depth came c m r) in
      let g : refused v (c ∷ []) ≡ refused w (c ∷ []) = sym fails ∙ f in
      let w_is : v ≡ w = cc in
      subst (λ (z : Refusal). refusal_number z ≤ m) w_is least

  pub told_by : (w : Refusal) → value_at most max_depth came ≡ unfinished → value_at most max_depth (came ++ c ∷ []) ≡ refused w (c ∷ []) → InValue most max_depth came c w → (length came ≡ max_text → refusal_number w ≤ 106) → IsTold most came c (refusal_number w)
  told_by w e f place l = record {
    fits = inl (fits_value most max_depth came c w place);
    lowest = λ m. ⊎_elim (λ r. at_most m w r e f) (λ h. omega (arith, l h.0, h.1));
  }

  -- at the byte that makes a value too long: a ninth array there, and a value that goes on well
  pub told_deep : value_at most max_depth came ≡ unfinished → value_at most max_depth (came ++ c ∷ []) ≡ refused TooDeep (c ∷ []) → length came ≡ max_text → IsTold most came c 106
  told_deep e f l = record {
    fits = inr (l, refl);
    lowest = λ m. ⊎_elim (λ r. omega (arith, at_most m TooDeep r e f)) (λ h. omega (arith, h.1));
  }

  pub told_long : ((w : Refusal) (rest : List ℕ) → value_at most max_depth (came ++ c ∷ []) ≡ refused w rest → ⊥) → length came ≡ max_text → IsTold most came c 106
  told_long well l = record {
    fits = inr (l, refl);
    lowest = λ m. ⊎_elim (λ r. let (w, rest, fails) = refused_there m r in absurd (well w rest fails)) (λ h. omega (arith, h.1));
  }

pub cases_deep : (w : Refusal) → (w ≡ TooDeep) ⊎ (w ≢ TooDeep)
cases_deep BadType = inr (λ e. cc)
cases_deep BadLength = inr (λ e. cc)
cases_deep BadNumber = inr (λ e. cc)
cases_deep BadLineEnd = inr (λ e. cc)
cases_deep TooLong = inr (λ e. cc)
cases_deep TooDeep = inl refl

-- the other numbers are no higher than that of a value too long
pub number_le : (w : Refusal) → w ≢ TooDeep → refusal_number w ≤ 106
number_le BadType h = omega arith
number_le BadLength h = omega arith
number_le BadNumber h = omega arith
number_le BadLineEnd h = omega arith
number_le TooLong h = omega arith
number_le TooDeep h = absurd (h refl)

-- one number is told
pub one_number : (most : ℕ) (came : List ℕ) (c m n : ℕ) → IsTold most came c m → IsTold most came c n → m ≡ n
one_number most came c m n f g = omega (arith, f.lowest n g.fits, g.lowest m f.fits)
