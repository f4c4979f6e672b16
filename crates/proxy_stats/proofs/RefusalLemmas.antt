-- The names of the commands that steps refused: with one step more, and how many they are.
use Rattle.std.proofs.Common.{◌≡◌, ℕ, ◌^◌, ◌<◌, ◌≤◌, List, [], ◌∷◌, ◌++◌, inl, inr, cond, get_or, length, length-append, reverse, sum_by, refl, sym, ap, ◌∙◌, subst, arith, fold}
use Rattle.std.proofs.lemmas.Bool.{cases_Bool}
use Rattle.std.proofs.lemmas.List.{length-reverse}
use Rattle.std.proofs.lemmas.List.Elements.{filter_map-append}
use Rattle.std.proofs.lemmas.List.Sums.{fold-append, sum_by-cons, sum_by-le}
use Rattle.std.specs.Prelude.{true}
use Rattle.resp_core.specs.Tree.{Tree}
use Rattle.resp_core.specs.Command.{is_command, word, words_of}
use Rattle.splitter.specs.Request.{read}
use Rattle.proxy_history.specs.History.{Step}
use Rattle.proxy_history.specs.Legal.{IsLegal}
use Rattle.proxy_history.specs.Proxy.{Proxy, history_in}
use Rattle.proxy_history.specs.declared.answer.Answer.{Answer}
use Rattle.proxy_history.specs.declared.answer.Answer.TheVariants as answers
use Rattle.proxy_stats.specs.declared.refused_names.RefusedNames.{RefusedNames}
use Rattle.proxy_stats.specs.declared.tally.Counts.{Counts}
use Rattle.proxy_stats.specs.Amounts.{local_in, own_answers}
use Rattle.proxy_stats.specs.Counts.{HasCounted}
use Rattle.proxy_stats.specs.RefusedNames.{AreNamesOf, names_after, no_names, noted}
use Rattle.proxy_stats.specs.Refusals.{AreTallied, is_refusal, name_of, noted_in, refused_in, refused_name, refused_names_of}
use Rattle.proxy_stats.proofs.CountLemmas.{kept_last}
use Rattle.proxy_stats.proofs.RefusedNamesLemmas.{names_law}
use Rattle.proxy_stats.proofs.SmallStepLemmas.{many_steps}

-- ---- one step more

noted_by : (r : RefusedNames) (step : Step) → fold noted r (refused_in (step ∷ [])) ≡ noted_in r step
noted_by r step = elim (cases_Bool (is_refusal step.answer)) [ inl refused ↦ rw refused refl | inr other ↦ rw other refl ]

noted_last : (steps : List Step) (step : Step) → noted_in (refused_names_of steps) step ≡ refused_names_of (steps ++ step ∷ [])
noted_last steps step =
    sym (noted_by (refused_names_of steps) step)
    ∙ sym (fold-append noted no_names (refused_in steps) (refused_in (step ∷ [])))
    ∙ ap names_after (sym (filter_map-append refused_name steps (step ∷ [])))

pub tallied_last : (steps : List Step) (step : Step) (c d : Counts) (r s : RefusedNames) → AreTallied steps c r → HasCounted c step d → s ≡ noted_in r step → AreTallied (steps ++ step ∷ []) d s
tallied_last steps step c d r s old counted noted_so = record {
  counts = kept_last steps step c d old.counts counted;
  names = noted_so ∙ ap (λ n. noted_in n step) old.names ∙ noted_last steps step;
}

-- ---- how many they are

-- a refused command is one of the proxy's own answers of its kind
refusal_is_counted : (a : Answer) → cond (is_refusal a) 1 0 ≡ local_in 4 a
refusal_is_counted (answers.Opened conn) = refl
refusal_is_counted (answers.Accepted index local parts no_host busy) = refl
refusal_is_counted answers.Finishing = refl
refusal_is_counted (answers.Sent epoch at text) = refl
refusal_is_counted (answers.Matched trip) = refl
refusal_is_counted (answers.Lost parts trip) = refl
refusal_is_counted (answers.Swept returned ejected kept) = refl
refusal_is_counted (answers.Bytes text) = refl
refusal_is_counted answers.Closed = refl

refused_by : (step : Step) → length (refused_in (step ∷ [])) ≡ own_answers 4 step
refused_by step = elim (cases_Bool (is_refusal step.answer)) [
  | inl refused ↦ let e = refusal_is_counted step.answer in rw refused (rw refused at e)
  | inr other ↦ let e = refusal_is_counted step.answer in rw other (rw other at e)
]

pub refused_count : (steps : List Step) → length (refused_in steps) ≡ sum_by (own_answers 4) steps
refused_count [] = refl
refused_count (step ∷ steps) =
    let both = ap length (filter_map-append refused_name (step ∷ []) steps) in
    let long = length-append (refused_in (step ∷ [])) (refused_in steps) in
    omega (arith, both, long, refused_by step, refused_count steps, sum_by-cons (own_answers 4) step steps)

own_at_most : (a : Answer) → local_in 4 a ≤ 1
own_at_most a = let e = refusal_is_counted a in elim (cases_Bool (is_refusal a)) [ inl refused ↦ let f = rw refused at e in omega (arith, f) | inr other ↦ let f = rw other at e in omega (arith, f) ]

-- ---- what they mean, of a core

refused_few : (k : Proxy) → IsLegal k.setting (history_in k) → length (refused_in k.steps) < 2 ^ 64
refused_few k legal =
    let many : length (reverse k.steps) ≤ 262144 = many_steps k.setting (reverse k.steps) legal in
    let each = sum_by-le (own_answers 4) 1 k.steps (λ i d within. own_at_most (get_or k.steps i d).answer) in
    omega (arith, many, length-reverse k.steps, refused_count k.steps, each)

pub names_mean : (k : Proxy) (r : RefusedNames) → IsLegal k.setting (history_in k) → r ≡ refused_names_of k.steps → AreNamesOf (refused_in k.steps) r
names_mean k r legal is = subst (λ (n : RefusedNames). AreNamesOf (refused_in k.steps) n) (sym is) (names_law (refused_in k.steps) (refused_few k legal))

-- ---- a request's name

pub named_command : (t : Tree) (w : List ℕ) → is_command t ≡ true → w ≡ word (words_of t) 0 → w ≡ name_of (read t)
named_command t w command is = rw command is
