use Rattle.std.proofs.Common.{◌≡◌, ◌∙◌, ◌++◌, ◌∷◌, [], sym, ap, subst, length, append-nil, ◌<◌, ◌+◌, ◌^◌}
use Rattle.std.proofs.Common.{arith}
use Rattle.std.proofs.lemmas.Grind.{common_steps}
use Rattle.std.proofs.lemmas.List.{nil_from_length}
use Rattle.proxy_histogram.specs.Unanswered.{HasNoEmptyRun, JoinsLast, moments_of}
use Rattle.proxy_histogram.proofs.UnansweredLemmas.{joins_first, joins_later, still_none_empty}
use Rattle.proxy_histogram.proofs.unanswered.Unanswered.join_last.Goals as goal

pub returns-in_default : goal.returns-in_default
returns-in_default c =
    λ fits.
    let first = c.self.inside.first in
    let later = c.self.inside.later.items in
    let none : later ≡ [] = nil_from_length later (grind (arith, common_steps)) in
    let same : c.pop_back.new.self.items ≡ later = sym (append-nil c.pop_back.new.self.items) ∙ sym c.in_default.ensures.items in
    let fits' : length (moments_of first later) + c.args.count < 2 ^ 64 = rw (← c.self.view_is) at fits in
    let joined : JoinsLast c.args.self.now (moments_of (record { since = first.since; count = c.saturating_add-self-inside.result }) later) c.args.count =
    rw (← c.self.view_is) (joins_first first later c.saturating_add-self-inside.result c.args.count none (rw (← c.self.view_is) at c.requires)
    c.saturating_add-self-inside.ensures fits') in
    subst (λ l. JoinsLast c.args.self.now (moments_of (record { since = first.since; count = c.saturating_add-self-inside.result }) l) c.args.count)
    (sym same) joined

pub invariant_of-self-2 : goal.invariant_of-self-2
invariant_of-self-2 c =
    let is : c.self.inside.later.items ≡ c.pop_back.new.self.items ++ c.in-Some.last ∷ [] = c.in-Some.ensures.items in
    let was : HasNoEmptyRun c.self.inside.first (c.pop_back.new.self.items ++ c.in-Some.last ∷ []) = rw is at c.self.invariant in
    subst (HasNoEmptyRun c.self.inside.first) (sym c.push_back_reserved.ensures.items)
    (still_none_empty c.self.inside.first c.in-Some.last c.pop_back.new.self.items c.saturating_add.result c.args.count was
    c.saturating_add.ensures)

pub returns : goal.returns
returns c =
    λ fits.
    let first = c.self.inside.first in
    let runs = c.pop_back.new.self.items in
    let is : c.self.inside.later.items ≡ runs ++ c.in-Some.last ∷ [] = c.in-Some.ensures.items in
    let old : c.args.self.now ≡ moments_of first (runs ++ c.in-Some.last ∷ []) = sym c.self.view_is ∙ ap (moments_of first) is in
    let was : HasNoEmptyRun first (runs ++ c.in-Some.last ∷ []) = rw is at c.self.invariant in
    let fits' : length (moments_of first (runs ++ c.in-Some.last ∷ [])) + c.args.count < 2 ^ 64 = rw old at fits in
    let joined = joins_later first c.in-Some.last runs c.saturating_add.result c.args.count was.later c.saturating_add.ensures fits' in
    subst (λ l. JoinsLast c.args.self.now (moments_of first l) c.args.count) (sym c.push_back_reserved.ensures.items)
    (subst (λ l. JoinsLast l (moments_of first (runs ++ record { since = c.in-Some.last.since; count = c.saturating_add.result } ∷ [])) c.args.count)
    (sym old) joined)
