use Rattle.std.proofs.Common.{◌-◌, ◌≡◌, length, refl, sym, subst}
use Rattle.std.proofs.lemmas.Option.{slice_get-get_or}
use Rattle.proxy_history.specs.History.{Step}
use Rattle.proxy_stats.specs.Counts.{HasCounted}
use Rattle.proxy_stats.specs.Refusals.{noted_in}
use Rattle.proxy_stats.proofs.CountLemmas.{last_is, last_within}
use Rattle.proxy_stats.proofs.tallied_core.count_last.Goals as goal

pub returns-in-Some-clause-counts : goal.returns-in-Some-clause-counts
returns-in-Some-clause-counts c = λ steps step same.
    let all = c.args.journal.now.steps in
    let found = last_is all steps step c.in-Some.step.now (length all - 1) same refl (sym c.in-Some.ensures) in
    subst (λ (s : Step). HasCounted c.args.counts.now s c.add.new.self) found (record {
      grown = c.add.ensures.grown;
      few = (c.add.ensures.ejected, c.add.ensures.kept);
      kinds = c.add.ensures.kinds;
      hosts = c.add.ensures.hosts;
    })

pub returns-in-Some-clause-names : goal.returns-in-Some-clause-names
returns-in-Some-clause-names c = λ steps step same.
    let all = c.args.journal.now.steps in
    let found = last_is all steps step c.in-Some.step.now (length all - 1) same refl (sym c.in-Some.ensures) in
    subst (λ (s : Step). c.note_refused.new.self ≡ noted_in c.args.names.now s) found c.note_refused.ensures

pub returns-in_default-clause-counts : goal.returns-in_default-clause-counts
returns-in_default-clause-counts c = λ steps step same.
    let all = c.args.journal.now.steps in
    let there = slice_get-get_or all (length all - 1) step (last_within all steps step (length all - 1) same refl) in
    absurd (let none = c.in_default.ensures in let some = there in cc)

pub returns-in_default-clause-names : goal.returns-in_default-clause-names
returns-in_default-clause-names c = λ steps step same.
    let all = c.args.journal.now.steps in
    let there = slice_get-get_or all (length all - 1) step (last_within all steps step (length all - 1) same refl) in
    absurd (let none = c.in_default.ensures in let some = there in cc)
