use Rattle.std.proofs.Common.{◌≡◌, ◌++◌, ◌∷◌, [], ℕ, List, Some, length, get_or, sym, ◌∙◌, add-one, arith, rules}
use Rattle.std.specs.List.{AllZip}
use Rattle.std.proofs.lemmas.List.{take_all}
use Rattle.serde_json.specs.Data.{array}
use Rattle.serde_json.specs.View.{items_view}
use Rattle.proxy_config.specs.Table.{AreWeightsOr, IsWeight, items_of, weight_data}
use Rattle.proxy_config.proofs.EntryLemmas.{Gives, all_err, gives_more, gives_written, gives_length, gives_good, written_length, none_written}
use Rattle.proxy_config.proofs.weights.weights_in.Goals as goal

pub returns-then-entries-hosts-clause-none : goal.returns-then-entries-hosts-clause-none
returns-then-entries-hosts-clause-none c = λ _ weights are.
    let e = are.0 in
    let n : items_view c.args.entries.now ≡ items_of weight_data weights = cc in
    let l = written_length weight_data IsWeight c.args.entries.now weights n in
    absurd (c.if-entries-hosts.true (l ∙ are.1.each))

pub returns-in_err-weight-clause-none : goal.returns-in_err-weight-clause-none
returns-in_err-weight-clause-none c =
    let none : (weights : List ℕ) → AreWeightsOr c.args.hosts (Some (array (items_view c.args.entries.now))) weights → ⊥ = λ weights are.
    let e = are.0 in
    let n : items_view c.args.entries.now ≡ items_of weight_data weights = cc in
    none_written weight_data IsWeight c.args.entries.now weights c.loop-entry.entry-index c.entry-item.result n are.1.in_range c.loop-entry-test.true c.entry-item.is c.in_err-weight.ensures.none in
    search (rules, none)

pub loop-entry-preserved : goal.loop-entry-preserved
loop-entry-preserved c =
    let g : Gives weight_data IsWeight (get_or c.args.entries.now c.loop-entry.entry-index c.entry-item.result) c.in_ok-weight.field-0 = rw (← c.entry-item.is) (c.in_ok-weight.ensures.ok) in
    rw (add-one, c.in_ok-push.ensures.items) (gives_more weight_data IsWeight _ _ _ c.entry-item.result _ c.loop-entry.invariant c.loop-entry-test.true g)

pub returns-clause-ok : goal.returns-clause-ok
returns-clause-ok c =
    let es = c.args.entries.now in
    let ws = c.loop-entry.weights.items in
    let i = c.loop-entry.invariant in
    let all : AllZip (Gives weight_data IsWeight) es ws = rw (take_all c.loop-entry.entry-index es c.loop-entry-test.false) at i in
    let same : length es ≡ c.args.hosts = omega (arith, c.if-entries-hosts.false) in
    let written = gives_written weight_data IsWeight es ws all in
    (cc, record { each = sym (gives_length weight_data IsWeight es ws all) ∙ same; in_range = gives_good weight_data IsWeight es ws all })

pub returns-in_err-push-clause-memory : goal.returns-in_err-push-clause-memory
returns-in_err-push-clause-memory c =
    let many : length c.args.entries.now ≡ c.args.hosts = omega (arith, c.if-entries-hosts.false) in
    let here : Gives weight_data IsWeight (get_or c.args.entries.now c.loop-entry.entry-index c.entry-item.result) c.in_ok-weight.field-0 = rw (← c.entry-item.is) (c.in_ok-weight.ensures.ok) in
    let given = gives_more weight_data IsWeight c.args.entries.now c.loop-entry.weights.items c.loop-entry.entry-index c.entry-item.result c.in_ok-weight.field-0 c.loop-entry.invariant c.loop-entry-test.true here in
    all_err _ c.from_residual-in_err-push.result (λ e memory. (many, (c.loop-entry.entry-index, c.loop-entry.weights.items ++ c.in_ok-weight.field-0 ∷ [], c.loop-entry-test.true, rw add-one given)))
