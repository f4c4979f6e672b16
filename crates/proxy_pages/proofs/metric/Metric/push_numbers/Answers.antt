use Rattle.std.proofs.Common.{◌≡◌, ◌++◌, List, ℕ, sym, ap, subst, ◌∙◌}
use Rattle.std.specs.Prelude.{codes, OnOk}
use Rattle.std.proofs.lemmas.Result.{on_ok_weaker}
use Rattle.proxy_pages.specs.Lines.{labelled_text}
use Rattle.proxy_pages.specs.Pages.{numbers_by}
use Rattle.proxy_pages.specs.declared.metric.Numbers.{Numbers}
use Rattle.proxy_pages.proofs.TextLemmas.{two}
use Rattle.proxy_pages.proofs.metric.Metric.push_numbers.Goals as goal

pub returns-in_ok-push_labelled-in-ByJournal : goal.returns-in_ok-push_labelled-in-ByJournal
returns-in_ok-push_labelled-in-ByJournal c =
    let name = c.args.self.now.name.now in
    let old = c.args.page.now.items in
    let between = c.push_labelled.new.page.items in
    let line : List ℕ → ℕ → List ℕ = λ journal n. labelled_text name (codes "journal") journal n in
    let first : between ≡ old ++ line (codes "serving") _ =
    c.in_ok-push_labelled-in-ByJournal.ensures ∙ ap (λ n. old ++ line (codes "serving") n) c.of-serving.ensures in
    let second = on_ok_weaker c.push_labelled-in-ByJournal.result (λ e. e ∙ ap (λ n. between ++ line (codes "draining") n) c.of-draining.ensures) c.push_labelled-in-ByJournal.ensures in
    subst (λ (n : Numbers). OnOk c.push_labelled-in-ByJournal.result (c.push_labelled-in-ByJournal.new.page.items ≡ old ++ numbers_by c.args.about.now c.args.snapshot.now name n))
    (sym c.in-ByJournal.is) (two _ old _ _ between _ first second)
