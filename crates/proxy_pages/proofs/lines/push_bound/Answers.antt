use Rattle.std.proofs.Common.{◌++◌, ◌∷◌, [], ap, ◌∙◌}
use Rattle.std.specs.Prelude.{codes}
use Rattle.std.specs.List.{concat}
use Rattle.std.proofs.lemmas.Result.{on_ok_weaker}
use Rattle.proxy_pages.proofs.TextLemmas.{three}
use Rattle.proxy_pages.proofs.lines.push_bound.Goals as goal

pub returns : goal.returns
returns c =
    let q = c.push_seconds.new.page.items in
    let last = on_ok_weaker c.push_all-2.result (λ e. e ∙ ap (λ z. q ++ concat (codes "\"} " ∷ z ∷ codes "\n" ∷ [])) c.format.ensures.text) c.push_all-2.ensures in
    three _ _ _ _ _ _ q _ c.in_ok-push_all.ensures c.in_ok-push_seconds.ensures last
