use Rattle.std.proofs.Common.{◌≡◌, ◌++◌, List, ℕ, ap, ◌∙◌}
use Rattle.std.specs.Prelude.{codes}
use Rattle.std.proofs.lemmas.Result.{on_ok_weaker}
use Rattle.proxy_pages.specs.Lines.{labelled_text}
use Rattle.proxy_pages.proofs.TextLemmas.{two}
use Rattle.proxy_pages.proofs.metrics.push_peers.Goals as goal

pub returns : goal.returns
returns c =
    let name = c.args.name.now in
    let old = c.args.page.now.items in
    let between = c.push_labelled.new.page.items in
    let line : List ℕ → ℕ → List ℕ = λ peer n. labelled_text name (codes "peer") peer n in
    let first : between ≡ old ++ line (codes "clients") _ =
    c.in_ok-push_labelled.ensures ∙ ap (λ n. old ++ line (codes "clients") n) c.of-clients.ensures in
    let second = on_ok_weaker c.push_labelled-2.result (λ e. e ∙ ap (λ n. between ++ line (codes "hosts") n) c.of-hosts.ensures) c.push_labelled-2.ensures in
    two _ old _ _ between _ first second
