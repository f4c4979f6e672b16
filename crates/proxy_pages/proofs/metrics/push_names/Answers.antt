use Rattle.std.proofs.Common.{ℕ, List, ◌≡◌, ◌++◌, subst}
use Rattle.std.specs.Prelude.{OnOk, codes}
use Rattle.proxy_pages.specs.Lines.{command_text}
use Rattle.proxy_pages.proofs.TextLemmas.{two}
use Rattle.proxy_pages.proofs.metrics.push_names.Goals as goal

pub returns : goal.returns
returns c =
    let line : List ℕ → List ℕ = λ word. command_text c.args.name.now word c.args.names.now.others in
    two _ _ _ (line (codes "(others)")) _ _ c.in_ok-push_places.ensures
    (subst (λ (word : List ℕ). OnOk c.push_of_command.result (c.push_of_command.new.page.items ≡ c.push_places.new.page.items ++ line word)) c.as_bytes.ensures.value c.push_of_command.ensures)
