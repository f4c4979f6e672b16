use Rattle.std.proofs.Common.{◌++◌, ap, ◌∙◌}
use Rattle.proxy_pages.specs.Pages.{metrics_text}
use Rattle.proxy_pages.proofs.metrics.page.Goals as goal

pub returns : goal.returns
returns c =
    c.in_ok-push_metrics.ensures ∙ ap (λ z. z ++ metrics_text c.args.about.now c.args.snapshot.now) c.new-page.ensures.items
