use Rattle.std.proofs.Common.{◌∙◌, sym, arith}
use Rattle.proxy_histogram.proofs.UnansweredLemmas.{taken_of_run}
use Rattle.proxy_histogram.proofs.unanswered.Unanswered.take_first.Goals as goal

pub returns-else-self-eq0-clause-taken : goal.returns-else-self-eq0-clause-taken
returns-else-self-eq0-clause-taken c =
    sym c.self.view_is ∙ taken_of_run c.self.inside.first c.self.inside.later.items c.min.result (omega (arith, c.min.ensures))
