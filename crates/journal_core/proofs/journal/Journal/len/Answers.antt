use Rattle.std.proofs.Common.{length, ap, ◌∙◌}
use Rattle.journal_core.proofs.journal.Journal.len.Goals as goal

pub returns-clause-steps : goal.returns-clause-steps
returns-clause-steps g c = c.len.ensures ∙ ap (λ j. length j.steps) c.self.view_is
