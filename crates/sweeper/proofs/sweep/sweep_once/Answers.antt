use Rattle.std.proofs.Common.{rules}
use Rattle.sweeper.proofs.sweep.sweep_once.Goals as goal

pub returns-clause-answered : goal.returns-clause-answered
returns-clause-answered g c = search rules

pub returns-clause-refused : goal.returns-clause-refused
returns-clause-refused g c = search rules
