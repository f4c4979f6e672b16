use Rattle.std.proofs.Common.{sym, ◌∙◌, ◌+◌}
use Rattle.std.proofs.lemmas.List.{take_rest}
use Rattle.ketama.proofs.SplitLemmas.{IsSplitAt-position, absent-position}
use Rattle.ketama.proofs.key.split_once.Goals as goal

pub returns-in_err-at-clause-absent : goal.returns-in_err-at-clause-absent
returns-in_err-at-clause-absent c = rw c.from_residual.ensures (absent-position c.args.byte c.args.bytes.now (sym c.find.ensures ∙ c.in_err-at.was))

pub returns-clause-split : goal.returns-clause-split
returns-clause-split c =
    rw (take_rest c.args.bytes.now (c.in_ok-at.at + 1)) (IsSplitAt-position c.args.byte c.in_ok-at.at c.args.bytes.now (sym c.find.ensures ∙ c.in_ok-at.was))
