use Rattle.key_owners.proofs.StreamLemmas.{HasTold}
use Rattle.key_owners.proofs.tell.tell_owners.Given as goal

-- what came so far is told
abbrev pub invariant-loop : goal.invariant-loop
invariant-loop g l = HasTold l.fn.lines l.lines (g.R.Read.remaining l.fn.reader) (g.R.Read.remaining l.reader) (g.W.Write.contents l.fn.writer) (g.W.Write.contents l.writer)
