use Rattle.std.proofs.Common.{rules}
use Rattle.proxy_local.proofs.local.run_to_end.Goals as goal

pub returns-clause-runs : goal.returns-clause-runs
returns-clause-runs g c = (
  c.run_client-ran.new.client,
  rw c.into_writer.ensures.held at c.in_ok-writer.ensures.ok,
  c.run_client-ran.ensures.goes,
  c.run_client-ran.ensures.ended,
)

pub returns-in_err-writer-clause-err : goal.returns-in_err-writer-clause-err
returns-in_err-writer-clause-err g c = search (rules, c.in_err-writer.ensures.err)
