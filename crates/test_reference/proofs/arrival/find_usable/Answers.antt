use Rattle.std.proofs.Common.{false, arith}
use Rattle.std.proofs.lemmas.List.FromFn.{fill_by_all}
use Rattle.ejector.specs.UsableHosts.{is_usable}
use Rattle.test_reference.proofs.arrival.find_usable.Goals as goal

pub returns : goal.returns
returns c =
    let inv = c.loop-host.invariant in
    let R = c.args.ejector.now.rules in
    fill_by_all (is_usable R c.args.ejector.now.state) c.loop-host.usable R.hosts false inv.size (λ k l. inv.told k (omega (arith, l, c.requires, c.loop-host-test.false)))
