-- Up to here the hosts have had their returns, and the others are as they were.
use Rattle.std.proofs.Common.{◌≡◌, ◌≤◌, ◌++◌, map, take, drop, count_by}
use Rattle.ejector.specs.Counting.{with_return, is_returning}
use Rattle.ejector.proofs.sweep.return_hosts.Given as goal

abbrev pub invariant-loop-host : goal.invariant-loop-host
invariant-loop-host l = record {
  hosts : l.hosts ≡ map (with_return l.rules l.now) (take l.host-index l.initial.hosts) ++ drop l.host-index l.initial.hosts;
  count : l.returned ≡ count_by (is_returning l.rules l.now) (take l.host-index l.initial.hosts);
  few : l.returned ≤ l.host-index;
}
