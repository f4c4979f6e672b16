-- Up to here the tallies are 0, and the others are as they were.
use Rattle.std.proofs.Common.{◌≡◌, ◌++◌, map, take, drop}
use Rattle.ejector.specs.Counting.{in_new_interval}
use Rattle.ejector.proofs.sweep.clear_tallies.Given as goal

abbrev pub invariant-loop-host : goal.invariant-loop-host
invariant-loop-host l = l.hosts ≡ map in_new_interval (take l.host-index l.initial.hosts) ++ drop l.host-index l.initial.hosts
