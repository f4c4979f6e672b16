-- Up to here each place says whether its host is usable.
use Rattle.std.proofs.Common.{◌≡◌, ◌<◌, ℕ, false, get_or, length}
use Rattle.ejector.specs.UsableHosts.{is_usable}
use Rattle.test_reference.proofs.arrival.find_usable.Given as goal

abbrev pub invariant-loop-host : goal.invariant-loop-host
invariant-loop-host l = record {
  size : length l.usable ≡ l.ejector.rules.hosts;
  told : (k : ℕ) → k < l.host → get_or l.usable k false ≡ is_usable l.ejector.rules l.ejector.state k;
}
