-- Up to here each place says whether its host isn't out, and those that are out are counted.
use Rattle.std.proofs.Common.{◌≡◌, ℕ, ◌<◌, ◌≤◌, take, get_or, false}
use Rattle.ejector.specs.State.{fresh_host}
use Rattle.ejector.specs.Counting.{is_in, outs}
use Rattle.ejector.proofs.counting.set_in.Given as goal

abbrev pub invariant-loop-i : goal.invariant-loop-i
invariant-loop-i l = record {
  places : (k : ℕ) → k < l.i → get_or l.places k false ≡ is_in (get_or l.hosts k fresh_host);
  count : l.out ≡ outs (take l.i l.hosts);
  few : l.out ≤ l.i;
}
