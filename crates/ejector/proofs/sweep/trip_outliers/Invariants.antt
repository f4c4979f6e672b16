-- Up to here the hosts have had their turns, and the others are as they were.
use Rattle.std.proofs.Common.{◌≡◌, ◌+◌, ◌≤◌, ◌++◌, map, drop, count_by}
use Rattle.std.specs.List.{range_with_len}
use Rattle.ejector.specs.Sweeps.{trips_by, out_at}
use Rattle.ejector.specs.Counting.{at_turn, is_ejected_at, is_kept_at, outs}
use Rattle.ejector.proofs.sweep.trip_outliers.Given as goal

abbrev pub invariant-loop-i : goal.invariant-loop-i
invariant-loop-i l =
    let tripping = trips_by l.rules l.rates in
    let first = outs l.initial.hosts in
    record {
      hosts : l.hosts ≡ map (at_turn l.rules l.now tripping first l.initial.hosts) (range_with_len 0 l.i) ++ drop l.i l.initial.hosts;
      out : l.out ≡ out_at l.rules tripping first l.i;
      ejected : l.ejected ≡ count_by (is_ejected_at l.rules tripping first) (range_with_len 0 l.i);
      kept : l.kept ≡ count_by (is_kept_at l.rules tripping first) (range_with_len 0 l.i);
      few_out : l.out ≤ 64 + l.i;
      few_ejected : l.ejected ≤ l.i;
      few_kept : l.kept ≤ l.i;
    }
