use Rattle.std.proofs.Common.{◌≡◌, ◌<◌, ◌≤◌, ◌-◌, ℕ, true, false, get_or, not}
use Rattle.settings_fault.specs.Places.{is_line_break}
use Rattle.settings_fault.proofs.place.last_line.Given as goal

abbrev pub invariant-loop-at : goal.invariant-loop-at
invariant-loop-at l = record {
  inside : l.start ≤ l.at;
  no_break : (k : ℕ) → l.start ≤ k → k < l.at → not (is_line_break (get_or l.text k 0)) ≡ true;
  broken : 0 < l.start → not (is_line_break (get_or l.text (l.start - 1) 0)) ≡ false;
}
