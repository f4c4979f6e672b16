use Rattle.std.proofs.Common.{◌≡◌, ℕ, ◌<◌, ◌≤◌, get_or, None}
use Rattle.std.specs.Option.{ForSome}
use Rattle.ejector.specs.State.{fresh_host}
use Rattle.ejector.specs.Counting.{rate_then}
use Rattle.ejector.proofs.sweep.set_rates.Given as goal

abbrev pub invariant-loop-i : goal.invariant-loop-i
invariant-loop-i l = record {
  value : (k : ℕ) → k < l.i → get_or l.rates k None ≡ rate_then l.rules (get_or l.hosts k fresh_host);
  within : (k : ℕ) → k < l.i → ForSome (get_or l.rates k None) (λ share. share ≤ 1000000);
}
