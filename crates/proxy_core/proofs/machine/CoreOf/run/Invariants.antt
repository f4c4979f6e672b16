use Rattle.std.proofs.Common.{◌≡◌, ◌≤◌, ◌+◌, ◌++◌, length, vec_len, vec_capacity}
use Rattle.proxy_history.specs.Proxy.{history_in}
use Rattle.proxy_core.specs.Core.{IsRun}
use Rattle.proxy_core.proofs.machine.CoreOf.run.Given as goal

abbrev pub invariant-loop-pass : goal.invariant-loop-pass
invariant-loop-pass g l = record {
  run : IsRun l.fn.self.setting (history_in l.fn.self) l.yielded l.answers.items (history_in l.self);
  setting : l.self.setting ≡ l.fn.self.setting;
  pairs : l.yielded ++ l.pass-iterator.rest.items ≡ l.fn.pairs.items;
  room : length l.pass-iterator.rest.items + vec_len l.answers ≤ vec_capacity l.answers;
}
