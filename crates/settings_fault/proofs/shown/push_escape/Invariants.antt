use Rattle.std.proofs.Common.{string_bytes}
use Rattle.settings_fault.specs.Lines.{ArePrintable}
use Rattle.settings_fault.proofs.shown.push_escape.Given as goal

abbrev pub invariant-loop-unit : goal.invariant-loop-unit
invariant-loop-unit l = ArePrintable (string_bytes l.fn.line) → ArePrintable (string_bytes l.line)
