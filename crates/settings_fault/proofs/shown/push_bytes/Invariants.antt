use Rattle.std.proofs.Common.{string_bytes}
use Rattle.settings_fault.specs.Lines.{ArePrintable}
use Rattle.settings_fault.proofs.shown.push_bytes.Given as goal

abbrev pub invariant-loop-byte : goal.invariant-loop-byte
invariant-loop-byte l = ArePrintable (string_bytes l.fn.line) → ArePrintable (string_bytes l.line)
