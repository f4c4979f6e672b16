use Rattle.std.proofs.Common.{string_bytes}
use Rattle.settings_fault.specs.Lines.{ArePrintable}
use Rattle.settings_fault.proofs.shown.shown.Given as goal

abbrev pub invariant-loop-character : goal.invariant-loop-character
invariant-loop-character l = ArePrintable (string_bytes l.line)
