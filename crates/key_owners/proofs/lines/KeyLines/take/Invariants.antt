use Rattle.std.proofs.Common.{◌≡◌, ◌++◌, ℕ, List, take}
use Rattle.key_owners.specs.Lines.{TakesIn}
use Rattle.key_owners.proofs.lines.KeyLines.take.Given as goal

-- the bytes so far are taken in
abbrev pub invariant-loop-byte : goal.invariant-loop-byte
invariant-loop-byte l = (text : List ℕ) × (l.out.items ≡ l.fn.out.items ++ text) × TakesIn l.fn.self (take l.byte-index l.bytes) l.self text
