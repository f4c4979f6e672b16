use Rattle.std.proofs.Common.{◌≡◌, ◌++◌, drop}
use Rattle.proxy_record.specs.Leaves.{hex}
use Rattle.proxy_record.proofs.pieces.push_hex.Given as goal

-- with the digits of the bytes that are left it is the whole text
abbrev pub invariant-loop-byte : goal.invariant-loop-byte
invariant-loop-byte l = l.line.items ++ hex (drop l.byte-index l.bytes) ≡ l.fn.line.items ++ hex l.bytes
