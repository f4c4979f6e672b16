use Rattle.std.proofs.Common.{◌≡◌, ◌++◌, map, take, drop, replicate, bit_xor}
use Rattle.proxy_record.proofs.hashing.key_block.Given as goal

-- the bytes so far were changed by the mask
abbrev pub invariant-loop-byte : goal.invariant-loop-byte
invariant-loop-byte l =
    l.byte-items ≡ map (λ b. bit_xor b l.mask) (take l.byte-index (l.key ++ replicate 48 0)) ++ drop l.byte-index (l.key ++ replicate 48 0)
