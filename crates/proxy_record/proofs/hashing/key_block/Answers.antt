use Rattle.std.proofs.Common.{◌≡◌, ◌≤◌, ℕ, List, ◌++◌, length, map, take, drop, replicate, get_or, bit_xor, sym, ap, ◌∙◌, arith}
use Rattle.std.proofs.lemmas.List.{append-nil, length-append, take_all, drop_all}
use Rattle.std.proofs.lemmas.Grind.{get_or_default_zero}
use Rattle.std.proofs.lemmas.List.Edits.{map_over_more}
use Rattle.proxy_record.proofs.hashing.key_block.Goals as goal

map_all : (f : ℕ → ℕ) (xs : List ℕ) (i : ℕ) → length xs ≤ i → map f (take i xs) ++ drop i xs ≡ map f xs
map_all f xs i h = rw (take_all i xs h, drop_all i xs h) (append-nil (map f xs))

pub loop-byte-init : goal.loop-byte-init
loop-byte-init c = ap (λ z. z ++ replicate 48 0) c.copy_from_slice.ensures.after

pub loop-byte-preserved : goal.loop-byte-preserved
loop-byte-preserved c =
    map_over_more (λ b. bit_xor b c.args.mask) (c.args.key.now ++ replicate 48 0) c.loop-byte.byte-items c.loop-byte.byte-index
    (get_or c.loop-byte.byte-items c.loop-byte.byte-index 0) (omega (arith, length-append c.args.key.now (replicate 48 0), c.told-key)) c.loop-byte.invariant
    (sym (get_or_default_zero c.loop-byte.byte-items c.loop-byte.byte-index (get_or c.loop-byte.byte-items c.loop-byte.byte-index 0) (omega arith)))

pub returns : goal.returns
returns c =
    c.loop-byte.invariant
    ∙ map_all (λ b. bit_xor b c.args.mask) (c.args.key.now ++ replicate 48 0) c.loop-byte.byte-index (omega (arith, length-append c.args.key.now (replicate 48 0), c.told-key))
