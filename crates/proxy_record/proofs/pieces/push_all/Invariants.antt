use Rattle.std.proofs.Common.{◌≡◌, ◌++◌, map, take}
use Rattle.std.specs.List.{concat}
use Rattle.proxy_record.proofs.pieces.push_all.Given as goal

-- the pieces so far were appended
abbrev pub invariant-loop-piece : goal.invariant-loop-piece
invariant-loop-piece l = l.line.items ≡ l.fn.line.items ++ concat (map (λ piece. piece.now) (take l.piece-index l.pieces))
