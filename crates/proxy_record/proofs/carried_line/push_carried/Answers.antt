use Rattle.proxy_record.proofs.TextLemmas.{five}
use Rattle.proxy_record.proofs.carried_line.push_carried.Goals as goal

pub returns : goal.returns
returns c =
    five _ _ _ _ _ _ _ _ _ _ _ _ c.in_ok-push_carried_head.ensures c.in_ok-push_leaf.ensures c.in_ok-push_piece.ensures c.in_ok-push_to.ensures c.push_piece-2.ensures
