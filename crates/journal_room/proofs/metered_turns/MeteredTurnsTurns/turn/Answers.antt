use Rattle.journal_room.proofs.LegalStepLemmas.{legal_after}
use Rattle.journal_room.proofs.metered_turns.MeteredTurnsTurns.turn.Goals as goal

pub invariant_of-self-in_default : goal.invariant_of-self-in_default
invariant_of-self-in_default g c = record {
  is_legal = legal_after _ _ _ c.turn-result.ensures.same g.T.Turns.cause (g.T.Turns.spent c.turn-result.new.self) _ c.turn-result.result c.turn-result.ensures.answered
      c.turn-result.ensures.refused c.args.self.now.is_legal;
}
