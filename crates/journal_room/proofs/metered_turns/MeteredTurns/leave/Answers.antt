use mathlib.Core.HLevel.{is_prop→PathP}
use Rattle.std.proofs.Math.Logic.{∥∥₁_prop}
use Rattle.journal_room.specs.LegalSteps.{IsOfLegalJournal}
use Rattle.journal_room.proofs.metered_turns.MeteredTurns.leave.Goals as goal

pub returns : goal.returns
returns g c =
    let turns = c.args.self.now in
    let same = c.leave.ensures in
    λ i. record {
      turns = same i;
      account = turns.account;
      last_ledger = turns.last_ledger;
      is_legal = is_prop→PathP (λ j. ∥ IsOfLegalJournal g.T.Turns.legal (g.T.Turns.facts (same j)) ∥₁) (λ j. ∥∥₁_prop) c.self-1.given.0 turns.is_legal i;
    }
