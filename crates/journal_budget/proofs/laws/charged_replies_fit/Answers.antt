use Rattle.journal_budget.proofs.ChargeLemmas.{charged_fits, room_holds_charges, alone_has_room}
use Rattle.journal_budget.proofs.laws.charged_replies_fit.Goals as goal

pub returns : goal.returns
returns c = record { fits = charged_fits; holds = room_holds_charges; alone = alone_has_room }
