-- What a crate above cites: the room may be shared by threads, and a seat that made no step is of a legal journal.
use denote.Param.Send.{IsSync, sendable}
use Rattle.std.proofs.Crossing.{crosses}
use Rattle.journal_budget.proofs.CallerLemmas.{ledger_send}
use Rattle.std.proofs.Common.{◌≡◌, ◌∙◌, List, [], ap, sym}
use Rattle.std.proofs.lemmas.List.{reverse-reverse}
use Rattle.std.specs.Prelude.{reverse}
use Rattle.ticket_gate.specs.Journal.{steps_of}
use Rattle.ticket_gate.specs.Turns.{SeatedFacts}
use Rattle.proxy_history.specs.History.{Step}
use Rattle.proxy_history.specs.SeenSteps.{history_of_seen}
use Rattle.proxy_history.specs.declared.answer.Answer.{Answer}
use Rattle.proxy_history.specs.declared.event.Event.{Event}
use Rattle.proxy_core.specs.Recorded.{Origin, IsLegalJournal, legal_at_first}
use Rattle.journal_room.specs.LegalSteps.{IsOfLegalJournal, turns_of}
use Rattle.journal_room.specs.contracts.journal_room.JournalRoom as JournalRoom

pub room_sync : IsSync JournalRoom.the_row
room_sync = search (ledger_send, crosses, sendable) depth 40 fits 20000

none_seen : (seen : List Step) → history_of_seen seen ≡ [] → seen ≡ []
none_seen seen none = sym (reverse-reverse seen) ∙ ap (λ (l : List Step). reverse l) none

-- a seat that made no step made those of its pass in the empty journal
pub IsOfLegalJournal-none : (seat : SeatedFacts Event Answer Origin) → history_of_seen (steps_of seat.pass.number seat.pass.known.seen) ≡ []
    → ∥ IsOfLegalJournal IsLegalJournal (turns_of seat) ∥₁
IsOfLegalJournal-none seat none = ∣ record {
  journal = [];
  is_legal = legal_at_first seat.gate.setting;
  own = sym (none_seen (steps_of seat.pass.number seat.pass.known.seen) none);
} ∣₁
