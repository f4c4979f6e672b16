use Rattle.std.proofs.Common.{sym, ap, ◌∙◌}
use Rattle.std.proofs.lemmas.Result.{IfOk-weaker}
use Rattle.test_reference.specs.Scan.{past_of_scan}
use Rattle.test_reference.proofs.PlacingLemmas.{usable-of_state}
use Rattle.test_reference.proofs.arrival.placed_parts.Goals as goal

pub returns : goal.returns
returns c =
    let r = c.args.past.now.replay.now in
    IfOk-weaker c.place_all.result _ _
    (λ parts h S marks ring rules known. h S marks ring (ap (λ z. z.settings.tags) rules ∙ sym c.requires.tags)
    (usable-of_state S (past_of_scan c.args.past.now.steps.now marks r) r.ejector.rules r.ejector.state rules known ∙ sym c.find_usable.ensures))
    c.place_all.ensures
