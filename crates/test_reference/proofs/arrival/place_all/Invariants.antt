-- What is placed, with what comes of the rest, comes of the whole list.
use Rattle.std.proofs.Common.{◌≡◌, [], List, drop}
use Rattle.ejector.specs.declared.mark.Mark.{Mark}
use Rattle.proxy_history.specs.Setting.{Setting}
use Rattle.proxy_history.specs.History.{accepted_count}
use Rattle.proxy_history.specs.Arrival.{parts_placed, usable_flags}
use Rattle.test_reference.specs.Scan.{history_of, parts_of, past_of_scan}
use Rattle.test_reference.proofs.arrival.place_all.Given as goal

abbrev pub invariant-loop-plan : goal.invariant-loop-plan
invariant-loop-plan l = (S : Setting) (marks : List Mark) → S.ring ≡ l.owners.ring.now → S.rules.settings.tags ≡ l.owners.tags
    → usable_flags S (past_of_scan l.past.steps.now marks l.past.replay.now) ≡ l.owners.usable.now
    → parts_placed S (past_of_scan l.past.steps.now marks l.past.replay.now) l.conn (accepted_count l.conn (history_of l.past.steps.now)) (parts_of l.placed.items) (drop l.plan-index l.list)
    ≡ parts_placed S (past_of_scan l.past.steps.now marks l.past.replay.now) l.conn (accepted_count l.conn (history_of l.past.steps.now)) [] l.list
