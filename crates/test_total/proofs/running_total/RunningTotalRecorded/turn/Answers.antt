use Rattle.std.proofs.Common.{arith, refl, ap, ◌+◌, ◌≤◌}
use Rattle.journal_core.specs.Journal.{step_by}
use Rattle.test_total.proofs.TotalLemmas.{totals-push}
use Rattle.test_total.proofs.running_total.RunningTotalRecorded.turn.Goals as goal

pub returns-in-Ok-clause-legal : goal.returns-in-Ok-clause-legal
returns-in-Ok-clause-legal c totals =
    let e = c.in-Ok.ensures.items in
    let total = c.args.self.now.totalled in
    let within = c.args.self.now.within in
    let step = step_by c.args.pass c.args.event (c.args.self.now.total + c.args.event) in
    let room : c.args.self.now.total + c.args.event ≤ c.args.self.now.limit = omega arith in
    rw e (totals-push _ _ step (ap (λ n. n + c.args.event) total) room totals)

pub returns-then-event-self-clause-refused : goal.returns-then-event-self-clause-refused
returns-then-event-self-clause-refused c = (refl, refl, omega (arith, c.args.self.now.totalled))

pub returns-in-Ok-clause-answered : goal.returns-in-Ok-clause-answered
returns-in-Ok-clause-answered c = c.in-Ok.ensures.items
