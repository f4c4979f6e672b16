use Rattle.std.proofs.Common.{◌≡◌, ◌<◌, arith}
use Rattle.proxy_generations.specs.Events.{newest}
use Rattle.proxy_generations.proofs.GenerationsStateLemmas.{serves, is_over, below_it, no_task}
use Rattle.proxy_generations.proofs.lifecycle.Generations.phase_by.Goals as goal

pub returns-in-Some-last : goal.returns-in-Some-last
returns-in-Some-last g c = λ es h last task.
    let same : c.in-Some-last.last ≡ c.args.number = omega (arith, c.if-last-number.true) in
    let is = c.in-Some-last.is in
    serves es h c.args.number cc

pub returns-in-Some-2 : goal.returns-in-Some-2
returns-in-Some-2 g c = λ es h last task.
    let is = c.in-Some-2.is in
    let less : c.args.number < c.in-Some-2.last = omega (arith, c.if-last-number-2.true) in
    is_over es h c.args.number
    (λ e. let same : c.in-Some-2.last ≡ c.args.number = cc in omega (arith, less, same))
    (no_task es c.args.number c.args.task (λ phase e. c.in_default.not-Some phase e) task)
    (below_it (newest es) c.in-Some-2.last c.args.number (cc) less)
