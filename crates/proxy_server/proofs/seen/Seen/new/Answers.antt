use Rattle.proxy_server.proofs.WordLemmas.{task_by}
use Rattle.proxy_server.proofs.seen.Seen.new.Goals as goal

pub returns-clause-task : goal.returns-clause-task
returns-clause-task c = λ es shows. task_by c.task_in.result c.args.words.now c.args.number es c.task_in.ensures.shown c.task_in.ensures.none shows
