use Rattle.engine_work.proofs.threads.WorkLists.for_works.Goals as goal

pub returns-clause-answers : goal.returns-clause-answers
returns-clause-answers g c = c.in_ok-answers.ensures.ok
