use Rattle.std.proofs.Common.{rules}
use Rattle.std.proofs.lemmas.Slice.Zip.{all_zipped_more}
use Rattle.engine_work.proofs.threads.answer_all.Goals as goal

pub loop-work-preserved : goal.loop-work-preserved
loop-work-preserved g c =
    let (_, _, _, answers_are) = c.loop-work.invariant in
    let more = all_zipped_more _ c.loop-work.yielded c.loop-work.answers.items c.in-Some.work c.answer.result answers_are c.answer.ensures in
    (search rules, search rules, search rules, rw c.push_reserved.ensures.items more)
