use Rattle.engine_work.proofs.ZipLemmas.{zip_then}
use Rattle.engine_work.proofs.threads.run_in.Goals as goal

pub returns : goal.returns
returns g c =
    let settled = zip_then _ _ c.args.works.items c.begin_all-begun.result.items c.settle_all-settled.result.items c.begin_all-begun.ensures.begun c.settle_all-settled.ensures.settled in
    zip_then _ _ c.args.works.items c.settle_all-settled.result.items c.answer_all.result.items settled c.answer_all.ensures
