use Rattle.engine_work.proofs.threads.fn.run_all.scope.Goals as goal

pub returns : goal.returns
returns g c = record { each = c.run_in.ensures; err = tt }
