use Rattle.test_total.proofs.running_total.RunningTotalRecorded.sight.Goals as goal

pub returns : goal.returns
returns c = c.total.ensures
