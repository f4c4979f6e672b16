use Rattle.test_total.proofs.running_total.RunningTotal.steps.Goals as goal

pub returns : goal.returns
returns c = c.as_slice.ensures.value
