use Rattle.test_total.proofs.running_total.RunningTotal.total.Goals as goal

pub returns : goal.returns
returns c = c.args.self.now.totalled
