use Rattle.std.proofs.Common.{ap, ◌∙◌, ◌-◌, ◌*◌, nat_lt}
use Rattle.ejector.specs.Counting.{outs}
use Rattle.ejector.specs.Ejector.{Ejection}
use Rattle.ejector.specs.UsableHosts.{is_panic}
use Rattle.ejector.proofs.ejector.Ejector.in_panic.Goals as goal

pub returns : goal.returns
returns c =
    let R = c.self.inside.rules in
    c.is_panic.ensures
    ∙ ap (λ out. nat_lt (100 * (R.hosts - out)) (R.settings.panic_percent * R.hosts)) (c.out_count.ensures.count ∙ ap outs c.deref.ensures.value)
    ∙ ap (λ (e : Ejection). is_panic e.rules e.state) c.self.view_is
