use Rattle.std.proofs.Common.{◌∙◌}
use Rattle.ejector.proofs.ejector.Ejector.snapshot.Goals as goal

pub returns : goal.returns
returns c =
    c.new.ensures
    ∙ (λ i. record { rules = c.self.inside.rules; state = record { clock = c.self.inside.clock; hosts = c.deref.ensures.value i } })
    ∙ c.self.view_is
