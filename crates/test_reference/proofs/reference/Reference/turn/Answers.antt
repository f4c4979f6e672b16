use Rattle.std.proofs.Common.{List, refl, subst}
use Rattle.proxy_history.specs.History.{Step}
use Rattle.proxy_history.specs.Past.{past}
use Rattle.proxy_history.specs.Legal.{MayFollow}
use Rattle.test_reference.specs.Scan.{history_of}
use Rattle.proxy_history.specs.Proxy.{Proxy, setting_of, history_in}
use Rattle.test_reference.proofs.IsStepLemmas.{added}
use Rattle.test_reference.proofs.reference.Reference.turn.Goals as goal

pub add-requires : goal.add-requires
add-requires c =
    let S = setting_of c.self.inside.ring c.self.inside.settings in
    let s : Step = record { pass = c.args.pass; event = c.args.event; answer = c.in-Ok.answer } in
    subst (λ (k : Proxy). MayFollow k.setting (past k.setting (history_in k)) s) c.self.view_is
    (subst (λ (steps : List Step). MayFollow S (past S (history_of steps)) s) c.deref.ensures.value (c.in-Ok.ensures.answer c.args.pass))

pub returns-in-Ok-clause-step : goal.returns-in-Ok-clause-step
returns-in-Ok-clause-step c =
    let S = setting_of c.self.inside.ring c.self.inside.settings in
    let s : Step = record { pass = c.args.pass; event = c.args.event; answer = c.in-Ok.answer } in
    let may = subst (λ (k : Proxy). MayFollow k.setting (past k.setting (history_in k)) s) c.self.view_is
    (subst (λ (steps : List Step). MayFollow S (past S (history_of steps)) s) c.deref.ensures.value (c.in-Ok.ensures.answer c.args.pass)) in
    added c.add.result c.args.self.now c.add.new.self c.args.pass c.args.event s refl refl may c.add.ensures.step
