use Rattle.std.proofs.Common.{◌≡◌, [], ◌∷◌, ◌++◌, sym, ap, ◌∙◌, subst, Some}
use Rattle.atomic_table.specs.Table.{opening}
use Rattle.ticket_gate.specs.Rule.{GateRule, first_view}
use Rattle.ticket_gate.proofs.LifetimeLemmas.{opens}
use Rattle.ticket_gate.proofs.gate.Gate.new_at.Goals as goal

pub new-requires : goal.new-requires
new-requires g c =
    let R = g.S.Recorded in
    let k = R.setting c.of.result.value in
    let slots : c.push.new.self.items ≡ Some c.args.state ∷ [] = c.in_default.ensures.items ∙ ap (λ l. l ++ Some c.args.state ∷ []) c.new-slots.ensures.items in
    let first = c.args.first in
    subst (λ l. GateRule R.journal R.setting R.legal k (opening (first ∷ first ∷ 0 ∷ []) l (first_view k first))) (sym slots)
    (opens R.journal R.setting R.legal k first c.args.state c.requires (ap R.setting (sym c.of.ensures)) (g.met.S.Recorded.legal_at_first k))
