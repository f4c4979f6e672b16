use Rattle.std.proofs.Common.{◌≡◌, subst, ap, ◌∙◌, refl, Some, None, Option}
use Rattle.std.specs.Prelude.{IfSome}
use mathlib.Core.Option as maybe
use Rattle.ticket_gate.specs.Gate.{PassFacts}
use Rattle.ticket_gate.specs.Journal.{Closes}
use Rattle.ticket_gate.proofs.LifetimeLemmas.{closes}
use Rattle.ticket_gate.proofs.gate.Gate.close.Goals as goal

-- by cases on what was in the slot
if_some : {X : Type 0} (P : X → Type 0) (o : Option X) → ((x : X) → o ≡ Some x → P x) → IfSome o P
if_some P None f = tt
if_some P (Some x) f = f x refl

pub returns-then-all_served : goal.returns-then-all_served
returns-then-all_served g c =
    let R = g.S.Recorded in
    let (_, _, last) = c.close_with-closed.ensures.values in
    if_some (Closes R.journal R.setting R.legal c.args.self.setting c.args.pass.number c.args.pass.known.seen) c.take-state.result (λ x is.
    let t = closes R.journal R.setting R.legal (R.setting c.self.inside.table.shared.key.0.value) c.pass.inside.seat.id c.pass.inside.seat.me.0 _ _ last c.word.result c.word-2.result c.word.ensures c.word-2.ensures c.if-all_served.true x
    (c.take-state.ensures.value ∙ ap maybe.some is) c.pass.inside.number c.pass.invariant.1 in
    let G = g.row.S-Setting.Denot × PassFacts g.row.S-Event.Denot g.row.S-Answer.Denot g.row.S-Setting.Denot in
    subst (λ (z : G). Closes R.journal R.setting R.legal z.0 z.1.number z.1.known.seen x) (λ i. (ap (λ a. a.setting) c.self.view_is i, c.pass.view_is i)) t)
