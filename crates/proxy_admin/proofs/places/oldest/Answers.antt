use Rattle.std.proofs.Common.{◌≡◌, ◌<◌, ◌≤◌, Some, None, refl, sym, ap, ◌∙◌, arith}
use Rattle.std.specs.Option.{option_copied}
use Rattle.slab.specs.Slab.{get}
use Rattle.proxy_admin.proofs.PlaceLemmas.{nobody_there, later_there, older_there, oldest_of_all, none_of_all}
use Rattle.proxy_admin.proofs.places.oldest.Goals.{in-Some+then-moved-least, in-Some+else-moved-least, in_default}
use Rattle.proxy_admin.proofs.places.oldest.Goals as goal

pub loop-key-init : goal.loop-key-init
loop-key-init c = record { first = λ k w less. absurd (omega (arith, less)); none = λ e k less. absurd (omega (arith, less)); greatest = λ e. refl; is = λ at e. absurd cc }

pub loop-key-preserved : goal.loop-key-preserved
loop-key-preserved c = elim c.match-get.branch [
  | in-Some+then-moved-least w ↦
      let there : get c.args.visitors.now c.loop-key.key ≡ Some w.in-Some.visitor.now = sym c.get.ensures ∙ ap option_copied w.in-Some.is in
      let older : w.in-Some.visitor.now.moved ≤ c.loop-key.least = omega (arith, w.if-moved-least.true, w.moved.ensures) in
      rw (w.oldest-is, w.least-is, w.moved-least.ensures)
      (older_there c.args.visitors.now c.loop-key.key c.loop-key.oldest c.loop-key.least c.loop-key.invariant w.in-Some.visitor.now there older)
  | in-Some+else-moved-least w ↦
      let there : get c.args.visitors.now c.loop-key.key ≡ Some w.in-Some.visitor.now = sym c.get.ensures ∙ ap option_copied w.in-Some.is in
      let later : c.loop-key.least < w.in-Some.visitor.now.moved = omega (arith, w.if-moved-least.false, w.moved.ensures) in
      let fits : w.in-Some.visitor.now.moved < 18446744073709551616 = omega (arith, w.moved.type_inv, w.moved.ensures) in
      rw (w.oldest-is, w.least-is)
      (later_there c.args.visitors.now c.loop-key.key c.loop-key.oldest c.loop-key.least c.loop-key.invariant w.in-Some.visitor.now there later fits)
  | in_default w ↦
      let none : get c.args.visitors.now c.loop-key.key ≡ None = sym c.get.ensures ∙ ap option_copied w.in_default.is in
      rw (w.oldest-is, w.least-is)
      (nobody_there c.args.visitors.now c.loop-key.key c.loop-key.oldest c.loop-key.least c.loop-key.invariant none)
]

pub returns-clause-oldest : goal.returns-clause-oldest
returns-clause-oldest c =
    oldest_of_all c.args.visitors.now c.loop-key.key c.loop-key.oldest c.loop-key.least c.loop-key.invariant
    (omega (arith, c.loop-key-test.false, c.capacity-key-end.ensures.value, c.capacity-key-end.ensures.slots))

pub returns-clause-nobody : goal.returns-clause-nobody
returns-clause-nobody c = none_of_all c.args.visitors.now c.loop-key.key c.loop-key.oldest c.loop-key.least c.loop-key.invariant
    (omega (arith, c.loop-key-test.false, c.capacity-key-end.ensures.value, c.capacity-key-end.ensures.slots))
