use Rattle.std.proofs.Common.{◌≡◌, ◌≤◌, ℕ, Some, arith, rules, ap, ◌∙◌, refl}
use Rattle.ticket_gate.proofs.atomic_steps.FrameLemmas.{alone_after, own_after}
use Rattle.ticket_gate.proofs.atomic_steps.ReadLemmas.{reads_enrolled}
use Rattle.ticket_gate.proofs.atomic_steps.NumberLemmas.{takes_number}
use Rattle.ticket_gate.proofs.gate.Gate.enrol.Goals as goal

pub load-number-requires : goal.load-number-requires
load-number-requires g c =
    let i = c.loop.invariant in
    (search rules, search rules, reads_enrolled _ _ _ _ _ _ _ i.1.alone)

pub compare_exchange-found-requires : goal.compare_exchange-found-requires
compare_exchange-found-requires g c =
    let (_, at_rest, (no_number, _), _) = c.loop.invariant in
    let (_, _, (h, _)) = c.load-number.ensures in
    let o = own_after c.loop.seat.me c.load-number.new.seat.me _ h in
    (search rules, search rules, takes_number _ _ _ _ _ _ _ _ _ (alone_after _ _ _ at_rest.alone h) refl (search rules) (ap (λ p. p.number) o ∙ no_number) (ap (λ p. p.inside) o ∙ at_rest.outside))

both : (n m : ℕ) → n ≤ m → m ≤ n → n ≡ m
both n m less more = omega arith

pub returns-then-number-ge-MAX_PASSES-clause-crowded : goal.returns-then-number-ge-MAX_PASSES-clause-crowded
returns-then-number-ge-MAX_PASSES-clause-crowded g c =
    let (_, _, (h, few)) = c.load-number.ensures in
    let o = own_after c.loop.seat.me c.load-number.new.seat.me _ h in
    (refl, search rules, ap (λ p. p.last_enrolled) o ∙ both _ _ few c.if-number-ge-MAX_PASSES.true)

pub invariant_of-result-then-found-number : goal.invariant_of-result-then-found-number
invariant_of-result-then-found-number g c =
    let numbered : c.compare_exchange-found.new.seat.me.0.own.number ≡ Some c.load-number.result = search rules in
    (search rules, numbered)
