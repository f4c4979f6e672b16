use Rattle.std.proofs.Common.{ℕ, List, length, take, refl, sym, ap, subst, arith}
use Rattle.resp_core.specs.SpelledCommand.{IsSpelled}
use Rattle.resp_core.proofs.SpelledCommandLemmas.{spelled_gave}
use Rattle.resp_core.proofs.partial_value.PartialValue.next_spelled.Goals as goal

pub returns-clause-value : goal.returns-clause-value
returns-clause-value c = λ held r.
    let p = c.args.self.now in
    let len = c.in-Some.len in
    let fresh = c.is_fresh.ensures c.if-not-is_fresh.false in
    let (ws, looked) = c.in-Some.ensures.spelled in
    let spelled = subst (λ (z : List ℕ). IsSpelled (take len z) ws) c.as_slice.ensures looked in
    let words = c.from_text.ensures ws (subst (λ (z : List ℕ). IsSpelled z ws) (sym c.in_ok-text.ensures.front) spelled) in
    spelled_gave c.args.most len held ws c.from_text.result p _ fresh.0 fresh.1 spelled words (omega (arith, c.in-Some.ensures.inside.1, ap length c.as_slice.ensures)) c.requires.most.0 c.requires.most.1 c.in_ok-text.ensures.rest refl refl refl refl r
