use Rattle.std.proofs.Common.{◌≡◌, ◌∷◌, ◌++◌, ◌-◌, decimal, length, take, drop, sym, ap, ◌∙◌, arith}
use Rattle.std.proofs.lemmas.List.{take_all, length-drop}
use Rattle.std.proofs.lemmas.Fmt.{length-decimal-le}
use Rattle.resp_core.specs.Text.{line_end}
use Rattle.resp_core.proofs.SpelledCommandLemmas.{short_line_is}
use Rattle.resp_core.proofs.spelled_command.long_line.Goals as goal

pub returns-clause-line : goal.returns-clause-line
returns-clause-line c =
    let first = c.in_ok-first.rest.now in
    let len = c.in_ok-n.len in
    let e : c.args.bytes.now ≡ c.args.kind ∷ first = grind (arith, c.in_ok-first.ensures.cases, c.if-first-kind.false) in
    let all : take (length first - len) (drop len first) ≡ drop len first = take_all (length first - len) (drop len first) (omega (arith, length-drop len first)) in
    let is = short_line_is c.args.limit c.in_ok-n.n len first c.in_ok-n.ensures.reads c.in_ok-n.ensures.inside.1 (omega arith) (omega (arith, c.if-len-saturating_add.false, c.saturating_add.ensures, c.digits.ensures, length-decimal-le 20 c.in_ok-n.n (omega arith) (omega arith) (omega arith))) in
    e ∙ ap (λ z. c.args.kind ∷ z) is ∙ ap (λ z. c.args.kind ∷ decimal c.in_ok-n.n ++ line_end ++ z) (sym all)
