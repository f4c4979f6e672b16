use Rattle.std.proofs.Common.{◌≡◌, ◌∷◌, arith}
use Rattle.resp_core.specs.declared.head.Next.TheVariants as nexts
use Rattle.resp_core.proofs.unfinished.HeadLemmas.{behind_list_type}
use Rattle.resp_core.proofs.head.short_found.Goals as goal

pub returns-then-left-gt0-clause-gives : goal.returns-then-left-gt0-clause-gives
returns-then-left-gt0-clause-gives c =
    let e : c.args.bytes.now ≡ 42 ∷ c.in_ok-first.rest.now = grind (arith, c.in_ok-first.ensures.cases, c.if-first-eq42.true) in
    behind_list_type c.args.most c.args.left (nexts.Found c.in_ok-found.found) c.args.bytes.now c.in_ok-first.rest.now c.in_ok-found.len c.if-left-gt0.true e c.in_ok-found.ensures.gives
