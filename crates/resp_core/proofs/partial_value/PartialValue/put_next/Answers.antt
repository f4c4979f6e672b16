use Rattle.std.proofs.Common.{length, ap, arith}
use Rattle.std.proofs.lemmas.Result.{err_from_is_err_and}
use Rattle.resp_core.specs.PartialValue.{behind_head, undone}
use Rattle.resp_core.proofs.partial_value.PartialValue.put_next.Goals as goal

pub returns-in_err-value-2-clause-err : goal.returns-in_err-value-2-clause-err
returns-in_err-value-2-clause-err c =
    let (_, is_err, _) = err_from_is_err_and c.from_residual-in_err-value-2.result c.from_residual-in_err-value-2.ensures.1 in
    let t = rw c.in-Some.is at c.in_ok-value.ensures.value in
    let puts = c.in_err-value-2.ensures.puts c.args.most t.1 in
    rw is_err (λ held r. puts.err held (t.0 held r))

pub returns-in_err-value-2-clause-good : goal.returns-in_err-value-2-clause-good
returns-in_err-value-2-clause-good c =
    let t = rw c.in-Some.is at c.in_ok-value.ensures.value in
    (c.put_value.ensures.puts c.args.most t.1).good

pub returns-in-Some-2-clause-good : goal.returns-in-Some-2-clause-good
returns-in-Some-2-clause-good c =
    let t = rw c.in-Some.is at c.in_ok-value.ensures.value in
    (c.put_value.ensures.puts c.args.most t.1).good

pub returns-in-Some-2-clause-last : goal.returns-in-Some-2-clause-last
returns-in-Some-2-clause-last c =
    let t = rw c.in-Some.is at c.in_ok-value.ensures.value in
    let value = rw c.in-Some-2.is at ((c.in_ok-value-2.ensures.puts c.args.most t.1).value) in
    (rw c.in-Some-2.is at ((c.in_ok-value-2.ensures.puts c.args.most t.1).fresh), (λ held r. value held (t.0 held r)))

pub returns-in-None-clause-good : goal.returns-in-None-clause-good
returns-in-None-clause-good c =
    let t = rw c.in-Some.is at c.in_ok-value.ensures.value in
    (c.put_value.ensures.puts c.args.most t.1).good

pub returns-in-None-clause-member : goal.returns-in-None-clause-member
returns-in-None-clause-member c =
    let t = rw c.in-Some.is at c.in_ok-value.ensures.value in
    let reads = rw c.in-None.is at ((c.in_ok-value-2.ensures.puts c.args.most t.1).reads) in
    ((λ held r. reads held (t.0 held r)), omega (arith, t.2, ap (λ z. length z.items) c.put_value.ensures.pending, ap behind_head c.put_value.ensures.next, ap undone c.in_ok-value-2.ensures.none, ap undone c.take_value.ensures.done))
