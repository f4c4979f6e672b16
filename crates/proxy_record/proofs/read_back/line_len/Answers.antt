use Rattle.std.proofs.Common.{◌≡◌, length, Some, ◌∙◌, arith}
use Rattle.std.proofs.lemmas.List.{length-drop}
use Rattle.proxy_record.proofs.LineLemmas.{line_behind}
use Rattle.proxy_record.proofs.read_back.line_len.Goals as goal

pub returns-in_default-clause-len : goal.returns-in_default-clause-len
returns-in_default-clause-len c kind s behind plain is = absurd (omega (arith, (line_behind c.args.bytes.now s behind kind plain is).1))

pub returns-in-Some-clause-len : goal.returns-in-Some-clause-len
returns-in-Some-clause-len c kind s behind plain is = c.in-Some.ensures.end ∙ (line_behind c.args.bytes.now s behind kind plain is).0

pub returns-in_default-first_end-clause-len : goal.returns-in_default-first_end-clause-len
returns-in_default-first_end-clause-len c kind s behind plain is =
    let line = line_behind c.args.bytes.now s behind kind plain is in
    let same : Some c.in-Some.len ≡ Some (length s) = c.in-Some.ensures.end ∙ line.0 in
    let len : c.in-Some.len ≡ length s = cc in
    absurd (omega (arith, line.1, c.if-behind-len-ge2.false, length-drop 1 c.args.bytes.now))

pub returns-in_default-first_end-2-clause-len : goal.returns-in_default-first_end-2-clause-len
returns-in_default-first_end-2-clause-len c kind s behind plain is =
    c.in_default-first_end.ensures.end ∙ (line_behind c.args.bytes.now s behind kind plain is).0
