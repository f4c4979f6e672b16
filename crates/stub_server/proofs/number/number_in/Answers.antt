use Rattle.std.proofs.Common.{sym, ◌∙◌, subst}
use Rattle.std.specs.Fmt.{signed_decimal}
use Rattle.std.specs.Str.{IsUtf8}
use Rattle.std.proofs.lemmas.Str.{IsUtf8-from_ascii}
use Rattle.std.proofs.lemmas.Fmt.{IsAscii-signed}
use Rattle.stub_server.proofs.NumberLemmas.{mag_long, parsed, number_in-none}
use Rattle.stub_server.proofs.number.number_in.Goals as goal

pub returns-in_default-clause-number : goal.returns-in_default-clause-number
returns-in_default-clause-number c =
    sym (number_in-none c.args.bytes.now (λ n e h. c.in_default.ensures.cases.0 (subst IsUtf8 (sym e) (IsUtf8-from_ascii (signed_decimal n) (IsAscii-signed n (mag_long n h))))))

pub returns-in_default-parse-clause-number : goal.returns-in_default-parse-clause-number
returns-in_default-parse-clause-number c =
    sym (number_in-none c.args.bytes.now (λ n e h. c.in_default-parse.not-Ok n (parsed c.in-Ok.text.now n c.parse.result (c.in-Ok.ensures.cases.0 ∙ e) h c.parse.ensures.value.0)))
