use Rattle.std.proofs.Common.{◌≡◌, true, false, sym, ap, ◌∙◌}
use Rattle.resp_core.specs.Value.{tree_of}
use Rattle.proxy_record.specs.ReadBack.{found_in}
use Rattle.proxy_record.proofs.ReadLemmas.{none_found, some_found, other_found}
use Rattle.proxy_record.proofs.read_back.read_back.Goals as goal

pub returns-in_default : goal.returns-in_default
returns-in_default c =
    none_found c.args.text.now c.in_ok-rest.rest c.read_value.new.rest (found_in c.in_ok-value.field-0) c.in_ok-value.ensures c.in_ok-rest.ensures.cases (ap found_in c.in_default.is)

pub returns-then-is_spelled : goal.returns-then-is_spelled
returns-then-is_spelled c =
    some_found c.args.text.now c.in_ok-rest.rest c.read_value.new.rest (found_in c.in_ok-value.field-0) (tree_of c.in-Some.value) c.in_ok-value.ensures c.in_ok-rest.ensures.cases (ap found_in c.in-Some.is)
    (let p = c.in_ok-is_spelled.ensures.0 c.if-is_spelled.true in (p.0, sym c.as_slice.ensures ∙ p.1))

pub returns : goal.returns
returns c =
    other_found c.args.text.now c.in_ok-rest.rest c.read_value.new.rest (found_in c.in_ok-value.field-0) (tree_of c.in-Some.value) c.in_ok-value.ensures c.in_ok-rest.ensures.cases (ap found_in c.in-Some.is)
    (λ p. let both : false ≡ true = sym c.if-is_spelled.false ∙ c.in_ok-is_spelled.ensures.1 (p.0, c.as_slice.ensures ∙ p.1) in cc)
