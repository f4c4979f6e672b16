use Rattle.std.proofs.Common.{◌≡◌, ◌++◌, length, min, map, take, append-nil, sym, ap, ◌∙◌, arith}
use Rattle.std.proofs.lemmas.List.{drop_all, take_min}
use Rattle.splitter.specs.Plan.{shown_byte}
use Rattle.splitter.proofs.local.append_shown.Goals as goal

pub returns : goal.returns
returns c =
    let name = c.args.name.now in
    let seen = take c.min.result name in
    let all : min (length name) 64 ≡ min 64 (length name) = omega arith in
    sym (append-nil c.loop-byte.text.items) ∙ ap (λ z. c.loop-byte.text.items ++ map shown_byte z) (sym (drop_all c.loop-byte.byte-index seen c.loop-byte-test.false)) ∙ c.loop-byte.invariant
    ∙ ap (λ z. c.args.text.now.items ++ map shown_byte (take z name)) (c.min.ensures ∙ all) ∙ ap (λ z. c.args.text.now.items ++ map shown_byte z) (take_min 64 name)
