use Rattle.std.proofs.Common.{◌≡◌, length, take, drop, get_or, Some, ap, ◌∙◌}
use Rattle.proxy_record.proofs.LineLemmas.{cut_line}
use Rattle.proxy_record.proofs.read_back.take_line.Goals as goal

pub returns : goal.returns
returns c kind s behind plain is =
    let same : Some c.in-Some.len ≡ Some (length s) = c.in-Some.ensures.len kind s behind plain (c.as_slice.ensures ∙ is) in
    let len : c.in-Some.len ≡ length s = cc in
    let cut = cut_line c.args.rest.now s behind kind c.in-Some.len is len in (
      (ap (λ z. get_or z 0 0) c.as_slice-2.ensures ∙ cut.0, c.in_ok-shown.ensures.front ∙ ap (take c.in-Some.len) c.advance.ensures ∙ cut.1),
      c.advance-2.ensures ∙ ap (drop 2) (c.in_ok-shown.ensures.rest ∙ ap (drop c.in-Some.len) c.advance.ensures) ∙ cut.2,
    )
