use Rattle.std.proofs.Common.{◌≡◌, ◌+◌, length, map, decimal, inl, inr, sym, ap, ◌∙◌, arith}
use Rattle.std.proofs.lemmas.List.{length-append, drop_all}
use Rattle.resp_core.specs.Stream.{told_offset}
use Rattle.resp_core.specs.Text.{line, texts}
use Rattle.resp_core.specs.Tree.{trees_of, members}
use Rattle.resp_core.specs.Value.{tree_of}
use Rattle.resp_core.proofs.SpellingLengthLemmas.{length_line}
use Rattle.resp_core.proofs.TreeLemmas.{length_members}
use Rattle.resp_core.proofs.+length.Goals as goal

pub text::list_len-returns : goal.text::list_len-returns
text::list_len-returns t c =
    let count : length (members (trees_of c.args.values.now)) ≡ c.len.result =
    ap (λ z. length (members (trees_of z))) (sym c.values.view_is) ∙ length_members tree_of c.values.inside.0.items ∙ sym (c.len.ensures ∙ c.values.inside.0.ok.0) in
    let shown = decimal (length (members (trees_of c.args.values.now))) in
    let rest = texts (trees_of c.args.values.now) in
    omega (
      arith,
      c.saturating_add.ensures,
      c.members_len.ensures,
      c.line_len.ensures,
      c.digits.ensures ∙ ap (λ n. length (decimal n)) (sym count),
      length-append (line 42 shown) rest,
      length_line 42 shown,
    )

pub text::members_len-returns : goal.text::members_len-returns
text::members_len-returns t c =
    let total = c.loop-value.total in
    let left : told_offset (total + 0) ≡ told_offset (length (texts (trees_of c.args.values.now))) =
    ap (λ vs. told_offset (total + length (texts (trees_of (map tree_of vs))))) (sym (drop_all c.loop-value.value-index c.deref-value-items.result.now c.loop-value-test.false)) ∙ c.loop-value.invariant.same in
    omega (arith, left, c.loop-value.invariant.fits)

pub value::Value::text_len-returns-in-NullBulk : goal.value::Value::text_len-returns-in-NullBulk
value::Value::text_len-returns-in-NullBulk t c =
    elim c.in-NullBulk.is [ inl e ↦ rw e c.line_len-in-NullBulk.ensures | inr e ↦ rw e c.line_len-in-NullBulk.ensures ]
