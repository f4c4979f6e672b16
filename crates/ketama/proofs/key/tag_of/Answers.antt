use Rattle.std.proofs.Common.{◌≡◌, length, ap, sym, []}
use Rattle.std.proofs.lemmas.Bool.{eqb-true, eqb-false}
use Rattle.std.proofs.lemmas.List.{nil_from_length}
use Rattle.ketama.proofs.TagLemmas.{IsTagOf-splits, tag_or_key-no_open, tag_or_key-no_close, tag_or_key-empty, tag_or_key-IsTagOf, no_tag-no_open, no_tag-no_close, no_tag-empty}
use Rattle.ketama.proofs.key.tag_of.Goals as goal

pub returns-in_err-rest-clause-none : goal.returns-in_err-rest-clause-none
returns-in_err-rest-clause-none c = rw c.from_residual.ensures (no_tag-no_open c.args.key.now c.in_err-rest.ensures.absent)

pub returns-in_err-rest-clause-whole : goal.returns-in_err-rest-clause-whole
returns-in_err-rest-clause-whole c = rw c.from_residual.ensures (tag_or_key-no_open c.args.key.now c.in_err-rest.ensures.absent)

pub returns-in_err-tag-clause-none : goal.returns-in_err-tag-clause-none
returns-in_err-tag-clause-none c =
    rw c.from_residual-in_err-tag.ensures (no_tag-no_close c.args.key.now _ _ c.in_ok-rest.ensures.split c.in_err-tag.ensures.absent)

pub returns-in_err-tag-clause-whole : goal.returns-in_err-tag-clause-whole
returns-in_err-tag-clause-whole c =
    rw c.from_residual-in_err-tag.ensures (tag_or_key-no_close c.args.key.now _ _ c.in_ok-rest.ensures.split c.in_err-tag.ensures.absent)

pub returns-then-is_empty-clause-none : goal.returns-then-is_empty-clause-none
returns-then-is_empty-clause-none c =
    let empty = nil_from_length c.in_ok-tag.tag.now (eqb-true _ 0 (sym c.if-is_empty.ensures)) in
    no_tag-empty c.args.key.now _ _ _ _ c.in_ok-rest.ensures.split c.in_ok-tag.ensures.split empty

pub returns-then-is_empty-clause-whole : goal.returns-then-is_empty-clause-whole
returns-then-is_empty-clause-whole c =
    let empty = nil_from_length c.in_ok-tag.tag.now (eqb-true _ 0 (sym c.if-is_empty.ensures)) in
    tag_or_key-empty c.args.key.now _ _ _ _ c.in_ok-rest.ensures.split c.in_ok-tag.ensures.split empty

pub returns-else-is_empty-clause-tag : goal.returns-else-is_empty-clause-tag
returns-else-is_empty-clause-tag c =
    let nonempty = λ (empty : c.in_ok-tag.tag.now ≡ []). eqb-false _ 0 (sym c.if-is_empty.ensures) (ap length empty) in
    tag_or_key-IsTagOf c.args.key.now _ (IsTagOf-splits c.args.key.now _ _ _ _ c.in_ok-rest.ensures.split c.in_ok-tag.ensures.split nonempty)
