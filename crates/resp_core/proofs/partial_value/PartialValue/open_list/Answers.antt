use Rattle.std.proofs.Common.{◌≡◌, ◌-◌, ◌++◌, ◌∷◌, [], map, refl, ap, ◌∙◌, arith, if◌then◌else◌}
use Rattle.resp_core.specs.Tree.{list, trees_of}
use Rattle.resp_core.specs.Value.{tree_of}
use Rattle.resp_core.specs.declared.value.Value.TheVariants as variants
use Rattle.resp_core.specs.declared.head.Next.TheVariants as nexts
use Rattle.resp_core.specs.declared.head.Head.TheVariants as heads
use Rattle.resp_core.specs.declared.begun.Begun.{Begun}
use Rattle.resp_core.specs.declared.partial_value.PartialValue.{PartialValue}
use Rattle.resp_core.proofs.unfinished.ResumedReadingLemmas.{reads_along, reads_found, opens_along}
use Rattle.resp_core.proofs.unfinished.OpenListLemmas.{list_is_empty}
use Rattle.resp_core.proofs.partial_value.PartialValue.open_list.Goals as goal

pub returns-then-n-eq0-clause-reads : goal.returns-then-n-eq0-clause-reads
returns-then-n-eq0-clause-reads c = λ held r.
    let f = c.finish.ensures in
    let e : tree_of (variants.List (map tree_of c.new.result.items)) ≡ list (trees_of []) = ap (λ z. list (trees_of (map tree_of z))) c.new.ensures.items in
    reads_found c.args.most held c.args.self.now c.finish.new.self (variants.List (map tree_of c.new.result.items)) c.requires.next.0 f.same.0 f.same.1 f.seen.1 f.done
    (λ left y. rw (c.requires.next.1, c.if-n-eq0.true, e) (list_is_empty c.args.most (left - 1) y)) r

pub returns-clause-reads : goal.returns-clause-reads
returns-clause-reads c = λ held r.
    let p = c.args.self.now in
    let b : Begun = record { members = map tree_of c.in_ok-members.members.items; due = c.args.n - 1 } in
    let q : PartialValue = record { pending = p.pending; room = p.room; opens = c.push.new.self; done = p.done; next = nexts.Head heads.Type; seen = p.seen; came = p.came; needed = p.needed } in
    reads_along c.args.most held p q refl refl (opens_along c.args.most c.args.n p q b c.requires.next.0 c.requires.next.1
    (c.push.ensures.items ∙ ap (λ z. if z then p.opens.items ++ b ∷ [] else p.opens.items) c.if-is_err.ensures.negation)
    (omega (arith, c.if-n-eq0.false)) (ap (map tree_of) c.in_ok-members.ensures.items) c.requires.next.0 refl) r
