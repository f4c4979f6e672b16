use Rattle.std.proofs.Common.{◌≡◌, List, [], ◌∷◌, ◌++◌, length, map, refl, ap, ◌∙◌, arith}
use Rattle.std.proofs.lemmas.List.{map-append, length-append}
use Rattle.resp_core.specs.Tree.{Tree}
use Rattle.resp_core.specs.declared.value.Value.{Value}
use Rattle.resp_core.specs.Value.{tree_of}
use Rattle.resp_core.proofs.unfinished.OpenListLemmas.{put_goes_on, put_closes}
use Rattle.resp_core.proofs.begun.put.Goals as goal

-- a member more
pushed : (vs ws : List Value) (v : Value) (ts : List Tree) → ws ≡ vs ++ v ∷ [] → map tree_of vs ≡ ts → map tree_of ws ≡ ts ++ tree_of v ∷ []
pushed vs ws v ts e f = ap (map tree_of) e ∙ map-append tree_of vs (v ∷ []) ∙ ap (λ z. z ++ tree_of v ∷ []) f

pub returns-then-due-gt0-clause-due : goal.returns-then-due-gt0-clause-due
returns-then-due-gt0-clause-due c =
    let h = c.in_default-push.ensures in
    λ most left rest few.
    c.loop-list.invariant.same most left rest few
    ∙ put_goes_on most left c.pop.new.self.items c.loop-list.opens.items c.put_back-then-due-gt0.new.opens.items c.in-Some.list _ (tree_of c.loop-list.value) rest c.in-Some.ensures.items c.put_back-then-due-gt0.ensures c.if-due-gt0.true refl
    (pushed c.members.inside.0.items c.push.new.self.items c.loop-list.value c.in-Some.list.members h.items c.members.view_is)

pub loop-list-preserved : goal.loop-list-preserved
loop-list-preserved c =
    let h = c.in_default-push.ensures in
    record {
      same = λ most left rest few.
          c.loop-list.invariant.same most left rest few
          ∙ put_closes most left c.pop.new.self.items c.loop-list.opens.items c.in-Some.list (tree_of c.loop-list.value) _ rest c.in-Some.ensures.items (omega (arith, c.if-due-gt0.false))
          (pushed c.members.inside.0.items c.push.new.self.items c.loop-list.value c.in-Some.list.members h.items c.members.view_is);
      fewer = omega (arith, c.loop-list.invariant.fewer, ap length c.in-Some.ensures.items, length-append c.pop.new.self.items (c.in-Some.list ∷ []));
    }
