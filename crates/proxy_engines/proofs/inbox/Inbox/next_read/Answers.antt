use Rattle.std.proofs.Common.{◌≡◌, ◌≢◌, ◌∙◌, ap, sym, refl, rules}
use Rattle.resp_core.specs.declared.error.RespError.{RespError}
use Rattle.proxy_engines.specs.Ends.{InboxState}
use Rattle.proxy_engines.proofs.InboxLemmas.{holds-value, holds-refused, holds-unmoved}
use Rattle.proxy_engines.proofs.inbox.Inbox.next_read.Goals as goal

pub returns-then-is_memory-clause-err : goal.returns-then-is_memory-clause-err
returns-then-is_memory-clause-err g c = (
  let same = c.in-Err.ensures.memory (rw (c.is_memory.ensures.0 c.if-is_memory.true) refl) in
      let values : c.self-2.inside.values ≡ c.feed.new.self.values = ap (λ (z : InboxState). z.values) c.self-2.view_is in
      λ b rs h. holds-unmoved c.feed.new.self _ b rs (ap (λ (z : InboxState). z.fresh) c.self-2.view_is) (rw values at same.refusal) (rw values at same.stands) (c.in_ok-feed.ensures.holds b rs h),
  search rules,
)

pub returns-in-Ok-Some-clause-next : goal.returns-in-Ok-Some-clause-next
returns-in-Ok-Some-clause-next g c =
    record {
      some = let values : c.self-2.inside.values ≡ c.feed.new.self.values = ap (λ (z : InboxState). z.values) c.self-2.view_is in
          let fresh = ap (λ (z : InboxState). z.fresh) c.self-2.view_is ∙ c.in_ok-feed.ensures.fresh in
          let gives = rw c.in-Ok-Some.field-0-is at c.in-Ok-Some.ensures.given in
          λ b rs h. holds-value c.feed.new.self _ _ b rs c.in_ok-feed.ensures.fresh fresh c.in_ok-feed.ensures.whole c.in-Ok-Some.ensures.untold (rw values at gives.stands) (c.in_ok-feed.ensures.holds b rs h);
      none = tt;
      all = tt;
      whole = search rules;
      told = λ broken. absurd cc;
    }

pub returns-in-Ok-None-clause-next : goal.returns-in-Ok-None-clause-next
returns-in-Ok-None-clause-next g c =
    record {
      some = tt;
      none = let values : c.self-2.inside.values ≡ c.feed.new.self.values = ap (λ (z : InboxState). z.values) c.self-2.view_is in
          let same = (rw c.in-Ok-None.field-0-is at c.in-Ok-None.ensures.none).same in
          λ b rs h. holds-unmoved c.feed.new.self _ b rs (ap (λ (z : InboxState). z.fresh) c.self-2.view_is) (rw values at same.refusal) (rw values at same.stands) (c.in_ok-feed.ensures.holds b rs h);
      all = search rules;
      whole = search rules;
      told = λ broken. absurd cc;
    }

pub returns-else-is_memory-clause-next : goal.returns-else-is_memory-clause-next
returns-else-is_memory-clause-next g c =
    record {
      some = let values : c.self-2.inside.values ≡ c.feed.new.self.values = ap (λ (z : InboxState). z.values) c.self-2.view_is in
          let fresh = ap (λ (z : InboxState). z.fresh) c.self-2.view_is ∙ c.in_ok-feed.ensures.fresh in
          let other : c.in-Err.error ≢ RespError.NoMemory = λ e. let yes = sym (c.is_memory.ensures.1 e) ∙ c.if-is_memory.false in absurd cc in
          let tells = c.in-Err.ensures.refused other in
          λ b rs h. holds-refused c.feed.new.self _ c.in-Err.error b rs c.in_ok-feed.ensures.fresh fresh c.in_ok-feed.ensures.whole tells.told (rw values at tells.stands) (c.in_ok-feed.ensures.holds b rs h);
      none = tt;
      all = tt;
      whole = λ never. absurd (never refl);
      told = search rules;
    }

pub returns-in-Ok-Some-clause-keeps : goal.returns-in-Ok-Some-clause-keeps
returns-in-Ok-Some-clause-keeps g c = (let (left, told, counts) = c.feed.ensures.keeps.0 in (ap (λ (z : InboxState). z.left) c.self-2.view_is ∙ left, ap (λ (z : InboxState). z.told) c.self-2.view_is ∙ told, ap (λ (z : InboxState). z.counts) c.self-2.view_is ∙ counts), search rules)

pub returns-in-Ok-None-clause-keeps : goal.returns-in-Ok-None-clause-keeps
returns-in-Ok-None-clause-keeps g c = (let (left, told, counts) = c.feed.ensures.keeps.0 in (ap (λ (z : InboxState). z.left) c.self-2.view_is ∙ left, ap (λ (z : InboxState). z.told) c.self-2.view_is ∙ told, ap (λ (z : InboxState). z.counts) c.self-2.view_is ∙ counts), search rules)

pub returns-else-is_memory-clause-keeps : goal.returns-else-is_memory-clause-keeps
returns-else-is_memory-clause-keeps g c = (let (left, told, counts) = c.feed.ensures.keeps.0 in (ap (λ (z : InboxState). z.left) c.self-2.view_is ∙ left, ap (λ (z : InboxState). z.told) c.self-2.view_is ∙ told, ap (λ (z : InboxState). z.counts) c.self-2.view_is ∙ counts), search rules)

pub returns-then-is_memory-clause-keeps : goal.returns-then-is_memory-clause-keeps
returns-then-is_memory-clause-keeps g c = (let (left, told, counts) = c.feed.ensures.keeps.0 in (ap (λ (z : InboxState). z.left) c.self-2.view_is ∙ left, ap (λ (z : InboxState). z.told) c.self-2.view_is ∙ told, ap (λ (z : InboxState). z.counts) c.self-2.view_is ∙ counts), search rules)

pub returns-in-Ok-Some-clause-err : goal.returns-in-Ok-Some-clause-err
returns-in-Ok-Some-clause-err g c = tt

pub returns-in-Ok-None-clause-err : goal.returns-in-Ok-None-clause-err
returns-in-Ok-None-clause-err g c = tt

pub returns-else-is_memory-clause-err : goal.returns-else-is_memory-clause-err
returns-else-is_memory-clause-err g c = tt

pub returns-then-is_memory-clause-next : goal.returns-then-is_memory-clause-next
returns-then-is_memory-clause-next g c = tt
