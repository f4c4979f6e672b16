use Rattle.std.proofs.Common.{◌≡◌, ◌≤◌, ◌+◌, ◌-◌, ◌∙◌, ap, sym, arith, length}
use Rattle.std.specs.Prelude.{take, replicate, ◌++◌}
use Rattle.std.specs.Bool.{OnTrue}
use Rattle.std.proofs.lemmas.List.{length-append, length-replicate}
use Rattle.proxy_histogram.proofs.UnansweredLemmas.{added_both, added_or_joined, take_end, take_next, take_short}
use Rattle.proxy_histogram.proofs.unanswered.Unanswered.move_oldest.Goals as goal

pub returns-then-run-eq0-clause-moved : goal.returns-then-run-eq0-clause-moved
returns-then-run-eq0-clause-moved c = λ fits.
    let (rest, moved, _, within) = c.loop-run.invariant in
    let end = take_end c.args.self.now c.loop-run.self c.args.count c.loop-run.left rest (c.take_first-run.ensures.none c.if-run-eq0.true) (omega (arith, within)) in
    rw end (moved fits)

pub returns-then-run-eq0-clause-joined : goal.returns-then-run-eq0-clause-joined
returns-then-run-eq0-clause-joined c = λ fits.
    let (rest, _, joined, within) = c.loop-run.invariant in
    let end = take_end c.args.self.now c.loop-run.self c.args.count c.loop-run.left rest (c.take_first-run.ensures.none c.if-run-eq0.true) (omega (arith, within)) in
    rw end (joined fits)

pub loop-run-preserved : goal.loop-run-preserved
loop-run-preserved c =
    let (rest, moved, joined, within) = c.loop-run.invariant in
    let few = c.take_first-run.ensures.few in
    let some = c.if-run-eq0.false in
    let n = c.take_first-run.result.count in
    let since = c.take_first-run.result.since in
    let short = take_short (c.args.count - c.loop-run.left) c.args.self.now in
    let next = take_next c.args.self.now c.loop-run.self c.take_first-run.new.self (c.args.count - c.loop-run.left) n since rest c.take_first-run.ensures.taken in
    let sum : c.args.count - c.loop-run.left + n ≡ c.args.count - (c.loop-run.left - n) = omega (arith, few, within) in
    let first = rw sum at next.1 in
    let number : length (take (c.args.count - (c.loop-run.left - n)) c.args.self.now) ≡ length (take (c.args.count - c.loop-run.left) c.args.self.now) + n =
    ap length first ∙ length-append (take (c.args.count - c.loop-run.left) c.args.self.now) (replicate n since)
    ∙ ap (λ k. length (take (c.args.count - c.loop-run.left) c.args.self.now) + k) (length-replicate n since) in (
      rw sum at next.0,
      λ fits. added_both c.loop-run.had_memory c.accepted-had_memory.result c.args.others.now c.loop-run.others c.accepted-had_memory.new.self
          (take (c.args.count - c.loop-run.left) c.args.self.now) (replicate n since) _ (moved fits) (c.accepted-had_memory.ensures.added (omega (arith, few, within, short, fits, joined fits))) first,
      λ fits.
          let longer = added_or_joined c.accepted-had_memory.result c.loop-run.others c.accepted-had_memory.new.self n since
          (c.accepted-had_memory.ensures.added (omega (arith, few, within, short, fits, joined fits))) (c.accepted-had_memory.ensures.joined (omega (arith, few, within, short, fits, joined fits))) in
          omega (arith, longer, joined fits, number),
      omega (arith, few, within, some),
    )
