use Rattle.std.proofs.Common.{◌≡◌, [], true, false, sym, ◌∙◌}
use Rattle.proxy_history.specs.Marks.{is_excused}
use Rattle.test_reference.specs.Scan.{past_of_scan}
use Rattle.test_reference.proofs.replay.take_mark.Goals as goal

pub returns-then-is_excused-clause-state : goal.returns-then-is_excused-clause-state
returns-then-is_excused-clause-state c =
    let t : is_excused (past_of_scan c.args.steps.now [] c.args.replay.now) c.in-Failed.host c.in-Failed.kind ≡ true = sym c.is_excused.ensures ∙ c.if-is_excused.true in
    rw (c.in-Failed.is, t) (λ has O marks e. sym e)

pub returns-else-is_excused-clause-state : goal.returns-else-is_excused-clause-state
returns-else-is_excused-clause-state c =
    let f : is_excused (past_of_scan c.args.steps.now [] c.args.replay.now) c.in-Failed.host c.in-Failed.kind ≡ false = sym c.is_excused.ensures ∙ c.if-is_excused.false in
    rw (c.in-Failed.is, f) c.take_result-in-Failed.ensures.state
