use Rattle.std.proofs.Common.{refl, ◌∙◌}
use Rattle.proxy_admin.proofs.CallLemmas.{none_called, more_called, called_still}
use Rattle.proxy_admin.proofs.visitor.Visitor.answer_requests.Goals as goal

pub loop-init : goal.loop-init
loop-init c = (none_called _ _ _ refl, refl)

pub returns-then-is_done-clause-answered : goal.returns-then-is_done-clause-answered
returns-then-is_done-clause-answered c = more_called _ _ _ _ _ _ c.loop.invariant.0 c.advance.ensures.calls

pub returns-in-Err-clause-answered : goal.returns-in-Err-clause-answered
returns-in-Err-clause-answered c =
    called_still _ _ _ _ _ (more_called _ _ _ _ _ _ c.loop.invariant.0 c.advance.ensures.calls) c.move_bytes.ensures.calls

pub returns-in-Err-2-clause-answered : goal.returns-in-Err-2-clause-answered
returns-in-Err-2-clause-answered c =
    called_still _ _ _ _ _ (more_called _ _ _ _ _ _ c.loop.invariant.0 c.advance.ensures.calls) c.move_bytes.ensures.calls

pub loop-preserved : goal.loop-preserved
loop-preserved c = (
  called_still _ _ _ _ _ (more_called _ _ _ _ _ _ c.loop.invariant.0 c.advance.ensures.calls) c.move_bytes.ensures.calls,
  c.move_bytes.ensures.moved ∙ c.loop.invariant.1,
)
