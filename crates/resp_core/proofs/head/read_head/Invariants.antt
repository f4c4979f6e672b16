use Rattle.std.proofs.Common.{take}
use Rattle.resp_core.specs.declared.head.Next.TheVariants as nexts
use Rattle.resp_core.specs.ResumedReading.{GoesOn, IsGoodHead}
use Rattle.resp_core.proofs.head.read_head.Given as goal

abbrev pub invariant-loop-i : goal.invariant-loop-i
invariant-loop-i l = record {
  same : GoesOn l.most l.left l.fn.head (take l.i l.bytes) (nexts.Head l.head);
  good : IsGoodHead l.most l.left l.head;
}
