-- The numbers of the refusals.
use Rattle.std.specs.Prelude.{ℕ}
use Rattle.upstream_pipe.specs.declared.refusal.PipeRefusal.{PipeRefusal}
use Rattle.upstream_pipe.specs.declared.refusal.PipeRefusal.TheVariants as refusals

-- the number by which a refusal is documented
abbrev pub number_of : PipeRefusal → ℕ
number_of refusals.NoMemory = 601
number_of refusals.Full = 602
number_of (refusals.Stale current) = 603
number_of refusals.Unasked = 604
number_of refusals.EpochsSpent = 605
