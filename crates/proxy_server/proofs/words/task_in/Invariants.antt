use Rattle.std.proofs.Common.{ℕ, ◌<◌, get_or}
use Rattle.proxy_generations.specs.declared.phase.Phase.{Phase}
use Rattle.proxy_server.specs.Words.{IsWord}
use Rattle.proxy_server.proofs.words.task_in.Given as goal

-- no word so far shows the generation
abbrev pub invariant-loop-word : goal.invariant-loop-word
invariant-loop-word l = (k : ℕ) (task : Phase) → k < l.word-index → ¬ IsWord (get_or l.words k 0) l.number task
