use Rattle.std.proofs.Common.{take}
use Rattle.std.specs.List.{AllZip}
use Rattle.proxy_config.specs.Table.{IsWeight, weight_data}
use Rattle.proxy_config.proofs.EntryLemmas.{Gives}
use Rattle.proxy_config.proofs.weights.weights_in.Given as goal

-- the weights so far are those of the entries so far
abbrev pub invariant-loop-entry : goal.invariant-loop-entry
invariant-loop-entry l = AllZip (Gives weight_data IsWeight) (take l.entry-index l.entries) l.weights.items
