use Rattle.std.proofs.Common.{arith, rules}
use Rattle.std.proofs.lemmas.Grind.{common_steps}
use Rattle.proxy_stats.specs.RefusedNames.{noted}
use Rattle.proxy_stats.proofs.refused_names.RefusedNames.note.Goals as goal

pub returns-then-is_shown : goal.returns-then-is_shown
unfolding noted
returns-then-is_shown c = let shown = c.if-is_shown.ensures in let after = c.note_key.ensures in search (rules, c.key_of.ensures)

pub returns-else-is_shown : goal.returns-else-is_shown
unfolding noted
returns-else-is_shown c = grind (arith, common_steps)
