use Rattle.std.proofs.Common.{ℕ, List, sym, subst}
use Rattle.resp_core.specs.SpelledCommand.{IsSpelled}
use Rattle.resp_core.proofs.SpelledCommandLemmas.{spelled_words}
use Rattle.resp_core.proofs.spelled_command.SpelledCommand.from_text.Goals as goal

pub invariant_of-result : goal.invariant_of-result
invariant_of-result c =
    let (ws, spelled) = c.requires in
    subst (λ (z : List (List ℕ)). IsSpelled c.args.text z) (sym (spelled_words c.args.text ws spelled)) spelled

pub returns : goal.returns
returns c = λ ws spelled. spelled_words c.args.text ws spelled
