use Rattle.ticket_gate.proofs.PlainRuleLemmas.{plain_sentences}
use Rattle.ticket_gate.proofs.laws.rule_in_plain_sentences.Goals as goal

pub returns : goal.returns
returns g a = λ c s r. plain_sentences g.S.Recorded.journal g.S.Recorded.setting g.S.Recorded.legal c s r
