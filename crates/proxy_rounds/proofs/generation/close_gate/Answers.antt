use Rattle.std.proofs.Common.{◌∙◌, ap}
use Rattle.std.proofs.lemmas.Option.{IfSome_then}
use Rattle.ticket_gate.specs.Journal.{Closes, steps_of}
use Rattle.proxy_core.specs.Recorded.{IsLegalJournal, journal_of, made_with}
use Rattle.proxy_rounds.proofs.generation.close_gate.Goals as goal

pub returns : goal.returns
returns c =
    IfSome_then c.close.result
    {P = Closes journal_of made_with IsLegalJournal c.args.gate.setting c.args.pass.number c.args.pass.known.seen}
    c.close.ensures (λ core closes. closes.grows.own ∙ ap (steps_of c.args.pass.number) c.requires.idle)
