use Rattle.std.proofs.Common.{◌-◌, ◌^◌, ◌≤◌, [], subst, arith}
use Rattle.key_owners.specs.Lines.{TakesIn, Telling}
use Rattle.key_owners.proofs.TellingLemmas.{takes_none}
use Rattle.key_owners.proofs.lines.KeyLines.takes_nothing.Goals as goal

pub returns : goal.returns
returns c =
    let i = c.self.inside in
    let v : Telling = record { owners = i.owners; is_hex = i.is_hex; open_line = i.line.items; ended = i.ended } in
    let bound : i.ended ≤ 2 ^ 64 - 1 = omega arith in
    subst (λ (t : Telling). TakesIn t [] t []) c.self.view_is (takes_none v c.self.invariant bound)
