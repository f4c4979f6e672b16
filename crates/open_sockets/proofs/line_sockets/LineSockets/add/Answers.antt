use Rattle.std.proofs.Common.{arith, rules, sym, ◌∙◌, ◌≡◌, get_or}
use Rattle.std.proofs.lemmas.List.{get_or_default}
use Rattle.open_sockets.proofs.LineLemmas.{added}
use Rattle.open_sockets.proofs.line_sockets.LineSockets.add.Goals as goal

pub returns-then-line-len-clause-added : goal.returns-then-line-len-clause-added
returns-then-line-len-clause-added c sockets counted few =
    let is : c.index.result.now ≡ get_or c.self.inside.counts.items c.args.line 0 =
    c.index.ensures ∙ get_or_default c.self.inside.counts.items c.args.line c.index.result.now 0 (search rules) in
    added c.args.line c.saturating_add.result c.args.self.now c.self.inside.counts.items sockets (sym c.self.view_is)
    (search rules) (λ little. omega (arith, little, is, c.saturating_add.ensures)) counted few
