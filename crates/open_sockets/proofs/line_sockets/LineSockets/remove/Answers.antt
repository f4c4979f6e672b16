use Rattle.std.proofs.Common.{arith, rules, sym, ◌∙◌, ◌≡◌, get_or}
use Rattle.std.proofs.lemmas.List.{get_or_default}
use Rattle.open_sockets.proofs.LineLemmas.{gone}
use Rattle.open_sockets.proofs.line_sockets.LineSockets.remove.Goals as goal

pub returns-then-line-len-clause-gone : goal.returns-then-line-len-clause-gone
returns-then-line-len-clause-gone c before after counted =
    let is : c.index.result.now ≡ get_or c.self.inside.counts.items c.args.line 0 =
    c.index.ensures ∙ get_or_default c.self.inside.counts.items c.args.line c.index.result.now 0 (search rules) in
    gone c.args.line c.saturating_sub.result c.args.self.now c.self.inside.counts.items before after (sym c.self.view_is)
    (omega (arith, is, c.saturating_sub.ensures)) counted
