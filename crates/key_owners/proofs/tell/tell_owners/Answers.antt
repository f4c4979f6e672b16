use Rattle.std.proofs.Common.{[], take, subst}
use Rattle.std.specs.Io.KnownBytes.{Consumes}
use Rattle.std.proofs.lemmas.Result.{on_ok_weaker}
use Rattle.key_owners.proofs.StreamLemmas.{told_nothing, told_more, told_all}
use Rattle.key_owners.proofs.tell.tell_owners.Goals as goal

pub loop-init : goal.loop-init
loop-init g c = told_nothing c.args.lines.now (g.R.Read.remaining c.args.reader.now) (g.W.Write.contents c.args.writer.now) c.takes_nothing.ensures

pub loop-preserved : goal.loop-preserved
loop-preserved g c =
    told_more c.args.lines.now c.loop.lines c.take.new.lines (g.R.Read.remaining c.args.reader.now) (g.R.Read.remaining c.loop.reader) (g.R.Read.remaining c.read.new.reader)
    (g.W.Write.contents c.args.writer.now) (g.W.Write.contents c.loop.writer) (g.W.Write.contents c.take.new.writer) (take c.in_ok-n.n c.read.new.buffer)
    c.loop.invariant c.in_ok-n.ensures.bytes c.in_ok-take.ensures

pub returns-then-n-eq0 : goal.returns-then-n-eq0
returns-then-n-eq0 g c =
    let left = g.R.Read.remaining c.loop.reader in
    let lefts = g.R.Read.remaining c.read.new.reader in
    let none : Consumes left lefts [] = subst (λ n. Consumes left lefts (take n c.read.new.buffer)) c.if-n-eq0.true c.in_ok-n.ensures.bytes in
    on_ok_weaker c.finish.result (λ e. told_all c.args.lines.now c.loop.lines (g.R.Read.remaining c.args.reader.now) left lefts (g.W.Write.contents c.args.writer.now)
    (g.W.Write.contents c.loop.writer) (g.W.Write.contents c.finish.new.writer) c.loop.invariant none (c.in_ok-n.ensures.end c.if-n-eq0.true) e) c.finish.ensures
