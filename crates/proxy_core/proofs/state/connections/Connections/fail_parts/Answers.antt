use Rattle.std.proofs.Common.{refl}
use Rattle.upstream_pipe.specs.declared.part.Owner.{Owner}
use Rattle.std.proofs.lemmas.List.{drop_more}
use Rattle.std.proofs.Math.ListN.{drop_of_length-le}
use Rattle.proxy_core.proofs.state.connections.Connections.fail_parts.Goals as goal

-- what stands in for a missing owner
abbrev nobody : Owner
nobody = record { conn = 0; command = 0; part = 0 }

pub loop-owner-init : goal.loop-owner-init
loop-owner-init c = record { awaited = c.requires; answered = refl; closed = refl }

pub answer_part-requires : goal.answer_part-requires
answer_part-requires c =
    let a = rw (drop_more c.args.owners.now c.loop-owner.owner-index nobody c.loop-owner-test.true) at c.loop-owner.invariant.awaited in
    a.0

pub loop-owner-preserved : goal.loop-owner-preserved
loop-owner-preserved c =
    let a = rw (drop_more c.args.owners.now c.loop-owner.owner-index nobody c.loop-owner-test.true) at c.loop-owner.invariant.awaited in
    let b = rw (drop_more c.args.owners.now c.loop-owner.owner-index nobody c.loop-owner-test.true) at c.loop-owner.invariant.answered in
    rw (c.answer_part.ensures, c.upstream_failure.ensures) (record { awaited = a.1; answered = b; closed = c.loop-owner.invariant.closed })

pub returns : goal.returns
returns c =
    let b = rw (drop_of_length-le c.args.owners.now c.loop-owner-test.false) at c.loop-owner.invariant.answered in
    λ i. record { numbered = b i; closed = c.loop-owner.invariant.closed i }
