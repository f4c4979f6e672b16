use Rattle.resp_core.proofs.SpelledCommandLemmas.{bulk_not_head, bulk_not_other, bulk_not_refused, place_is}
use Rattle.resp_core.proofs.spelled_command.place_of.Goals as goal

pub unreachable-requires : goal.unreachable-requires
unreachable-requires c =
    let (s, rest, is, few) = c.requires in
    bulk_not_refused c.args.bytes.now s rest _ _ is few c.in-Err.ensures.refused.1

pub unreachable-requires-in_default-next : goal.unreachable-requires-in_default-next
unreachable-requires-in_default-next c =
    let (s, rest, is, few) = c.requires in
    bulk_not_head c.in-Ok.read.1 c.args.bytes.now s rest c.in-Ok.read.0 c.in_default-next.field-0 is few c.in_default-next.is c.in-Ok.ensures.gives
    (c.in-Ok.ensures.all (rw c.in_default-next.is tt))

pub unreachable-requires-in_default-found : goal.unreachable-requires-in_default-found
unreachable-requires-in_default-found c =
    let (s, rest, is, few) = c.requires in
    bulk_not_other c.in-Ok.read.1 c.args.bytes.now s rest c.in-Ok.read.0 c.in-Found.found is few c.in-Found.is c.in-Ok.ensures.gives c.in-Ok.ensures.good c.in_default-found.not-Payload

pub returns : goal.returns
returns c =
    place_is c.in-Payload.n c.in-Ok.read.1 c.args.bytes.now (rw (c.in-Found.is, c.in-Payload.is) at c.in-Ok.ensures.gives) c.in-Ok.ensures.inside

pub returns-in-Some : goal.returns-in-Some
returns-in-Some c = place_is c.in-Some.n c.in-Some.head c.args.bytes.now c.in-Some.ensures.gives c.in-Some.ensures.inside.1
