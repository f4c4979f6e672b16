use Rattle.std.proofs.Common.{length, ap, ◌∙◌, arith}
use Rattle.resp_core.proofs.PayloadLemmas.{is_taken}
use Rattle.resp_core.proofs.spelled_command.take_bulk.Goals as goal

pub split_to-requires : goal.split_to-requires
split_to-requires c =
    let (s, rest, is, few) = c.requires in
    let place = c.place_of-head.result in
    (is_taken place.head place.len c.args.bytes.now c.as_slice.result.now s rest c.as_slice.ensures is few (λ looked. c.place_of-head.ensures s rest looked few)).inside

pub overflow_cast-head : goal.overflow_cast-head
overflow_cast-head c =
    let (s, rest, is, few) = c.requires in
    let place = c.place_of-head.result in
    let taken = is_taken place.head place.len c.args.bytes.now c.as_slice.result.now s rest c.as_slice.ensures is few (λ looked. c.place_of-head.ensures s rest looked few) in
    omega (arith, taken.small)

pub in_text-requires : goal.in_text-requires
in_text-requires c =
    let (s, rest, is, few) = c.requires in
    let place = c.place_of-head.result in
    let taken = is_taken place.head place.len c.args.bytes.now c.as_slice.result.now s rest c.as_slice.ensures is few (λ looked. c.place_of-head.ensures s rest looked few) in
    let front = c.in_ok-text.ensures.front ∙ taken.front in
    (s, front, omega (arith, taken.places, ap length front))

pub returns : goal.returns
returns c = λ s rest is few.
    let place = c.place_of-head.result in
    let taken = is_taken place.head place.len c.args.bytes.now c.as_slice.result.now s rest c.as_slice.ensures is few (λ looked. c.place_of-head.ensures s rest looked few) in
    let front = c.in_ok-text.ensures.front ∙ taken.front in
    (c.in_text.ensures s front (omega (arith, taken.places, ap length front)), c.in_ok-text.ensures.rest ∙ taken.back)
