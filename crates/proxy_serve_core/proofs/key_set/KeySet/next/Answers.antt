use Rattle.std.proofs.Common.{◌≡◌, ◌<◌, ◌/◌, ◌%◌, ◌^◌, ◌+◌, ◌*◌, length, w64, arith, rules}
use Rattle.std.specs.Int.{trailing_zeros}
use Rattle.std.proofs.lemmas.List.{get_or_read}
use Rattle.proxy_serve_core.proofs.KeySetLemmas.{found_later, next_in_rest, none_found_later, none_in_rest, stays_in_word}
use Rattle.proxy_serve_core.proofs.key_set.KeySet.next.Goals as goal

pub overflow_add-result : goal.overflow_add-result
overflow_add-result c =
    let words = c.self.inside.words.items in
    let within : c.args.from / 64 < length words = omega (arith, c.len.ensures) in
    let is = get_or_read words (c.args.from / 64) _ within c.index.ensures 0 in
    let fits : c.index.result.now < 2 ^ 64 = search rules in
    let smaller : c.index.result.now / 2 ^ (c.args.from % 64) < 2 ^ 64 = search rules in
    let some : 0 < c.index.result.now / 2 ^ (c.args.from % 64) = omega arith in
    let same : (c.args.from + trailing_zeros w64 (c.index.result.now / 2 ^ (c.args.from % 64))) / 64 ≡ c.args.from / 64 =
    rw is (stays_in_word words c.args.from (rw (← is) fits) (rw (← is) smaller) (rw (← is) some)) in
    omega (arith, same, within, c.self.invariant)

pub returns-then-rest-ne0-clause-found : goal.returns-then-rest-ne0-clause-found
returns-then-rest-ne0-clause-found c =
    let words = c.self.inside.words.items in
    let within : c.args.from / 64 < length words = omega (arith, c.len.ensures) in
    let is = get_or_read words (c.args.from / 64) _ within c.index.ensures 0 in
    let fits : c.index.result.now < 2 ^ 64 = search rules in
    let smaller : c.index.result.now / 2 ^ (c.args.from % 64) < 2 ^ 64 = search rules in
    let some : 0 < c.index.result.now / 2 ^ (c.args.from % 64) = omega arith in
    rw (← c.self.view_is, is) (next_in_rest words c.args.from (rw (← is) fits) (rw (← is) smaller) (rw (← is) some))

pub returns-clause-found : goal.returns-clause-found
returns-clause-found c =
    let words = c.self.inside.words.items in
    let within : c.args.from / 64 < length words = omega (arith, c.len.ensures) in
    let is = get_or_read words (c.args.from / 64) _ within c.index.ensures 0 in
    let empty : c.index.result.now / 2 ^ (c.args.from % 64) ≡ 0 = omega arith in
    rw (← c.self.view_is)
    (found_later words c.args.from (64 * (c.args.from / 64) + 64) (omega arith) (none_in_rest words c.args.from (rw (← is) empty)) _
    (rw c.deref.ensures.value at c.first_behind.ensures.found))

pub returns-clause-none : goal.returns-clause-none
returns-clause-none c =
    let words = c.self.inside.words.items in
    let within : c.args.from / 64 < length words = omega (arith, c.len.ensures) in
    let is = get_or_read words (c.args.from / 64) _ within c.index.ensures 0 in
    let empty : c.index.result.now / 2 ^ (c.args.from % 64) ≡ 0 = omega arith in
    rw (← c.self.view_is)
    (none_found_later words c.args.from (64 * (c.args.from / 64) + 64) (none_in_rest words c.args.from (rw (← is) empty)) _
    (rw c.deref.ensures.value at c.first_behind.ensures.none))
