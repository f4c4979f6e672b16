use Rattle.std.proofs.Common.{◌≡◌, ◌<◌, ◌-◌, [], deque_len, length, get_or, refl}
use Rattle.std.proofs.lemmas.List.{nil_from_length}
use Rattle.proxy_histogram.proofs.UnansweredLemmas.{last_of_first, last_of_later}
use Rattle.std.proofs.lemmas.Grind.{common_steps}
use Rattle.std.proofs.Common.{arith}
use Rattle.proxy_histogram.proofs.unanswered.Unanswered.last_since.Goals as goal

pub returns-in-Some : goal.returns-in-Some
returns-in-Some c =
    let later = c.self.inside.later.items in
    let long : deque_len c.self.inside.later ≡ length later = grind (arith, common_steps) in
    let some : 0 < length later = rw long at (c.in-Some.ensures.variant.0 refl) in
    let is : c.in-Some.last.now ≡ get_or later (length later - 1) c.in-Some.last.now = rw long at c.in-Some.ensures.lookup in
    rw (← c.self.view_is) (last_of_later c.self.inside.first c.in-Some.last.now later some is c.self.invariant.later)

pub returns-in-None : goal.returns-in-None
returns-in-None c =
    let none : c.self.inside.later.items ≡ [] = nil_from_length c.self.inside.later.items (grind (arith, common_steps)) in
    rw (← c.self.view_is) (last_of_first c.self.inside.first c.self.inside.later.items none (rw (← c.self.view_is) at c.requires))
