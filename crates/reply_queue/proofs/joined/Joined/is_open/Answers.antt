use Rattle.std.proofs.Common.{◌≡◌, Some, None, slice_get, rules}
use Rattle.std.proofs.lemmas.Option.{slice_get_read, slice_get_past}
use Rattle.reply_queue.proofs.PlaceLemmas.{is_open_where, is_open_past}
use Rattle.reply_queue.proofs.joined.Joined.is_open.Goals as goal

pub returns-in-Some : goal.returns-in-Some
returns-in-Some c =
    let come : slice_get c.self.inside.come.items c.args.part ≡ Some c.in-Some.come.now = search (rules, slice_get_read) in
    rw (← c.self.view_is) (is_open_where c.self.inside.come.items c.self.inside.values.items c.args.part _ c.self.invariant.places come)

pub returns-in-None : goal.returns-in-None
returns-in-None c =
    let past : slice_get c.self.inside.come.items c.args.part ≡ None = search (rules, slice_get_past) in
    rw (← c.self.view_is) (is_open_past c.self.inside.come.items c.self.inside.values.items c.args.part past)
