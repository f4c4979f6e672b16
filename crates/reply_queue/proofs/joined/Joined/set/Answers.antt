use Rattle.std.proofs.Common.{length, true, false, slice_get, slice_set, sym, ap, ◌∙◌, arith}
use Rattle.std.proofs.lemmas.Option.{slice_get_within}
use Rattle.std.proofs.lemmas.List.{length-set}
use Rattle.reply_queue.specs.Command.{AwaitedCommand}
use Rattle.reply_queue.specs.Places.{values_come}
use Rattle.reply_queue.proofs.PlaceLemmas.{come_where_open, values_come-set, count_by-set}
use Rattle.reply_queue.proofs.joined.Joined.set.Goals as goal

pub put-requires : goal.put-requires
put-requires c =
    let awaits = come_where_open c.self.inside.come.items c.self.inside.values.items c.args.part (ap (λ s. slice_get s.values c.args.part) c.self.view_is ∙ c.requires) in
    omega (arith, slice_get_within c.self.inside.come.items c.args.part false awaits, c.self.invariant.places)

pub index_mut-requires : goal.index_mut-requires
index_mut-requires c =
    let awaits = come_where_open c.self.inside.come.items c.self.inside.values.items c.args.part (ap (λ s. slice_get s.values c.args.part) c.self.view_is ∙ c.requires) in
    omega (arith, slice_get_within c.self.inside.come.items c.args.part false awaits)

pub overflow_sub-self : goal.overflow_sub-self
overflow_sub-self c =
    let awaits = come_where_open c.self.inside.come.items c.self.inside.values.items c.args.part (ap (λ s. slice_get s.values c.args.part) c.self.view_is ∙ c.requires) in
    omega (arith, count_by-set c.self.inside.come.items c.args.part awaits, c.self.invariant.count)

pub invariant_of-self : goal.invariant_of-self
invariant_of-self c =
    let awaits = come_where_open c.self.inside.come.items c.self.inside.values.items c.args.part (ap (λ s. slice_get s.values c.args.part) c.self.view_is ∙ c.requires) in
    record {
      places = ap length c.put.ensures ∙ length-set _ _ _ ∙ c.self.invariant.places ∙ sym (length-set _ _ _);
      may_join = rw length-set c.self.invariant.may_join;
      count = omega (arith, count_by-set c.self.inside.come.items c.args.part awaits, c.self.invariant.count);
    }

pub returns : goal.returns
returns c = rw (← c.self.view_is)
    (ap (λ vs. let command : AwaitedCommand = record { how = c.self.inside.how; values = vs } in command)
    (ap (values_come (slice_set c.self.inside.come.items c.args.part true)) c.put.ensures ∙ values_come-set _ _ _ _))
