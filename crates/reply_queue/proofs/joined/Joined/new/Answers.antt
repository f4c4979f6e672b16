use Rattle.std.proofs.Common.{◌≡◌, replicate, length, false, ap, ◌∙◌, rules}
use Rattle.reply_queue.specs.Command.{AwaitedCommand}
use Rattle.reply_queue.specs.Places.{values_come}
use Rattle.reply_queue.proofs.PlaceLemmas.{values_come-replicate}
use Rattle.reply_queue.proofs.joined.Joined.new.Goals as goal

pub returns : goal.returns
returns c =
    let come : c.in_ok-come.come.items ≡ replicate c.args.parts false = search rules in
    let places : length c.in_ok-values.values.items ≡ c.args.parts = search rules in
    ap (λ vs. let command : AwaitedCommand = record { how = c.args.how; values = vs } in command)
    (ap (λ bs. values_come bs c.in_ok-values.values.items) come ∙ values_come-replicate _ _ places)
