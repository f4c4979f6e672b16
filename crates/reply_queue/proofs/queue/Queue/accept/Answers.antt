use Rattle.std.proofs.Common.{◌≡◌, [], ◌∷◌, ◌++◌, rules}
use Rattle.reply_queue.specs.Command.{awaiting_command}
use Rattle.reply_queue.proofs.queue.Queue.accept.Goals as goal

pub returns-clause-commands : goal.returns-clause-commands
returns-clause-commands c =
    let behind : c.push_back_reserved.new.self.items ≡ c.args.self.now.commands ++ awaiting_command c.args.how c.args.parts ∷ [] = search rules in
    behind
