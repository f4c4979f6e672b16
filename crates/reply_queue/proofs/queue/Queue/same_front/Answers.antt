use Rattle.std.proofs.Common.{◌≡◌, rules}
use Rattle.std.specs.Prelude.{option_map}
use Rattle.std.specs.Option.{option_copied}
use Rattle.resp_core.specs.Value.{tree_of}
use Rattle.reply_queue.specs.Queue.{same_front_reply}
use Rattle.reply_queue.proofs.queue.Queue.same_front.Goals as goal

pub returns-in-Some : goal.returns-in-Some
returns-in-Some c =
    let told : option_map tree_of (option_copied c.same_reply.result) ≡ same_front_reply c.args.self.now.commands = search rules in
    record { reply = told }
