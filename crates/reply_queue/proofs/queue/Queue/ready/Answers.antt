use Rattle.std.proofs.Common.{rules}
use Rattle.std.specs.Prelude.{◌↔◌, IsTrue}
use Rattle.std.specs.Option.{IsSome}
use Rattle.reply_queue.specs.Queue.{front_reply}
use Rattle.reply_queue.proofs.queue.Queue.ready.Goals as goal

pub returns-in-Some : goal.returns-in-Some
returns-in-Some c =
    let told : IsTrue c.is_complete.result ↔ IsSome (front_reply c.args.self.now.commands) = search rules in
    told
