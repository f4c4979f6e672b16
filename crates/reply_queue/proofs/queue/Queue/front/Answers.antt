use Rattle.std.proofs.Common.{rules}
use Rattle.reply_queue.proofs.queue.Queue.front.Goals as goal

pub returns-in_ok-reply-in-Some-clause-reply : goal.returns-in_ok-reply-in-Some-clause-reply
returns-in_ok-reply-in-Some-clause-reply c = search rules

pub returns-in_err-reply-in-Some-clause-ready : goal.returns-in_err-reply-in-Some-clause-ready
returns-in_err-reply-in-Some-clause-ready c = search rules
