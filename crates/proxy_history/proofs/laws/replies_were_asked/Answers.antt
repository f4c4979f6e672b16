use Rattle.proxy_history.proofs.sending.ReplyCountLemmas.{replies_were_asked as law}
use Rattle.proxy_history.proofs.laws.replies_were_asked.Goals as goal

pub returns : goal.returns
returns c = law
