use Rattle.proxy_record.proofs.TextLemmas.{two}
use Rattle.proxy_record.proofs.event_text.push_event.Goals as goal

pub returns-in_ok-push_numbered-in-Arrived : goal.returns-in_ok-push_numbered-in-Arrived
returns-in_ok-push_numbered-in-Arrived c =
    rw c.in-Arrived.is (two _ _ _ _ _ _ c.in_ok-push_numbered-in-Arrived.ensures c.push_request.ensures)
