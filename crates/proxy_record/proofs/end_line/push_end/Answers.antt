use Rattle.proxy_record.proofs.end_line.push_end.Goals as goal

pub returns : goal.returns
returns c = rw (← c.format.ensures.text, ← c.format-2.ensures.text) c.push_all.ensures
