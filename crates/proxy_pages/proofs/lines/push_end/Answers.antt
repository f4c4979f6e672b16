use Rattle.proxy_pages.proofs.lines.push_end.Goals as goal

pub returns : goal.returns
returns c = rw (← c.format.ensures.text) c.push_all.ensures
