use Rattle.proxy_record.proofs.answer_text.push_swept.Goals as goal

pub returns : goal.returns
returns c = rw (← c.format.ensures.text, ← c.format-2.ensures.text, ← c.format-3.ensures.text) c.push_all.ensures
