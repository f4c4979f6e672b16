use Rattle.std.proofs.Common.{take, drop}
use Rattle.socket_halves.proofs.WriteBufferLemmas.{drop-written, may_write-broken}
use Rattle.socket_halves.proofs.write_buffer.WriteBuffer.write_some.Goals as goal

pub returns-in-Ok-clause-goes_out : goal.returns-in-Ok-clause-goes_out
returns-in-Ok-clause-goes_out g c = record {
  gave = take c.in-Ok.count (drop c.self.inside.written c.self.inside.bytes.items);
  taken = rw (← c.self.view_is) (rw (c.split_at.ensures.back, c.deref.ensures.value) at c.and-self-inside.ensures);
  held = rw (← c.self.view_is) (rw (c.split_at.ensures.back, c.deref.ensures.value) at c.in-Ok.ensures.bytes);
  left = rw (← c.self.view_is) (drop-written c.self.inside.written c.in-Ok.count c.self.inside.bytes.items);
}

pub returns-in-Ok-eq0-clause-ends : goal.returns-in-Ok-eq0-clause-ends
returns-in-Ok-eq0-clause-ends g c = may_write-broken _ _
