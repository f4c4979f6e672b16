use Rattle.proxy_server.proofs.words.free_place.Goals as goal

pub returns-in-None-clause-free : goal.returns-in-None-clause-free
returns-in-None-clause-free c = λ n task word.
    absurd (let told = c.unpack.ensures.told n task word in let none = c.in-None.is in cc)
