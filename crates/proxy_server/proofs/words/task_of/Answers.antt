use Rattle.proxy_server.proofs.words.task_of.Goals as goal

pub returns-in_default-clause-none : goal.returns-in_default-clause-none
returns-in_default-clause-none c = λ task word.
    absurd (let told = c.unpack.ensures.told c.args.number task word in let none = c.in_default.is in cc)
