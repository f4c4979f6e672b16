use Rattle.proxy_core.proofs.machine.Machine.accept_plan.Goals as goal

pub returns-in-Other-Parts-clause-accepted : goal.returns-in-Other-Parts-clause-accepted
returns-in-Other-Parts-clause-accepted c = rw (c.in-Other-Parts.is, c.in-Other-Parts.field-0-is) c.accept_list.ensures.accepted

pub returns-in-Other-Here-clause-journal : goal.returns-in-Other-Here-clause-journal
returns-in-Other-Here-clause-journal c = c.accept_value.ensures.journal

pub returns-in-Other-Here-clause-refused : goal.returns-in-Other-Here-clause-refused
returns-in-Other-Here-clause-refused c = c.accept_value.ensures.refused

pub returns-in-Other-Leave-clause-journal : goal.returns-in-Other-Leave-clause-journal
returns-in-Other-Leave-clause-journal c = c.accept_value-in-Other-Leave.ensures.journal

pub returns-in-Other-Leave-clause-refused : goal.returns-in-Other-Leave-clause-refused
returns-in-Other-Leave-clause-refused c = c.accept_value-in-Other-Leave.ensures.refused

pub returns-in-Other-Parts-clause-journal : goal.returns-in-Other-Parts-clause-journal
returns-in-Other-Parts-clause-journal c = c.accept_list.ensures.journal

pub returns-in-Other-Parts-clause-refused : goal.returns-in-Other-Parts-clause-refused
returns-in-Other-Parts-clause-refused c = c.accept_list.ensures.refused

pub returns-in-Whole-clause-journal : goal.returns-in-Whole-clause-journal
returns-in-Whole-clause-journal c = c.accept_whole.ensures.journal

pub returns-in-Whole-clause-refused : goal.returns-in-Whole-clause-refused
returns-in-Whole-clause-refused c = c.accept_whole.ensures.refused
