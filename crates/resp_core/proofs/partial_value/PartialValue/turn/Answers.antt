use Rattle.std.proofs.Common.{◌≡◌, ℕ, Bool, false, Result, Ok, Err, IfOk}
use Rattle.resp_core.specs.PartialValue.{LeadsTo, IsShort}
use Rattle.resp_core.specs.declared.partial_value.PartialValue.{PartialValue}
use Rattle.resp_core.specs.declared.partial_value.Halt.{Halt}
use Rattle.resp_core.proofs.partial_value.PartialValue.turn.Goals as goal

-- what is less than a value after a step was less than one before it
short_before : (most : ℕ) (p q : PartialValue) (r : Result Bool Halt) → LeadsTo most p q → IfOk r (λ came. came ≡ false → IsShort most q) → IfOk r (λ came. came ≡ false → IsShort most p)
short_before most p q (Ok came) along short = λ e held reads. short e held (along held reads)
short_before most p q (Err halt) along short = tt

pub returns-in-Some-clause-none : goal.returns-in-Some-clause-none
returns-in-Some-clause-none c = short_before c.args.most c.args.self.now c.go_on_to_found.new.self c.take_found.result c.go_on_to_found.ensures.reads c.take_found.ensures.none
