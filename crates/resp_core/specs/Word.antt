-- What came of the next complete value.
use Rattle.resp_core.specs.declared.value.Value.{Value}
use Rattle.resp_core.specs.declared.partial_value.Word.{Word}
use Rattle.resp_core.specs.declared.partial_value.Word.TheVariants as words

-- this of the outermost value, if that is complete
abbrev pub IfLast : Word → (Value → Type 0) → Type 0
IfLast (words.Last v) holds = holds v
IfLast words.Member holds = Unit {0}
IfLast words.Missing holds = Unit {0}

-- this, if more is to be read
abbrev pub IfMember : Word → Type 0 → Type 0
IfMember (words.Last v) holds = Unit {0}
IfMember words.Member holds = holds
IfMember words.Missing holds = Unit {0}

-- this, if there was none
abbrev pub IfMissing : Word → Type 0 → Type 0
IfMissing (words.Last v) holds = Unit {0}
IfMissing words.Member holds = Unit {0}
IfMissing words.Missing holds = holds
