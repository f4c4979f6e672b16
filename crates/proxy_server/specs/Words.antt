-- What a word of the board shows.
use Rattle.std.specs.Prelude.{◌≡◌, ◌<◌, ◌+◌, ◌*◌, ◌^◌, ℕ, List, length, slice_index}
use Rattle.proxy_generations.specs.declared.phase.Phase.{Phase}
use Rattle.proxy_generations.specs.declared.phase.Phase.TheVariants.{Unopened, Serving, Draining, GivingUp, Stopped}

-- the code of a task: one that a generation which drains may have
abbrev pub code_of : Phase → ℕ
code_of Draining = 0
code_of GivingUp = 1
code_of Stopped = 2
code_of Unopened = 3
code_of Serving = 3

-- a word shows that this generation drains, and what it is to do
abbrev pub IsWord : ℕ → ℕ → Phase → Type 0
IsWord word number task = (code_of task < 3) × (word ≡ 4 * number + code_of task)

-- a word can show it
abbrev pub FitsWord : ℕ → Phase → Type 0
FitsWord number task = (code_of task < 3) × (number < 2 ^ 62)

-- one of the words shows it
abbrev pub AreShown : List ℕ → ℕ → Phase → Type 0
AreShown words number task = (place : ℕ) × (place < length words) × IsWord (slice_index words place) number task
