-- Lines of Prometheus's text format.
use Rattle.std.specs.Prelude.{ℕ, ◌/◌, ◌%◌, ◌==◌, ◌||◌, if◌then◌else◌, List, [], ◌∷◌, ◌++◌, codes, decimal, flat_map}
use Rattle.std.specs.List.{concat}

-- a byte within a label's value: a backslash stands before a quote and a backslash
abbrev pub escaped_byte : ℕ → List ℕ
escaped_byte b = if (b == 92) || (b == 34) then 92 ∷ b ∷ [] else b ∷ []

-- a label's value
abbrev pub escaped : List ℕ → List ℕ
escaped value = flat_map escaped_byte value

-- the last three digits of a number
abbrev pub last_three : ℕ → List ℕ
last_three n = concat (decimal (n / 100 % 10) ∷ decimal (n / 10 % 10) ∷ decimal (n % 10) ∷ [])

-- microseconds as seconds, with six decimals
abbrev pub seconds_text : ℕ → List ℕ
seconds_text us = concat (decimal (us / 1000000) ∷ codes "." ∷ []) ++ last_three (us / 1000) ++ last_three us

-- a number with no label
abbrev pub plain_text : List ℕ → List ℕ → ℕ → List ℕ
plain_text name suffix number = concat (name ∷ suffix ∷ codes " " ∷ decimal number ∷ codes "\n" ∷ [])

-- a number with one label
abbrev pub labelled_text : List ℕ → List ℕ → List ℕ → ℕ → List ℕ
labelled_text name key value number =
    concat (name ∷ codes "{" ∷ key ∷ codes "=\"" ∷ value ∷ codes "\"} " ∷ decimal number ∷ codes "\n" ∷ [])

-- a number of a command's name
abbrev pub command_text : List ℕ → List ℕ → ℕ → List ℕ
command_text name command number =
    concat (name ∷ codes "{command=\"" ∷ escaped command ∷ codes "\"} " ∷ decimal number ∷ codes "\n" ∷ [])

-- a number of a host
abbrev pub host_text : List ℕ → List ℕ → ℕ → List ℕ
host_text name host number =
    concat (name ∷ codes "{host=\"" ∷ escaped host ∷ codes "\"} " ∷ decimal number ∷ codes "\n" ∷ [])

-- a number of a host's faults of a cause
abbrev pub fault_text : List ℕ → List ℕ → List ℕ → ℕ → List ℕ
fault_text name host cause number =
    concat (name ∷ codes "{host=\"" ∷ escaped host ∷ codes "\",cause=\"" ∷ cause ∷ codes "\"} " ∷ decimal number ∷ codes "\n" ∷ [])

-- a number of a host in a line of generations
abbrev pub line_text : List ℕ → List ℕ → ℕ → ℕ → List ℕ
line_text name host line number =
    concat (name ∷ codes "{host=\"" ∷ escaped host ∷ codes "\",line=\"" ∷ decimal line ∷ codes "\"} " ∷ decimal number ∷ codes "\n" ∷ [])

-- the version and the kit
abbrev pub build_text : List ℕ → List ℕ → List ℕ → List ℕ
build_text name version kit =
    concat (name ∷ codes "{version=\"" ∷ escaped version ∷ codes "\",kit=\"" ∷ escaped kit ∷ codes "\"} 1\n" ∷ [])

-- how many values were at most so many microseconds
abbrev pub bound_text : List ℕ → ℕ → ℕ → List ℕ
bound_text name us number =
    concat (name ∷ codes "_bucket{le=\"" ∷ [])
    ++ seconds_text us
    ++ concat (codes "\"} " ∷ decimal number ∷ codes "\n" ∷ [])

-- how many values there were, as the last of the bounds
abbrev pub last_bound_text : List ℕ → ℕ → List ℕ
last_bound_text name number = concat (name ∷ codes "_bucket{le=\"+Inf\"} " ∷ decimal number ∷ codes "\n" ∷ [])

-- a name with its suffix, a host, and what stands behind the host
abbrev pub host_label : List ℕ → List ℕ → List ℕ → List ℕ → List ℕ
host_label name suffix host behind = concat (name ∷ suffix ∷ codes "{host=\"" ∷ escaped host ∷ behind ∷ [])

-- the end of labels, and a number
abbrev pub end_text : List ℕ → ℕ → List ℕ
end_text end number = concat (end ∷ decimal number ∷ codes "\n" ∷ [])

-- how many values of a host were at most so many microseconds
abbrev pub host_bound_text : List ℕ → List ℕ → ℕ → ℕ → List ℕ
host_bound_text name host us number =
    host_label name (codes "_bucket") host (codes "\",le=\"") ++ seconds_text us ++ end_text (codes "\"} ") number

-- how many values of a host there were, as the last of its bounds
abbrev pub last_host_bound_text : List ℕ → List ℕ → ℕ → List ℕ
last_host_bound_text name host number =
    host_label name (codes "_bucket") host (codes "\",le=\"+Inf") ++ end_text (codes "\"} ") number

-- the sum of a host's values, in seconds
abbrev pub host_sum_text : List ℕ → List ℕ → ℕ → List ℕ
host_sum_text name host us =
    host_label name (codes "_sum") host (codes "\"} ") ++ seconds_text us ++ concat (codes "\n" ∷ [])

-- how many values of a host there were
abbrev pub host_count_text : List ℕ → List ℕ → ℕ → List ℕ
host_count_text name host number = host_label name (codes "_count") host [] ++ end_text (codes "\"} ") number
