-- The line that tells of good settings.
use Rattle.std.specs.Prelude.{◌≡◌, ℕ, List, ◌++◌, length, sum, codes, decimal}
use Rattle.ketama.specs.Ketama.{digest_counts}
use Rattle.proxy_config.specs.Values.{Values}
use Rattle.proxy_config.specs.File.{IsSettings}

-- the line that tells so many hosts and digests
abbrev pub line_with : ℕ → ℕ → List ℕ
line_with hosts digests = codes "ok " ++ (decimal hosts ++ (codes " hosts " ++ (decimal digests ++ codes " digests\n")))

-- the hosts, and the digests of their ring
abbrev pub line_of : Values → List ℕ
line_of v = line_with (length v.hosts) (sum (digest_counts v.weights))

-- the line for the settings of these bytes
pub record IsLine (bytes line : List ℕ) : Type 0 where
  pub values : Values
  pub settings : IsSettings bytes values
  pub text : line ≡ line_of values
