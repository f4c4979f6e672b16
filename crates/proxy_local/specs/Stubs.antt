-- The hosts in memory.
use Rattle.std.specs.Prelude.{◌≡◌, ℕ, List, [], ◌∷◌, codes}
use Rattle.ketama.specs.Ketama.{IsKetamaRing}
use Rattle.ejector.specs.Settings.{default_settings}
use Rattle.proxy_history.specs.Setting.{Setting}
use Rattle.proxy_history.specs.Proxy.{setting_of}

-- their names, and their weights
abbrev pub stub_names : List (List ℕ)
stub_names = codes "stub-0" ∷ codes "stub-1" ∷ codes "stub-2" ∷ []

-- the weights of the hosts in memory
abbrev pub stub_weights : List ℕ
stub_weights = 1 ∷ 1 ∷ 1 ∷ []

-- the setting of a proxy for them: their ring, and the default settings, where nothing was told of the hosts
pub record IsOfStubs (S : Setting) : Type 0 where
  pub ring : IsKetamaRing stub_names stub_weights S.ring
  pub made : S ≡ setting_of S.ring default_settings
