-- A beginning of a legal history is legal.
use Rattle.std.proofs.Common.{[], ◌∷◌, ◌++◌}
use Rattle.proxy_history.specs.Setting.{Setting}
use Rattle.proxy_history.specs.History.{History}
use Rattle.proxy_history.specs.Legal.{IsLegal}

pub beginning : (S : Setting) (later before : History) → IsLegal S (later ++ before) → IsLegal S before
beginning S [] before p = p
beginning S (s ∷ later) before p = beginning S later before p.0
