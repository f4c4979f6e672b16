-- An event without a cause is of a host that there is.
use Rattle.std.proofs.Common.{◌≡◌, None}
use Rattle.std.proofs.lemmas.Bool.{leb-false}
use Rattle.proxy_history.specs.Setting.{Setting, hosts}
use Rattle.proxy_history.specs.Part.{Past}
use Rattle.proxy_history.specs.Cause.{own_cause, causes}
use Rattle.proxy_history.specs.Hosts.{HasHost}
use Rattle.proxy_history.specs.declared.event.Event.{Event}
use Rattle.proxy_history.specs.declared.event.Event.TheVariants.{Answered, Failed}
use Rattle.proxy_history.proofs.causes.NoCauseLemmas.{are_false}

pub has_host : (S : Setting) (x : Past) (event : Event) → own_cause S x event ≡ None → HasHost (hosts S) event
has_host S x (Answered host e value t) n = leb-false (hosts S) host (are_false (causes S x (Answered host e value t)) n).0
has_host S x (Failed host e kind t) n = leb-false (hosts S) host (are_false (causes S x (Failed host e kind t)) n).0
has_host S x _ n = tt
