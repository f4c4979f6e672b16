use Rattle.ketama.proofs.CallerLemmas.{first_choice_stands}
use Rattle.proxy_history.specs.Setting.{point_for}
use Rattle.proxy_history.specs.Arrival.{usable_flags}
use Rattle.proxy_history.proofs.laws.owners_stay.Goals as goal

pub returns : goal.returns
returns c = λ S x key h e u. first_choice_stands S.ring.pairs (point_for S key) (usable_flags S x) h e u
