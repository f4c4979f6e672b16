use Rattle.std.proofs.Common.{[], sym, subst}
use Rattle.std.proofs.lemmas.List.{get_or-replicate}
use Rattle.proxy_histogram.specs.Values.{IsOf}
use Rattle.proxy_histogram.specs.HostDurations.{no_durations}
use Rattle.proxy_histogram.proofs.host_durations.HostDurations.new.Goals as goal

pub returns : goal.returns
returns c = λ i within. subst (IsOf []) (sym (get_or-replicate 64 i c.new.result no_durations within)) c.new.ensures
