-- What a core that counts tells of itself.
use Rattle.std.specs.Prelude.{List}
use Rattle.proxy_history.specs.History.{Step}
use Rattle.proxy_history.specs.SeenSteps.{history_of_seen}
use Rattle.proxy_core.specs.Recorded.{Origin, handover_of, setting_by}
use Rattle.proxy_stats.specs.declared.tallied_core.Sight.{Sight}
use Rattle.proxy_stats.specs.Counts.{counts_of}
use Rattle.proxy_stats.specs.Load.{load_of}
use Rattle.proxy_stats.specs.Refusals.{refused_names_of}

-- what a look at it tells: the handover, the counts, the refused names and the load of a journal
abbrev pub sight_of : Origin → List Step → Sight
sight_of made journal = record {
  handover = handover_of made journal;
  counts = counts_of journal;
  refused_names = refused_names_of journal;
  load = load_of (setting_by made) (history_of_seen journal);
}
