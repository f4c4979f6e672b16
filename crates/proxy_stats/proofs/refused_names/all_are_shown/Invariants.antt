use Rattle.std.proofs.Common.{◌≡◌, take}
use Rattle.std.specs.Prelude.{true}
use Rattle.std.specs.List.{list_all}
use Rattle.proxy_stats.specs.RefusedNames.{is_shown_byte}
use Rattle.proxy_stats.proofs.refused_names.all_are_shown.Given as goal

-- the bytes so far are shown
abbrev pub invariant-loop-byte : goal.invariant-loop-byte
invariant-loop-byte l = list_all is_shown_byte (take l.byte-index l.name) ≡ true
