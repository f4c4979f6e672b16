use Rattle.std.proofs.Common.{◌≡◌, ◌++◌, map, take}
use Rattle.std.specs.List.{concat}
use Rattle.proxy_pages.specs.Pages.{refused_name_text}
use Rattle.proxy_pages.proofs.metrics.push_places.Given as goal

-- the places so far were appended
abbrev pub invariant-loop-place : goal.invariant-loop-place
invariant-loop-place l = l.page.items ≡ l.fn.page.items ++ concat (map (refused_name_text l.name) (take l.place-index l.places))
