use Rattle.std.proofs.Common.{refl, take, drop}
use Rattle.resp_core.proofs.SpelledCommandLemmas.{cut_behind_line}
use Rattle.resp_core.proofs.spelled_command.split_bulk.Goals as goal

pub split_at-requires : goal.split_at-requires
split_at-requires c =
    let (s, rest, is, few) = c.requires in
    let first = c.in-Some.behind.now in
    let len = c.in-Some.len in
    (cut_behind_line len c.args.bytes.now first s rest (take len first) (drop len first) c.in-Some.ensures.line c.in-Some.ensures.limit is few refl refl).inside

pub slice_bounds-result-count : goal.slice_bounds-result-count
slice_bounds-result-count c =
    let (s, rest, is, few) = c.requires in
    (cut_behind_line c.in-Some.len c.args.bytes.now c.in-Some.behind.now s rest _ _ c.in-Some.ensures.line c.in-Some.ensures.limit is few c.split_at.ensures.front c.split_at.ensures.back).end

pub slice_bounds-result-start : goal.slice_bounds-result-start
slice_bounds-result-start c =
    let (s, rest, is, few) = c.requires in
    (cut_behind_line c.in-Some.len c.args.bytes.now c.in-Some.behind.now s rest _ _ c.in-Some.ensures.line c.in-Some.ensures.limit is few c.split_at.ensures.front c.split_at.ensures.back).end

pub returns-in-Some : goal.returns-in-Some
returns-in-Some c = λ s rest is few.
    let cut = cut_behind_line c.in-Some.len c.args.bytes.now c.in-Some.behind.now s rest _ _ c.in-Some.ensures.line c.in-Some.ensures.limit is few c.split_at.ensures.front c.split_at.ensures.back in
    (cut.front_is, cut.back_is)
