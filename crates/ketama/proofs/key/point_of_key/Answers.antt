use Rattle.std.proofs.Common.{ap, ◌∙◌}
use Rattle.ketama.specs.Point.{point_in}
use Rattle.ketama.specs.Key.{point_of_bytes}
use Rattle.ketama.proofs.TagLemmas.{point_of-IsTagOf}
use Rattle.ketama.proofs.key.point_of_key.Goals as goal

pub returns-then-part-le-MAX_SHORT-clause-tag : goal.returns-then-part-le-MAX_SHORT-clause-tag
returns-then-part-le-MAX_SHORT-clause-tag c on tag t =
    c.point_of_short.ensures ∙ ap point_of_bytes c.hashed_part-part.ensures.value ∙ point_of-IsTagOf c.args.key.now c.args.tags tag on t

pub returns-clause-tag : goal.returns-clause-tag
returns-clause-tag c on tag t =
    c.point_at.ensures ∙ ap (λ digest. point_in digest 0) c.digest.ensures ∙ ap point_of_bytes c.hashed_part-part.ensures.value
    ∙ point_of-IsTagOf c.args.key.now c.args.tags tag on t
