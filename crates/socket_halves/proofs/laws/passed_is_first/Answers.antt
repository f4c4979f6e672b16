use Rattle.std.proofs.Common.{◌∙◌, [], append-nil, refl, sym}
use Rattle.std.proofs.lemmas.List.{append_cancel_left}
use Rattle.socket_halves.proofs.laws.passed_is_first.Goals as goal

pub returns : goal.returns
returns c = λ out. (
  refl,
  (
    (λ none. rw none (sym (append-nil out.taken))),
    λ all. append_cancel_left out.taken out.buffered [] (sym all ∙ sym (append-nil out.taken)),
  ),
)
