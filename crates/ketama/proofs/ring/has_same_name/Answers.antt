use Rattle.std.proofs.Common.{◌<◌, length, ◌∙◌, ap, inl, inr, refl, slice_get, arith}
use Rattle.std.proofs.lemmas.Bool.{cases_eq, iff_false}
use Rattle.std.proofs.lemmas.Option.{slice_get_read, get_or_from_slice_get}
use Rattle.std.proofs.lemmas.List.{get_or-take, length-take-le}
use Rattle.ketama.proofs.ring.has_same_name.Goals as goal

pub loop-j-preserved : goal.loop-j-preserved
loop-j-preserved c = λ i k before below same.
    let names = c.args.names.now in
    let j = c.loop-j.j in
    elim (cases_eq k j) [
      | inl last ↦
          let name = c.index-names-j.result in
          let at_j = slice_get_read names (length names) j name refl c.loop-j-test.true c.index-names-j.is in
          let at_i = get_or_from_slice_get names i name name (same ∙ ap (slice_get names) last ∙ at_j) in
          let before_j : i < j = omega arith in
          iff_false c.has_name.ensures c.if-has_name.false
          (i, omega (arith, length-take-le j names (omega arith)), get_or-take j names i name before_j ∙ at_i)
      | inr earlier ↦ c.loop-j.invariant i k before (omega arith) same
    ]
