use Rattle.std.proofs.Common.{◌≡◌, ◌++◌, [], ◌∷◌, length, sym, ap, ◌∙◌, arith, rules}
use Rattle.std.proofs.lemmas.List.{length-append}
use Rattle.resp_core.specs.Text.{line_end}
use Rattle.proxy_record.proofs.DecimalLemmas.{no_minus}
use Rattle.proxy_record.proofs.read_back.read_bulk.Goals as goal

pub returns-then-is_null-clause-bulk : goal.returns-then-is_null-clause-bulk
returns-then-is_null-clause-bulk c s behind shown before =
    let null : c.args.shown.now ≡ 45 ∷ 49 ∷ [] = search rules in
    absurd
    (no_minus (length s) (49 ∷ []) (omega (arith, ap length before, length-append (s ++ line_end) behind, length-append s line_end, c.len-most.ensures.value, c.len-most.ensures.bound))
    (sym shown ∙ null))
