use Rattle.std.proofs.Common.{◌≡◌, ℕ, List, length, take, true, Result, Ok, Err, is_err, OnErr, sym, ap, ◌∙◌, arith}
use Rattle.std.proofs.lemmas.List.{take-append-le, take_all}
use Rattle.std.specs.declared.alloc.AllocError.{AllocError}
use Rattle.resp_core.specs.Text.{Extends}
use Rattle.resp_core.proofs.text.put_text.Goals as goal

-- what was there before is cut out again
cut_back : (r : Result (Unit {0}) AllocError) (n : ℕ) (xs ys : List ℕ) → is_err r ≡ true → n ≡ length xs → OnErr r (Extends xs ys) → take n ys ≡ xs
cut_back (Ok u) n xs ys e l h = cc
cut_back (Err a) n xs ys e l h = rw (h.1, take-append-le n xs h.0 (omega (arith, l))) (take_all n xs (omega (arith, l)))

pub returns-then-is_err-clause-err : goal.returns-then-is_err-clause-err
returns-then-is_err-clause-err c =
    let reserved = c.reserve.ensures.items in
    c.truncate.ensures.items
    ∙ cut_back c.append_value.result c.len-len.result _ _ (sym c.is_err.ensures.value ∙ c.if-is_err.true) (omega (arith, ap length reserved)) c.append_value.ensures.err
    ∙ reserved
