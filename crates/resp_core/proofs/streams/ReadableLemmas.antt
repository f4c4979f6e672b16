-- What a reader gives can be written and read again.
use Rattle.std.proofs.Common.{ℕ, List, take, arith}
use Rattle.std.proofs.lemmas.List.{length-take-le}
use Rattle.resp_core.specs.Tree.{Tree}
use Rattle.resp_core.specs.Grammar.{max_depth}
use Rattle.resp_core.specs.FirstValue.{IsFirstValue}
use Rattle.resp_core.specs.Readable.{IsReadable}
use Rattle.resp_core.proofs.SpellingLemmas.{spelling_is_shortest, read_values_are_plain}

-- the value at the front of these bytes
pub first_readable : (most : ℕ) (held : List ℕ) (t : Tree) (len : ℕ) → IsFirstValue most held t len → IsReadable most t
first_readable most held t len f =
    let plain = read_values_are_plain most max_depth (take len held) t f.text in
    record {
      within = plain.1;
      plain = plain.0;
      few = omega (arith, f.few, length-take-le len held f.inside, spelling_is_shortest most max_depth (take len held) t f.text);
    }
