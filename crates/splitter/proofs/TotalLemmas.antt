-- A sum, from one value to the next.
use Rattle.std.proofs.Common.{◌≡◌, ◌<◌, ◌+◌, ◌+ℤ◌, ℕ, List, length, map, get_or, drop, sym, ap, ◌∙◌}
use Rattle.std.proofs.lemmas.List.{drop_more}
use Rattle.resp_core.specs.Value.{tree_of}
use Rattle.resp_core.specs.declared.value.Value.{Value}
use Rattle.splitter.specs.Join.{number_of, total}

pub total_more : (vs : List Value) (i : ℕ) (v : Value) → i < length vs → v ≡ get_or vs i v → total (map tree_of (drop i vs)) ≡ number_of (tree_of v) +ℤ total (map tree_of (drop (i + 1) vs))
total_more vs i v l e =
    ap (λ z. total (map tree_of z)) (drop_more vs i v l) ∙ ap (λ z. number_of (tree_of z) +ℤ total (map tree_of (drop (i + 1) vs))) (sym e)
