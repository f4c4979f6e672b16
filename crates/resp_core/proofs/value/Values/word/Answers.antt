use Rattle.std.proofs.Common.{◌≡◌, ◌<◌, List, length, map, true, sym, ap, ◌∙◌, subst}
use Rattle.resp_core.specs.Tree.{Tree}
use Rattle.resp_core.specs.Value.{tree_of}
use Rattle.resp_core.specs.Command.{is_bulk, are_words, payload_of, word}
use Rattle.resp_core.proofs.CommandLemmas.{is_bulk_at, word-payload, no_bulk}
use Rattle.resp_core.proofs.value.Values.word.Goals as goal

pub unreachable-requires : goal.unreachable-requires
unreachable-requires c =
    let v = sym c.self.view_is in
    no_bulk c.index.result.now c.in_default.not-Bulk
    (ap (λ z. is_bulk (tree_of z)) c.index.ensures ∙ is_bulk_at c.self.inside.0.items c.args.at c.index.result.now (subst (λ (z : List Tree). are_words z ≡ true) v c.requires.words) (subst (λ (z : List Tree). c.args.at < length z) v c.requires.inside))

pub returns : goal.returns
returns c =
    let v = sym c.self.view_is in
    sym
    (ap (λ z. word (map payload_of z) c.args.at) v ∙ word-payload c.self.inside.0.items c.args.at c.index.result.now (subst (λ (z : List Tree). c.args.at < length z) v c.requires.inside)
    ∙ ap (λ z. payload_of (tree_of z)) (sym c.index.ensures ∙ c.in-Bulk.is))
