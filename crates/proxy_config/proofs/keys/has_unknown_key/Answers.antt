use Rattle.std.proofs.Common.{rules, tests, string_bytes}
use Rattle.std.proofs.lemmas.Bool.{MatchBool-at_true}
use Rattle.std.proofs.lemmas.Iterator.{cases_from_any}
use Rattle.std.proofs.lemmas.Iterator.Consumers.{YieldsList-from_rest}
use Rattle.std.proofs.lemmas.Iterator.Search.{true_from_Any}
use Rattle.std.specs.BTreeMap.{keys}
use Rattle.proxy_config.specs.File.{IsUnknown}
use Rattle.proxy_config.proofs.ElementLemmas.{Any-from_place}
use Rattle.proxy_config.proofs.keys.has_unknown_key.Goals as goal

pub returns : goal.returns
returns c =
    let r = cases_from_any _ _ _ (λ name. IsUnknown (string_bytes name)) (λ name. IsUnknown (string_bytes name) → ⊥) c.any.ensures.ran
    (YieldsList-from_rest (keys c.args.members.now) c.keys.ensures.rest) (λ y b k. search (rules, tests)) (λ y b k. search (rules, tests)) in (
      λ t. let (k, within, unknown) = MatchBool-at_true _ _ t r in Any-from_place (λ name. IsUnknown (string_bytes name)) (keys c.args.members.now) k within unknown,
      λ (k, name, within, is, unknown). true_from_Any (λ name. IsUnknown (string_bytes name)) (λ name. IsUnknown (string_bytes name) → ⊥) _ _ (λ y p q. q p) r name (k, within, is) unknown,
    )
