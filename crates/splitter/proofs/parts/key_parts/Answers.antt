use Rattle.std.proofs.Common.{◌≡◌, ℕ, List, [], ◌∷◌, Result, Ok, Err, IfOk, map, drop, ◌∙◌}
use Rattle.resp_core.specs.Command.{payload_of}
use Rattle.splitter.specs.declared.error.SplitError.{SplitError}
use Rattle.splitter.specs.declared.plans.PartPlan.{PartPlan}
use Rattle.splitter.specs.Split.{Words, part_at}
use Rattle.splitter.specs.Part.{head_of, key_parts_of}
use Rattle.splitter.proofs.PartTextLemmas.{named_parts}
use Rattle.splitter.proofs.parts.key_parts.Goals as goal

named : (name head : List ℕ) (keys : Words) (r : Result (List PartPlan) SplitError) → head ≡ head_of 2 name → IfOk r (λ ps. ps ≡ key_parts_of head keys) → IfOk r (λ ps. ps ≡ map (λ key. part_at 1 (name ∷ key ∷ [])) keys)
named name head keys (Ok ps) e h = h ∙ named_parts name head keys e
named name head keys (Err error) e h = tt

pub returns-in-Some-clause-parts : goal.returns-in-Some-clause-parts
returns-in-Some-clause-parts c =
    named c.args.name c.as_slice-in-Some.result.now (drop 1 (map payload_of c.args.words.now)) c.joined_parts.result (c.as_slice-in-Some.ensures.value ∙ c.in_ok-head.ensures.text) c.joined_parts.ensures.parts

pub returns-clause-parts : goal.returns-clause-parts
returns-clause-parts c =
    named c.args.name c.as_slice-in-None.result.now (drop 1 (map payload_of c.args.words.now)) c.single_parts.result (c.as_slice-in-None.ensures.value ∙ c.in_ok-head.ensures.text) c.single_parts.ensures.parts
