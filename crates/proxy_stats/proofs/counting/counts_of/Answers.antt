use Rattle.std.proofs.Common.{◌≡◌, ◌<◌, ◌^◌, slice_get, Some, ◌∙◌, inl, inr, arith}
use Rattle.std.proofs.lemmas.Option.{slice_get_within, slice_get_cases, get_or_from_slice_get}
use Rattle.proxy_stats.specs.Amounts.{ejected_hosts, kept_hosts}
use Rattle.proxy_stats.proofs.SumLemmas.{counts_more, all_more}
use Rattle.proxy_stats.proofs.counting.counts_of.Goals as goal
use Rattle.proxy_stats.proofs.counting.counts_of.Goals.{in-Some, in_default}

pub loop-i-preserved : goal.loop-i-preserved
loop-i-preserved c =
    let steps = c.args.journal.now.steps in
    let i = c.loop-i.i in
    let (_, few, kinds, hosts) = c.loop-i.invariant in
    elim c.match-get.branch [
      | in-Some w ↦
          let step = w.in-Some.step.now in
          let at : slice_get steps i ≡ Some step = w.in-Some.ensures.step in
          let within = slice_get_within steps i step at in
          let here = get_or_from_slice_get steps i step step at in
          rw w.counts-is (
            counts_more steps i step _ _ within here c.loop-i.invariant.0 w.add.ensures.grown,
            all_more (λ s. (ejected_hosts s < 2 ^ 32) × (kept_hosts s < 2 ^ 32)) steps i step within here few (w.add.ensures.ejected, w.add.ensures.kept),
            w.add.ensures.kinds ∙ kinds,
            w.add.ensures.hosts ∙ hosts,
          )
      | in_default w ↦ elim ((slice_get_cases steps i).1) [
        | inl (_, _, is_some, _) ↦ absurd (let e = w.in_default.ensures.recorded c.requires in let f = is_some in cc)
        | inr z ↦ absurd (omega (arith, z.0, c.loop-i-test.true, c.len-i-end.ensures.steps))
      ]
    ]
