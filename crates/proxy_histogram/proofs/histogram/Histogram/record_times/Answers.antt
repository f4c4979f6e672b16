use Rattle.std.proofs.Common.{◌*◌, nat_le, cond, replicate, get_or, sum, sym, ap, ◌∙◌, arith}
use Rattle.std.proofs.lemmas.List.{length-append, length-replicate}
use Rattle.proxy_histogram.specs.Values.{capped, number_at_most}
use Rattle.proxy_histogram.specs.declared.histogram.TheConstants.{BOUNDS_US}
use Rattle.proxy_histogram.proofs.ValueLemmas.{number_with_times, sum_with_times, capped_more, capped_sum}
use Rattle.proxy_histogram.proofs.histogram.Histogram.record_times.Goals as goal

pub returns : goal.returns
returns c = λ values is.
    record {
      at_most = λ i within.
          let bound = get_or BOUNDS_US i 0 in
          c.recorded-self.ensures i within
          ∙ capped_more _ (number_at_most bound values) (cond (nat_le c.args.us bound) c.args.times 0) (is.at_most i within)
          ∙ ap capped (sym (number_with_times bound c.args.us c.args.times values));
      total =
          let before = is.total in
          let more = length-append values (replicate c.args.times c.args.us) in
          let count = length-replicate c.args.times c.args.us in grind (arith, before, more, count);
      sum_us =
          let before = capped_sum _ (sum values) (c.args.times * c.args.us) is.sum_us in
          let more = sum_with_times c.args.us c.args.times values in grind (arith, before, more);
    }
