use Rattle.std.proofs.Common.{◌<◌, true, false, length, get_or, set, sym, ap, ◌∙◌, arith}
use Rattle.list_lemmas.proofs.CallerLemmas.{count_by-range_more, get_or-made_to, set-made_to, made_to-same}
use Rattle.ejector.specs.State.{fresh_host}
use Rattle.ejector.specs.Trips.{may_eject}
use Rattle.ejector.specs.Sweeps.{trips_by}
use Rattle.ejector.specs.Counting.{at_turn, is_ejected_at, is_kept_at, outs}
use Rattle.ejector.proofs.SweepTurnLemmas.{turn_yes, turn_no, turned, not_turned}
use Rattle.ejector.proofs.sweep.trip_outliers.Goals as goal
use Rattle.ejector.proofs.sweep.trip_outliers.Goals.{then-trips+then-may, then-trips+else-may, else-trips}

pub loop-i-preserved : goal.loop-i-preserved
loop-i-preserved c =
    let inv = c.loop-i.invariant in
    let R = c.args.rules.now in
    let xs = c.args.hosts.now in
    let i = c.loop-i.i in
    let tripping = trips_by R c.args.rates.now in
    let first = outs xs in
    let turn = at_turn R c.args.now tripping first xs in
    let within : i < length xs = omega (arith, c.loop-i-test.true, c.requires.all, c.requires.same) in
    let here = ap (λ ys. get_or ys i fresh_host) inv.hosts ∙ get_or-made_to turn xs i fresh_host within in
    let placed = ap (λ ys. set ys i (turn i)) inv.hosts ∙ set-made_to turn xs i fresh_host within in
    elim c.if-trips.branch [
      | then-trips+then-may w ↦
          let trips = sym c.trips.ensures ∙ w.if-trips.true in
          let may = w.may_eject-may.ensures ∙ ap (may_eject R) inv.out in
          let new = w.tripped.ensures ∙ turn_yes R c.args.now tripping first xs i w.may_eject-may.result _ trips may here in
          let (is_ejected, is_kept, out_after) = turned R c.args.now tripping first xs i true trips (sym w.if-may.true ∙ may) in
          record {
            hosts = w.hosts-is ∙ ap (λ s. set c.loop-i.hosts i s) new ∙ placed;
            out = omega (arith, w.out-is, inv.out, out_after);
            ejected = omega (arith, w.ejected-is, inv.ejected, count_by-range_more (is_ejected_at R tripping first) i true is_ejected);
            kept = omega (arith, w.kept-is, inv.kept, count_by-range_more (is_kept_at R tripping first) i false is_kept);
            few_out = omega (arith, w.out-is, inv.few_out);
            few_ejected = omega (arith, w.ejected-is, inv.few_ejected);
            few_kept = omega (arith, w.kept-is, inv.few_kept);
          }
      | then-trips+else-may w ↦
          let trips = sym c.trips.ensures ∙ w.if-trips.true in
          let may = w.may_eject-may.ensures ∙ ap (may_eject R) inv.out in
          let new = w.tripped.ensures ∙ turn_yes R c.args.now tripping first xs i w.may_eject-may.result _ trips may here in
          let (is_ejected, is_kept, out_after) = turned R c.args.now tripping first xs i false trips (sym w.if-may.false ∙ may) in
          record {
            hosts = w.hosts-is ∙ ap (λ s. set c.loop-i.hosts i s) new ∙ placed;
            out = omega (arith, w.out-is, inv.out, out_after);
            ejected = omega (arith, w.ejected-is, inv.ejected, count_by-range_more (is_ejected_at R tripping first) i false is_ejected);
            kept = omega (arith, w.kept-is, inv.kept, count_by-range_more (is_kept_at R tripping first) i true is_kept);
            few_out = omega (arith, w.out-is, inv.few_out);
            few_ejected = omega (arith, w.ejected-is, inv.few_ejected);
            few_kept = omega (arith, w.kept-is, inv.few_kept);
          }
      | else-trips w ↦
          let stays = sym c.trips.ensures ∙ w.if-trips.false in
          let (is_ejected, is_kept, out_after) = not_turned R c.args.now tripping first xs i stays in
          record {
            hosts = w.hosts-is ∙ inv.hosts ∙ made_to-same turn xs i fresh_host within (turn_no R c.args.now tripping first xs i stays);
            out = omega (arith, w.out-is, inv.out, out_after);
            ejected = omega (arith, w.ejected-is, inv.ejected, count_by-range_more (is_ejected_at R tripping first) i false is_ejected);
            kept = omega (arith, w.kept-is, inv.kept, count_by-range_more (is_kept_at R tripping first) i false is_kept);
            few_out = omega (arith, w.out-is, inv.few_out);
            few_ejected = omega (arith, w.ejected-is, inv.few_ejected);
            few_kept = omega (arith, w.kept-is, inv.few_kept);
          }
    ]
