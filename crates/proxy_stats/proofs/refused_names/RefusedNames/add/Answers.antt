use Rattle.std.proofs.Common.{◌<◌, length, arith}
use Rattle.proxy_stats.proofs.AddLemmas.{absent_past, joined_at, key_at}
use Rattle.proxy_stats.proofs.refused_names.RefusedNames.add.Goals as goal

pub returns-then-same-lt32 : goal.returns-then-same-lt32
returns-then-same-lt32 c =
    let within : c.place_of-same.result < length c.args.self.now.places = omega arith in
    joined_at c.args.self.now c.place_of-same.result c.args.place.now c.joined.result within (key_at c.args.place.now.key c.args.self.now.places c.place_of-same.result c.place_of-same.ensures within) c.joined.ensures

pub add_other-requires : goal.add_other-requires
add_other-requires c = absent_past c.args.place.now.key c.args.self.now.places c.place_of-same.result c.place_of-same.ensures (omega arith)
