use Rattle.std.proofs.Common.{sym, append_assoc, append-nil}
use Rattle.ketama.proofs.KetamaPairLemmas.{host_pairs-none, host_pairs-more}
use Rattle.ketama.proofs.point.push_host.Goals as goal

pub loop-k-init : goal.loop-k-init
loop-k-init c = rw (host_pairs-none c.args.name.now c.args.host) (sym (append-nil c.args.pairs.now.items))

pub loop-k-preserved : goal.loop-k-preserved
loop-k-preserved c =
    rw (host_pairs-more c.args.name.now c.args.host c.loop-k.k, ← append_assoc, ← c.loop-k.invariant, ← c.digest_of.ensures) c.in_ok-push_digest.ensures
