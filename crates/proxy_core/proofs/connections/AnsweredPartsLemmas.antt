-- Parts that are given a value one list after the other.
use Rattle.std.proofs.Common.{◌≡◌, List, [], ◌∷◌, ◌++◌, Option, refl}
use Rattle.resp_core.specs.Tree.{Tree}
use Rattle.upstream_pipe.specs.declared.part.Owner.{Owner}
use Rattle.proxy_core.specs.declared.state.connection.Connection.{Connection}
use Rattle.proxy_core.specs.Connections.{AreAwaited, answered_part, answered_parts}

pub first_awaited : (os qs : List Owner) (v : Tree) (ks : List (Option Connection)) → AreAwaited (os ++ qs) v ks → AreAwaited os v ks
first_awaited [] qs v ks a = tt
first_awaited (o ∷ os) qs v ks a = (a.0, first_awaited os qs v (answered_part o v ks) a.1)

pub later_awaited : (os qs : List Owner) (v : Tree) (ks : List (Option Connection)) → AreAwaited (os ++ qs) v ks → AreAwaited qs v (answered_parts os v ks)
later_awaited [] qs v ks a = a
later_awaited (o ∷ os) qs v ks a = later_awaited os qs v (answered_part o v ks) a.1

pub answered_parts-append : (os qs : List Owner) (v : Tree) (ks : List (Option Connection)) → answered_parts (os ++ qs) v ks ≡ answered_parts qs v (answered_parts os v ks)
answered_parts-append [] qs v ks = refl
answered_parts-append (o ∷ os) qs v ks = answered_parts-append os qs v (answered_part o v ks)
