use Rattle.std.proofs.Common.{arith, ap, refl, ◌∙◌, sym}
use Rattle.std.proofs.lemmas.Bool.{leb-true, le-leb}
use Rattle.proxy_engines.specs.Host.{HostOutboxState}
use Rattle.proxy_engines.proofs.FaultLemmas.{late_is}
use Rattle.proxy_engines.proofs.HostMoves.{first_is}
use Rattle.proxy_engines.proofs.host_outbox.HostOutbox.is_late.Goals as goal

pub returns-in-Some : goal.returns-in-Some
returns-in-Some c =
    let found = rw c.in-Some.is at c.front.ensures.lookup in
    let some = rw c.in-Some.is at c.front.ensures.variant in
    let first = first_is c.self.inside.moments.items c.in-Some.oldest.now (omega (arith, some.0 refl)) found in
    let within = ap (λ (z : HostOutboxState). z.reply_ms) c.self.view_is in
    let moments = ap (λ (z : HostOutboxState). z.moments) (sym c.self.view_is) ∙ first.1 in (
      (λ e. (c.in-Some.oldest.now, first.0, moments, omega (arith, leb-true c.self.inside.reply_ms c.saturating_sub.result e, c.saturating_sub.ensures, within))),
      (λ late. le-leb c.self.inside.reply_ms c.saturating_sub.result (omega (arith, late_is c.args.self.now c.args.moment c.in-Some.oldest.now first.0 moments late, c.saturating_sub.ensures, within))),
    )
