use Rattle.std.proofs.Common.{◌≡◌, ◌<◌, ◌∙◌, ap, sym, get_or, arith}
use Rattle.std.proofs.lemmas.List.{get_or-take, length-take-le}
use Rattle.proxy_config.specs.declared.config.Host.{Host}
use Rattle.proxy_config.proofs.ElementLemmas.{get_or-within}
use Rattle.proxy_config.proofs.hosts.have_names_of_their_own.Goals as goal

pub returns-then-has_name : goal.returns-then-has_name
returns-then-has_name c = (
  λ f. absurd (cc),
  λ pairs.
      let hosts = c.args.hosts.now in
      let j = c.loop-j.j in
      let (x, h, x_within, x_is, same_name) = c.has_name.ensures.0 c.if-has_name.true in
      let within : x < j = omega (arith, length-take-le j hosts (omega arith), x_within) in
      let e : get_or hosts x h ≡ h = sym (get_or-take j hosts x h within) ∙ x_is in
      let f : get_or hosts j h ≡ c.index-hosts-j.result = get_or-within hosts j h c.index-hosts-j.result (omega arith) ∙ sym c.index-hosts-j.is in
      absurd (pairs x j h within (omega arith) (ap (λ (y : Host). y.name) e ∙ same_name ∙ ap (λ (y : Host). y.name) (sym f))),
)
