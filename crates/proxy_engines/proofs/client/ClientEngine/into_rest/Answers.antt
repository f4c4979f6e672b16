use Rattle.proxy_engines.proofs.SocketLemmas.{is_left}
use Rattle.proxy_engines.proofs.client.ClientEngine.into_rest.Goals as goal

pub returns-clause-left : goal.returns-clause-left
returns-clause-left g c =
    let may = c.may_go_on.ensures.0 c.if-not-may_go_on.false in
    rw (← c.self.view_is) (λ H taken b k. is_left _ H taken b k (rw (← c.self.view_is) at may) _ c.into_rest-reader.ensures.most c.into_rest-reader.ensures.next c.into_rest-reader.ensures.behind c.into_rest-reader.ensures.cut)
