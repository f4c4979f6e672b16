use Rattle.std.proofs.Common.{◌≡◌, sym, ap, ◌∙◌, subst}
use Rattle.resp_core.specs.Tree.{Tree}
use Rattle.resp_core.specs.Value.{tree_of}
use Rattle.stub_server.specs.declared.script.Act.{Act}
use Rattle.stub_server.specs.declared.script.Act.TheVariants as acts
use Rattle.stub_server.specs.declared.stub.Response.{Response}
use Rattle.stub_server.specs.Script.{IsResponse, StubState, act_of}
use Rattle.stub_server.proofs.stub.Stub.serve.Goals.{in-Reply+in_ok-answer-in-Reply, in-Hold, in-Drop, in-Garble}
use Rattle.stub_server.proofs.stub.Stub.serve.Goals as goal

-- a response by an act that is known
by_act : (s : StubState) (request : Tree) (act : Act) (given response : Response) → act ≡ act_of s.script → response ≡ given
    → IsResponse act s.map request given → IsResponse (act_of s.script) s.map request response
by_act s request act given response is_act is r =
    subst (λ a. IsResponse a s.map request response) is_act (subst (λ z. IsResponse act s.map request z) (sym is) r)

pub returns-clause-response : goal.returns-clause-response
returns-clause-response c =
    let s = c.args.self.now in
    let t = tree_of c.args.request.now in
    let next : c.act.result ≡ act_of s.script = c.act.ensures ∙ ap (λ (z : StubState). act_of z.script) c.self.view_is in
    elim c.match-act.branch [
      | in-Reply+in_ok-answer-in-Reply w ↦ by_act s t acts.Reply _ c.match-act.response (sym w.in-Reply.is ∙ next) w.response-is w.in_ok-answer-in-Reply.ensures.answer
      | in-Hold w ↦ by_act s t acts.Hold _ c.match-act.response (sym w.in-Hold.is ∙ next) w.response-is tt
      | in-Drop w ↦ by_act s t acts.Drop _ c.match-act.response (sym w.in-Drop.is ∙ next) w.response-is tt
      | in-Garble w ↦ by_act s t acts.Garble _ c.match-act.response (sym w.in-Garble.is ∙ next) w.response-is tt
    ]
