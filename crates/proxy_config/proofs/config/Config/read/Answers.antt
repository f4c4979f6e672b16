use Rattle.std.proofs.Common.{◌≡◌, Some, ◌∙◌, ap}
use Rattle.std.proofs.lemmas.Result.{IfOk-weaker, IfErr-weaker}
use Rattle.serde_json.specs.Data.{object}
use Rattle.serde_json.specs.View.{view, members_view}
use Rattle.proxy_config.specs.File.{IsObject, HasUnknownKey, AllFit}
use Rattle.proxy_config.specs.Table.{keys}
use Rattle.proxy_config.specs.Values.{values_of}
use Rattle.proxy_config.proofs.ObjectLemmas.{is_object, unknown_given, unknown_name, told_unknown, read_settings, refuses}
use Rattle.proxy_config.proofs.RingPartLemmas.{ring_parts}
use Rattle.proxy_config.proofs.config.Config.read.Goals as goal

pub returns-then-has_unknown_key-clause-refused : goal.returns-then-has_unknown_key-clause-refused
returns-then-has_unknown_key-clause-refused c =
    let es = c.in-Some.members.now.entries in
    let o : view c.in-Ok.file ≡ object (members_view es) = is_object _ (members_view es) c.in-Some.ensures in
    let is : IsObject c.args.bytes.now (members_view es) = record { utf8 = c.in-Ok.ensures.ok.0; read_as = c.in-Ok.ensures.ok.1 ∙ ap Some o } in
    told_unknown c.args.bytes.now (members_view es) is (unknown_given es (c.has_unknown_key.ensures.0 c.if-has_unknown_key.true))

pub returns-clause-ok : goal.returns-clause-ok
returns-clause-ok c =
    let es = c.in-Some.members.now.entries in
    let o : view c.in-Ok.file ≡ object (members_view es) = is_object _ (members_view es) c.in-Some.ensures in
    let is : IsObject c.args.bytes.now (members_view es) = record { utf8 = c.in-Ok.ensures.ok.0; read_as = c.in-Ok.ensures.ok.1 ∙ ap Some o } in
    let known : ¬ HasUnknownKey (members_view es) = λ u. let t = c.has_unknown_key.ensures.1 (unknown_name es u) in let f = c.if-has_unknown_key.false in cc in
    IfOk-weaker _ _ _ (λ config fit. read_settings c.args.bytes.now (members_view es) (view c.in-Ok.file) (values_of config) is known o fit) c.from_object.ensures.ok

pub returns-clause-refused : goal.returns-clause-refused
returns-clause-refused c =
    let es = c.in-Some.members.now.entries in
    let o : view c.in-Ok.file ≡ object (members_view es) = is_object _ (members_view es) c.in-Some.ensures in
    let is : IsObject c.args.bytes.now (members_view es) = record { utf8 = c.in-Ok.ensures.ok.0; read_as = c.in-Ok.ensures.ok.1 ∙ ap Some o } in
    let known : ¬ HasUnknownKey (members_view es) = λ u. let t = c.has_unknown_key.ensures.1 (unknown_name es u) in let f = c.if-has_unknown_key.false in cc in
    IfErr-weaker _ _ _ (λ e refused. refuses c.args.bytes.now (members_view es) (view c.in-Ok.file) e is known o refused) c.from_object.ensures.refused

pub returns-clause-parts : goal.returns-clause-parts
returns-clause-parts c =
    IfOk-weaker _ _ _ (λ config fit.
    let all_fit : AllFit keys (view c.in-Ok.file) (values_of config) = fit in
    let (_, (hosts_fit, (weights_fit, _))) = all_fit in
    ring_parts _ _ _ _ hosts_fit weights_fit) c.from_object.ensures.ok
