use Rattle.std.proofs.Common.{◌≡◌, refl, sym, ap, subst, ◌∙◌, inl, inr, rules}
use Rattle.http.specs.Request.{head_of}
use Rattle.http_uri.specs.Uri.{uri_path, uri_query}
use Rattle.proxy_pages.specs.Answers.{has_origin, order_after, reply_for}
use Rattle.proxy_pages.specs.Replies.{IsReply}
use Rattle.proxy_pages.specs.Routes.{reply_to}
use Rattle.proxy_pages.specs.declared.reply.Reply.{Reply}
use Rattle.proxy_pages.proofs.AnswerLemmas.{taken_by_post, kept_order}
use Rattle.proxy_pages.proofs.admin.AdminService.call.Goals as goal

pub returns-in-Taken-clause-ok : goal.returns-in-Taken-clause-ok
returns-in-Taken-clause-ok c =
    let q = c.args.request.now in
    let head = head_of q in
    let method = c.as_str.ensures.value ∙ c.method.ensures in
    let path = c.path.ensures.value ∙ ap uri_path c.uri-uri.ensures in
    let query = c.query.ensures.value ∙ ap uri_query c.uri-uri.ensures in
    let origin : c.is_some-has_origin.result ≡ has_origin q = let a = c.is_some-has_origin.ensures in let b = c.get.ensures.value in let d = c.headers.ensures in search rules in
    let reply : c.reply_to-reply.result ≡ reply_for q = c.reply_to-reply.ensures ∙ (λ i. reply_to (method i) (path i) (query i) (origin i)) in
    record {
      reply = subst (λ (r : Reply). IsReply c.args.self.now.about.now c.args.self.now.snapshot.now r c.write.new.response) reply c.in_ok-write.ensures;
      order = ap (order_after c.args.self.now.order) (sym c.in-Taken.is ∙ reply);
      only_posts = inr (taken_by_post head.method (uri_path head.uri) (uri_query head.uri) (has_origin q) c.in-Taken.order (sym reply ∙ c.in-Taken.is));
      about = refl;
      snapshot = refl;
    }

pub returns-in_default : goal.returns-in_default
returns-in_default c =
    let q = c.args.request.now in
    let head = head_of q in
    let method = c.as_str.ensures.value ∙ c.method.ensures in
    let path = c.path.ensures.value ∙ ap uri_path c.uri-uri.ensures in
    let query = c.query.ensures.value ∙ ap uri_query c.uri-uri.ensures in
    let origin : c.is_some-has_origin.result ≡ has_origin q = let a = c.is_some-has_origin.ensures in let b = c.get.ensures.value in let d = c.headers.ensures in search rules in
    let reply : c.reply_to-reply.result ≡ reply_for q = c.reply_to-reply.ensures ∙ (λ i. reply_to (method i) (path i) (query i) (origin i)) in
    record {
      ok = record {
        reply = subst (λ (r : Reply). IsReply c.args.self.now.about.now c.args.self.now.snapshot.now r c.write.new.response) reply c.in_ok-write.ensures;
        order = kept_order c.args.self.now.order c.reply_to-reply.result c.in_default.not-Taken ∙ ap (order_after c.args.self.now.order) reply;
        only_posts = inl refl;
        about = refl;
        snapshot = refl;
      };
      err = tt;
    }

pub returns-in_err-write-clause-err : goal.returns-in_err-write-clause-err
returns-in_err-write-clause-err c = search rules
