-- What an operator's request is answered.
use Rattle.std.specs.Prelude.{◌≡◌, ◌⊎◌, ℕ, Bool, false, is_some, Option, Some, List, codes}
use Rattle.http.specs.declared.request.Request.{Request}
use Rattle.http.specs.Request.{head_of}
use Rattle.http_header.specs.HeaderMap.{get}
use Rattle.http_uri.specs.Uri.{uri_path, uri_query}
use Rattle.http_server.specs.declared.response.Response.{Response}
use Rattle.proxy_pages.specs.declared.admin.Admin.{Admin}
use Rattle.proxy_pages.specs.declared.reply.Order.{Order}
use Rattle.proxy_pages.specs.declared.reply.Reply.{Reply}
use Rattle.proxy_pages.specs.declared.reply.Reply.TheVariants as reply
use Rattle.proxy_pages.specs.Replies.{IsReply}
use Rattle.proxy_pages.specs.Routes.{reply_to}

-- whether a request tells which page of a browser sent it
abbrev pub has_origin : Request (List ℕ) → Bool
has_origin request = is_some (get (head_of request).headers (codes "origin"))

-- what is replied to a request
abbrev pub reply_for : Request (List ℕ) → Reply
reply_for request =
    let head = head_of request in
    reply_to head.method (uri_path head.uri) (uri_query head.uri) (has_origin request)

-- the order that is kept: the one that was taken, else the one before
abbrev pub order_after : Option Order → Reply → Option Order
order_after before (reply.Taken order) = Some order
order_after before _ = before

-- The order that is kept is the one before, or the request was a POST that no page of a browser sent.
abbrev pub OnlyPostsOrder : Admin → Request (List ℕ) → Admin → Type 0
OnlyPostsOrder old request new =
    (new.order ≡ old.order) ⊎ ((head_of request).method ≡ codes "POST") × (has_origin request ≡ false)

-- The response is the reply, and what it tells is from the snapshot; an order that was taken is kept.
pub record IsAnswered (old : Admin) (request : Request (List ℕ)) (response : Response) (new : Admin) : Type 0 where
  pub reply : IsReply old.about.now old.snapshot.now (reply_for request) response
  pub order : new.order ≡ order_after old.order (reply_for request)
  pub only_posts : OnlyPostsOrder old request new
  pub about : new.about ≡ old.about
  pub snapshot : new.snapshot ≡ old.snapshot
