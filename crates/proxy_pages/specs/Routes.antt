-- What is replied to a request, by its method and its path.
use Rattle.std.specs.Prelude.{ℕ, Bool, ◌||◌, if◌then◌else◌, Option, Some, None, List, codes}
use Rattle.std.specs.Str.{bytes_eq}
use Rattle.proxy_pages.specs.Delays.{delay_in}
use Rattle.proxy_pages.specs.declared.delay.Delay.{Delay}
use Rattle.proxy_pages.specs.declared.reply.Order.TheVariants.{Drain, Quit}
use Rattle.proxy_pages.specs.declared.reply.Page.{Page}
use Rattle.proxy_pages.specs.declared.reply.Page.TheVariants.{Index, Metrics, Hosts, Ready, Live}
use Rattle.proxy_pages.specs.declared.reply.Reply.{Reply}
use Rattle.proxy_pages.specs.declared.reply.Reply.TheVariants as reply

-- whether two texts are the same
abbrev pub is_text : List ℕ → List ℕ → Bool
is_text a b = bytes_eq a b

-- the page of a path, if it has one
abbrev pub page_at : List ℕ → Option Page
page_at path =
    if is_text path (codes "/") then Some Index else (
    if is_text path (codes "/metrics") then Some Metrics else (
    if is_text path (codes "/hosts") then Some Hosts else (
    if is_text path (codes "/ready") then Some Ready else (
    if is_text path (codes "/live") then Some Live else None))))

-- the order to drain with this delay, or a query that isn't one
abbrev pub drain_by : Delay → Reply
drain_by Delay.Unsaid = reply.Taken (Drain None)
drain_by (Delay.Ms ms) = reply.Taken (Drain (Some ms))
drain_by Delay.Bad = reply.BadQuery

-- an order is taken by POST alone, and not from a page of a browser
abbrev pub reply_to_order : List ℕ → Bool → Reply → Reply
reply_to_order method has_origin taken =
    if is_text method (codes "POST") then (if has_origin then reply.Forbidden else taken) else reply.OnlySent

-- what is replied where an order may be, if the path is one's
abbrev pub order_reply : List ℕ → Option (List ℕ) → Option Reply
order_reply path query =
    if is_text path (codes "/drain") then Some (drain_by (delay_in query)) else (
    if is_text path (codes "/quit") then Some (reply.Taken Quit) else None)

-- a page is read by GET and HEAD alone
abbrev pub reply_to_page : List ℕ → Option Page → Reply
reply_to_page method None = reply.NotFound
reply_to_page method (Some page) =
    if is_text method (codes "GET") || is_text method (codes "HEAD") then reply.Page page else reply.OnlyRead

-- the reply where the path may have an order, or else a page
abbrev pub reply_by : List ℕ → Bool → Option Reply → Option Page → Reply
reply_by method has_origin None page = reply_to_page method page
reply_by method has_origin (Some taken) page = reply_to_order method has_origin taken

-- what is replied
abbrev pub reply_to : List ℕ → List ℕ → Option (List ℕ) → Bool → Reply
reply_to method path query has_origin = reply_by method has_origin (order_reply path query) (page_at path)
