-- What a reply says of the request.
use Rattle.std.proofs.Common.{◌≡◌, ℕ, Bool, true, false, List, Option, Some, None, refl, ◌||◌, if◌then◌else◌}
use Rattle.std.specs.Prelude.{codes}
use Rattle.std.specs.Str.{bytes_eq}
use Rattle.std.proofs.lemmas.Slice.Eq.{bytes_eq-Decides}
use Rattle.proxy_pages.specs.Answers.{order_after}
use Rattle.proxy_pages.specs.Routes.{order_reply, page_at, reply_by, reply_to, reply_to_page}
use Rattle.proxy_pages.specs.declared.reply.Order.{Order}
use Rattle.proxy_pages.specs.declared.reply.Page.{Page}
use Rattle.proxy_pages.specs.declared.reply.Reply.{Reply}
use Rattle.proxy_pages.specs.declared.reply.Reply.TheVariants as reply

-- a page takes no order
read : (b : Bool) (page : Page) (order : Order) → (if b then reply.Page page else reply.OnlyRead) ≡ reply.Taken order → ⊥
read true page order e = let h = e in cc
read false page order e = let h = e in cc

no_order : (method : List ℕ) (page : Option Page) (order : Order) → reply_to_page method page ≡ reply.Taken order → ⊥
no_order method None order e = let h = e in cc
no_order method (Some page) order e = read (bytes_eq method (codes "GET") || bytes_eq method (codes "HEAD")) page order e

-- an order that is taken was sent by POST, and from no page
sent : (is_post origin : Bool) (asked : Reply) (order : Order) → (if is_post then (if origin then reply.Forbidden else asked) else reply.OnlySent) ≡ reply.Taken order
    → (is_post ≡ true) × (origin ≡ false)
sent true true asked order e = absurd (let h = e in cc)
sent true false asked order e = (refl, refl)
sent false origin asked order e = absurd (let h = e in cc)

posted : (method : List ℕ) (origin : Bool) (asked : Option Reply) (page : Option Page) (order : Order) → reply_by method origin asked page ≡ reply.Taken order
    → (method ≡ codes "POST") × (origin ≡ false)
posted method origin None page order e = absurd (no_order method page order e)
posted method origin (Some asked) page order e =
    let both = sent (bytes_eq method (codes "POST")) origin asked order e in
    ((bytes_eq-Decides method (codes "POST")).0 both.0, both.1)

pub taken_by_post : (method path : List ℕ) (query : Option (List ℕ)) (origin : Bool) (order : Order)
    → reply_to method path query origin ≡ reply.Taken order → (method ≡ codes "POST") × (origin ≡ false)
taken_by_post method path query origin order e = posted method origin (order_reply path query) (page_at path) order e

-- no other reply changes the order that is kept
pub kept_order : (before : Option Order) (r : Reply) → ((order : Order) → r ≡ reply.Taken order → ⊥) → before ≡ order_after before r
kept_order before (reply.Page page) other = refl
kept_order before (reply.Taken order) other = absurd (other order refl)
kept_order before reply.Forbidden other = refl
kept_order before reply.BadQuery other = refl
kept_order before reply.OnlyRead other = refl
kept_order before reply.OnlySent other = refl
kept_order before reply.NotFound other = refl
