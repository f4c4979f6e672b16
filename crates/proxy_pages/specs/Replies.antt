-- What is replied: status, header field and body.
use Rattle.std.specs.Prelude.{ℕ, Bool, if◌then◌else◌, List, [], ◌∷◌, codes}
use Rattle.http_header.specs.FieldValue.{FieldValue}
use Rattle.http1.specs.Fields.{Header}
use Rattle.http_server.specs.declared.response.Response.{Response}
use Rattle.http_server.specs.Response.{IsResponse}
use Rattle.proxy_pages.specs.declared.index.TheConstants.{INDEX}
use Rattle.proxy_pages.specs.declared.reply.Order.TheVariants.{Drain, Quit}
use Rattle.proxy_pages.specs.declared.reply.Page.{Page}
use Rattle.proxy_pages.specs.declared.reply.Page.TheVariants.{Index, Metrics, Hosts, Ready, Live}
use Rattle.proxy_pages.specs.declared.reply.Reply.{Reply}
use Rattle.proxy_pages.specs.declared.reply.Reply.TheVariants as reply
use Rattle.proxy_pages.specs.declared.snapshot.About.{About}
use Rattle.proxy_pages.specs.declared.snapshot.Snapshot.{Snapshot}
use Rattle.proxy_pages.specs.Pages.{metrics_text, hosts_text}

-- its status: 503 for `/ready` where the proxy isn't
abbrev pub status_of : Bool → Reply → ℕ
status_of is_ready (reply.Page Ready) = if is_ready then 200 else 503
status_of is_ready (reply.Page page) = 200
status_of is_ready (reply.Taken order) = 200
status_of is_ready reply.Forbidden = 403
status_of is_ready reply.BadQuery = 400
status_of is_ready reply.OnlyRead = 405
status_of is_ready reply.OnlySent = 405
status_of is_ready reply.NotFound = 404

-- its field: what a path allows where the method is another, else the type of the body
abbrev pub field_of : Reply → Header
field_of reply.OnlyRead = (codes "allow", codes "GET, HEAD")
field_of reply.OnlySent = (codes "allow", codes "POST")
field_of (reply.Page Index) = (codes "content-type", codes "text/html; charset=utf-8")
field_of (reply.Page Metrics) = (codes "content-type", codes "text/plain; version=0.0.4; charset=utf-8")
field_of _ = (codes "content-type", codes "text/plain; charset=utf-8")

-- a field as it is sent
abbrev pub field_text : (List ℕ × FieldValue) → Header
field_text field = (field.0, field.1.bytes)

-- the text of a page
abbrev pub page_text : About → Snapshot → Page → List ℕ
page_text about s Index = INDEX.now
page_text about s Metrics = metrics_text about s
page_text about s Hosts = hosts_text about s
page_text about s Ready = if s.is_ready then codes "ready\n" else codes "not ready\n"
page_text about s Live = codes "live\n"

-- its body
abbrev pub body_of : About → Snapshot → Reply → List ℕ
body_of about s (reply.Page page) = page_text about s page
body_of about s (reply.Taken (Drain after_ms)) = codes "it drains\n"
body_of about s (reply.Taken Quit) = codes "it ends\n"
body_of about s reply.Forbidden = codes "no order from a browser's page\n"
body_of about s reply.BadQuery = codes "/drain takes ?after=MS, 0 to 86400000\n"
body_of about s _ = []

-- the response is this reply
abbrev pub IsReply : About → Snapshot → Reply → Response → Type 0
IsReply about s r response = IsResponse (status_of s.is_ready r) (field_of r ∷ []) (body_of about s r) response
