-- The operator's visitors.
use Rattle.std.specs.Prelude.{◌≡◌, ◌≤◌, ⊤, ℕ, Option, Some, None}
use Rattle.http_server.specs.Connection.{history}
use Rattle.http_server.specs.Exchange.{Calls}
use Rattle.limits.specs.declared.visitors.TheConstants.{VISIT_MS}
use Rattle.proxy_admin.specs.declared.visitor.Moved.{Moved}
use Rattle.proxy_admin.specs.declared.visitor.Moved.TheVariants.{Nothing, Something, Gone}
use Rattle.proxy_admin.specs.declared.visitor.OwedOrder.{OwedOrder}
use Rattle.proxy_admin.specs.declared.visitor.Visitor.{Visitor}
use Rattle.proxy_pages.specs.declared.admin.Admin.{Admin}
use Rattle.proxy_pages.specs.declared.reply.Order.{Order}
use Rattle.proxy_pages.specs.Answers.{IsAnswered}
use Rattle.slab.specs.Slab.{Slab, get}

-- no visitor has been idle longer than this one
abbrev pub IsOldest : Slab Visitor → ℕ → Type 0
IsOldest visitors key = (visitor : Visitor) × (get visitors key ≡ Some visitor)
    × ((other : ℕ) (another : Visitor) → get visitors other ≡ Some another → visitor.moved ≤ another.moved)

-- a visit is over, after bytes moved or didn't, so long after they last did
abbrev pub IsOver : Moved → ℕ → Type 0
IsOver Something idle = ⊥
IsOver Nothing idle = VISIT_MS ≤ idle
IsOver Gone idle = ⊤

-- when bytes last moved
abbrev pub moved_at : Moved → ℕ → ℕ → ℕ
moved_at Something before moment = moment
moved_at Nothing before moment = before
moved_at Gone before moment = before

-- an order that was given is owed
abbrev pub owed : Option Order → Option OwedOrder
owed None = None
owed (Some order) = Some (record { order = order })

-- The requests that were answered between two moments of a visit are answered one after the other by `IsAnswered`, from the first
-- state of the answers to the last.
abbrev pub AreAnswered : Admin → Admin → Visitor → Visitor → Type 0
AreAnswered first last old new =
    Calls IsAnswered first last (history old.connection).calls (history new.connection).calls
