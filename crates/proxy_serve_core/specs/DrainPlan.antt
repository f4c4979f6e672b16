-- When a drain begins.
use Rattle.std.specs.Prelude.{◌≡◌, ◌≤◌, ◌<◌, ◌+◌, ◌-◌, ◌^◌, ◌↔◌, ◌⊎◌, ℕ, List, [], ◌∷◌, Some, None}
use Rattle.proxy_serve_core.specs.declared.drain_plan.DrainOrder.{DrainOrder}
use Rattle.proxy_serve_core.specs.declared.drain_plan.DrainPlan.{DrainPlan}

-- one of these orders is as old as it said
abbrev pub IsDueBy : ℕ → List DrainOrder → Type 0
IsDueBy now [] = ⊥
IsDueBy now (order ∷ orders) = (order.now + order.after_ms ≤ now) ⊎ IsDueBy now orders

-- the plan's moment has come
abbrev pub HasCome : ℕ → DrainPlan → Type 0
HasCome now plan = (at : ℕ) × (plan.at ≡ Some at) × (at ≤ now)

-- The plan is that of these orders: its moment has come exactly where one of them is as old as it said, at each moment before the
-- greatest.
pub record Plans (orders : List DrainOrder) (plan : DrainPlan) : Type 0 where
  pub due : (now : ℕ) → now < 2 ^ 64 - 1 → HasCome now plan ↔ IsDueBy now orders
  pub none : (plan.at ≡ None) ↔ (orders ≡ [])
