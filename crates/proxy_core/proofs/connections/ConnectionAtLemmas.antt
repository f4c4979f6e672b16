-- A table of connections, by the connection of one number.
use Rattle.std.proofs.Common.{◌≡◌, ℕ, zero, suc, ◌<◌, List, [], ◌∷◌, Option, Some, get_or, slice_set, length, refl, ap, arith}
use Rattle.proxy_core.specs.Connections.{connection_at}
use Rattle.proxy_core.specs.declared.state.connection.Connection.{Connection}

-- one that is open is inside of the table
pub connection_at-inside : (ks : List (Option Connection)) (c : ℕ) (k : Connection) → connection_at c ks ≡ Some k → c < length ks
connection_at-inside [] c k e = absurd cc
connection_at-inside (x ∷ xs) zero k e = omega (arith)
connection_at-inside (x ∷ xs) (suc c) k e = omega (arith, connection_at-inside xs c k e)

-- and stands in its place
pub connection_at-place : (ks : List (Option Connection)) (c : ℕ) (d : Option Connection) → c < length ks → get_or ks c d ≡ connection_at c ks
connection_at-place [] c d l = absurd (omega (arith, l))
connection_at-place (x ∷ xs) zero d l = refl
connection_at-place (x ∷ xs) (suc c) d l = connection_at-place xs c d (omega (arith, l))

-- what is put back in its place changes nothing
pub slice_set-same : (ks : List (Option Connection)) (c : ℕ) (k d : Option Connection) → k ≡ get_or ks c d → slice_set ks c k ≡ ks
slice_set-same [] c k d e = refl
slice_set-same (x ∷ xs) zero k d e = ap (λ z. z ∷ xs) e
slice_set-same (x ∷ xs) (suc c) k d e = ap (λ zs. x ∷ zs) (slice_set-same xs c k d e)
