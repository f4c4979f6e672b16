-- The names of keys.
use Rattle.std.proofs.Common.{◌≡◌, ◌≢◌, ◌↔◌, ℕ, List, Bool, true, false, not, IsTrue, rules}
use Rattle.proxy_config.specs.File.{IsUnknown}
use Rattle.proxy_config.specs.Table.{Key, Listen, Hosts, Weights, Workers, ReplyMs, Tags, IntervalMs, BaseMs, MaxMs, MaxPercent, Consecutive, SuccessHosts, RequestVolume, Factor, PanicPercent, name_of}

-- the name of a key isn't unknown
pub known : (key : Key) (name : List ℕ) (b : Bool) → name ≡ name_of key → b ≡ true → IsTrue (not b) ↔ IsUnknown name
known key name true e t = (λ h. absurd (cc), λ u. absurd (u key e))
known key name false e t = absurd (cc)

-- a name of none is
pub unknown : (name : List ℕ) (b : Bool) → b ≡ false → (name ≢ name_of Listen) → (name ≢ name_of Hosts) → (name ≢ name_of Weights) → (name ≢ name_of Workers) → (name ≢ name_of ReplyMs)
    → (name ≢ name_of Tags) → (name ≢ name_of IntervalMs) → (name ≢ name_of BaseMs) → (name ≢ name_of MaxMs) → (name ≢ name_of MaxPercent)
    → (name ≢ name_of Consecutive) → (name ≢ name_of SuccessHosts) → (name ≢ name_of RequestVolume) → (name ≢ name_of Factor) → (name ≢ name_of PanicPercent)
    → IsTrue (not b) ↔ IsUnknown name
unknown name true f a1 a2 a3 a4 a5 a6 a7 a8 a9 a10 a11 a12 a13 a14 a15 = absurd (cc)
unknown name false f a1 a2 a3 a4 a5 a6 a7 a8 a9 a10 a11 a12 a13 a14 a15 = (
  λ _ key. elim key as (λ k. name ≢ name_of k) [
    | Listen ↦ a1
    | Hosts ↦ a2
    | Weights ↦ a3
    | Workers ↦ a4
    | ReplyMs ↦ a5
    | Tags ↦ a6
    | IntervalMs ↦ a7
    | BaseMs ↦ a8
    | MaxMs ↦ a9
    | MaxPercent ↦ a10
    | Consecutive ↦ a11
    | SuccessHosts ↦ a12
    | RequestVolume ↦ a13
    | Factor ↦ a14
    | PanicPercent ↦ a15
  ],
  λ _. search rules,
)
