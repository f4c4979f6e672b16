-- The first fault, where the keys before it have values that fit.
use Rattle.std.proofs.Common.{◌≡◌, ℕ, List, ◌∷◌, ◌++◌, length, Option, Some, None}
use Rattle.serde_json.specs.Data.{Data}
use Rattle.serde_json.specs.Find.{get}
use Rattle.proxy_config.specs.declared.config.Host.{Host}
use Rattle.proxy_config.specs.Values.{Values}
use Rattle.proxy_config.specs.Table.{IsNumberOr, AreHosts, IsHost, Key, keys, name_of, Fits, items_of, host_data}
use Rattle.proxy_config.specs.File.{AllFit, IsFirstFault, IsFaultOf, MemoryOr}
use Rattle.proxy_config.specs.Refusals.{IsFault}
use Rattle.proxy_config.specs.declared.error.ConfigError.{ConfigError}
use Rattle.proxy_config.specs.declared.error.ConfigError.TheVariants.{Memory, Fault}
use Rattle.proxy_config.proofs.EntryLemmas.{items_length}

pub first_fault : (file : Data) (before : List Key) (key : Key) (after : List Key) (values : Values) → keys ≡ before ++ key ∷ after → AllFit before file values → ((v : Values) → AllFit before file v → ¬ Fits key (get (name_of key) file) v) → IsFirstFault file key
first_fault file before key after values place fit none =
    record { before = before; after = after; place = place; values = values; fit = fit; none = none }

-- what an error tells of it
pub told : (file : Data) (key : Key) (e : ConfigError) → IsFault e (name_of key) → IsFirstFault file key → MemoryOr (IsFaultOf file) e
told file key Memory f first = tt
told file key (Fault words) f first = record { key = key; named = f; first = first }

pub told_or_memory : (file : Data) (key : Key) (e : ConfigError) → (¬ (e ≡ Memory) → IsFault e (name_of key)) → (¬ (e ≡ Memory) → IsFirstFault file key) → MemoryOr (IsFaultOf file) e
told_or_memory file key Memory f first = tt
told_or_memory file key (Fault words) f first = let other : ¬ (Fault words ≡ Memory) = λ e. absurd (cc) in record { key = key; named = f other; first = first other }

-- at most one number fits
pub one_number : (default least most : ℕ) (given : Option Data) (m n : ℕ) → IsNumberOr default least most given m → IsNumberOr default least most given n → m ≡ n
one_number default least most None m n a b = cc
one_number default least most (Some d) m n a b = let e = a.0 in let f = b.0 in cc

-- at most one number of hosts fits
pub one_length : (given : Option Data) (hs gs : List Host) → AreHosts given hs → AreHosts given gs → length hs ≡ length gs
one_length given hs gs a b =
    let e = a.written in
    let f = b.written in
    let same : items_of host_data hs ≡ items_of host_data gs = cc in
    items_length host_data IsHost hs gs same
