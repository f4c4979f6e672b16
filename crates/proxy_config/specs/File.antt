-- What a settings file says, by its bytes.
use Rattle.std.specs.Prelude.{◌≡◌, ◌≢◌, ℕ, ◌⊎◌, List, [], ◌∷◌, ◌++◌, Any, codes, Some, IsUtf8, ⊤}
use Rattle.serde_json.specs.Data.{Data, object, Members, no_members, member}
use Rattle.serde_json.specs.Find.{get}
use Rattle.serde_json.specs.Read.{read}
use Rattle.proxy_config.specs.declared.error.ConfigError.{ConfigError}
use Rattle.proxy_config.specs.declared.error.ConfigError.TheVariants.{Memory, Fault}
use Rattle.proxy_config.specs.Values.{Values}
use Rattle.proxy_config.specs.Table.{Key, keys, name_of, Fits}

-- the bytes are the text of this JSON object
pub record IsObject (bytes : List ℕ) (members : Members) : Type 0 where
  pub utf8 : IsUtf8 bytes
  pub read_as : read bytes ≡ Some (object members)

-- the names of the keys that an object gives
abbrev pub keys_given : Members → List (List ℕ)
keys_given no_members = []
keys_given (member key d ms) = key ∷ keys_given ms

-- the table has no key of this name
abbrev pub IsUnknown : List ℕ → Type 0
IsUnknown name = (key : Key) → name ≢ name_of key

-- the object gives a key that the table hasn't
abbrev pub HasUnknownKey : Members → Type 0
HasUnknownKey members = Any IsUnknown (keys_given members)

-- the values fit what the object gives at these keys
abbrev pub AllFit : List Key → Data → Values → Type 0
AllFit [] _ _ = ⊤
AllFit (key ∷ ks) file v = Fits key (get (name_of key) file) v × AllFit ks file v

-- the first key, in the order of the table, that no value fits: those before it have values that fit
pub record IsFirstFault (file : Data) (key : Key) : Type 0 where
  pub before : List Key
  pub after : List Key
  pub place : keys ≡ before ++ key ∷ after
  pub values : Values
  pub fit : AllFit before file values
  pub none : (v : Values) → AllFit before file v → ¬ Fits key (get (name_of key) file) v

-- the words are the name of the first key that no value fits
pub record IsFaultOf (file : Data) (words : List ℕ) : Type 0 where
  pub key : Key
  pub named : words ≡ name_of key
  pub first : IsFirstFault file key

-- the values of a settings file
pub record IsSettings (bytes : List ℕ) (v : Values) : Type 0 where
  pub members : Members
  pub is_object : IsObject bytes members
  pub known : ¬ HasUnknownKey members
  pub fit : AllFit keys (object members) v

-- what is told of bytes that are no settings: `json` where they are no JSON object, else `unknown key` where
-- one is given, else the first key that has a fault
abbrev pub IsTold : List ℕ → List ℕ → Type 0
IsTold bytes words =
    ((words ≡ codes "json") × ((members : Members) → ¬ IsObject bytes members))
    ⊎ ((words ≡ codes "unknown key") × ((members : Members) × IsObject bytes members × HasUnknownKey members))
    ⊎ ((members : Members) × IsObject bytes members × (¬ HasUnknownKey members) × IsFaultOf (object members) words)

-- memory was refused, or these are its words
abbrev pub MemoryOr : (List ℕ → Type 0) → ConfigError → Type 0
MemoryOr P Memory = ⊤
MemoryOr P (Fault words) = P words.now

-- why the settings of these bytes are refused: for want of memory, or by these words
abbrev pub IsRefusal : List ℕ → ConfigError → Type 0
IsRefusal bytes = MemoryOr (IsTold bytes)
