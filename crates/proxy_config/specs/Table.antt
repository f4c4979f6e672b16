-- The table of the settings file: its keys in the order in which they are looked at, and for each the
-- values that it may have, and the one that it has where the file doesn't give the key.
use Rattle.std.specs.Prelude.{◌≡◌, ◌≢◌, ℕ, ◌≤◌, max, Bool, false, List, [], ◌∷◌, length, replicate, All, AllPairs, codes, Option, Some, None}
use Rattle.std.specs.Net.Grammar.{IsSocketText}
use Rattle.std.specs.declared.net.socket_addr.SocketAddr.{SocketAddr}
use Rattle.serde_json.specs.Data.{Data, boolean, number, unsigned, string, array, Items, no_items, item}
use Rattle.ketama.specs.HostName.{IsHostName}
use Rattle.ketama.specs.Ketama.{AreWeights}
use Rattle.proxy_config.specs.declared.config.Host.{Host}
use Rattle.proxy_config.specs.Values.{Values}

-- a key of the table
pub data Key : Type 0 where
  Listen : Key
  Hosts : Key
  Weights : Key
  Workers : Key
  ReplyMs : Key
  Tags : Key
  IntervalMs : Key
  BaseMs : Key
  MaxMs : Key
  MaxPercent : Key
  Consecutive : Key
  SuccessHosts : Key
  RequestVolume : Key
  Factor : Key
  PanicPercent : Key

-- all keys, in the order in which they are looked at
abbrev pub keys : List Key
keys =
    Listen ∷ Hosts ∷ Weights ∷ Workers ∷ ReplyMs ∷ Tags ∷ IntervalMs ∷ BaseMs ∷ MaxMs ∷ MaxPercent ∷ Consecutive ∷ SuccessHosts
    ∷ RequestVolume ∷ Factor ∷ PanicPercent ∷ []

-- how the key is written in a file
abbrev pub name_of : Key → List ℕ
name_of Listen = codes "listen"
name_of Hosts = codes "hosts"
name_of Weights = codes "weights"
name_of Workers = codes "workers"
name_of ReplyMs = codes "reply_ms"
name_of Tags = codes "tags"
name_of IntervalMs = codes "interval_ms"
name_of BaseMs = codes "base_ms"
name_of MaxMs = codes "max_ms"
name_of MaxPercent = codes "max_percent"
name_of Consecutive = codes "consecutive"
name_of SuccessHosts = codes "success_hosts"
name_of RequestVolume = codes "request_volume"
name_of Factor = codes "factor"
name_of PanicPercent = codes "panic_percent"

-- ---- kinds of values. `None` is a key that the file doesn't give

-- a whole number from `least` to `most`, or the default where none is given
abbrev pub IsNumberOr : ℕ → ℕ → ℕ → Option Data → ℕ → Type 0
IsNumberOr default least most None n = n ≡ default
IsNumberOr default least most (Some d) n = (d ≡ number (unsigned n)) × (least ≤ n) × (n ≤ most)

-- true or false, or the default where neither is given
abbrev pub IsFlagOr : Bool → Option Data → Bool → Type 0
IsFlagOr default None b = b ≡ default
IsFlagOr default (Some d) b = d ≡ boolean b

-- the socket address that a text writes: the text given, or the default where none is given
abbrev pub IsAddressOr : List ℕ → Option Data → SocketAddr → Type 0
IsAddressOr default None a = IsSocketText default a
IsAddressOr default (Some d) a = (text : List ℕ) × (d ≡ string text) × IsSocketText text a

-- the items of an array of some things, each as it is written
abbrev pub items_of : {X : Type 0} → (X → Data) → List X → Items
items_of written [] = no_items
items_of written (x ∷ xs) = item (written x) (items_of written xs)

-- a host is written as its name
abbrev pub host_data : Host → Data
host_data h = string h.name

-- a host: its name on the ring is the text of its address
pub record IsHost (h : Host) : Type 0 where
  pub name : IsHostName h.name
  pub address : IsSocketText h.name h.address

-- an array of the names of 1 to 64 hosts, of which no two are the same
pub record AreHosts (given : Option Data) (hosts : List Host) : Type 0 where
  pub written : given ≡ Some (array (items_of host_data hosts))
  pub some : 1 ≤ length hosts
  pub few : length hosts ≤ 64
  pub each : All IsHost hosts
  pub distinct : AllPairs (λ a b. a.name ≢ b.name) hosts

-- a weight is written as a whole number, from 1 to 100
abbrev pub weight_data : ℕ → Data
weight_data w = number (unsigned w)

-- a weight that the table allows
abbrev pub IsWeight : ℕ → Type 0
IsWeight w = (1 ≤ w) × (w ≤ 100)

-- a weight for each of n hosts: the array given, of weights from 1 to 100, or 1 for each host where
-- none is given
abbrev pub AreWeightsOr : ℕ → Option Data → List ℕ → Type 0
AreWeightsOr n None weights = weights ≡ replicate n 1
AreWeightsOr n (Some d) weights = (d ≡ array (items_of weight_data weights)) × AreWeights n weights

-- ---- the table

-- what the file gives at the key allows its value among these
abbrev pub Fits : Key → Option Data → Values → Type 0
Fits Listen given v = IsAddressOr (codes "127.0.0.1:6379") given v.listen
Fits Hosts given v = AreHosts given v.hosts
Fits Weights given v = AreWeightsOr (length v.hosts) given v.weights
Fits Workers given v = IsNumberOr 4 1 64 given v.workers
Fits ReplyMs given v = IsNumberOr 5000 1 600000 given v.reply_ms
Fits Tags given v = IsFlagOr false given v.tags
Fits IntervalMs given v = IsNumberOr 10000 1 3600000 given v.interval_ms
Fits BaseMs given v = IsNumberOr 30000 1 3600000 given v.base_ms
Fits MaxMs given v = IsNumberOr (max v.base_ms 300000) v.base_ms 86400000 given v.max_ms
Fits MaxPercent given v = IsNumberOr 10 0 100 given v.max_percent
Fits Consecutive given v = IsNumberOr 5 0 1000000 given v.consecutive
Fits SuccessHosts given v = IsNumberOr 5 1 65 given v.success_hosts
Fits RequestVolume given v = IsNumberOr 100 1 1000000 given v.request_volume
Fits Factor given v = IsNumberOr 1900 0 100000 given v.factor
Fits PanicPercent given v = IsNumberOr 50 0 100 given v.panic_percent
