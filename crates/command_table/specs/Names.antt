-- The names of the commands that one host answers whole, by family. Their key is the word after the name.
use Rattle.std.specs.Prelude.{ℕ, List, [], ◌∷◌, ◌++◌, codes}

-- commands of any key
abbrev pub key_names : List (List ℕ)
key_names =
    codes "dump" ∷ codes "expire" ∷ codes "expireat" ∷ codes "persist" ∷ codes "pexpire" ∷ codes "pexpireat" ∷
    codes "pttl" ∷ codes "restore" ∷ codes "ttl" ∷ codes "type" ∷ []

-- commands of strings
abbrev pub string_names : List (List ℕ)
string_names =
    codes "append" ∷ codes "bitcount" ∷ codes "bitfield" ∷ codes "bitpos" ∷ codes "decr" ∷ codes "decrby" ∷
    codes "get" ∷ codes "getbit" ∷ codes "getrange" ∷ codes "getset" ∷ codes "incr" ∷ codes "incrby" ∷
    codes "incrbyfloat" ∷ codes "psetex" ∷ codes "set" ∷ codes "setbit" ∷ codes "setex" ∷ codes "setnx" ∷
    codes "setrange" ∷ codes "strlen" ∷ []

-- commands of hashes
abbrev pub hash_names : List (List ℕ)
hash_names =
    codes "hdel" ∷ codes "hexists" ∷ codes "hget" ∷ codes "hgetall" ∷ codes "hincrby" ∷ codes "hincrbyfloat" ∷
    codes "hkeys" ∷ codes "hlen" ∷ codes "hmget" ∷ codes "hmset" ∷ codes "hscan" ∷ codes "hset" ∷ codes "hsetnx" ∷
    codes "hstrlen" ∷ codes "hvals" ∷ []

-- commands of lists
abbrev pub list_names : List (List ℕ)
list_names =
    codes "lindex" ∷ codes "linsert" ∷ codes "llen" ∷ codes "lpop" ∷ codes "lpush" ∷ codes "lpushx" ∷
    codes "lrange" ∷ codes "lrem" ∷ codes "lset" ∷ codes "ltrim" ∷ codes "rpop" ∷ codes "rpush" ∷ codes "rpushx" ∷ []

-- commands of sets
abbrev pub set_names : List (List ℕ)
set_names =
    codes "sadd" ∷ codes "scard" ∷ codes "sismember" ∷ codes "smembers" ∷ codes "spop" ∷ codes "srandmember" ∷
    codes "srem" ∷ codes "sscan" ∷ []

-- commands of sorted sets
abbrev pub sorted_set_names : List (List ℕ)
sorted_set_names =
    codes "zadd" ∷ codes "zcard" ∷ codes "zcount" ∷ codes "zincrby" ∷ codes "zlexcount" ∷ codes "zpopmax" ∷
    codes "zpopmin" ∷ codes "zrange" ∷ codes "zrangebylex" ∷ codes "zrangebyscore" ∷ codes "zrank" ∷ codes "zrem" ∷
    codes "zremrangebylex" ∷ codes "zremrangebyrank" ∷ codes "zremrangebyscore" ∷ codes "zrevrange" ∷
    codes "zrevrangebylex" ∷ codes "zrevrangebyscore" ∷ codes "zrevrank" ∷ codes "zscan" ∷ codes "zscore" ∷ []

-- commands of streams
abbrev pub stream_names : List (List ℕ)
stream_names =
    codes "xack" ∷ codes "xadd" ∷ codes "xautoclaim" ∷ codes "xclaim" ∷ codes "xdel" ∷ codes "xlen" ∷
    codes "xpending" ∷ codes "xrange" ∷ codes "xrevrange" ∷ codes "xtrim" ∷ []

-- others
abbrev pub other_names : List (List ℕ)
other_names =
    codes "geoadd" ∷ codes "geodist" ∷ codes "geohash" ∷ codes "geopos" ∷ codes "getdel" ∷ codes "getex" ∷
    codes "hrandfield" ∷ codes "lpos" ∷ codes "pfadd" ∷ codes "pfcount" ∷ codes "smismember" ∷ codes "zmscore" ∷
    codes "zrandmember" ∷ []

-- all of them
unfoldable pub one_key_names : List (List ℕ)
one_key_names = key_names ++ string_names ++ hash_names ++ list_names ++ set_names ++ sorted_set_names ++ stream_names ++ other_names
