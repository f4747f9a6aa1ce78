-- RFC 2104's HMAC over MD5.
use Rattle.std.specs.Prelude.{ℕ, ◌-◌, nat_lt, List, ◌++◌, length, map, replicate, bit_xor, if◌then◌else◌}
use Rattle.md5.specs.Md5.{md5}

-- a key that is longer than a block of 64 bytes stands for its digest
abbrev pub block_key : List ℕ → List ℕ
block_key key = if nat_lt 64 (length key) then md5 key else key

-- the key and zeros, a block
abbrev pub filled : List ℕ → List ℕ
filled key = key ++ replicate (64 - length key) 0

-- each byte with the bits of the pad turned over
abbrev pub padded_with : ℕ → List ℕ → List ℕ
padded_with pad bytes = map (λ b. bit_xor b pad) bytes

-- the digest of the message behind the inner pad, digested behind the outer pad
abbrev pub mac_under : List ℕ → List ℕ → List ℕ
mac_under key message =
    md5 (padded_with 0x5C (filled key) ++ md5 (padded_with 0x36 (filled key) ++ message))

-- the HMAC of the message under the key
unfoldable pub hmac_of : List ℕ → List ℕ → List ℕ
hmac_of key message = mac_under (block_key key) message
