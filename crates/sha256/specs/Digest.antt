-- FIPS 180-4, section 6.2: the digest of any list of bytes.
use Rattle.std.specs.Prelude.{ℕ, zero, suc, ◌*◌, List, ◌++◌, drop}
use Rattle.base.specs.Bytes.{big_endian}
use Rattle.compression.specs.declared.Words.{Words}
use Rattle.compression.specs.Constants.{initial}
use Rattle.sha256.specs.Padding.{padded, blocks, words}
use Rattle.compression.specs.Compression.{compressed}

-- the sixteen words of block i, from 0 (5.2.1)
abbrev pub block : List ℕ → ℕ → List ℕ
block bytes i = words 16 (drop (64 * i) bytes)

-- 6.2.2: the hash words after the first k blocks
unfoldable pub hash_after : Words → List ℕ → ℕ → Words
hash_after v bytes zero = v
hash_after v bytes (suc k) = compressed (hash_after v bytes k) (block bytes k)

-- the eight words as 32 bytes
unfoldable pub digest_of : Words → List ℕ
digest_of v =
    big_endian 4 v.a ++ big_endian 4 v.b ++ big_endian 4 v.c ++ big_endian 4 v.d ++
    big_endian 4 v.e ++ big_endian 4 v.f ++ big_endian 4 v.g ++ big_endian 4 v.h

-- the blocks that are compressed for a message
abbrev pub blocks_hashed : List ℕ → ℕ
blocks_hashed message = blocks (padded message)

-- SHA-256
unfoldable pub digest : List ℕ → List ℕ
digest message = digest_of (hash_after initial (padded message) (blocks_hashed message))
