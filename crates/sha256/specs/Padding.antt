-- FIPS 180-4, sections 5.1.1 and 5.2.1: padding a message of whole bytes, and parsing it into blocks of sixteen words.
use Rattle.std.specs.Prelude.{ℕ, zero, suc, ◌+◌, ◌-◌, ◌*◌, ◌/◌, ◌%◌, List, [], ◌∷◌, ◌++◌, length, get_or, drop}
use Rattle.base.specs.Bytes.{big_endian, zeros}

-- the zero bytes after the byte 1000 0000: the fewest that leave 8 bytes of the last 64 for the length
abbrev pub zero_bytes : ℕ → ℕ
zero_bytes len = (119 - len % 64) % 64

-- 5.1.1: the bit 1, zero bits, and the length in bits in 64 bits
unfoldable pub padding : ℕ → List ℕ
padding len = 128 ∷ zeros (zero_bytes len) ++ big_endian 8 (8 * len)

unfoldable pub padded : List ℕ → List ℕ
padded message = message ++ padding (length message)

-- how many 64-byte blocks a message of so many bytes fills when it is padded
abbrev pub blocks_of : ℕ → ℕ
blocks_of len = (len + 8) / 64 + 1

-- the number of 64-byte blocks
abbrev pub blocks : List ℕ → ℕ
blocks bytes = length bytes / 64

-- 3.1: four bytes as a word, highest first
abbrev pub word : ℕ → ℕ → ℕ → ℕ → ℕ
word w x y z = ((w * 256 + x) * 256 + y) * 256 + z

-- the word at a place of a list of bytes
abbrev pub word_at : List ℕ → ℕ → ℕ
word_at bytes at = word (get_or bytes at 0) (get_or bytes (at + 1) 0) (get_or bytes (at + 2) 0) (get_or bytes (at + 3) 0)

-- 5.2.1: the first k words of a list of bytes
unfoldable pub words : ℕ → List ℕ → List ℕ
words zero bytes = []
words (suc k) bytes = word_at bytes 0 ∷ words k (drop 4 bytes)
