-- The buffer in which a message is padded and hashed where it lies.
use Rattle.std.specs.Prelude.{ℕ, ◌-◌, ◌*◌, List, ◌++◌, length}
use Rattle.base.specs.Bytes.{zeros}
use Rattle.sha256.specs.Padding.{padded}
use Rattle.labelling.specs.Blocks.{most_blocks}

-- the buffer that the longest input fits with its padding: 1,344 bytes
abbrev pub input_space : ℕ
input_space = 64 * most_blocks

-- a buffer of this width with the padded message in front, and zeros behind
abbrev pub padded_in : ℕ → List ℕ → List ℕ
padded_in width message = padded message ++ zeros (width - length (padded message))
