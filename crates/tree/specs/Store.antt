-- Document 01, 'The store keeps levels 0 to m': where a label lies, and the store's size.
use Rattle.std.specs.Prelude.{ℕ, ◌+◌, ◌-◌, ◌*◌, ◌^◌}
use Rattle.tree.specs.Nodes.{Node}

-- 'level l, position p, takes 32 bytes from 32 × (2^l − 1 + p)'
abbrev pub slot : Node → ℕ
slot v = 32 * (2 ^ v.level - 1 + v.position)

-- 'It needs 32 × (2^(m+1) − 1) bytes'
abbrev pub store_size : ℕ → ℕ
store_size m = 32 * (2 ^ (m + 1) - 1)
