-- W-207: the blocks of all labels that a proof file takes.
use Rattle.std.specs.Prelude.{ℕ, ◌+◌, List}
use Rattle.block_theory.specs.Sums.{tree_blocks, file_blocks}

-- those of the whole run, and of the openings of the first t challenges over its store
abbrev pub seal_blocks : ℕ → List ℕ → List ℕ → ℕ → ℕ → ℕ → ℕ
seal_blocks edition statement root n m t = tree_blocks n + file_blocks edition statement root n m t
