-- `compare::table::Table::input` meets its contract: the array is as long as the input.
use mathlib.Core.Path.{◌≡◌, refl, ◌∙◌}
use mathlib.Core.List.{List, ◌++◌, append-nil}
use Prim.Native.Nat.{ℕ, ◌+◌, ◌-◌}
use native.Mathlib.Omega.{arith}
use lib.ListN.{length}
use Rattle.base.specs.Bytes.{zeros}
use Rattle.compare.proofs.table.Table.input.Goals as goal

no_more : (input children : List ℕ) → length children ≡ 64 → input ++ zeros (105 - (41 + 0 + length children)) ≡ input
no_more input children e = rw e (append-nil input)

pub put_input-requires : goal.put_input-requires
put_input-requires c = record {
  level_le_depth = (omega arith, omega arith, refl, omega arith);
  input_value = (refl, omega arith);
}

pub returns : goal.returns
returns c =
    c.put_input.ensures ∙ no_more _ c.cell.result.now c.cell.ensures.size ∙ rw (c.cell.ensures.value, c.position.ensures, c.requires.same_depth)
