-- What the tests before a seal is carried on give: bounds of its run, and that no call refuses it.
use mathlib.Core.Path.{◌≡◌}
use mathlib.Core.Bool.{false}
use mathlib.Core.List.{List}
use Prim.Native.Nat.{ℕ, ◌≤◌, min}
use native.Mathlib.Omega.{arith}
use borrow.Author.Tests.{ltb-false}
use lib.ListN.{length, take}
use lib.Seq.{length-take-le}
use Rattle.base.specs.Limits.{max_depth, max_memory, IsDepth, IsMemory}
use Rattle.base.proofs.Ranges.{range-of}
use Rattle.tree.specs.Store.{store_size}
use Rattle.tree.specs.Walk.{nodes_in}
use Rattle.run.specs.declared.Run.{Run}
use Rattle.run.specs.Rows.{impossible, continue_row}
use Rattle.run.proofs.RowLaws.{not-impossible}
use Rattle.run_theory.proofs.GoesOn.{goes-possible, not-refused}

-- depth and memory level of a run that can be are within their limits
pub within-limits : (edition n m made : ℕ) → impossible edition n m made (nodes_in n) ≡ false → IsDepth n × IsMemory n m
within-limits edition n m made e =
    let (x, d, o, l) = not-impossible edition n m made (nodes_in n) e in
    (range-of 1 max_depth n d, ltb-false (min n max_memory) m o)

pub goes-within : (run : Run) (store : ℕ) → continue_row run store ≡ 0 → IsDepth run.depth × IsMemory run.depth run.memory
goes-within run store e = within-limits run.edition run.depth run.memory run.made (goes-possible run store e)

-- the front of a store with the kept levels is enough
pub goes_on : (run : Run) (store : List ℕ) (kept : ℕ)
    → impossible run.edition run.depth run.memory run.made (nodes_in run.depth) ≡ false
    → kept ≡ store_size run.memory → kept ≤ length store → continue_row run (length (take kept store)) ≡ 0
goes_on run store kept can e few =
    not-refused run (length (take kept store)) can (omega (arith, length-take-le kept store few))
