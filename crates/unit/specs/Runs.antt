-- W-208: 'A unit may carry 1 to 8 runs, each with its own statement, depth and memory level, their stores end to end in one lent slice.'
-- 'Runs are named by number from 1.'
use Rattle.std.specs.Prelude.{ℕ, zero, suc, ◌+◌, ◌-◌, Bool, List, [], ltb, get_or, take, drop}
use Rattle.tree.specs.Walk.{nodes_in}
use Rattle.tree.specs.Store.{store_size}
use Rattle.run.specs.declared.Run.{Run}
use Rattle.run.specs.Steps.{run_of}

-- what a read outside an array gives
abbrev pub outside_run : Run
outside_run = run_of 0 [] 0 0 0 []

-- run i
abbrev pub run_at : List Run → ℕ → Run
run_at runs i = get_or runs (i - 1) outside_run

-- the labels that remain of a run, and whether any does
abbrev pub left_of : Run → ℕ
left_of run = nodes_in run.depth - run.made

abbrev pub unfinished : Run → Bool
unfinished run = ltb 0 (left_of run)

-- a number for each of 1 to k, added up; and so of runs 1 to k
unfoldable pub sum_to : (ℕ → ℕ) → ℕ → ℕ
sum_to of zero = 0
sum_to of (suc k) = sum_to of k + of (suc k)

abbrev pub sum_of : (Run → ℕ) → List Run → ℕ → ℕ
sum_of of runs k = sum_to (λ i. of (run_at runs i)) k

-- the bytes of a run's store
abbrev pub size_of : Run → ℕ
size_of run = store_size run.memory

-- where run i's store begins in the slice, behind those of the runs before it, and that part of the slice
abbrev pub store_from : List Run → ℕ → ℕ
store_from runs i = sum_of size_of runs (i - 1)

abbrev pub part_from : ℕ → ℕ → List ℕ → List ℕ
part_from from m store = take (store_size m) (drop from store)

abbrev pub part_of : List Run → List ℕ → ℕ → List ℕ
part_of runs store i = part_from (store_from runs i) (run_at runs i).memory store
