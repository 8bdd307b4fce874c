-- What the loop over a call's labels knows of the run whose turn it is, and of its label.
use mathlib.Core.Path.{◌≡◌, refl}
use mathlib.Core.List.{List}
use Prim.Native.Nat.{ℕ, ◌+◌, ◌-◌, ◌≤◌, ◌<◌}
use native.Mathlib.Omega.{arith}
use lib.Dec.{ltb}
use lib.ListN.{length, set}
use Rattle.base.specs.Bytes.{written}
use Rattle.base.specs.Limits.{max_runs, max_depth, max_memory}
use Rattle.tree.specs.Walk.{nodes_in}
use Rattle.run.specs.declared.Run.{Run}
use Rattle.run.specs.Steps.{Stamped, stamped, stepped, step_blocks}
use Rattle.unit.specs.Runs.{run_at, size_of, part_from}
use Rattle.unit.specs.Rows.{unit_row}
use Rattle.unit.specs.declared.checks.Lane.{Lane}
use Rattle.unit.specs.Plans.{Planned, lane_at}
use Rattle.unit.specs.Turns.{Carried, carried, unit_of, first_after, turns, turn_blocks}
use Rattle.unit.proofs.TurnLaws.{all_left}
use Rattle.unit.proofs.LoopLaws.{now-sound, turn-among, turn-remains, turn-possible, turn-fits, turn-blocks, turn_more, turn-plan}

module _ (s : Carried) (k count last : ℕ) (runs : List Run) (store : List ℕ) (lanes : List Lane) where
  -- run i over its part of the slice
  abbrev pub own : ℕ → Stamped
  own i = stamped (run_at runs i) (part_from (lane_at lanes i).from (run_at runs i).memory store)

  pub record Turn (i : ℕ) : Type 0 where
    pub place : (1 ≤ i) × (i ≤ max_runs)
    pub remains : 0 < (lane_at lanes i).left
    pub possible : ((run_at runs i).depth ≤ max_depth) × ((run_at runs i).memory ≤ max_memory) × ((run_at runs i).made < nodes_in (run_at runs i).depth)
    pub fits : (lane_at lanes i).from + size_of (run_at runs i) ≤ length store
    pub costs : (blocks : ℕ) → blocks ≡ step_blocks (own i) → blocks ≡ turn_blocks (carried (unit_of count last runs) store)
    pub after : (store' : List ℕ) (next : Run) → next ≡ (stepped (own i)).run
        → store' ≡ written store (lane_at lanes i).from (stepped (own i)).store
        → (turns (k + 1) s ≡ carried (unit_of count i (set runs (i - 1) next)) store')
        × Planned (set runs (i - 1) next) count
        (set lanes (i - 1) (record { from = (lane_at lanes i).from; left = (lane_at lanes i).left - 1 }))

  module _ (goes : unit_row s.unit (length s.store) ≡ 0) (so_far : turns k s ≡ carried (unit_of count last runs) store)
      (few : k < all_left s) (plan : Planned runs count lanes) where
    pub begins : (count ≤ max_runs) × (1 ≤ last) × (last ≤ count)
    begins =
        let ok = now-sound s goes k count last runs store so_far few lanes plan _ refl in
        (ok.some.1, ok.named.0, ok.named.1)

    pub turn-of : (i : ℕ) → i ≡ first_after (λ j. ltb 0 (lane_at lanes j).left) count count last → Turn i
    turn-of i is =
        let among = turn-among s goes k count last runs store so_far few lanes plan i is in
        record {
          place = (among.0, omega (arith, among.1, begins.0));
          remains = turn-remains s goes k count last runs store so_far few lanes plan i is;
          possible = turn-possible s goes k count last runs store so_far few lanes plan i is;
          fits = turn-fits s goes k count last runs store so_far few lanes plan i is;
          costs = turn-blocks s goes k count last runs store so_far few lanes plan i is;
          after = λ store' next n f. (
            turn_more s goes k count last runs store so_far few lanes plan i is next n store' f,
            turn-plan s goes k count last runs store so_far few lanes plan i is next n,
          );
        }
