-- One label of a run in its part of the slice, which is lent and comes back.
use mathlib.Core.Path.{◌≡◌, ap, ◌∙◌}
use mathlib.Core.List.{List}
use Prim.Native.Nat.{ℕ, ◌+◌, ◌-◌, ◌≤◌}
use native.Mathlib.Omega.{arith}
use borrow.Rule.Slice.PartMut.{put_mid}
use lib.ListN.{length, take, drop}
use Rattle.base.specs.Bytes.{written}
use Rattle.base.proofs.Parts.{part-size, part_length, lent_back}
use Rattle.tree.specs.Store.{store_size}
use Rattle.labelling.specs.Blocks.{most_blocks}
use Rattle.run.specs.declared.Run.{Run}
use Rattle.run.specs.Steps.{Stamped, stamped, stepped, step_blocks}
use Rattle.unit.specs.Runs.{part_from}

module _ (run : Run) (store : List ℕ) (from size : ℕ) (is : size ≡ store_size run.memory) (fits : from + store_size run.memory ≤ length store) where
  abbrev with_part : List ℕ → Stamped
  with_part part = stamped run part

  -- the part that is lent
  lent_is : take (from + size - from) (drop from store) ≡ part_from from run.memory store
  lent_is = part-size store from size ∙ ap (λ (k : ℕ). take k (drop from store)) is

  pub labelled :
      (run' : Run) (part : List ℕ) (blocks : ℕ) → length part ≡ length (take (from + size - from) (drop from store))
      → run' ≡ (stepped (with_part (take (from + size - from) (drop from store)))).run
      → part ≡ (stepped (with_part (take (from + size - from) (drop from store)))).store
      → (blocks ≡ step_blocks (with_part (take (from + size - from) (drop from store)))) × (blocks ≤ most_blocks)
      → (run' ≡ (stepped (with_part (part_from from run.memory store))).run)
      × ((put_mid from (from + size - from) store part ≡ written store from (stepped (with_part (part_from from run.memory store))).store)
      × ((blocks ≡ step_blocks (with_part (part_from from run.memory store))) × (blocks ≤ most_blocks)))
  labelled run' part blocks kept h p b =
      let whole : length part ≡ size = omega (arith, kept, ap length lent_is, part_length store from (store_size run.memory) fits, is) in (
        h ∙ ap (λ (x : List ℕ). (stepped (with_part x)).run) lent_is,
        (
          lent_back store part from size whole
              ∙ ap (written store from) (p ∙ ap (λ (x : List ℕ). (stepped (with_part x)).store) lent_is),
          (b.0 ∙ ap (λ (x : List ℕ). step_blocks (with_part x)) lent_is, b.1),
        ),
      )
