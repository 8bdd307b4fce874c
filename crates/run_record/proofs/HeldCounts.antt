-- How many labels a run holds, from the node that comes next.
use mathlib.Core.Path.{◌≡◌, sym, ◌∙◌}
use Prim.Native.Nat.{ℕ, ◌+◌, ◌≤◌, ◌<◌}
use native.Mathlib.Nat.{add-zero}
use native.Mathlib.Omega.{arith}
use borrow.Author.Tests.{lt-ltb, le-ltb}
use lib.Count.{ones, ones-le}
use lib.ListN.{length}
use Rattle.base.specs.Limits.{max_depth, held_size}
use Rattle.tree.specs.Nodes.{node, root, labelling_order}
use Rattle.tree.specs.Walk.{nodes_in}
use Rattle.tree.specs.Held.{held}
use Rattle.tree.proofs.HeldLaws.{held-count, held-done, held-few}
use Rattle.labelling.specs.Step.{next_node}
use Rattle.run.proofs.StepLaws.{next-in-tree}
use Rattle.run_record.specs.Layout.{held_length}

-- a finished run holds the root
pub count-done : (n k : ℕ) → k ≡ nodes_in n → 1 ≡ length (held n k)
count-done n k e = rw (e, held-done n)

module _ (n k l p : ℕ) (few : k < nodes_in n) (is : node l p ≡ next_node n root k) where
  -- one of the left siblings on its way for each one-bit, and an inner node's two children
  pub count-inner : l < n → ones p + 2 ≡ length (held n k)
  unfolding labelling_order
  count-inner inner = sym (held-count n k (node l p) few (sym is) ∙ rw (lt-ltb l n inner))

  pub count-leaf : n ≤ l → ones p ≡ length (held n k)
  unfolding labelling_order
  count-leaf leaf = sym (held-count n k (node l p) few (sym is) ∙ rw (le-ltb l n leaf, add-zero))

  pub ones-few : n ≤ max_depth → ones p ≤ max_depth
  ones-few shallow =
      let t = next-in-tree n k l p few is in
      omega (arith, t.0, ones-le l p t.1)

-- the held labels fit their places
pub held_fits : (n k : ℕ) → n ≤ max_depth → k ≤ nodes_in n → held_length n k ≤ held_size
held_fits n k shallow few = omega (arith, held-few n k few)
