-- The walk down to the next node: what holds at each turn, and one turn.
use mathlib.Core.Path.{◌≡◌, refl, sym, ◌∙◌}
use mathlib.Core.Bool.{Bool, true, false}
use Prim.Native.Nat.{ℕ, zero, suc, ◌+◌, ◌-◌, ◌*◌, ◌/◌, ◌%◌, ◌^◌, ◌≤◌, ◌<◌}
use native.Mathlib.Numerals.{add-one}
use native.Mathlib.Omega.{arith}
use borrow.Author.Tests.{ltb-true, ltb-false}
use lib.Dec.{ltb}
use lib.ListN.{get_or}
use lib.Pow.{pow_pos, pow_mono}
use Rattle.base.specs.Limits.{max_depth}
use Rattle.base.proofs.Powers.{shifted_one}
use Rattle.base.specs.Choice.{pick}
use Rattle.tree.specs.Nodes.{node, root, order_below}
use Rattle.tree.specs.Walk.{nodes_in, node_at}
use Rattle.tree.proofs.Order.{nodes_in-suc, node_at-left, node_at-right, node_at-last, node_at-order}

-- the node sought is `left` places into the order of the subtree of height h at (l, p)
pub record Walking (height level position made h l p left half : ℕ) : Type 0 where
  pub heights : l + h ≡ level + height
  pub inside : p < 2 ^ l
  pub few : left < nodes_in h
  pub halves : half + 1 ≡ 2 ^ h
  pub same : node_at h (node l p) left ≡ node_at height (node level position) made

pub walking_start : (height level position made : ℕ) → height ≤ max_depth → position < 2 ^ level → made < nodes_in height
    → Walking height level position made (level + height - level) level position made ((1 * 2 ^ height) % 2 ^ 64 - 1)
walking_start height level position made small inside few =
    let all : level + height - level ≡ height = omega arith in
    rw all
    record { heights = refl; inside = inside; few = few; halves = omega (arith, shifted_one height small, pow_pos height); same = refl }

-- one turn, by the child's side
side : (b : Bool) (h l p left half : ℕ) → ltb left half ≡ b → half ≡ nodes_in h → left < half + half → p < 2 ^ l
    → (node_at h (node (l + 1) (pick b (2 * p) (2 * p + 1))) (pick b left (left - half)) ≡ node_at (suc h) (node l p) left)
    × (pick b (2 * p) (2 * p + 1) < 2 ^ (l + 1)) × (pick b left (left - half) < nodes_in h)
side true h l p left half t e small inside = (
  sym (node_at-left h (node l p) left (omega (arith, ltb-true left half t))),
  rw (add-one l) (omega arith),
  omega (arith, ltb-true left half t),
)
side false h l p left half t e small inside = (
  rw e (sym (node_at-right h (node l p) left (omega (arith, ltb-false left half t)) (omega arith))),
  rw (add-one l) (omega arith),
  omega (arith, ltb-false left half t),
)

turned : (height level position made h l p left half : ℕ) → Walking height level position made (suc h) l p left half → left < 2 * half
    → Walking height level position made h (l + 1) (pick (ltb left half) (2 * p) (2 * p + 1)) (pick (ltb left half) left (left - half)) (half / 2)
turned height level position made h l p left half w small =
    let s = side (ltb left half) h l p left half refl (omega (arith, nodes_in-suc h, w.halves)) (omega arith) w.inside in
    record {
      heights = omega (arith, w.heights);
      inside = s.1;
      few = s.2;
      halves = omega (arith, w.halves);
      same = s.0 ∙ w.same;
    }

by-height : (height level position made h h' l p left half : ℕ) → Walking height level position made h l p left half → left < 2 * half → h' ≡ h - 1
    → Walking height level position made h' (l + 1) (pick (ltb left half) (2 * p) (2 * p + 1)) (pick (ltb left half) left (left - half)) (half / 2)
by-height height level position made zero h' l p left half w small e = absurd (omega (arith, w.halves))
by-height height level position made (suc h) h' l p left half w small e =
    let same : h' ≡ h = omega arith in
    rw same (turned height level position made h l p left half w small)

pub walking-turn : (height level position made l p left half : ℕ) → Walking height level position made (level + height - l) l p left half
    → left < 2 * half
    → Walking height level position made (level + height - (l + 1)) (l + 1) (pick (ltb left half) (2 * p) (2 * p + 1))
    (pick (ltb left half) left (left - half)) (half / 2)
walking-turn height level position made l p left half w small =
    by-height height level position made (level + height - l) (level + height - (l + 1)) l p left half w small (omega arith)

pub walking-end : (height level position made h l p left half : ℕ) → Walking height level position made h l p left half → 2 * half ≤ left
    → made < nodes_in height → node l p ≡ get_or (order_below height (node level position)) made root
walking-end height level position made h l p left half w large few =
    sym (node_at-last h (node l p) left (omega (arith, nodes_in-suc h, w.halves, w.few)))
    ∙ w.same
    ∙ node_at-order height (node level position) made few

-- all numbers of the walk are small
pub walking-small : (height level position made h l p left half : ℕ) → Walking height level position made h l p left half → level + height ≤ max_depth
    → (half < 2 ^ max_depth) × (p < 2 ^ max_depth) × (l ≤ max_depth)
walking-small height level position made h l p left half w small = (
  omega (arith, w.halves, pow_mono {i = h} {j = max_depth} (omega (arith, w.heights))),
  omega (arith, w.inside, pow_mono {i = l} {j = max_depth} (omega (arith, w.heights))),
  omega (arith, w.heights),
)
