-- Document 01's table holds of the definitions.
use mathlib.Core.Path.{◌≡◌, refl, ap, ◌∙◌}
use Prim.Native.Nat.{ℕ, ◌+◌, ◌*◌}
use lib.Dec.{lit<}
use lib.Count.{ones-ones}
use Rattle.base.specs.Choice.{passing}
use Rattle.tree.specs.Nodes.{order_below, labelling_order, left_siblings, parents}
use Rattle.tree.specs.Labels.{input_size}
use Rattle.tree.proofs.Parents.{parents-count}
use Rattle.groups.specs.Groups.{groups}
use Rattle.groups.specs.Reading.{ended, read_from, read_at}
use Rattle.file_head.specs.Layout.{head_numbers, file_size}
use Rattle.chain_theory.specs.Ways.{on_some_way, chain}
use Rattle.chain_theory.specs.Counts.{opened, different, inside_empty, largest_empty}
use Rattle.document_table.specs.Table.{Table, last_leaf}

-- as many parents as the position has one-bits; computing the list would go through 2^40 − 1
last_leaf_lem : input_size 40 last_leaf ≡ 1321
unfolding input_size
last_leaf_lem = ap (λ (k : ℕ). 41 + 32 * k) (parents-count 40 last_leaf refl (lit< tt) ∙ ones-ones 40)

pub table : Table
unfolding input_size order_below labelling_order left_siblings parents groups ended read_from read_at head_numbers file_size passing
    on_some_way chain opened different inside_empty largest_empty
table =
    record {
      order = refl;
      t1_parents = refl;
      t1_input = refl;
      t2_parents = refl;
      t2_input = refl;
      t3_input = refl;
      t4_input = last_leaf_lem;
      t5_least = refl;
      t5_ten = refl;
      t6_slot = refl;
      t7_first = refl;
      t7_second = refl;
      t7_refused = refl;
      t8 = refl;
      t9 = refl;
      t10 = refl;
      t11 = refl;
      t12_leaves = refl;
      t12_empty = refl;
      t12_chain = refl;
    }
