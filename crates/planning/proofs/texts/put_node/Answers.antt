-- `planning::texts::put_node` meets its contract: two fields and a line feed.
use mathlib.Core.List.{◌∷◌, []}
use Rattle.decimal.proofs.Laying.{then, field_end}
use Rattle.planning.proofs.Laying.{node-one, node-short}
use Rattle.tree.specs.Nodes.{node}
use Rattle.planning.specs.Output.{node_text}
use native.Mathlib.Omega.{arith}
use Rattle.planning.proofs.texts.put_node.Goals as goal

pub put_field-second-requires : goal.put_field-second-requires
put_field-second-requires c =
    let f = c.put_field-first in
    omega (arith, field_end [] _ f.ensures, f.auto.out, c.requires)

pub end_line-requires : goal.end_line-requires
end_line-requires c =
    let g = c.put_field-second in
    let f = c.put_field-first in
    omega (
      arith,
      field_end (32 ∷ []) _ g.ensures,
      g.auto.out,
      field_end [] _ f.ensures,
      f.auto.out,
      c.requires,
    )

pub returns : goal.returns
unfolding node_text
returns c =
    let a = c.args in
    then (then c.put_field-first.ensures c.put_field-second.ensures (omega (arith, node-one a.target.level a.target.position, c.requires)))
    c.end_line.ensures (omega (arith, node-short (node a.target.level a.target.position), c.requires))
