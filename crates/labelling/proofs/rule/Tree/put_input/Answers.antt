-- `labelling::rule::Tree::put_input` meets its contract: the parts stand in the buffer one after another.
use native.Mathlib.Omega.{arith}
use borrow.Author.Rules.{rules}
use lib.ListN.{length}
use Rattle.labelling.proofs.Filled.{laid}
use Rattle.labelling.proofs.rule.Tree.put_input.Goals as goal

pub returns : goal.returns
returns c =
    let a = c.args in
    laid a.self.now.edition a.self.now.depth a.self.now.statement a.target.level a.target.position a.front.now a.rest.now (length a.input.now)
    (search rules)
    c.requires.level_le_depth.0 c.requires.level_le_depth.1 c.requires.input_value.1 _ _ a.input.now _ _ _ _ c.requires.input_value.0
    c.tag.ensures c.big_endian.ensures c.put.ensures
    c.put-2.ensures c.put-3.ensures c.put_labels.ensures (omega (arith, c.requires.level_le_depth))
