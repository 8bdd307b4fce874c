-- `labelling::rule::Tree::put_labels` meets its contract: both parts as they lie, or the second part's labels and then the first's, the last first.
use Rattle.labelling.proofs.LastFirst.{first-written, later-written}
use Rattle.labelling.proofs.rule.Tree.put_labels.Goals as goal

pub returns-then-self-eq1 : goal.returns-then-self-eq1
returns-then-self-eq1 c =
    let a = c.args in
    first-written a.self.now.edition a.input.now a.front.now a.rest.now _ _ c.requires.0 c.requires.1 c.requires.2
    c.if-self-eq1.true c.put.ensures c.put-then-self-eq1.ensures

pub returns-else-self-eq1 : goal.returns-else-self-eq1
returns-else-self-eq1 c =
    let a = c.args in
    later-written a.self.now.edition a.input.now a.front.now a.rest.now _ _ c.requires.0 c.requires.1 c.requires.2
    c.if-self-eq1.false c.put_last_first.ensures c.put_last_first-else-self-eq1.ensures
