use Rattle.std.proofs.Common.{◌∙◌, arith, rules}
use Rattle.compression.proofs.SixteensLaws.{reached_start, reached_more, reached_end}
use Rattle.compression.proofs.Words.compress.Goals as goal

pub loop-i-init : goal.loop-i-init
loop-i-init c = reached_start _ _ (search rules)

pub loop-i-preserved : goal.loop-i-preserved
loop-i-preserved c =
    reached_more _ _ _ _ _ _ _ c.loop-i.invariant c.loop-i-test.true
    c.turn_and_extend.ensures.words_value c.turn_and_extend.ensures.follows

pub returns : goal.returns
returns c = c.plus.ensures ∙ reached_end _ _ _ _ _ _ c.loop-i.invariant (omega arith) c.sixteen.ensures
