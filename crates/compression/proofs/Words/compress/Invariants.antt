-- v and w after i times sixteen rounds
use Rattle.compression.proofs.SixteensLaws.{Reached}
use Rattle.compression.proofs.Words.compress.Given as goal

abbrev pub invariant-loop-i : goal.invariant-loop-i
invariant-loop-i l = Reached l.fn.self l.fn.block l.i l.v l.w
