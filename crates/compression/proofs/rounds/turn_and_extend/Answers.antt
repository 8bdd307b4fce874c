-- Each round goes on from the one before.
use Rattle.std.proofs.Common.{add-zero}
use Rattle.compression.specs.Sixteens.{sixteen_rounds}
use Rattle.compression.proofs.SixteensLaws.{round_after}
use Rattle.compression.proofs.rounds.turn_and_extend.Goals as goal

pub returns-clause-words_value : goal.returns-clause-words_value
unfolding sixteen_rounds
returns-clause-words_value c =
    round_after _ _ c.turn-v-16.ensures
    (round_after _ _ c.turn-v-15.ensures
    (round_after _ _ c.turn-v-14.ensures
    (round_after _ _ c.turn-v-13.ensures
    (round_after _ _ c.turn-v-12.ensures
    (round_after _ _ c.turn-v-11.ensures
    (round_after _ _ c.turn-v-10.ensures
    (round_after _ _ c.turn-v-9.ensures
    (round_after _ _ c.turn-v-8.ensures
    (round_after _ _ c.turn-v-7.ensures
    (round_after _ _ c.turn-v-6.ensures
    (round_after _ _ c.turn-v-5.ensures
    (round_after _ _ c.turn-v-4.ensures
    (round_after _ _ c.turn-v-3.ensures
    (round_after _ _ c.turn-v-2.ensures
    (rw (add-zero c.args.t) c.turn-v.ensures)))))))))))))))
