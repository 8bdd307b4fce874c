use mathlib.Core.Path.{◌≡◌, ap, ◌∙◌}
use native.Mathlib.Omega.{arith}
use Rattle.block_theory.specs.Sums.{opening_blocks}
use Rattle.block_counts.proofs.Laws.{no-opening, opening-more, challenge-possible}
use Rattle.block_counts.proofs.seal_blocks.Goals as goal

pub loop-i-init : goal.loop-i-init
loop-i-init c =
    let a = c.args in
    let run = c.tree_blocks-blocks.ensures in
    (run.value ∙ no-opening a.edition a.statement a.root a.depth a.memory, run.upper_bound)

pub opening_blocks-blocks-requires : goal.opening_blocks-blocks-requires
opening_blocks-blocks-requires c =
    let a = c.args in
    challenge-possible a.edition a.statement a.root a.depth a.memory _ _ c.requires.0 c.requires.1 c.challenge_leaf-leaf.ensures

pub overflow_add-blocks : goal.overflow_add-blocks
overflow_add-blocks c = omega (arith, c.requires.2, c.loop-i.invariant.1, c.opening_blocks-blocks.ensures.upper_bound)

pub loop-i-preserved : goal.loop-i-preserved
loop-i-preserved c =
    let l = c.loop-i in
    let a = c.args in (
      opening-more a.edition a.statement a.root a.depth a.memory l.i l.blocks _ l.invariant.0
          (c.opening_blocks-blocks.ensures.value ∙ ap (opening_blocks a.depth a.memory) c.challenge_leaf-leaf.ensures),
      omega (arith, l.invariant.1, c.opening_blocks-blocks.ensures.upper_bound),
    )

pub returns : goal.returns
returns c =
    let l = c.loop-i in
    let all : l.i ≡ c.args.count = omega arith in
    record { value = rw all at l.invariant.0; upper_bound = omega (arith, c.requires.2, l.invariant.1) }
